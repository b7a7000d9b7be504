-- A function that is validated operator by operator, and what becomes of it (the crate's own).
use Rattle.std.specs.Prelude.{◌≡◌, ◌≢◌, ℕ, true, false, List, []}
use Rattle.binary_operators.specs.Vectors.{BeginVector}
use Rattle.binary_operators.specs.declared.types.CanonicalTypes.{CanonicalTypes}
use Rattle.validate_operators.specs.Begin.{IsBodyStart}
use Rattle.validate_operators.specs.Runs.{IsAcceptedBody, IsSafe}
use Rattle.validate_operators.specs.Start.{DefinesLocals}
use Rattle.wasmparser_validate.specs.Functions.{FunctionState, function_from, body_state, Accepts}
use Rattle.validate_types.specs.Features.{has, simd}
use Rattle.validate_types.specs.declared.types.ValType.{ValType}
use Rattle.validate_visit.specs.declared.body.BodyKind.{BodyKind}
use Rattle.validate_visit.specs.declared.body.BodyKind.TheVariants.{Expression}
use Rattle.validate_visit.specs.declared.op.Op.{Op}
use Rattle.c_api.specs.Modules.{module_of, context_in, features_in, AreTypesIn}
use Rattle.c_api.specs.Operators.{IsOperatorOf, HasNoRow}
use Rattle.c_api.specs.Shown.{Names}
use Rattle.c_api.specs.declared.shown.ShownType.{ShownType}
use Rattle.c_api.specs.declared.shared.HeldModule.{HeldModule}
use Rattle.c_api.specs.declared.shared.SharedModule.{SharedModule}

-- A function in progress: the module, the state in which its body starts, the operators that were accepted,
-- the open frames with their operands, and whether it has failed.
abbrev pub InProgress : Type 0
InProgress = FunctionState SharedModule

-- the module that it stands on
abbrev pub module_under : InProgress → HeldModule
module_under f = module_of f.resources

-- it stands on this module, has accepted no operator, and starts as a body of this kind does
pub record IsBegun (h : HeldModule) (kind : BodyKind) (f : InProgress) : Type 0 where
  pub is_module : module_under f ≡ h
  pub is_start : f ≡ function_from f.resources f.starting
  pub of_kind : IsBodyStart (context_in h) (features_in h) kind f.starting

-- the same of a constant expression that gives a value of the type that is shown
pub record IsExpressionBegun (h : HeldModule) (shown : ShownType) (f : InProgress) : Type 0 where
  pub types : CanonicalTypes
  pub are_types : AreTypesIn h types
  pub type : ValType
  pub is_named : Names types shown type
  pub begun : IsBegun h (Expression type) f

-- So many more locals of the type that is shown are declared, before any operator.
pub record DefinesShown (count : ℕ) (shown : ShownType) (f g : InProgress) : Type 0 where
  pub types : CanonicalTypes
  pub are_types : AreTypesIn (module_under f) types
  pub type : ValType
  pub is_named : Names types shown type
  pub none_before : f.accepted ≡ []
  pub defines : DefinesLocals (context_in (module_under f)) count type f.starting g.starting
  pub others : g ≡ record f { starting = g.starting }

-- It hasn't failed, and no frame is open: the rows of all accepted operators hold up to the outermost `end`,
-- and their list is type safe.
pub record IsWhole (f : InProgress) : Type 0 where
  pub none_failed : f.failed ≡ false
  pub closed : f.present.frames ≡ []
  pub rows : IsAcceptedBody (context_in (module_under f)) f.starting f.accepted
  pub safe : IsSafe (context_in (module_under f)) f.starting f.accepted

-- The operator that the bytes begin with is accepted, so that f becomes g; it has so many bytes.
pub record Takes (bytes : List ℕ) (offset taken : ℕ) (f g : InProgress) : Type 0 where
  pub op : Op
  pub is_operator : IsOperatorOf (module_under f) bytes op taken
  pub accepts : Accepts (context_in (module_under f)) (op, offset) f g

-- Unless it has failed, or no frame is open, the bytes begin with no operator whose row holds.
abbrev pub CannotTake : List ℕ → InProgress → Type 0
CannotTake bytes f =
    f.failed ≡ false → f.present.frames ≢ [] → HasNoRow (module_under f) bytes (body_state f)

-- The bytes begin with a vector operator, whose proposal is on. It hasn't failed, and a frame is open.
pub record IsUncoveredOperator (bytes : List ℕ) (f : InProgress) : Type 0 where
  pub begins : BeginVector bytes
  pub is_on : has (features_in (module_under f)) simd ≡ true
  pub none_failed : f.failed ≡ false
  pub is_open : f.present.frames ≢ []
