-- When a body isn't covered: a vector operator stands in it, where all operators before it are accepted (the crate's own).
use Rattle.std.specs.Prelude.{◌≡◌, ◌≢◌, ℕ, Bool, true, List, [], Some, length}
use Rattle.binary_operators.specs.Expressions.{AreOperators}
use Rattle.binary_operators.specs.Functions.{locals}
use Rattle.binary_operators.specs.Values.{list_of}
use Rattle.binary_operators.specs.Vectors.{BeginVector}
use Rattle.binary_operators.specs.declared.types.CanonicalTypes.{CanonicalTypes}
use Rattle.validate_types.specs.declared.features.WasmFeatures.{WasmFeatures}
use Rattle.validate_types.specs.declared.types.ValType.{ValType}
use Rattle.validate_visit.specs.declared.body.BodyKind.{BodyKind}
use Rattle.validate_visit.specs.declared.body.BodyKind.TheVariants.{Function, Expression}
use Rattle.validate_visit.specs.declared.op.Op.{Op}
use Rattle.validate_resources.specs.Context.{ModuleContext}
use Rattle.validation_rules.specs.Static.{State}
use Rattle.validate_stacks.specs.State.{BodyState}
use Rattle.validate_operators.specs.Begin.{HasLocals}
use Rattle.validate_operators.specs.Runs.{without_offsets, body_before}
use Rattle.module_check.specs.Constant.{each_may_stand}

-- From the state v on the bytes begin with operators, each of which may stand there, and whose rows all hold. Behind them
-- a frame is open, and a vector operator begins.
pub record ReachVector
    (md : ModuleContext) (types : CanonicalTypes) (may : Op → Bool) (v : BodyState) (bytes : List ℕ)
    : Type 0 where
  pub ops : List (Op × ℕ)
  pub behind : List ℕ
  pub are_read : AreOperators types bytes (without_offsets ops) behind
  pub each_stands : each_may_stand may ops ≡ true
  pub state : State
  pub rows_hold : body_before md v ops (length ops) ≡ Some state
  pub is_open : state.frames ≢ []
  pub begins : BeginVector behind

-- a body of this kind begins with these groups of locals, behind which are these bytes: a constant expression has no
-- locals
abbrev pub BeginLocals : CanonicalTypes → BodyKind → List ℕ → List (ℕ × ValType) → List ℕ → Type 0
BeginLocals types (Function index) bytes groups behind = list_of (locals types) bytes ≡ Some (groups, behind)
BeginLocals types (Expression ty) bytes groups behind = (groups ≡ []) × (bytes ≡ behind)

-- The bytes are a body of this kind that begins with locals that it may have. Behind them a vector operator stands where
-- all operators before it are accepted.
pub record HasVector
    (md : ModuleContext) (features : WasmFeatures) (types : CanonicalTypes) (kind : BodyKind)
    (may : Op → Bool) (bytes : List ℕ) : Type 0 where
  pub groups : List (ℕ × ValType)
  pub behind : List ℕ
  pub are_read : BeginLocals types kind bytes groups behind
  pub begun : BodyState
  pub has_locals : HasLocals md features kind groups begun
  pub reached : ReachVector md types may begun behind
