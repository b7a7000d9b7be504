-- What a check tells of a body is its first fault (the crate's own).
use Rattle.std.specs.Prelude.{◌≡◌, ◌≢◌, ◌⊎◌, ℕ, ◌+◌, ◌-◌, Bool, true, false, List, [], Some, None, length}
use Rattle.binary_operators.specs.Expressions.{AreOperators}
use Rattle.binary_operators.specs.Instructions.{operator}
use Rattle.binary_operators.specs.Unread.{Unread as BytesUnread}
use Rattle.binary_operators.specs.Vectors.{BeginVector}
use Rattle.binary_operators.specs.declared.error.Cause.{Cause}
use Rattle.binary_operators.specs.declared.error.Cause.TheVariants.{Malformed, VectorOperator, OutOfMemory}
use Rattle.binary_operators.specs.declared.types.CanonicalTypes.{CanonicalTypes}
use Rattle.validate_types.specs.declared.features.WasmFeatures.{WasmFeatures}
use Rattle.validate_types.specs.declared.types.ValType.{ValType}
use Rattle.validate_visit.specs.declared.body.BodyKind.{BodyKind}
use Rattle.validate_visit.specs.declared.op.Op.{Op}
use Rattle.validate_resources.specs.Context.{ModuleContext}
use Rattle.validation_rules.specs.Context.{Context}
use Rattle.validation_rules.specs.Operators.{operator as row_of}
use Rattle.validation_rules.specs.Static.{State, step, RowFails}
use Rattle.validate_stacks.specs.State.{BodyState, body_context}
use Rattle.validate_operators.specs.Begin.{HasLocals}
use Rattle.validate_operators.specs.Runs.{without_offsets, body_before}
use Rattle.module_check.specs.Constant.{each_may_stand}
use Rattle.module_check.specs.Refusals.{IsMalformed, IsRefusal, IsVector, error_offset}
use Rattle.module_check.specs.Uncovered.{BeginLocals}
use Rattle.module_check.specs.declared.verdict.CheckError.{CheckError}
use Rattle.module_check.specs.declared.verdict.CheckError.TheVariants.{Unread, Refused}

-- no operator is read of the bytes: they begin with none, or with a vector operator; or memory ran out
abbrev pub IsUnreadable : CanonicalTypes → Cause → List ℕ → Type 0
IsUnreadable types (Malformed fault) bytes = operator types bytes ≡ None
IsUnreadable types VectorOperator bytes = (operator types bytes ≡ None) × BeginVector bytes
IsUnreadable types OutOfMemory bytes = Unit {0}

-- an operator is read that may not stand there, or whose row doesn't hold in this state
pub record IsRefusedOperator
    (cx : Context) (types : CanonicalTypes) (may : Op → Bool) (state : State) (bytes : List ℕ) : Type 0 where
  pub op : Op
  pub left : List ℕ
  pub is_read : operator types bytes ≡ Some (op, left)
  pub fails : (may op ≡ false) ⊎ RowFails (step cx (row_of cx op) state)

-- What stands there makes the body invalid: while a frame is open, nothing, or an operator that is refused; once none is
-- open, any byte.
abbrev pub IsInvalidThere : Context → CanonicalTypes → (Op → Bool) → State → List ℕ → Type 0
IsInvalidThere cx types may state bytes =
    ((state.frames ≢ []) × (bytes ≡ []))
    ⊎ ((state.frames ≢ []) × IsRefusedOperator cx types may state bytes)
    ⊎ ((state.frames ≡ []) × (bytes ≢ []))

-- the offset behind what is left to read
abbrev pub end_of : BytesUnread → ℕ
end_of reader = reader.offset + length reader.left

-- What stands there, in this state, is what the error tells. What isn't read are some bytes. What is refused begins at the
-- offset that is told: so many bytes before the end of the body.
abbrev pub IsFault : Context → CanonicalTypes → (Op → Bool) → ℕ → State → List ℕ → CheckError → Type 0
IsFault cx types may end state bytes (Unread e) =
    (state.frames ≢ []) × (bytes ≢ []) × IsUnreadable types e.cause bytes
IsFault cx types may end state bytes (Refused e) =
    e.wants_memory ≡ false → IsInvalidThere cx types may state bytes × (e.offset ≡ end - length bytes)

-- From the state v on the bytes begin with operators, each of which may stand there, and whose rows all hold. Behind them
-- stands what the error tells.
pub record ReachFault
    (md : ModuleContext) (types : CanonicalTypes) (may : Op → Bool) (end : ℕ) (v : BodyState) (bytes : List ℕ)
    (e : CheckError) : Type 0 where
  pub ops : List (Op × ℕ)
  pub behind : List ℕ
  pub are_read : AreOperators types bytes (without_offsets ops) behind
  pub each_stands : each_may_stand may ops ≡ true
  pub state : State
  pub rows_hold : body_before md v ops (length ops) ≡ Some state
  pub is_fault : IsFault (body_context md v) types may end state behind e

-- the bytes begin with no locals that a body of this kind may have
abbrev pub HaveNoLocals : ModuleContext → WasmFeatures → CanonicalTypes → BodyKind → List ℕ → Type 0
HaveNoLocals md features types kind bytes =
    (groups : List (ℕ × ValType)) (behind : List ℕ) (begun : BodyState) → BeginLocals types kind bytes groups behind
    → ¬ HasLocals md features kind groups begun

-- The bytes begin with locals that a body of this kind may have. Behind them are operators that are all accepted, and
-- then what the error tells.
pub record HasFault
    (md : ModuleContext) (features : WasmFeatures) (types : CanonicalTypes) (kind : BodyKind)
    (may : Op → Bool) (end : ℕ) (bytes : List ℕ) (e : CheckError) : Type 0 where
  pub groups : List (ℕ × ValType)
  pub behind : List ℕ
  pub are_read : BeginLocals types kind bytes groups behind
  pub begun : BodyState
  pub has_locals : HasLocals md features kind groups begun
  pub reached : ReachFault md types may end begun behind e

-- the first fault is one of the locals, which have no vector operators, or of what is behind them
abbrev pub HasFirstFault :
    ModuleContext → WasmFeatures → CanonicalTypes → BodyKind → (Op → Bool) → ℕ → List ℕ → CheckError → Type 0
HasFirstFault md features types kind may end bytes e =
    ((¬ IsVector e) × HaveNoLocals md features types kind bytes) ⊎ HasFault md features types kind may end bytes e

-- The body, which is left to read, is malformed: of its first fault nothing can be read.
pub record IsMalformedCode
    (md : ModuleContext) (features : WasmFeatures) (types : CanonicalTypes) (kind : BodyKind)
    (may : Op → Bool) (body : BytesUnread) : Type 0 where
  pub error : CheckError
  pub is_malformed : IsMalformed error
  pub has_fault : HasFirstFault md features types kind may (end_of body) body.left error

-- The body is refused at its first fault, and told so at this offset.
pub record IsRefusedCode
    (md : ModuleContext) (features : WasmFeatures) (types : CanonicalTypes) (kind : BodyKind)
    (may : Op → Bool) (body : BytesUnread) (offset : ℕ) : Type 0 where
  pub error : CheckError
  pub is_refusal : IsRefusal error
  pub is_told : error_offset error ≡ offset
  pub has_fault : HasFirstFault md features types kind may (end_of body) body.left error
