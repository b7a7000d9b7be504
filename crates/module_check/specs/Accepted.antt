-- When the bytes of a body are accepted (the crate's own).
use Rattle.std.specs.Prelude.{◌≡◌, ℕ, Bool, true, List, []}
use Rattle.binary_operators.specs.Expressions.{AreOperators}
use Rattle.binary_operators.specs.Functions.{IsFunctionCode}
use Rattle.binary_operators.specs.declared.types.CanonicalTypes.{CanonicalTypes}
use Rattle.validate_types.specs.declared.features.WasmFeatures.{WasmFeatures}
use Rattle.validate_types.specs.declared.types.ValType.{ValType}
use Rattle.validate_visit.specs.declared.body.BodyKind.{BodyKind}
use Rattle.validate_visit.specs.declared.body.BodyKind.TheVariants.{Function, Expression}
use Rattle.validate_visit.specs.declared.op.Op.{Op}
use Rattle.validate_resources.specs.Context.{ModuleContext}
use Rattle.validate_stacks.specs.State.{BodyState}
use Rattle.validate_operators.specs.Begin.{HasLocals}
use Rattle.validate_operators.specs.Runs.{without_offsets, IsAcceptedBody}
use Rattle.module_check.specs.Constant.{each_may_stand}

-- the bytes are a body of this kind with these locals and operators: a constant expression has no locals
abbrev pub IsCode : CanonicalTypes → BodyKind → List ℕ → List (ℕ × ValType) → List Op → Type 0
IsCode types (Function index) bytes groups ops = IsFunctionCode types bytes groups ops
IsCode types (Expression ty) bytes groups ops = (groups ≡ []) × AreOperators types bytes ops []

-- The bytes are operators, each of which may stand there. From the state v on the rows of all hold, and they
-- leave no frame open.
pub record AreAcceptedOperators
    (md : ModuleContext) (types : CanonicalTypes) (may : Op → Bool) (v : BodyState) (bytes : List ℕ)
    : Type 0 where
  pub ops : List (Op × ℕ)
  pub are_read : AreOperators types bytes (without_offsets ops) []
  pub each_stands : each_may_stand may ops ≡ true
  pub rows_hold : IsAcceptedBody md v ops

-- The bytes are a body of this kind, with locals that it may have, and operators, each of which may stand
-- there. The rows of all hold, and they leave no frame open.
pub record IsAcceptedCode
    (md : ModuleContext) (features : WasmFeatures) (types : CanonicalTypes) (kind : BodyKind)
    (may : Op → Bool) (bytes : List ℕ) : Type 0 where
  pub groups : List (ℕ × ValType)
  pub ops : List (Op × ℕ)
  pub is_code : IsCode types kind bytes groups (without_offsets ops)
  pub each_stands : each_may_stand may ops ≡ true
  pub begun : BodyState
  pub has_locals : HasLocals md features kind groups begun
  pub rows_hold : IsAcceptedBody md begun ops
