-- When the bytes of a body are type safe (the crate's own).
use Rattle.std.specs.Prelude.{◌≡◌, ℕ, Bool, List}
use Rattle.binary_operators.specs.declared.types.CanonicalTypes.{CanonicalTypes}
use Rattle.validate_types.specs.declared.features.WasmFeatures.{WasmFeatures}
use Rattle.validate_visit.specs.declared.body.BodyKind.{BodyKind}
use Rattle.validate_visit.specs.declared.frame.BlockType.{BlockType}
use Rattle.validate_visit.specs.declared.op.Op.{Op}
use Rattle.validate_resources.specs.Context.{ModuleContext}
use Rattle.validation_rules.specs.Static.{start}
use Rattle.validate_stacks.specs.State.{BodyState}
use Rattle.validate_operators.specs.Runs.{IsSafe, IsSafeFrom}
use Rattle.module_check.specs.Accepted.{AreAcceptedOperators, IsAcceptedCode}

-- From the state v on the bytes are accepted operators. They are type safe, if that is the start of a body.
pub record AreSafeOperators
    (md : ModuleContext) (types : CanonicalTypes) (may : Op → Bool) (v : BodyState) (bytes : List ℕ)
    : Type 0 where
  pub accepted : AreAcceptedOperators md types may v bytes
  pub are_safe : IsSafe md v accepted.ops

-- The bytes are an accepted body of this kind. It is type safe from the start of its kind, with exactly its
-- locals: no run of it, however long, gets stuck, and what it returns fits the results.
pub record IsSafeCode
    (md : ModuleContext) (features : WasmFeatures) (types : CanonicalTypes) (kind : BodyKind)
    (may : Op → Bool) (bytes : List ℕ) : Type 0 where
  pub accepted : IsAcceptedCode md features types kind may bytes
  pub block_type : BlockType
  pub one_frame : accepted.begun.present ≡ start block_type
  pub safe : IsSafeFrom md accepted.begun accepted.ops block_type
