-- Changes of a body, computed: what operators of each kind make of one frame, or of two.
use Rattle.std.proofs.Common.{◌≡◌, ℕ, Bool, true, false, List, [], ◌∷◌, Option, Some, None, refl}
use Rattle.validate_types.specs.declared.features.WasmFeatures.{WasmFeatures}
use Rattle.validate_types.specs.declared.types.ValType.{ValType}
use Rattle.validate_types.specs.declared.types.ValType.TheVariants.{I32, I64}
use Rattle.validate_visit.specs.declared.frame.BlockType.{BlockType}
use Rattle.validate_visit.specs.declared.frame.BlockType.TheVariants.{Empty}
use Rattle.validate_visit.specs.declared.frame.FrameKind.{FrameKind}
use Rattle.validate_visit.specs.declared.frame.FrameKind.TheVariants.{Block, Loop, Else}
use Rattle.validation_rules.specs.Fits.{MaybeType, Bottom, Known}
use Rattle.validation_rules.specs.Static.{Frame}
use Rattle.validate_stacks.specs.AtOnce.{body_dropped}
use Rattle.validate_stacks.specs.Changes.{body_closed, body_opened, body_topped, operands_given}
use Rattle.validate_stacks.specs.Pops.{body_pushed_each}
use Rattle.validate_stacks.specs.State.{BodyState, body_with_frames}
use Rattle.validate_stacks.specs.Steps.{empty_body}

abbrev frame : FrameKind → List MaybeType → Frame
frame kind own = record { head = record { kind = kind; block_type = Empty }; operands = own; dead = false; first_set = [] }

module _ (features : WasmFeatures) where
  abbrev body : List Frame → BodyState
  body fs = body_with_frames fs (empty_body features)

  abbrev changed : ℕ → Bool → Option (FrameKind × BlockType) → List ValType → Option MaybeType → BodyState → BodyState
  changed n closes opens pushed top v = body_topped top (body_pushed_each pushed (body_opened opens (body_closed closes (body_dropped n v))))

  -- `i64.eqz` below one operand more
  exchanged : changed 1 false None (I32 ∷ []) None (body (frame Block (Known I64 ∷ Known I32 ∷ []) ∷ [])) ≡ body (frame Block (Known I32 ∷ Known I32 ∷ []) ∷ [])
  exchanged = refl

  -- `select` of unknown operands
  replaced : changed 1 false None [] (Some Bottom) (body (frame Block (Known I32 ∷ []) ∷ [])) ≡ body (frame Block (Bottom ∷ []) ∷ [])
  replaced = refl

  -- `loop` with a parameter
  opened : changed 1 false (Some (Loop, Empty)) (I64 ∷ []) None (body (frame Block (Known I64 ∷ []) ∷ [])) ≡ body (frame Loop (Known I64 ∷ []) ∷ frame Block [] ∷ [])
  opened = refl

  -- `end` of a block that gives two
  closed : changed 2 true None (I32 ∷ I64 ∷ []) None (body (frame Block (Known I64 ∷ Known I32 ∷ []) ∷ frame Block (Known I32 ∷ []) ∷ [])) ≡ body (frame Block (Known I64 ∷ Known I32 ∷ Known I32 ∷ []) ∷ [])
  closed = refl

  -- `else`
  reopened : changed 0 true (Some (Else, Empty)) [] None (body (frame Block [] ∷ [])) ≡ body (frame Else [] ∷ [])
  reopened = refl

-- the last of a list comes to lie on top
given_in_order : operands_given (I32 ∷ I64 ∷ []) (Bottom ∷ []) ≡ Known I64 ∷ Known I32 ∷ Bottom ∷ []
given_in_order = refl
