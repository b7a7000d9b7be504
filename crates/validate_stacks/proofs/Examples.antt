-- Runs of pops, computed: how many pops they make, and what they leave.
use Rattle.std.proofs.Common.{◌≡◌, ℕ, Bool, true, false, List, [], ◌∷◌, Some, None, replicate, refl}
use Rattle.validate_resources.specs.Context.{ModuleContext}
use Rattle.validate_resources.specs.Lists.{context_of}
use Rattle.validate_types.specs.declared.features.WasmFeatures.{WasmFeatures}
use Rattle.validate_types.specs.declared.types.ValType.TheVariants.{I32, I64}
use Rattle.validate_visit.specs.declared.frame.BlockType.TheVariants.{Empty}
use Rattle.validate_visit.specs.declared.frame.FrameKind.TheVariants.{Block}
use Rattle.validation_rules.specs.Fits.{MaybeType, Bottom, Known}
use Rattle.validation_rules.specs.Static.{Frame}
use Rattle.validate_stacks.specs.Counted.{pops_of_run}
use Rattle.validate_stacks.specs.Pops.{body_popped_each}
use Rattle.validate_stacks.specs.State.{BodyState, body_with_frames}
use Rattle.validate_stacks.specs.Steps.{empty_body}

abbrev md : ModuleContext
md =
    context_of
    (record { types = []; functions = []; tables = []; memories = []; globals = []; tags = []; elements = []; data_count = None })

-- so many operands of i32, the top first
abbrev i32s : ℕ → List MaybeType
i32s n = replicate n (Known I32)

abbrev frame : Bool → List MaybeType → Frame
frame dead own = record { head = record { kind = Block; block_type = Empty }; operands = own; dead = dead; first_set = [] }

module _ (features : WasmFeatures) where
  -- a body of one frame, live or dead, with these operands of its own; and one inside a frame with one
  abbrev live : List MaybeType → BodyState
  live own = body_with_frames (frame false own ∷ []) (empty_body features)

  abbrev dead : List MaybeType → BodyState
  dead own = body_with_frames (frame true own ∷ []) (empty_body features)

  abbrev inner : List MaybeType → BodyState
  inner own = body_with_frames (frame false own ∷ frame false (i32s 1) ∷ []) (empty_body features)

  -- ---- how many pops

  -- in dead code one pop below the own operands is the last
  dead_longer : pops_of_run 10 (dead (i32s 2)) ≡ 3
  dead_longer = refl

  dead_longest : pops_of_run 4294967295 (dead []) ≡ 1
  dead_longest = refl

  dead_shorter : pops_of_run 2 (dead (i32s 2)) ≡ 2
  dead_shorter = refl

  live_shorter : pops_of_run 3 (live (i32s 5)) ≡ 3
  live_shorter = refl

  -- the third is refused
  live_longer : pops_of_run 3 (live (i32s 2)) ≡ 3
  live_longer = refl

  -- so is the first, whatever lies outside the frame
  inner_longer : pops_of_run 3 (inner []) ≡ 1
  inner_longer = refl

  no_pop : pops_of_run 0 (live (i32s 2)) ≡ 0
  no_pop = refl

  -- ---- what they leave

  left_dead : body_popped_each md (replicate 10 I32) (dead (i32s 2)) ≡ Some (dead [])
  left_dead = refl

  left_two : body_popped_each md (replicate 2 I32) (dead (Bottom ∷ i32s 2)) ≡ Some (dead (i32s 1))
  left_two = refl

  left_live : body_popped_each md (replicate 3 I32) (live (i32s 5)) ≡ Some (live (i32s 2))
  left_live = refl

  missing : body_popped_each md (replicate 3 I32) (live (i32s 2)) ≡ None
  missing = refl

  missing_inside : body_popped_each md (replicate 1 I32) (inner []) ≡ None
  missing_inside = refl

  another_type : body_popped_each md (replicate 3 I32) (dead (Known I32 ∷ Known I64 ∷ [])) ≡ None
  another_type = refl

  left_alone : body_popped_each md (replicate 0 I32) (live (i32s 2)) ≡ Some (live (i32s 2))
  left_alone = refl
