-- Operands taken and put in place at once (the crate's own).
use Rattle.std.specs.Prelude.{◌≡◌, ℕ, Bool, List, [], ◌∷◌, ◌++◌, Option, Some, None, Ok, false, drop, take, MatchBool}
use Rattle.validate_resources.specs.Context.{ModuleContext}
use Rattle.validate_types.specs.declared.types.ValType.{ValType}
use Rattle.validate_visit.specs.declared.frame.BlockType.{BlockType}
use Rattle.validate_visit.specs.declared.frame.FrameKind.{FrameKind}
use Rattle.validation_rules.specs.Context.{Context}
use Rattle.validation_rules.specs.Rows.{Operator}
use Rattle.validation_rules.specs.Fits.{MaybeType}
use Rattle.validation_rules.specs.Static.{Frame, State, state_with}
use Rattle.validate_stacks.specs.Attempts.{Stacked}
use Rattle.validate_stacks.specs.State.{BodyState, body_with_frames}
use Rattle.validate_stacks.specs.Steps.{head_of, innermost_operands}
use Rattle.validate_stacks.specs.Visits.{Meets}

abbrev pub frames_dropped : ℕ → List Frame → List Frame
frames_dropped n [] = []
frames_dropped n (f ∷ fs) = record f { operands = drop n f.operands } ∷ fs

-- without so many own operands of the innermost frame, or all
abbrev pub body_dropped : ℕ → BodyState → BodyState
body_dropped n v = body_with_frames (frames_dropped n v.present.frames) v

-- the own operands of the innermost frame, given to the next outer one, or left where there is none
abbrev pub state_given : List Frame → List MaybeType → State
state_given [] left = state_with left []
state_given (f ∷ []) left = state_with (f.operands ++ left) []
state_given (f ∷ g ∷ fs) left = state_with left (record g { operands = f.operands ++ g.operands } ∷ fs)

-- without the innermost frame, whose own operands pass to the next outer one
abbrev pub body_given : BodyState → BodyState
body_given v = record v { present = state_given v.present.frames v.present.left }

-- with one more frame, live, that takes over so many own operands of the innermost one
abbrev pub body_with_frame_over : ℕ → FrameKind → BlockType → BodyState → BodyState
body_with_frame_over n kind block_type v =
    let own = take n (innermost_operands v.present.frames) in
    let opened : Frame = record { head = head_of kind block_type; operands = own; dead = false; first_set = [] } in
    body_with_frames (opened ∷ (body_dropped n v).present.frames) (body_dropped n v)

-- one type, or none
abbrev pub pushed_list : Option ValType → List ValType
pushed_list None = []
pushed_list (Some t) = t ∷ []

-- A visit that is made at once or not at all: it is accepted, whatever the offset, or nothing is changed.
unfoldable pub MeetsOrUnchanged : ModuleContext → (Context → Operator) → Stacked → Bool → Stacked → Type 0
MeetsOrUnchanged md op v answer w = MatchBool answer ((offset : ℕ) → Meets md op offset v.body (Ok tt) w.body) (w ≡ v)
