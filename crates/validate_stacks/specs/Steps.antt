-- The steps of the stacks on what they stand for (Specification, appendix "Validation Algorithm": pop_val,
-- push_val, push_ctrl, unreachable, set_local, on a whole body).
use Rattle.std.specs.Prelude.{ℕ, List, [], ◌∷◌, ◌++◌, true, false, Option, Some, None, length, drop}
use Rattle.std.specs.Prelude.{slice_get, replicate, map, if◌then◌else◌}
use Rattle.std.specs.Option.{option_map}
use Rattle.std.specs.List.{flat_map}
use Rattle.validate_types.specs.declared.features.WasmFeatures.{WasmFeatures}
use Rattle.validate_types.specs.Types.{is_defaultable}
use Rattle.validate_types.specs.declared.types.ValType.{ValType}
use Rattle.validate_visit.specs.declared.frame.BlockType.{BlockType}
use Rattle.validate_visit.specs.declared.frame.Frame.{Frame as FlatFrame}
use Rattle.validate_visit.specs.declared.frame.FrameKind.{FrameKind}
use Rattle.validation_rules.specs.Fits.{MaybeType, Bottom, UnknownRef, Known}
use Rattle.validation_rules.specs.Pops.{found_by_pop}
use Rattle.validation_rules.specs.Rows.{Head}
use Rattle.validation_rules.specs.Static.{Frame, State, state_with, heads, locals_set, is_local_set, opened_frame}
use Rattle.validate_stacks.specs.Flat.{with_heights}
use Rattle.validate_stacks.specs.State.{BodyState, body_with_frames}

-- ---- what is there

-- no frame, no operand and no local
abbrev pub empty_body : WasmFeatures → BodyState
empty_body features =
    record {
      present = state_with [] [];
      shared = false;
      features = features;
      locals = [];
      set_at_entry = [];
      undone = None;
    }

-- the own operands of the innermost frame, the top first
abbrev pub innermost_operands : List Frame → List MaybeType
innermost_operands [] = []
innermost_operands (f ∷ fs) = f.operands

abbrev pub found_in_frames : List Frame → Option MaybeType
found_in_frames [] = None
found_in_frames (f ∷ fs) = found_by_pop f.dead f.operands

abbrev pub found_in_body : BodyState → Option MaybeType
found_in_body v = found_in_frames v.present.frames

-- all operands, the top first
abbrev pub all_operands : List Frame → List MaybeType → List MaybeType
all_operands fs left = flat_map (λ (f : Frame). f.operands) fs ++ left

-- the type of an operand, where it is known
abbrev pub known_type : MaybeType → Option ValType
known_type (Known t) = Some t
known_type Bottom = None
known_type (UnknownRef a) = None

-- the type of the operand at this depth, where it is known; None past the end
abbrev pub type_at_depth : BodyState → ℕ → Option (Option ValType)
type_at_depth v depth = option_map known_type (slice_get (all_operands v.present.frames v.present.left) depth)

-- the frame at this depth, with its height
abbrev pub frame_at : BodyState → ℕ → Option FlatFrame
frame_at v depth = slice_get (with_heights v.present.frames (length v.present.left)) depth

-- the block type and the kind of a frame
abbrev pub type_and_kind : Head → BlockType × FrameKind
type_and_kind h = (h.block_type, h.kind)

-- those of the frame at this depth
abbrev pub label_at : BodyState → ℕ → Option (BlockType × FrameKind)
label_at v depth = option_map type_and_kind (slice_get (heads v.present.frames) depth)

-- what a pop finds in the innermost frame, after so many others
abbrev pub found_after_pops_in_frames : ℕ → List Frame → Option MaybeType
found_after_pops_in_frames n [] = None
found_after_pops_in_frames n (f ∷ fs) = found_by_pop f.dead (drop n f.operands)

abbrev pub found_after_pops_in_body : ℕ → BodyState → Option MaybeType
found_after_pops_in_body n v = found_after_pops_in_frames n v.present.frames

-- ---- operands

abbrev pub state_with_operand : MaybeType → List Frame → List MaybeType → State
state_with_operand t [] left = state_with (t ∷ left) []
state_with_operand t (f ∷ fs) left = state_with left (record f { operands = t ∷ f.operands } ∷ fs)

-- with one more operand on the innermost frame
abbrev pub body_pushed : MaybeType → BodyState → BodyState
body_pushed t v = record v { present = state_with_operand t v.present.frames v.present.left }

abbrev pub frames_owning : List MaybeType → List Frame → List Frame
frames_owning own [] = []
frames_owning own (f ∷ fs) = record f { operands = own } ∷ fs

abbrev pub body_without_first : List MaybeType → BodyState → BodyState
body_without_first [] v = v
body_without_first (t ∷ ts) v = body_with_frames (frames_owning ts v.present.frames) v

-- without the top own operand of the innermost frame, if it has one
abbrev pub body_popped : BodyState → BodyState
body_popped v = body_without_first (innermost_operands v.present.frames) v

-- ---- frames

abbrev pub head_of : FrameKind → BlockType → Head
head_of kind block_type = record { kind = kind; block_type = block_type }

-- with one more frame, live and without operands
abbrev pub body_with_frame : FrameKind → BlockType → BodyState → BodyState
body_with_frame kind block_type v =
    body_with_frames (opened_frame (head_of kind block_type) [] ∷ v.present.frames) v

abbrev pub frames_unreachable : List Frame → List Frame
frames_unreachable [] = []
frames_unreachable (f ∷ fs) = record f { operands = []; dead = true } ∷ fs

-- with the innermost frame dead, and without operands of its own
abbrev pub body_unreachable : BodyState → BodyState
body_unreachable v = body_with_frames (frames_unreachable v.present.frames) v

abbrev pub frames_marked : List Frame → List Frame
frames_marked [] = []
frames_marked (f ∷ fs) = record f { dead = true } ∷ fs

-- with the innermost frame dead
abbrev pub body_marked : BodyState → BodyState
body_marked v = body_with_frames (frames_marked v.present.frames) v

abbrev pub outer_frames : List Frame → List Frame
outer_frames [] = []
outer_frames (f ∷ fs) = fs

-- without the innermost frame
abbrev pub body_without_frame : BodyState → BodyState
body_without_frame v = body_with_frames (outer_frames v.present.frames) v

-- ---- locals

-- the local is first set in the innermost frame
abbrev pub frames_first_setting : ℕ → List Frame → List Frame
frames_first_setting i [] = []
frames_first_setting i (f ∷ fs) = record f { first_set = f.first_set ++ i ∷ [] } ∷ fs

-- with the local set: where it wasn't, it joins those first set in the innermost frame
abbrev pub body_with_local_set : ℕ → BodyState → BodyState
body_with_local_set i v =
    if is_local_set v.set_at_entry (locals_set v.present.frames) i
    then v
    else body_with_frames (frames_first_setting i v.present.frames) v

-- the locals that were first set in a frame that is still open, in order
abbrev pub setting_order : List Frame → List ℕ
setting_order [] = []
setting_order (f ∷ fs) = setting_order fs ++ f.first_set

-- with so many more locals of a type, set when the body begins where it has a default value
abbrev pub body_with_locals : ℕ → ValType → BodyState → BodyState
body_with_locals count ty v =
    record v {
      locals = v.locals ++ replicate count ty;
      set_at_entry = v.set_at_entry ++ replicate count (is_defaultable ty);
    }

-- with these parameters as locals, all of them set when the body begins
abbrev pub body_with_params : List ValType → BodyState → BodyState
body_with_params params v =
    record v { locals = v.locals ++ params; set_at_entry = v.set_at_entry ++ map (λ _. true) params }
