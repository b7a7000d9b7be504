-- The frames' own parts of the flat lists: where heights stand for lists (Specification, appendix
-- "Validation Algorithm": ctrl_frame, with its height).
use Rattle.std.specs.Prelude.{◌≡◌, ℕ, ◌+◌, ◌-◌, ◌≤◌, List, [], ◌∷◌, ◌++◌, Bool, true, false, not, Option}
use Rattle.std.specs.Prelude.{Some, None, length, take, drop, nat_lt, if◌then◌else◌}
use Rattle.validate_locals.specs.Inits.{AreFresh}
use Rattle.validate_transaction.specs.Log.{Log}
use Rattle.validate_transaction.specs.TakeBack.{is_empty, items_taken_back, CanTakeBack}
use Rattle.validate_transaction.specs.declared.log.Transaction.{Transaction}
use Rattle.validate_transaction.specs.declared.log.Transaction.TheVariants.{Active, Inactive}
use Rattle.validate_types.specs.declared.features.WasmFeatures.{WasmFeatures}
use Rattle.validate_types.specs.declared.types.ValType.{ValType}
use Rattle.validate_visit.specs.declared.frame.Frame.{Frame as FlatFrame}
use Rattle.validation_rules.specs.Fits.{MaybeType}
use Rattle.validation_rules.specs.Static.{Frame, State, operand_count_in, locals_set}
use Rattle.validate_stacks.specs.Attempts.{Phase, Clean, Moved, Set, Framed, Unset, Marked, Stacked}
use Rattle.validate_stacks.specs.State.{BodyState}

abbrev pub state_with_frame : Frame → State → State
state_with_frame f s = record { frames = f ∷ s.frames; left = s.left }

-- the frames with their own parts of the flat lists: all operands, the top first, and the locals that
-- were set, in order
abbrev pub state_from_heights : List FlatFrame → List MaybeType → List ℕ → State
state_from_heights [] operands order = record { frames = []; left = operands }
state_from_heights (f ∷ fs) operands order =
    state_with_frame
    (record {
      head = record { kind = f.kind; block_type = f.block_type };
      operands = take (length operands - f.height) operands;
      dead = f.unreachable;
      first_set = drop f.init_height order;
    })
    (state_from_heights fs (drop (length operands - f.height) operands) (take f.init_height order))

-- Heights don't fall from outer to inner, and don't pass the number of operands or of locals that were
-- set. Outside all frames no local is set.
abbrev pub HasShape : List FlatFrame → ℕ → ℕ → Type 0
HasShape [] n m = m ≡ 0
HasShape (f ∷ fs) n m = (f.height ≤ n) × (f.init_height ≤ m) × HasShape fs f.height f.init_height

-- ---- what is pending, taken back

-- the innermost frame without its mark
abbrev pub frames_unmarked : Bool → List FlatFrame → List FlatFrame
frames_unmarked true (f ∷ fs) = record f { unreachable = false } ∷ fs
frames_unmarked _ fs = fs

abbrev pub undone_frames : List FlatFrame → Log → List FlatFrame
undone_frames fs log = items_taken_back (frames_unmarked log.unreachable fs) log.frames

-- the locals that are set once the frames are taken back
abbrev pub inits_in_frames : List FlatFrame → List ℕ → List (Option FlatFrame) → List ℕ
inits_in_frames fs order [] = order
inits_in_frames fs order (Some f ∷ trace) = inits_in_frames (f ∷ fs) order trace
inits_in_frames (f ∷ fs) order (None ∷ trace) = inits_in_frames fs (take f.init_height order) trace
inits_in_frames [] order (None ∷ trace) = inits_in_frames [] order trace

abbrev pub undone_inits : List FlatFrame → List ℕ → Log → List ℕ
undone_inits fs order log =
    take log.init_height
    (inits_in_frames (frames_unmarked log.unreachable fs) order log.frames ++ log.inits)

-- the state once all that the log records is taken back
abbrev pub undone_state : List FlatFrame → List MaybeType → List ℕ → Log → State
undone_state fs operands order log =
    state_from_heights
    (undone_frames fs log) (items_taken_back operands log.operands) (undone_inits fs order log)

abbrev pub undone_pending : List FlatFrame → List MaybeType → List ℕ → Transaction → Option State
undone_pending fs operands order (Active log) = Some (undone_state fs operands order log)
undone_pending fs operands order (Inactive allocs) = None

-- By what the log tells, where so many locals were first set since the body began: a frame was marked; a
-- local was unset; frames were opened or closed; a local was set; operands moved.
abbrev pub phase_of : ℕ → Transaction → Phase
phase_of n (Active log) =
    if log.unreachable then Marked
    else if not (is_empty log.inits) then Unset
    else if not (is_empty log.frames) then Framed
    else if nat_lt log.init_height n then Set
    else if not (is_empty log.operands) then Moved
    else Clean
phase_of n (Inactive allocs) = Clean

-- ---- the stacks as they are kept

-- The stacks of a body in flat lists, as the standard's algorithm has them, with the log of an attempt.
pub record FlatStacks : Type 0 where
  -- the open frames with their heights, the innermost first (ctrls)
  pub frames : List FlatFrame
  -- the operands of all frames, the top first (vals)
  pub operands : List MaybeType
  -- the locals that were first set since the body began, in order (inits)
  pub order : List ℕ
  -- which locals are set when the body begins
  pub set_at_entry : List Bool
  -- the declared types of the locals
  pub locals : List ValType
  -- the log of an attempt, if one is pending
  pub transaction : Transaction
  -- whether the function is shared
  pub shared : Bool
  -- the proposals that are on
  pub features : WasmFeatures
  -- how many frames there is room for; how many operands; how many locals that were first set
  pub frames_room : ℕ
  pub operands_room : ℕ
  pub order_room : ℕ

-- the body that they stand for
abbrev pub body_from : FlatStacks → BodyState
body_from s =
    record {
      present = state_from_heights s.frames s.operands s.order;
      shared = s.shared;
      features = s.features;
      locals = s.locals;
      set_at_entry = s.set_at_entry;
      undone = undone_pending s.frames s.operands s.order s.transaction;
    }

-- with how far the attempt has come
abbrev pub stacked_of : FlatStacks → Stacked
stacked_of s = record { body = body_from s; phase = phase_of (length s.order) s.transaction }

-- What was unset can be set again behind what is set: within the room, each was unset when it was declared,
-- once, and then all is set that was set when the attempt began.
abbrev pub CanSetAgain : FlatStacks → Log → Type 0
CanSetAgain s log =
    record {
      room : length (s.order ++ log.inits) ≤ s.order_room;
      fresh : AreFresh s.set_at_entry (s.order ++ log.inits);
      full : log.init_height ≤ length (s.order ++ log.inits);
    }

-- the log can be taken back, within the room that is there
pub record CanUndo (s : FlatStacks) (log : Log) : Type 0 where
  pub shape :
      HasShape (undone_frames s.frames log) (length (items_taken_back s.operands log.operands))
      (length (undone_inits s.frames s.order log))
  pub frames : CanTakeBack s.frames_room (frames_unmarked log.unreachable s.frames) log.frames
  pub operands : CanTakeBack s.operands_room s.operands log.operands
  pub inits : CanSetAgain s log
  -- no frame that goes was opened before a local that is set was set
  pub still : inits_in_frames (frames_unmarked log.unreachable s.frames) s.order log.frames ≡ s.order

-- so can this attempt, if it is one
abbrev pub CanUndoAny : FlatStacks → Transaction → Type 0
CanUndoAny s (Active log) = CanUndo s log
CanUndoAny s (Inactive allocs) = Unit {0}

-- the heights fit the lists, each local has its mark, and a pending attempt can be taken back
pub record IsSound (s : FlatStacks) : Type 0 where
  pub shape : HasShape s.frames (length s.operands) (length s.order)
  pub marks : length s.set_at_entry ≡ length s.locals
  pub undo : CanUndoAny s s.transaction

-- ---- heights, read off lists

-- the frames with heights, over so many types that lie below all frames
abbrev pub with_heights : List Frame → ℕ → List FlatFrame
with_heights [] n = []
with_heights (f ∷ fs) n =
    record {
      kind = f.head.kind;
      block_type = f.head.block_type;
      height = operand_count_in fs + n;
      unreachable = f.dead;
      init_height = length (locals_set fs);
    }
    ∷ with_heights fs n
