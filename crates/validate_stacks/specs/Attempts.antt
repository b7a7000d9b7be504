-- How far a pending attempt has come, and what may still be done so that it is taken back exactly: the
-- log isn't a journal of steps, so not every order of them is (the crate's own; the standard tries no
-- operator).
use Rattle.std.specs.Prelude.{ℕ, List, [], ◌∷◌, Bool, true, false, ◌||◌, Some, None, is_none, unwrap_or}
use Rattle.validate_transaction.specs.TakeBack.{is_empty}
use Rattle.validation_rules.specs.Static.{Frame}
use Rattle.validate_stacks.specs.State.{BodyState}

-- nothing changed; operands; locals set; frames opened or closed; frames closed so that a local is unset; a
-- frame marked as dead
pub data Phase : Type 0 where
  Clean : Phase
  Moved : Phase
  Set : Phase
  Framed : Phase
  Unset : Phase
  Marked : Phase

-- what the stacks stand for, and how far the pending attempt has come
pub record Stacked : Type 0 where
  pub body : BodyState
  pub phase : Phase

abbrev pub body_of : Stacked → BodyState
body_of v = v.body

-- operands moved
abbrev pub phase_moved : Phase → Phase
phase_moved Clean = Moved
phase_moved p = p

abbrev pub is_clean : Phase → Bool
is_clean Clean = true
is_clean _ = false

-- nothing but operands moved
abbrev pub is_quiet : Phase → Bool
is_quiet Clean = true
is_quiet Moved = true
is_quiet _ = false

-- no local was unset, and no frame opened, closed or marked
abbrev pub is_setting : Phase → Bool
is_setting Clean = true
is_setting Moved = true
is_setting Set = true
is_setting _ = false

-- it is known that no local was unset
abbrev pub has_none_unset : Phase → Bool
has_none_unset Unset = false
has_none_unset Marked = false
has_none_unset _ = true

-- no frame was marked
abbrev pub is_unmarked : Phase → Bool
is_unmarked Marked = false
is_unmarked _ = true

-- none is pending, or the pending one has nothing to undo
abbrev pub may_attempt : Stacked → Bool
may_attempt v = is_none v.body.undone || is_clean v.phase

-- an operator may be visited, or what is left of one: none is pending, or it moved nothing but operands
abbrev pub may_step : Stacked → Bool
may_step v = is_none v.body.undone || is_quiet v.phase

-- a frame may be opened, or closed
abbrev pub may_frame : Stacked → Bool
may_frame v = is_none v.body.undone || is_unmarked v.phase

-- a local may be set
abbrev pub may_set : Stacked → Bool
may_set v = is_none v.body.undone || is_setting v.phase

abbrev pub innermost_first_set : List Frame → List ℕ
innermost_first_set [] = []
innermost_first_set (f ∷ fs) = f.first_set

-- the locals of the innermost frame may be unset: there is none, or none was unset yet
abbrev pub may_unset : Stacked → Bool
may_unset v =
    is_empty (innermost_first_set v.body.present.frames)
    || (is_none v.body.undone || has_none_unset v.phase)

-- ---- beginning and ending

-- with an attempt pending, which comes back to this state
abbrev pub stacks_begun : Stacked → Stacked
stacks_begun v = record { body = record v.body { undone = Some v.body.present }; phase = Clean }

-- with none pending, and what it did
abbrev pub stacks_committed : Stacked → Stacked
stacks_committed v = record { body = record v.body { undone = None }; phase = Clean }

-- with none pending, in the state that it comes back to
abbrev pub stacks_rolled_back : Stacked → Stacked
stacks_rolled_back v =
    record {
      body = record v.body { present = unwrap_or v.body.undone v.body.present; undone = None };
      phase = Clean;
    }
