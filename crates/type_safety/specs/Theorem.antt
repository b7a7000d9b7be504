-- Type safety of a body: what holds of every state that a run of it comes to (the crate's own; the
-- standard's is its appendix "Type Soundness").
use Rattle.std.specs.Prelude.{◌≡◌, ℕ, List, Some, IsFalse, map}
use Rattle.std.specs.List.{AllZip}
use Rattle.validation_rules.specs.Context.{ValType, BlockType, Context, AllBelow}
use Rattle.validation_rules.specs.Fits.{MaybeType, Known}
use Rattle.validation_rules.specs.Rows.{results, body_head, Operator}
use Rattle.validation_rules.specs.Static.{Frame, open_state, start, state_before}
use Rattle.type_safety.specs.Machine.{Label, Machine, At, Returned, Trapped, LeftByException}
use Rattle.type_safety.specs.Machine.{LeftBySuspension, IsNotStuck, Run, initial_machine}

-- The validator knows each of these operands, and the machine's, as many, each have a type below the
-- one in its place.
abbrev pub OperandsBelow : Context → List ValType → List MaybeType → Type 0
OperandsBelow cx types own = (known : List ValType) × (own ≡ map Known known) × AllBelow cx types known

-- a label of the machine below a frame of the validator, which is live
pub record LabelBelow (cx : Context) (l : Label) (f : Frame) : Type 0 where
  pub head : l.head ≡ f.head
  pub live : IsFalse f.dead
  pub operands : OperandsBelow cx l.operands f.operands

-- as many labels as frames, each below the one in its place
abbrev pub LabelsBelow : Context → List Label → List Frame → Type 0
LabelsBelow cx ls fs = AllZip (LabelBelow cx) ls fs

-- At place k the labels lie below the frames that the validator has before operator k; what is
-- returned lies below the results.
abbrev pub IsAsValidated : Context → List Operator → BlockType → Machine → Type 0
IsAsValidated cx code ty (At k labels set) =
    (fs : List Frame) × (state_before cx code (start ty) k ≡ Some (open_state fs)) × LabelsBelow cx labels fs
IsAsValidated cx code ty (Returned types) = AllBelow cx types (results cx (body_head ty))
IsAsValidated cx code ty Trapped = Unit {0}
IsAsValidated cx code ty LeftByException = Unit {0}
IsAsValidated cx code ty LeftBySuspension = Unit {0}

-- No run of the body, of any length and whatever it chooses, is stuck, and each state that it comes to
-- is as validated.
abbrev pub IsTypeSafe : Context → List Operator → BlockType → Type 0
IsTypeSafe cx code ty =
    (n : ℕ) (m : Machine) → Run cx code n (initial_machine ty) m →
    IsNotStuck cx code m × IsAsValidated cx code ty m
