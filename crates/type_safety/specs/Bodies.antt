-- The law for the bodies that the table of operators gives, and what it says of counts (the crate's own; the
-- standard's is its appendix "Type Soundness").
use Rattle.std.specs.Prelude.{◌≡◌, ℕ, ◌+◌, List, [], ◌∷◌, Some, length, map}
use Rattle.validate_resources.specs.Context.{ModuleContext}
use Rattle.validate_visit.specs.declared.op.Op.{Op}
use Rattle.validation_rules.specs.Context.{BlockType, Context}
use Rattle.validation_rules.specs.Rows.{Operator}
use Rattle.validation_rules.specs.Static.{Frame, State, start, state_before, IsAccepted, operand_count, frame_count}
use Rattle.validation_rules.specs.Operators.{operators}
use Rattle.type_safety.specs.Machine.{Label, At, Run, initial_machine}
use Rattle.type_safety.specs.Theorem.{IsTypeSafe}

-- Type safety of bodies: in every context over the module (any features, mark, locals, and locals set
-- at entry), every list of operators whose rows all hold up to the outermost `end` is type safe.
abbrev pub BodySafety : ModuleContext → Type 0
BodySafety md =
    (cx : Context) (ops : List Op) (ty : BlockType) →
    cx.of_module ≡ md → IsAccepted cx (operators cx ops) (start ty) → IsTypeSafe cx (operators cx ops) ty

-- how many operands the labels hold, all together
abbrev pub operands_held : List Label → ℕ
operands_held [] = 0
operands_held (l ∷ ls) = length l.operands + operands_held ls

-- These labels have the heights that the validator has before operator k: as many labels as frames, as
-- many operands in all, and as many in each label as in its frame.
pub record HasHeightsAt
    (cx : Context) (code : List Operator) (ty : BlockType) (k : ℕ) (labels : List Label) : Type 0 where
  pub state : State
  pub is_before : state_before cx code (start ty) k ≡ Some state
  pub frames : length labels ≡ frame_count state
  pub operands : operands_held labels ≡ operand_count state
  pub each :
      map (λ (l : Label). length l.operands) labels ≡ map (λ (f : Frame). length f.operands) state.frames

-- wherever a run of the body stands, it has the validator's heights there
abbrev pub HasHeights : Context → List Operator → BlockType → Type 0
HasHeights cx code ty =
    (n k : ℕ) (labels : List Label) (set : List ℕ) →
    Run cx code n (initial_machine ty) (At k labels set) → HasHeightsAt cx code ty k labels

abbrev pub BodyHeights : ModuleContext → Type 0
BodyHeights md =
    (cx : Context) (ops : List Op) (ty : BlockType) →
    cx.of_module ≡ md → IsAccepted cx (operators cx ops) (start ty) → HasHeights cx (operators cx ops) ty
