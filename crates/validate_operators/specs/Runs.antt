-- The static run of a list of operators with offsets, and what a check of the list answers by it (the crate's
-- own).
use Rattle.std.specs.Prelude.{◌≡◌, ℕ, suc, ◌<◌, false, List, Option, Some, None, length, map, slice_get}
use Rattle.validate_resources.specs.Context.{ModuleContext}
use Rattle.validate_types.specs.ErrorValue.{ErrorValue}
use Rattle.validate_visit.specs.declared.frame.BlockType.{BlockType}
use Rattle.validate_visit.specs.declared.op.Op.{Op}
use Rattle.validation_rules.specs.Rows.{Operator}
use Rattle.validation_rules.specs.Static.{State, start, state_before, IsAccepted, operand_count, frame_count}
use Rattle.validation_rules.specs.Operators.{operators}
use Rattle.validate_stacks.specs.State.{BodyState, body_context}
use Rattle.type_safety.specs.Bodies.{HasHeights}
use Rattle.type_safety.specs.Theorem.{IsTypeSafe}

-- the operators of a list with offsets
abbrev pub without_offsets : List (Op × ℕ) → List Op
without_offsets ops = map (λ (p : Op × ℕ). p.0) ops

-- the body of these operators, as the rules see it from the state v
abbrev pub body_operators : ModuleContext → BodyState → List (Op × ℕ) → List Operator
body_operators md v ops = operators (body_context md v) (without_offsets ops)

-- the state before operator k, where the rows of all operators before it hold
abbrev pub body_before : ModuleContext → BodyState → List (Op × ℕ) → ℕ → Option State
body_before md v ops k = state_before (body_context md v) (body_operators md v ops) v.present k

-- the heights of a state: how many operands, and how many open frames
abbrev pub heights_of : State → ℕ × ℕ
heights_of s = (operand_count s, frame_count s)

-- all rows hold, and no frame is open after them
abbrev pub IsAcceptedBody : ModuleContext → BodyState → List (Op × ℕ) → Type 0
IsAcceptedBody md v ops = IsAccepted (body_context md v) (body_operators md v ops) v.present

-- one entry for each of the first n operators: the heights after it
pub record AreHeightsAfter
    (md : ModuleContext) (v : BodyState) (ops : List (Op × ℕ)) (n : ℕ) (heights : List (ℕ × ℕ)) : Type 0 where
  pub count : length heights ≡ n
  pub each :
      (k : ℕ) (s : State) → k < n → body_before md v ops (suc k) ≡ Some s →
      slice_get heights k ≡ Some (heights_of s)

-- Operator k was refused: the rows of all operators before it hold, its own doesn't, memory aside, and
-- the refusal carries its offset.
pub record IsRefusedAt
    (md : ModuleContext) (v : BodyState) (ops : List (Op × ℕ)) (k : ℕ) (refusal : ErrorValue) : Type 0 where
  pub operator : Op
  pub at_offset : slice_get ops k ≡ Some (operator, refusal.offset)
  pub state : State
  pub rows_before : body_before md v ops k ≡ Some state
  pub row : refusal.wants_memory ≡ false → body_before md v ops (suc k) ≡ None

-- No run of the typed machine over the list, however long and whatever it chooses, gets stuck; what it
-- returns fits the results; and wherever it stands it has the labels, the operands and the heights of
-- the static run.
pub record IsSafeFrom
    (md : ModuleContext) (v : BodyState) (ops : List (Op × ℕ)) (block_type : BlockType) : Type 0 where
  pub type_safe : IsTypeSafe (body_context md v) (body_operators md v ops) block_type
  pub heights : HasHeights (body_context md v) (body_operators md v ops) block_type

-- the same from whatever type the body starts with
abbrev pub IsSafe : ModuleContext → BodyState → List (Op × ℕ) → Type 0
IsSafe md v ops = (ty : BlockType) → v.present ≡ start ty → IsSafeFrom md v ops ty
