-- What the run of a script with `try` or `show` lines answers (the crate's own).
use Rattle.std.specs.Prelude.{◌≡◌, ◌↔◌, ℕ, Bool, true, false, IsTrue, List, [], ◌∷◌, ◌++◌, Option, Some, None}
use Rattle.std.specs.Prelude.{Result, Ok, Err, length, slice_get}
use Rattle.std.specs.Option.{option_map}
use Rattle.std.specs.Global.{Vec}
use Rattle.validate_types.specs.declared.types.ValType.{ValType}
use Rattle.validate_types.specs.ErrorValue.{ErrorValue}
use Rattle.validate_resources.specs.Context.{ModuleContext}
use Rattle.validate_visit.specs.declared.op.Op.{Op}
use Rattle.validation_rules.specs.Context.{Context}
use Rattle.validation_rules.specs.Static.{State, step, operand_count, frame_count, RowHolds, RowFails}
use Rattle.validation_rules.specs.Operators.{operator}
use Rattle.validate_stacks.specs.State.{BodyState, body_context}
use Rattle.wasmparser_validate.specs.Operands.{types_in}
use Rattle.validate_operators.specs.Runs.{body_before}
use Rattle.opcheck_script.specs.declared.report.After.{After}

-- the operators of a body, and which of them are attempted
pub record Attempted : Type 0 where
  pub ops : List (Op × ℕ)
  pub attempts : List Bool

-- the types of the operands of a state, where they are shown
abbrev pub types_shown : Bool → State → Option (List (Option ValType))
types_shown true s = Some (types_in s)
types_shown false s = None

-- what is there in a state
pub record IsThere (shows : Bool) (after : After) (s : State) : Type 0 where
  pub operands : after.operands ≡ operand_count s
  pub frames : after.frames ≡ frame_count s
  pub types : option_map (λ (types : Vec (Option ValType)). types.items) after.types ≡ types_shown shows s

-- what is answered at one operator: what is there after it, or the refusal of an attempt
abbrev pub Answer : Type 0
Answer = Result After ErrorValue

-- The answer at an operator, from the state s to the state t: its row holds, and that is there after it; or
-- it was attempted, its row doesn't hold, and it left no trace.
abbrev pub IsAnswer : Context → Bool → Op × ℕ → Bool → Answer → State → State → Type 0
IsAnswer cx shows p attempted (Ok after) s t = RowHolds (step cx (operator cx p.0) s) t × IsThere shows after t
IsAnswer cx shows p attempted (Err e) s t =
    (attempted ≡ true) × (e.offset ≡ p.1) × (e.wants_memory ≡ false)
    × RowFails (step cx (operator cx p.0) s) × (s ≡ t)

-- the answers at the first operators of a list, from the state s to the state t
abbrev pub AreAnswers : Context → Bool → State → List (Op × ℕ) → List Bool → List Answer → State → Type 0
AreAnswers cx shows s ops attempts [] t = s ≡ t
AreAnswers cx shows s (p ∷ ops) (b ∷ attempts) (a ∷ answers) t =
    (u : State) × IsAnswer cx shows p b a s u × AreAnswers cx shows u ops attempts answers t
AreAnswers cx shows s _ _ _ t = ⊥

-- those that are accepted, with one more operator of this answer
abbrev pub accepted_at : Op × ℕ → Answer → List (Op × ℕ) → List (Op × ℕ)
accepted_at p (Ok after) accepted = accepted ++ p ∷ []
accepted_at p (Err e) accepted = accepted

-- the operators that are accepted
abbrev pub accepted_of : List (Op × ℕ) → List Answer → List (Op × ℕ)
accepted_of (p ∷ ops) (Ok after ∷ answers) = p ∷ accepted_of ops answers
accepted_of (p ∷ ops) (Err e ∷ answers) = accepted_of ops answers
accepted_of _ _ = []

-- why the run ends at an operator, in the state s: no memory, or it isn't attempted and its row doesn't hold
pub record EndsRun
    (cx : Context) (p : Op × ℕ) (attempted : Bool) (refusal : ErrorValue) (s : State) : Type 0 where
  pub at_offset : refusal.offset ≡ p.1
  pub is_plain : refusal.wants_memory ≡ false → attempted ≡ false
  pub row : refusal.wants_memory ≡ false → RowFails (step cx (operator cx p.0) s)

-- How the run ends: with an answer at each operator, and then whether the outermost frame is closed; or
-- with a refusal at the next one.
abbrev pub RunEnds : Context → Attempted → List Answer → State → Result Bool ErrorValue → Type 0
RunEnds cx body answers s (Ok closed) =
    (length answers ≡ length body.ops) × (IsTrue closed ↔ (s.frames ≡ []))
RunEnds cx body answers s (Err refusal) =
    (p : Op × ℕ) × (b : Bool) × (slice_get body.ops (length answers) ≡ Some p)
    × (slice_get body.attempts (length answers) ≡ Some b) × EndsRun cx p b refusal s

-- What the run of the operators one by one from this state answers: the last state is that of the accepted
-- operators alone.
pub record RunsEach
    (md : ModuleContext) (v : BodyState) (shows : Bool) (body : Attempted) (answers : List Answer)
    (outcome : Result Bool ErrorValue) : Type 0 where
  pub last : State
  pub answered : AreAnswers (body_context md v) shows v.present body.ops body.attempts answers last
  pub rows :
      body_before md v (accepted_of body.ops answers) (length (accepted_of body.ops answers)) ≡ Some last
  pub ends : RunEnds (body_context md v) body answers last outcome
