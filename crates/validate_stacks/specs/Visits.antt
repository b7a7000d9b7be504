-- What the visit of an operator asks and answers (the crate's own).
use Rattle.std.specs.Prelude.{◌≡◌, ◌≢◌, ℕ, true, false, [], Option, Result, OnOk, IfErr}
use Rattle.std.specs.Option.{option_map}
use Rattle.validate_resources.specs.Context.{ModuleContext}
use Rattle.validate_types.specs.ErrorValue.{ErrorValue}
use Rattle.validation_rules.specs.Context.{Context}
use Rattle.validation_rules.specs.Rows.{Operator}
use Rattle.validation_rules.specs.Static.{State, step, RowHolds, RowFails}
use Rattle.validate_stacks.specs.Pops.{IsKept}
use Rattle.validate_stacks.specs.Attempts.{Stacked, may_step}
use Rattle.validate_stacks.specs.State.{BodyState, body_context, IsValidBody}

-- the static step of an operator: None where its row doesn't hold
abbrev pub step_body : ModuleContext → (Context → Operator) → BodyState → Option BodyState
step_body md op v =
    let cx = body_context md v in
    option_map (λ (s : State). record v { present = s }) (step cx (op cx) v.present)

-- The answer of a visit in the state v, which leaves the state w: accepted exactly where the row holds,
-- memory aside, and w is the static step then; a refusal carries the offset; the types stay valid, and
-- nothing but the static state changes, whatever the answer.
pub record Answers
    (md : ModuleContext) (op : Context → Operator) (offset : ℕ) (v : BodyState)
    (answer : Result (Unit {0}) ErrorValue) (w : BodyState) : Type 0 where
  pub accepted : OnOk answer (RowHolds (step_body md op v) w)
  pub refused : IfErr answer (λ e. e.wants_memory ≡ false → RowFails (step_body md op v))
  pub at_offset : IfErr answer (λ e. e.offset ≡ offset)
  pub valid : IsValidBody md w
  pub kept : IsKept v w

-- a visit may be made: a frame is open, the types are valid, and an attempt that is pending moved
-- nothing but operands
pub record MayVisit (md : ModuleContext) (v : Stacked) : Type 0 where
  pub open_frame : v.body.present.frames ≢ []
  pub valid : IsValidBody md v.body
  pub attempt : may_step v ≡ true

-- `Answers`, closed: a visit passes it on from the check that it calls
unfoldable pub Meets :
    ModuleContext → (Context → Operator) → ℕ → BodyState → Result (Unit {0}) ErrorValue → BodyState → Type 0
Meets md op offset v answer w = Answers md op offset v answer w
