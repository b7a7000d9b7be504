-- From the visit within an attempt to the answer of the whole attempt.
use Rattle.std.proofs.Common.{◌≡◌, ℕ, false, Option, Some, None, Result, Ok, Err, refl}
use Rattle.std.specs.Result.{OnOk, IfErr}
use Rattle.std.specs.Option.{option_map}
use Rattle.validate_resources.specs.Context.{ModuleContext}
use Rattle.validate_types.specs.ErrorValue.{ErrorValue}
use Rattle.validation_rules.specs.Context.{Context}
use Rattle.validation_rules.specs.Rows.{Operator}
use Rattle.validation_rules.specs.Static.{State, step, RowHolds, RowFails}
use Rattle.validate_stacks.specs.Attempts.{Stacked, stacks_begun}
use Rattle.validate_stacks.specs.State.{BodyState, body_context}
use Rattle.validate_stacks.specs.Visits.{step_body, Meets}

-- a step, seen with no attempt pending
unpended_none : (v : Stacked) (o : Option State) → option_map (λ (s : State). record (stacks_begun v).body { present = s }) o ≡ None → option_map (λ (s : State). record v.body { present = s }) o ≡ None
unpended_none v None h = refl
unpended_none v (Some s) h = absurd cc

some_unpended : (v : Stacked) (w : BodyState) (o : Option State) → option_map (λ (s : State). record (stacks_begun v).body { present = s }) o ≡ Some w → (t : BodyState) × (option_map (λ (s : State). record v.body { present = s }) o ≡ Some t)
some_unpended v w None h = absurd cc
some_unpended v w (Some s) h = (record v.body { present = s }, refl)

-- whether the row holds, by what the visit within an attempt answers
pub accepted_begun : (md : ModuleContext) (op : Context → Operator) (offset : ℕ) (v : Stacked) (w : BodyState) (r : Result (Unit {0}) ErrorValue) → Meets md op offset (stacks_begun v).body r w → OnOk r ((t : BodyState) × RowHolds (step_body md op v.body) t)
unfolding Meets
accepted_begun md op offset v w (Ok x) m = some_unpended v w (step (body_context md v.body) (op (body_context md v.body)) v.body.present) m.accepted
accepted_begun md op offset v w (Err e) m = tt

pub refused_begun : (md : ModuleContext) (op : Context → Operator) (offset : ℕ) (v : Stacked) (w : BodyState) (r : Result (Unit {0}) ErrorValue) → Meets md op offset (stacks_begun v).body r w → IfErr r (λ e. e.wants_memory ≡ false → RowFails (step_body md op v.body))
unfolding Meets
refused_begun md op offset v w (Ok x) m = tt
refused_begun md op offset v w (Err e) m = λ f. unpended_none v (step (body_context md v.body) (op (body_context md v.body)) v.body.present) (m.refused f)
