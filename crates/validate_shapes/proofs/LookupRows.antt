-- Rows that are known once something was looked up.
use Rattle.std.proofs.Common.{◌≡◌, false, List, [], ◌∷◌, None, refl, sym, ap, ◌∙◌}
use Rattle.std.specs.Option.{option_map}
use Rattle.validate_resources.specs.Context.{ModuleContext}
use Rattle.validation_rules.specs.Context.{Context}
use Rattle.validation_rules.specs.Rows.{Head, Row}
use Rattle.validation_rules.specs.Static.{Frame, State, heads, step_in}
use Rattle.validation_rules.specs.Operators.{row_operator, staying_operator}
use Rattle.validate_stacks.specs.State.{BodyState, body_context}
use Rattle.validate_stacks.specs.Visits.{step_body}

-- a row that depends on the open frames, at those that are open
pub at_labels : (md : ModuleContext) (v : BodyState) (row : Context → List Head → Row) → step_body md (λ c. staying_operator (row c)) v ≡ step_body md (λ c. row_operator (row c (heads v.present.frames))) v
at_labels md v row = by v.present.frames refl
  where
    by : (fs : List Frame) → v.present.frames ≡ fs → step_body md (λ c. staying_operator (row c)) v ≡ step_body md (λ c. row_operator (row c (heads v.present.frames))) v
    by [] e =
        ap (λ gs. option_map (λ (s : State). record v { present = s }) (step_in (body_context md v) (staying_operator (row (body_context md v))) gs v.present.left)) e
        ∙ sym (ap (λ gs. option_map (λ (s : State). record v { present = s }) (step_in (body_context md v) (row_operator (row (body_context md v) (heads v.present.frames))) gs v.present.left)) e)
    by (f ∷ fs) e =
        ap (λ gs. option_map (λ (s : State). record v { present = s }) (step_in (body_context md v) (staying_operator (row (body_context md v))) gs v.present.left)) e
        ∙ sym (ap (λ gs. option_map (λ (s : State). record v { present = s }) (step_in (body_context md v) (row_operator (row (body_context md v) (heads gs))) gs v.present.left)) e)

module _ (md : ModuleContext) (v : BodyState) (row : Context → List Head → Row) where
  abbrev row_now : Row
  row_now = row (body_context md v) (heads v.present.frames)

  barred_in : (r : Row) (fs : List Frame) → option_map (λ (s : State). record v { present = s }) (step_in (body_context md v) (row_operator (record r { premise = false })) fs v.present.left) ≡ None
  barred_in r [] = refl
  barred_in r (f ∷ fs) = refl

  -- its premise doesn't hold
  pub barred : row_now.premise ≡ false → step_body md (λ c. staying_operator (row c)) v ≡ None
  barred h =
      at_labels md v row
      ∙ (ap (λ b. step_body md (λ c. row_operator (record row_now { premise = b })) v) h
      ∙ barred_in row_now v.present.frames)

  -- it is this one
  pub found_as : (other : Context → List Head → Row) → row_now ≡ other (body_context md v) (heads v.present.frames) → step_body md (λ c. staying_operator (other c)) v ≡ step_body md (λ c. staying_operator (row c)) v
  found_as other e =
      at_labels md v other
      ∙ (ap (λ r. step_body md (λ c. row_operator r) v) (sym e)
      ∙ sym (at_labels md v row))
