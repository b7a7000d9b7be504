use Rattle.std.proofs.Common.{rules, ◌≡◌, true, false, Bool, [], ◌∷◌, Option, Some, None, MatchResult, refl, sym, ap, ◌∙◌, subst, arith}
use Rattle.std.specs.Option.{option_map}
use Rattle.validate_resources.specs.Context.{ModuleContext}
use Rattle.validation_rules.specs.Context.{I32}
use Rattle.validation_rules.specs.Fits.{MaybeType}
use Rattle.validation_rules.specs.Operators.{looking_row, select_result, select_pushes, row_operator}
use Rattle.validation_rules.specs.Rows.{guard}
use Rattle.validation_rules.specs.Valid.{IsValidOperand}
use Rattle.validation_rules.proofs.Steps.{guard_some}
use Rattle.validate_stacks.specs.AtOnce.{body_dropped}
use Rattle.validate_stacks.specs.Pops.{may_pop}
use Rattle.validate_stacks.specs.State.{BodyState, body_context}
use Rattle.validate_stacks.specs.Steps.{found_in_body, found_after_pops_in_body, body_popped, body_pushed}
use Rattle.validate_stacks.specs.Visits.{step_body}
use Rattle.validate_stacks.proofs.AtOnce.{dropped_next, dropped_none, dropped_within, popped_dropped}
use Rattle.validate_stacks.proofs.Moves.{fits_now, found_below, not_popped}
use Rattle.validate_stacks.proofs.Validity.{kept_on, popped_valid, popped_kept, pushed_valid, pushed_kept}
use Rattle.validate_stacks.proofs.Whole.{popped_next, popped_none}
use Rattle.validate_shapes.proofs.Moves.{unmoved, made_moves}
use Rattle.validate_rows.proofs.SelectSteps.{test_refused, upper_missing, lower_missing, both_found, found_valid, selected_one}
use Rattle.validate_rows.proofs.parametric.any_select.Given.{Over}
use Rattle.validate_rows.proofs.parametric.any_select.Goals.{Start, In_ok-expect_operands, In_ok-lower}
use Rattle.validate_rows.proofs.parametric.any_select.Goals as goal

shut : {A : Type 0} (b : Bool) (x : A) → guard b (Some x) ≡ None → b ≡ false
shut false x e = refl
shut true x e = absurd cc

-- the operands below the top, and below that
below_one : (v : BodyState) → body_dropped 1 v ≡ body_popped v
below_one v = sym (dropped_next 0 v) ∙ ap body_popped (dropped_none v)

below_two : (v : BodyState) → body_dropped 2 v ≡ body_popped (body_popped v)
below_two v = sym (dropped_next 1 v) ∙ ap body_popped (below_one v)

found_one : (v : BodyState) → found_in_body (body_popped v) ≡ found_after_pops_in_body 1 v
found_one v = sym (ap found_in_body (below_one v)) ∙ found_below 0 1 v

found_two : (v : BodyState) → found_in_body (body_popped (body_popped v)) ≡ found_after_pops_in_body 2 v
found_two v = sym (ap found_in_body (below_two v)) ∙ found_below 0 2 v

module _ (g : Over) (c : Start g) where
  abbrev md : ModuleContext
  md = g.R.WasmModuleResources.context c.args.context.resources.now

  abbrev selected : Option BodyState
  selected = step_body md (λ cx. row_operator (looking_row 3 (select_pushes cx))) c.args.context.stacks.now.body

tested : (g : Over) (c : In_ok-expect_operands g) → may_pop (body_context (g.R.WasmModuleResources.context c.args.context.resources.now) c.args.context.stacks.now.body) (found_in_body c.args.context.stacks.now.body) (Some I32) ≡ true
tested g c =
    let md = g.R.WasmModuleResources.context c.args.context.resources.now in
    let v = c.args.context.stacks.now.body in
    (guard_some _ _ _ (sym (popped_next md I32 [] v) ∙ popped_dropped md (I32 ∷ []) v (fits_now md (I32 ∷ []) v true c.in_ok-expect_operands.ensures.fit))).0

-- both operands are there
selects : (g : Over) (c : In_ok-lower g) (o : Option MaybeType) → select_result c.in_ok-lower.lower c.in_ok-upper.upper ≡ o → selected g (goal.at.In_ok-lower g c).Start ≡ option_map (λ x. body_pushed x (body_popped (body_popped (body_popped c.args.context.stacks.now.body)))) o
selects g c o e =
    let at = goal.at.In_ok-lower g c in
    let v = c.args.context.stacks.now.body in
    let u = body_popped v in
    let w = body_popped u in
    both_found (md g at.Start) v c.requires.open_frame u (tested g at.In_ok-expect_operands) refl w c.in_ok-upper.upper (found_one v ∙ c.in_ok-upper.ensures.found) refl c.in_ok-lower.lower o (found_two v ∙ c.in_ok-lower.ensures.found) e

pub returns-in_err-expect_operands : goal.returns-in_err-expect_operands
returns-in_err-expect_operands g c =
    let md = g.R.WasmModuleResources.context c.args.context.resources.now in
    let v = c.args.context.stacks.now.body in
    let unfit = not_popped md (I32 ∷ []) v c.requires.open_frame (fits_now md (I32 ∷ []) v false c.in_err-expect_operands.ensures.unfit) in
    let none = test_refused md v c.requires.open_frame (shut _ _ (ap (guard (may_pop (body_context md v) (found_in_body v) (Some I32))) (sym (popped_none md (body_popped v))) ∙ sym (popped_next md I32 [] v) ∙ unfit)) in
    unmoved _ _ _ _ _ _ (search rules) refl (search (rules, none))

pub returns-in_err-upper : goal.returns-in_err-upper
returns-in_err-upper g c =
    let at = (goal.at.returns-in_err-upper g c).In_ok-expect_operands in
    let v = c.args.context.stacks.now.body in
    let none = upper_missing (g.R.WasmModuleResources.context c.args.context.resources.now) v c.requires.open_frame (body_popped v) (tested g at) refl (found_one v ∙ c.in_err-upper.ensures.missing) in
    unmoved _ _ _ _ _ _ (search rules) refl (search (rules, none))

pub returns-in_err-lower : goal.returns-in_err-lower
returns-in_err-lower g c =
    let at = (goal.at.returns-in_err-lower g c).In_ok-expect_operands in
    let v = c.args.context.stacks.now.body in
    let u = body_popped v in
    let none = lower_missing (g.R.WasmModuleResources.context c.args.context.resources.now) v c.requires.open_frame u (tested g at) refl (body_popped u) c.in_ok-upper.upper (found_one v ∙ c.in_ok-upper.ensures.found) refl (found_two v ∙ c.in_err-lower.ensures.missing) in
    unmoved _ _ _ _ _ _ (search rules) refl (search (rules, none))

pub returns-in_err-ty : goal.returns-in_err-ty
returns-in_err-ty g c =
    let none = selects g (goal.at.returns-in_err-ty g c).In_ok-lower None c.in_err-ty.ensures.refused in
    unmoved _ _ _ _ _ _ (search rules) refl (search (rules, none))

pub returns : goal.returns
returns g c =
    let at = goal.at.returns g c in
    let m = g.R.WasmModuleResources.context c.args.context.resources.now in
    let v = c.args.context.stacks.now.body in
    let u = body_popped v in
    let w = body_popped u in
    let x = body_popped w in
    let t = c.in_ok-ty.ty in
    let u_valid = popped_valid m v c.requires.valid in
    let w_valid = popped_valid m u u_valid in
    let upper = found_valid m u c.in_ok-upper.upper u_valid (found_one v ∙ c.in_ok-upper.ensures.found) in
    let lower = found_valid m w c.in_ok-lower.lower w_valid (found_two v ∙ c.in_ok-lower.ensures.found) in
    let pushed = selected_one c.in_ok-lower.lower c.in_ok-upper.upper t (IsValidOperand m) lower upper c.in_ok-ty.ensures.pushed in
    let whole : body_dropped c.min.result v ≡ x = sym (dropped_within 3 c.min.result v (omega (arith, c.min.ensures, c.own_operand_count-own.ensures))) ∙ (sym (dropped_next 2 v) ∙ ap body_popped (below_two v)) in
    let moved = subst (λ (y : BodyState). MatchResult c.replace.result (λ _. c.replace.new.self.body ≡ body_pushed t y) (λ _. c.replace.new.self ≡ c.args.context.stacks.now)) whole c.replace.ensures.exact in
    made_moves m _ _ c.args.context.stacks.now _ (body_pushed t x) (selects g at.In_ok-lower (Some t) c.in_ok-ty.ensures.pushed) (pushed_valid m t x pushed (popped_valid m w w_valid))
    (kept_on v x _ (kept_on v w x (kept_on v u w (popped_kept v) (popped_kept u)) (popped_kept w)) (pushed_kept t x)) c.replace.result c.replace.ensures.told moved
