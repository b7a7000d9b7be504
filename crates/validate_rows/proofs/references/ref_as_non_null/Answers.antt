use Rattle.std.proofs.Common.{rules, ◌≡◌, true, [], MatchResult, arith, refl, sym, ap, ◌∙◌, subst}
use Rattle.validate_stacks.specs.AtOnce.{body_dropped}
use Rattle.validate_stacks.specs.State.{BodyState}
use Rattle.validate_stacks.specs.Steps.{body_popped, body_pushed}
use Rattle.validate_stacks.proofs.AtOnce.{dropped_next, dropped_none, dropped_within}
use Rattle.validate_stacks.proofs.Validity.{kept_on, popped_valid, popped_kept, pushed_valid, pushed_kept}
use Rattle.validate_stacks.proofs.Whole.{popped_none}
use Rattle.validate_shapes.proofs.Moves.{unmoved, made_moves}
use Rattle.validate_shapes.proofs.ReferenceSteps.{above_is, unreferenced, above_there}
use Rattle.validate_rows.proofs.Found.{reference_valid}
use Rattle.validate_rows.proofs.references.ref_as_non_null.Goals as goal

pub returns-in_err-reference : goal.returns-in_err-reference
returns-in_err-reference g c =
    let md = g.R.WasmModuleResources.context c.args.context.resources.now in
    let v = c.args.context.stacks.now.body in
    let none = above_is md v c.requires.open_frame true [] [] ∙ unreferenced md true [] v c.in_err-reference.ensures.refused in
    unmoved _ _ _ _ _ _ (search rules) refl (search (rules, none))

pub returns : goal.returns
returns g c =
    let md = g.R.WasmModuleResources.context c.args.context.resources.now in
    let v = c.args.context.stacks.now.body in
    let u = body_popped v in
    let t = c.in_ok-reference.reference in
    let step = above_is md v c.requires.open_frame true [] [] ∙ above_there md [] v u t c.in_ok-reference.ensures.pushed refl u (popped_none md u) in
    let whole : body_dropped c.min.result v ≡ u = sym (dropped_within 1 c.min.result v (omega (arith, c.min.ensures, c.own_operand_count-own.ensures))) ∙ (sym (dropped_next 0 v) ∙ ap body_popped (dropped_none v)) in
    let moved = subst (λ (x : BodyState). MatchResult c.replace.result (λ _. c.replace.new.self.body ≡ body_pushed t x) (λ _. c.replace.new.self ≡ c.args.context.stacks.now)) whole c.replace.ensures.exact in
    let valid = reference_valid md v t c.requires.valid c.in_ok-reference.ensures.pushed in
    made_moves md _ _ c.args.context.stacks.now _ (body_pushed t u) step (pushed_valid md t u valid (popped_valid md v c.requires.valid)) (kept_on v u _ (popped_kept v) (pushed_kept t u)) c.replace.result c.replace.ensures.told moved
