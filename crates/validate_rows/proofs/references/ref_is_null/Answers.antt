use Rattle.std.proofs.Common.{rules, ◌≡◌, MatchResult, arith, refl, sym, ap, ◌∙◌, subst}
use Rattle.std.specs.Option.{option_map}
use Rattle.validation_rules.specs.Context.{I32}
use Rattle.validation_rules.specs.Fits.{MaybeType, Known}
use Rattle.validate_stacks.specs.AtOnce.{body_dropped}
use Rattle.validate_stacks.specs.State.{BodyState}
use Rattle.validate_stacks.specs.Steps.{body_popped, body_pushed}
use Rattle.validate_stacks.proofs.AtOnce.{dropped_next, dropped_none, dropped_within}
use Rattle.validate_stacks.proofs.Validity.{kept_on, popped_valid, popped_kept, pushed_valid, pushed_kept}
use Rattle.validate_shapes.proofs.Moves.{unmoved, made_moves}
use Rattle.validate_shapes.proofs.ReferenceSteps.{null_is}
use Rattle.validate_rows.proofs.references.ref_is_null.Goals as goal

pub returns-in_err-find_reference : goal.returns-in_err-find_reference
returns-in_err-find_reference g c =
    let md = g.R.WasmModuleResources.context c.args.context.resources.now in
    let v = c.args.context.stacks.now.body in
    let none = null_is md v c.requires.open_frame ∙ ap (option_map (λ (y : MaybeType). body_pushed (Known I32) (body_popped v))) c.in_err-find_reference.ensures.refused in
    unmoved _ _ _ _ _ _ (search rules) refl (search (rules, none))

pub returns : goal.returns
returns g c =
    let md = g.R.WasmModuleResources.context c.args.context.resources.now in
    let v = c.args.context.stacks.now.body in
    let u = body_popped v in
    let step = null_is md v c.requires.open_frame ∙ ap (option_map (λ (y : MaybeType). body_pushed (Known I32) u)) c.in_ok-find_reference.ensures.pushed in
    let whole : body_dropped c.min.result v ≡ u = sym (dropped_within 1 c.min.result v (omega (arith, c.min.ensures, c.own_operand_count-own.ensures))) ∙ (sym (dropped_next 0 v) ∙ ap body_popped (dropped_none v)) in
    let moved = subst (λ (x : BodyState). MatchResult c.replace.result (λ _. c.replace.new.self.body ≡ body_pushed (Known I32) x) (λ _. c.replace.new.self ≡ c.args.context.stacks.now)) whole c.replace.ensures.exact in
    made_moves md _ _ c.args.context.stacks.now _ (body_pushed (Known I32) u) step (pushed_valid md (Known I32) u refl (popped_valid md v c.requires.valid)) (kept_on v u _ (popped_kept v) (pushed_kept (Known I32) u)) c.replace.result c.replace.ensures.told moved
