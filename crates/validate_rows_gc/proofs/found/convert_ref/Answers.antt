use Rattle.std.proofs.Common.{rules, Some, arith, refl, sym, ap, ◌∙◌}
use Rattle.validation_rules.specs.Fits.{MaybeType}
use Rattle.validation_rules.specs.Found.{converted_operand}
use Rattle.validate_stacks.specs.Steps.{body_popped, body_pushed}
use Rattle.validate_stacks.proofs.Validity.{popped_valid, popped_kept}
use Rattle.validate_shapes.proofs.Moves.{unmoved}
use Rattle.validate_rows_gc.proofs.FoundSteps.{found_none, found_some, one_dropped, replaced_moves}
use Rattle.validate_rows_gc.proofs.found.convert_ref.Goals as goal

pub returns-in_err-found : goal.returns-in_err-found
returns-in_err-found g c =
    let md = g.R.WasmModuleResources.context c.args.context.resources.now in
    let none = found_none md c.args.context.stacks.now.body c.requires.open_frame c.args.from (λ m x. converted_operand m c.args.into x) c.in_err-found.ensures.refused in
    unmoved _ _ _ _ _ _ (search rules) refl (search (rules, none))

pub returns : goal.returns
returns g c =
    let md = g.R.WasmModuleResources.context c.args.context.resources.now in
    let v = c.args.context.stacks.now.body in
    let step = found_some md v c.requires.open_frame c.args.from (λ m x. converted_operand m c.args.into x) c.in_ok-found.found c.in_ok-found.ensures.found c.in_ok-found.ensures.passed ∙ ap (λ (x : MaybeType). Some (body_pushed x (body_popped v))) (sym c.converted-made.ensures.exact) in
    let whole = one_dropped c.min.result v (omega (arith, c.min.ensures, c.own_operand_count-own.ensures)) in
    replaced_moves md _ _ c.args.context.stacks.now _ c.min.result (body_popped v) c.converted-made.result whole step c.converted-made.ensures.valid (popped_valid md v c.requires.valid) (popped_kept v) c.replace.result c.replace.ensures.told c.replace.ensures.exact
