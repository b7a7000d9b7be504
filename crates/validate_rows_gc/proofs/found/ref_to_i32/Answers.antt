use Rattle.std.proofs.Common.{rules, arith, refl}
use Rattle.validation_rules.specs.Context.{I32}
use Rattle.validation_rules.specs.Fits.{Known}
use Rattle.validate_stacks.specs.Steps.{body_popped}
use Rattle.validate_stacks.proofs.Validity.{popped_valid, popped_kept}
use Rattle.validate_shapes.proofs.Moves.{unmoved}
use Rattle.validate_rows_gc.proofs.FoundSteps.{found_none, found_some, one_dropped, replaced_moves}
use Rattle.validate_rows_gc.proofs.found.ref_to_i32.Goals as goal

pub returns-in_err-find_below : goal.returns-in_err-find_below
returns-in_err-find_below g c =
    let md = g.R.WasmModuleResources.context c.args.context.resources.now in
    let none = found_none md c.args.context.stacks.now.body c.requires.open_frame c.args.expected (λ m x. Known I32) c.in_err-find_below.ensures.refused in
    unmoved _ _ _ _ _ _ (search rules) refl (search (rules, none))

pub returns : goal.returns
returns g c =
    let md = g.R.WasmModuleResources.context c.args.context.resources.now in
    let v = c.args.context.stacks.now.body in
    let step = found_some md v c.requires.open_frame c.args.expected (λ m x. Known I32) _ c.in_ok-find_below.ensures.found c.in_ok-find_below.ensures.passed in
    let whole = one_dropped c.min.result v (omega (arith, c.min.ensures, c.own_operand_count-own.ensures)) in
    replaced_moves md _ _ c.args.context.stacks.now _ c.min.result (body_popped v) (Known I32) whole step refl (popped_valid md v c.requires.valid) (popped_kept v) c.replace.result c.replace.ensures.told c.replace.ensures.exact
