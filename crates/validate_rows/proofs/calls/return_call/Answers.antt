use Rattle.std.proofs.Common.{rules, true, false}
use Rattle.validation_rules.specs.Calls.{return_call_row}
use Rattle.validate_stacks.proofs.Moves.{fits_now}
use Rattle.validate_shapes.proofs.Moves.{moves_barred}
use Rattle.validate_rows.proofs.TailCalls.{others_unmoved, unfit_unmoved, tail_moves}
use Rattle.validate_rows.proofs.calls.return_call.Goals as goal

pub returns-in_default : goal.returns-in_default
returns-in_default g c = moves_barred _ _ c.args.context.stacks.now (λ cx hs. return_call_row cx hs c.args.function_index) _ (search rules) (search rules)

pub returns-in_err-func_type : goal.returns-in_err-func_type
returns-in_err-func_type g c = moves_barred _ _ c.args.context.stacks.now (λ cx hs. return_call_row cx hs c.args.function_index) _ (search rules) (search rules)

pub returns-in_err-expect_same_results : goal.returns-in_err-expect_same_results
returns-in_err-expect_same_results g c =
    others_unmoved _ _ c.args.context.stacks.now c.requires.open_frame (λ cx hs. return_call_row cx hs c.args.function_index) c.in_ok-func_type.func_type.now.params c.results.result.now (search rules) _ (search rules) c.in_err-expect_same_results.ensures.other

pub returns-in_err-expect_operands : goal.returns-in_err-expect_operands
returns-in_err-expect_operands g c =
    let md = g.R.WasmModuleResources.context c.args.context.resources.now in
    let expected = c.params.result.now in
    let unfit = fits_now md expected c.args.context.stacks.now.body false c.in_err-expect_operands.ensures.unfit in
    unfit_unmoved _ _ c.args.context.stacks.now c.requires.open_frame (λ cx hs. return_call_row cx hs c.args.function_index) expected c.results.result.now (search rules) _ (search rules) unfit

pub returns : goal.returns
returns g c =
    let md = g.R.WasmModuleResources.context c.args.context.resources.now in
    let expected = c.params.result.now in
    let fit = fits_now md expected c.args.context.stacks.now.body true c.in_ok-expect_operands.ensures.fit in
    tail_moves _ _ c.args.context.stacks.now c.requires.open_frame (λ cx hs. return_call_row cx hs c.args.function_index) expected c.results.result.now (search rules) _ c.in_ok-expect_same_results.ensures.below fit c.requires.valid c.mark_unreachable.result c.mark_unreachable.ensures.told c.mark_unreachable.ensures.exact
