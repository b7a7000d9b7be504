use Rattle.std.proofs.Common.{rules, true, false, [], ◌∷◌, ◌++◌, Some, refl}
use Rattle.validation_rules.specs.Indirect.{return_call_operand_row}
use Rattle.validate_stacks.proofs.Moves.{fits_now, not_popped}
use Rattle.validate_shapes.proofs.Moves.{unmoved, moves_barred}
use Rattle.validate_rows.proofs.OperandCalls.{return_call_missing}
use Rattle.validate_rows.proofs.TailCalls.{others_unmoved, unfit_unmoved, tail_moves}
use Rattle.validate_rows.proofs.indirect.return_call_operand.Goals as goal

pub returns-in_err-expect_operands : goal.returns-in_err-expect_operands
returns-in_err-expect_operands g c =
    let md = g.R.WasmModuleResources.context c.args.context.resources.now in
    let v = c.args.context.stacks.now.body in
    let names = c.args.names ∷ [] in
    let none = return_call_missing md v c.requires.visit.open_frame c.args.names c.args.type_index (not_popped md names v c.requires.visit.open_frame (fits_now md names v false c.in_err-expect_operands.ensures.unfit)) in
    unmoved _ _ _ _ _ _ (search rules) refl (search (rules, none))

pub returns-in_err-func_type : goal.returns-in_err-func_type
returns-in_err-func_type g c = moves_barred _ _ c.args.context.stacks.now (λ cx hs. return_call_operand_row cx hs (Some c.args.names) c.args.type_index) _ (search rules) (search rules)

pub returns-in_err-expect_same_results : goal.returns-in_err-expect_same_results
returns-in_err-expect_same_results g c =
    let expected = c.in_ok-func_type.func_type.now.params ++ c.args.names ∷ [] in
    others_unmoved _ _ c.args.context.stacks.now c.requires.visit.open_frame (λ cx hs. return_call_operand_row cx hs (Some c.args.names) c.args.type_index) expected c.results.result.now (search rules) _ (search rules) c.in_err-expect_same_results.ensures.other

pub returns-in_err-expect_with_top : goal.returns-in_err-expect_with_top
returns-in_err-expect_with_top g c =
    let expected = c.params.result.now ++ c.args.names ∷ [] in
    let unfit = fits_now (g.R.WasmModuleResources.context c.args.context.resources.now) expected c.args.context.stacks.now.body false c.in_err-expect_with_top.ensures.unfit in
    unfit_unmoved _ _ c.args.context.stacks.now c.requires.visit.open_frame (λ cx hs. return_call_operand_row cx hs (Some c.args.names) c.args.type_index) expected c.results.result.now (search rules) _ (search rules) unfit

pub returns : goal.returns
returns g c =
    let expected = c.params.result.now ++ c.args.names ∷ [] in
    let fit = fits_now (g.R.WasmModuleResources.context c.args.context.resources.now) expected c.args.context.stacks.now.body true c.in_ok-expect_with_top.ensures.fit in
    tail_moves _ _ c.args.context.stacks.now c.requires.visit.open_frame (λ cx hs. return_call_operand_row cx hs (Some c.args.names) c.args.type_index) expected c.results.result.now (search rules) _ c.in_ok-expect_same_results.ensures.below fit c.requires.visit.valid c.mark_unreachable.result c.mark_unreachable.ensures.told c.mark_unreachable.ensures.exact
