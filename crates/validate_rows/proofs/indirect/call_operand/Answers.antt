use Rattle.std.proofs.Common.{rules, false, refl, [], ◌∷◌, ◌++◌, Some}
use Rattle.validation_rules.specs.Indirect.{call_operand_row}
use Rattle.validation_rules.specs.Operators.{plain_row, row_operator}
use Rattle.validate_stacks.proofs.Moves.{fits_now, not_popped}
use Rattle.validate_shapes.proofs.Moves.{unmoved, exchange_moves, moves_barred, moves_found, plain_is}
use Rattle.validate_rows.proofs.OperandCalls.{call_missing}
use Rattle.validate_rows.proofs.indirect.call_operand.Goals as goal

pub returns-in_err-expect_operands : goal.returns-in_err-expect_operands
returns-in_err-expect_operands g c =
    let md = g.R.WasmModuleResources.context c.args.context.resources.now in
    let v = c.args.context.stacks.now.body in
    let names = c.args.names ∷ [] in
    let none = call_missing md v c.requires.visit.open_frame c.args.names c.args.type_index (not_popped md names v c.requires.visit.open_frame (fits_now md names v false c.in_err-expect_operands.ensures.unfit)) in
    unmoved _ _ _ _ _ _ (search rules) refl (search (rules, none))

pub returns-in_err-func_type : goal.returns-in_err-func_type
returns-in_err-func_type g c = moves_barred _ _ c.args.context.stacks.now (λ cx hs. call_operand_row cx (Some c.args.names) c.args.type_index) _ (search rules) (search rules)

pub returns : goal.returns
returns g c =
    let md = g.R.WasmModuleResources.context c.args.context.resources.now in
    let expected = c.params.result.now ++ c.args.names ∷ [] in
    let pushed = c.results.result.now in
    let moved = exchange_moves md _ (λ cx. row_operator (plain_row expected pushed)) c.args.context.stacks.now _ expected pushed (plain_is md c.args.context.stacks.now.body expected pushed c.requires.visit.open_frame) (search rules) c.requires.visit.valid _ c.exchange_with_top.ensures in
    moves_found _ _ c.args.context.stacks.now (λ cx hs. call_operand_row cx (Some c.args.names) c.args.type_index) _ (λ cx hs. plain_row expected pushed) _ (search rules) moved
