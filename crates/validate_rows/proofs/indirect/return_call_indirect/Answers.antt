use Rattle.std.proofs.Common.{rules, Some}
use Rattle.validation_rules.specs.Indirect.{return_call_indirect_row, return_call_operand_row}
use Rattle.validate_shapes.proofs.Moves.{moves_barred, moves_found}
use Rattle.validate_rows.proofs.indirect.return_call_indirect.Goals as goal

pub returns-in_err-place : goal.returns-in_err-place
returns-in_err-place g c = moves_barred _ _ c.args.context.stacks.now (λ cx hs. return_call_indirect_row cx hs c.args.type_index c.args.table_index) _ (search rules) (search rules)

pub returns : goal.returns
returns g c = moves_found _ _ c.args.context.stacks.now (λ cx hs. return_call_indirect_row cx hs c.args.type_index c.args.table_index) _ (λ cx hs. return_call_operand_row cx hs (Some c.in_ok-place.place) c.args.type_index) _ (search rules) c.return_call_operand.ensures
