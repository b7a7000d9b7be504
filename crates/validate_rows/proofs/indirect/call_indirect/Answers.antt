use Rattle.std.proofs.Common.{rules, Some}
use Rattle.validation_rules.specs.Indirect.{call_indirect_row, call_operand_row}
use Rattle.validate_shapes.proofs.Moves.{moves_barred, moves_found}
use Rattle.validate_rows.proofs.indirect.call_indirect.Goals as goal

pub returns-in_err-place : goal.returns-in_err-place
returns-in_err-place g c = moves_barred _ _ c.args.context.stacks.now (λ cx hs. call_indirect_row cx c.args.type_index c.args.table_index) _ (search rules) (search rules)

pub returns : goal.returns
returns g c = moves_found _ _ c.args.context.stacks.now (λ cx hs. call_indirect_row cx c.args.type_index c.args.table_index) _ (λ cx hs. call_operand_row cx (Some c.in_ok-place.place) c.args.type_index) _ (search rules) c.call_operand.ensures
