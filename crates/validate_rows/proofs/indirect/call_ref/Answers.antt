use Rattle.std.proofs.Common.{rules, Some}
use Rattle.validation_rules.specs.Indirect.{call_ref_row, call_operand_row}
use Rattle.validate_shapes.proofs.Moves.{moves_barred, moves_found}
use Rattle.validate_rows.proofs.indirect.call_ref.Goals as goal

pub returns-in_err-reference : goal.returns-in_err-reference
returns-in_err-reference g c = moves_barred _ _ c.args.context.stacks.now (λ cx hs. call_ref_row cx c.args.type_index) _ (search rules) (search rules)

pub returns : goal.returns
returns g c = moves_found _ _ c.args.context.stacks.now (λ cx hs. call_ref_row cx c.args.type_index) _ (λ cx hs. call_operand_row cx (Some c.in_ok-reference.reference) c.args.type_index) _ (search rules) c.call_operand.ensures
