use Rattle.std.proofs.Common.{rules}
use Rattle.validation_rules.specs.Calls.{call_row}
use Rattle.validation_rules.specs.Operators.{plain_row}
use Rattle.validate_shapes.proofs.Moves.{moves_barred, moves_found}
use Rattle.validate_rows.proofs.calls.call.Goals as goal

pub returns-in_err-func_type : goal.returns-in_err-func_type
returns-in_err-func_type g c = moves_barred _ _ c.args.context.stacks.now (λ cx hs. call_row cx c.args.function_index) _ (search rules) (search rules)

pub returns : goal.returns
returns g c = moves_found _ _ c.args.context.stacks.now (λ cx hs. call_row cx c.args.function_index) _ (λ cx hs. plain_row c.params.result.now c.results.result.now) _ (search rules) c.plain.ensures
