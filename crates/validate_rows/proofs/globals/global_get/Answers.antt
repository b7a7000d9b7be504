use Rattle.std.proofs.Common.{rules, [], ◌∷◌}
use Rattle.validation_rules.specs.Calls.{global_get_row}
use Rattle.validation_rules.specs.Operators.{plain_row}
use Rattle.validate_shapes.proofs.Moves.{moves_barred, moves_found}
use Rattle.validate_rows.proofs.globals.global_get.Goals as goal

pub returns-in_err-global : goal.returns-in_err-global
returns-in_err-global g c = moves_barred _ _ c.args.context.stacks.now (λ cx hs. global_get_row cx c.args.global_index) _ (search rules) (search rules)

pub returns : goal.returns
returns g c = moves_found _ _ c.args.context.stacks.now (λ cx hs. global_get_row cx c.args.global_index) _ (λ cx hs. plain_row [] (c.in_ok-global.global.content_type ∷ [])) _ (search rules) c.constant.ensures
