use Rattle.std.proofs.Common.{rules}
use Rattle.validation_rules.specs.Exceptions.{throw_row}
use Rattle.validation_rules.specs.Operators.{ending_row}
use Rattle.validate_shapes.proofs.Moves.{moves_barred, moves_found}
use Rattle.validate_rows_gc.proofs.throws.throw.Goals as goal

pub returns-in_err-types-clause-row : goal.returns-in_err-types-clause-row
returns-in_err-types-clause-row g c = moves_barred _ _ c.args.context.stacks.now (λ cx hs. throw_row cx c.args.tag_index) _ (search rules) (search rules)

pub returns-clause-row : goal.returns-clause-row
returns-clause-row g c = moves_found _ _ c.args.context.stacks.now (λ cx hs. throw_row cx c.args.tag_index) _ (λ cx hs. ending_row c.in_ok-types.types.now) _ (search rules) c.ending.ensures.row
