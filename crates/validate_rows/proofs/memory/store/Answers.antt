use Rattle.std.proofs.Common.{rules, [], ◌∷◌}
use Rattle.validation_rules.specs.Access.{store_row}
use Rattle.validation_rules.specs.Operators.{plain_row}
use Rattle.validate_shapes.proofs.Moves.{moves_barred, moves_found}
use Rattle.validate_rows.proofs.memory.store.Goals as goal

pub returns-in_err-index_type-in-Memory : goal.returns-in_err-index_type-in-Memory
returns-in_err-index_type-in-Memory g c = moves_barred _ _ c.args.context.stacks.now (λ cx hs. store_row cx c.args.memarg.now c.args.ty) _ (search rules) (search rules)

pub returns-in_ok-index_type-in-Memory : goal.returns-in_ok-index_type-in-Memory
returns-in_ok-index_type-in-Memory g c = moves_found _ _ c.args.context.stacks.now (λ cx hs. store_row cx c.args.memarg.now c.args.ty) _ (λ cx hs. plain_row (c.in_ok-index_type-in-Memory.index_type ∷ c.args.ty ∷ []) ([])) _ (search rules) c.pop_both.ensures
