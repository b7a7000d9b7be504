use Rattle.std.proofs.Common.{rules, [], ◌∷◌}
use Rattle.validation_rules.specs.Access.{load_row}
use Rattle.validation_rules.specs.Context.{I32}
use Rattle.validation_rules.specs.Operators.{plain_row}
use Rattle.validate_shapes.proofs.Moves.{moves_barred, moves_found}
use Rattle.validate_rows.proofs.memory.load_from_array.Goals as goal

pub returns-in_err-array : goal.returns-in_err-array
returns-in_err-array g c = moves_barred _ _ c.args.context.stacks.now (λ cx hs. load_row cx c.args.memarg c.args.ty) _ (search rules) (search rules)

pub returns : goal.returns
returns g c = moves_found _ _ c.args.context.stacks.now (λ cx hs. load_row cx c.args.memarg c.args.ty) _ (λ cx hs. plain_row (c.in_ok-array.array ∷ I32 ∷ []) (c.args.ty ∷ [])) _ (search rules) c.plain.ensures
