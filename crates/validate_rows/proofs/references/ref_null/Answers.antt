use Rattle.std.proofs.Common.{rules, [], ◌∷◌}
use Rattle.validation_rules.specs.References.{ref_null_row}
use Rattle.validation_rules.specs.Operators.{plain_row}
use Rattle.validate_shapes.proofs.Moves.{moves_barred, moves_found}
use Rattle.validate_rows.proofs.references.ref_null.Goals as goal

pub returns-in_err-ty : goal.returns-in_err-ty
returns-in_err-ty g c = moves_barred _ _ c.args.context.stacks.now (λ cx hs. ref_null_row cx c.args.heap_type) _ (search rules) (search (rules, c.in_err-ty.ensures.refused))

pub returns : goal.returns
returns g c = moves_found _ _ c.args.context.stacks.now (λ cx hs. ref_null_row cx c.args.heap_type) _ (λ cx hs. plain_row [] (c.in_ok-ty.ty ∷ [])) _ c.in_ok-ty.ensures.found c.constant.ensures
