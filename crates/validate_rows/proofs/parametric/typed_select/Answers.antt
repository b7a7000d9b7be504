use Rattle.std.proofs.Common.{rules, [], ◌∷◌}
use Rattle.validation_rules.specs.Context.{I32}
use Rattle.validation_rules.specs.Operators.{plain_row, typed_select_row}
use Rattle.validate_shapes.proofs.Moves.{moves_barred, moves_found}
use Rattle.validate_rows.proofs.parametric.typed_select.Goals as goal

pub returns-in_err-checked : goal.returns-in_err-checked
returns-in_err-checked g c = moves_barred _ _ c.args.context.stacks.now (λ cx hs. typed_select_row cx c.args.ty.now) _ (search rules) (search rules)

pub returns : goal.returns
returns g c =
    moves_found _ _ c.args.context.stacks.now (λ cx hs. typed_select_row cx c.args.ty.now) _ (λ cx hs. let u = c.in_ok-checked.checked in plain_row (u ∷ u ∷ I32 ∷ []) (u ∷ [])) _ (search rules) c.plain.ensures
