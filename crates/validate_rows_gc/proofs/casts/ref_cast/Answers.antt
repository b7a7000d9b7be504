use Rattle.std.proofs.Common.{rules, ◌≡◌, [], ◌∷◌, None, sym, ap, ◌∙◌}
use Rattle.validation_rules.specs.Casts.{cast_type, cast_operand, ref_cast_row}
use Rattle.validation_rules.specs.Context.{Ref}
use Rattle.validation_rules.specs.Operators.{plain_row, lookup_row}
use Rattle.validate_stacks.specs.State.{body_context}
use Rattle.validate_shapes.proofs.Moves.{moves_barred, moves_found}
use Rattle.validate_rows_gc.proofs.casts.ref_cast.Goals as goal

pub returns-in_err-ty : goal.returns-in_err-ty
returns-in_err-ty g c =
    let md = g.R.WasmModuleResources.context c.args.context.resources.now in
    let v = c.args.context.stacks.now.body in
    let none = λ (n : cast_type (body_context md v) c.args.nullable c.args.heap_type.now ≡ None). ap (λ o. (lookup_row o (λ r. plain_row (cast_operand md r ∷ []) (Ref r ∷ []))).premise) n in
    moves_barred md _ c.args.context.stacks.now (λ cx hs. ref_cast_row cx c.args.nullable c.args.heap_type.now) _ (search rules) (search (rules, none, c.in_err-ty.ensures.refused))

pub returns : goal.returns
returns g c =
    let md = g.R.WasmModuleResources.context c.args.context.resources.now in
    let v = c.args.context.stacks.now.body in
    let row = ap (λ o. lookup_row o (λ r. plain_row (cast_operand md r ∷ []) (Ref r ∷ []))) c.in_ok-ty.ensures.found ∙ ap (λ t. plain_row (t ∷ []) (Ref c.in_ok-ty.ty ∷ [])) (sym c.operand_of_cast-operand.ensures.exact) in
    moves_found md _ c.args.context.stacks.now (λ cx hs. ref_cast_row cx c.args.nullable c.args.heap_type.now) _ (λ cx hs. plain_row (c.operand_of_cast-operand.result ∷ []) (Ref c.in_ok-ty.ty ∷ [])) _ row c.one_for_one.ensures
