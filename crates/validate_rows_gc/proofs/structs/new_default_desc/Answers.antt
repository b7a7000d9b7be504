use Rattle.std.proofs.Common.{rules, [], ◌∷◌, refl}
use Rattle.validation_rules.specs.Operators.{plain_row_if}
use Rattle.validation_rules.specs.Structs.{have_defaults, struct_new_default_desc_row}
use Rattle.validate_shapes.proofs.Moves.{unmoved, moves_found}
use Rattle.validate_rows_gc.specs.Descriptors.{defaults_row}
use Rattle.validate_rows_gc.proofs.DescriptorSteps.{made_missing, described_as}
use Rattle.validate_rows_gc.proofs.structs.new_default_desc.Goals as goal

pub returns-in_err-descriptor : goal.returns-in_err-descriptor
returns-in_err-descriptor g c =
    let md = g.R.WasmModuleResources.context c.args.context.resources.now in
    let none = made_missing md c.args.context.stacks.now.body c.requires.open_frame (have_defaults) (λ fields. []) c.args.index c.in_err-descriptor.ensures.refused in
    unmoved _ _ _ _ _ _ (search rules) refl (search (rules, none))

pub returns : goal.returns
returns g c =
    let md = g.R.WasmModuleResources.context c.args.context.resources.now in
    let d = c.in_ok-descriptor.descriptor in
    let found = described_as md c.args.context.stacks.now.body c.args.index d c.in_ok-descriptor.ensures.described (λ d fields t. plain_row_if (have_defaults fields) (d ∷ []) (t ∷ [])) in
    moves_found md _ c.args.context.stacks.now (λ cx hs. struct_new_default_desc_row cx c.args.index) _ (λ cx hs. defaults_row cx c.args.index d) _ found (c.exchange_found.ensures _ c.new_default_desc_types-found.ensures)
