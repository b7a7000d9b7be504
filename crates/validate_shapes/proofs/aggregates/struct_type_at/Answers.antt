use Rattle.std.proofs.Common.{List, sym, ap, ◌∙◌, subst}
use Rattle.std.specs.List.{AllByRecursion}
use Rattle.std.specs.Option.{option_copied}
use Rattle.validate_resources.specs.Context.{Valid}
use Rattle.validate_types.specs.Types.{unpacked_fields}
use Rattle.validate_types.specs.declared.types.FieldType.{FieldType}
use Rattle.validation_rules.proofs.ValidAggregates.{struct_inner}
use Rattle.validate_stacks.specs.State.{body_context}
use Rattle.validate_shapes.proofs.aggregates.struct_type_at.Goals as goal

pub returns-clause-valid : goal.returns-clause-valid
returns-clause-valid g c =
    let md = g.R.WasmModuleResources.context c.args.context.now.resources.now in
    let laws = g.met.R.WasmModuleResources.lawful c.args.context.now.resources.now in
    let there = sym c.sub_type_at.ensures ∙ ap option_copied c.in-Some.is in
    let is_struct = sym c.struct_type_of.ensures ∙ ap option_copied c.in-Some-struct_type_of.is in
    subst (λ (fields : List FieldType). AllByRecursion (Valid md) (unpacked_fields fields))
    (struct_inner (body_context md c.args.context.now.stacks.now.body) laws _ _ is_struct)
    (laws.types c.args.type_index c.in-Some.sub_type.now there).fields
