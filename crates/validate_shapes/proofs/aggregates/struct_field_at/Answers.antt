use Rattle.std.proofs.Common.{sym, ◌∙◌}
use Rattle.validation_rules.proofs.ValidAggregates.{field_in}
use Rattle.validate_stacks.specs.State.{body_context}
use Rattle.validate_shapes.proofs.aggregates.struct_field_at.Goals as goal

pub returns-in-Some-clause-valid : goal.returns-in-Some-clause-valid
returns-in-Some-clause-valid g c =
    let md = g.R.WasmModuleResources.context c.args.context.now.resources.now in
    let laws = g.met.R.WasmModuleResources.lawful c.args.context.now.resources.now in
    field_in (body_context md c.args.context.now.stacks.now.body) laws c.in_ok-struct_type.struct_type.now c.args.index.field_index c.in-Some.field
    c.in_ok-struct_type.ensures.valid (sym c.field_of.ensures ∙ c.in-Some.is)
