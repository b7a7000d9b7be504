use Rattle.std.proofs.Common.{sym, ap, ◌∙◌}
use Rattle.std.specs.Option.{option_copied}
use Rattle.validate_shapes.proofs.aggregates.descriptor_at.Goals as goal

pub returns-in-Some-clause-valid : goal.returns-in-Some-clause-valid
returns-in-Some-clause-valid g c = λ u e.
    let laws = g.met.R.WasmModuleResources.lawful c.args.resources.now in
    let there = sym c.sub_type_at.ensures ∙ ap option_copied c.in-Some.is in
    ((laws.types c.args.type_index c.in-Some.sub_type.now there).descriptor u e).valid
