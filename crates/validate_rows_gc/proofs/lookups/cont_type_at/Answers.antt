use Rattle.std.proofs.Common.{sym, ap, ◌∙◌}
use Rattle.std.specs.Option.{option_copied}
use Rattle.validate_rows_gc.proofs.lookups.cont_type_at.Goals as goal

pub returns-clause-continuation : goal.returns-clause-continuation
returns-clause-continuation g c =
    let there = sym c.sub_type_at.ensures ∙ ap option_copied c.in-Some.is in
    let is = sym c.continuation_of.ensures ∙ c.in-Some-continuation_of.is in
    ((g.met.R.WasmModuleResources.lawful c.args.context.now.resources.now).types c.args.type_index c.in-Some.sub_type.now there).continuation c.in-Some-continuation_of.index is
