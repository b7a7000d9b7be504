use Rattle.std.proofs.Common.{sym, ap, ◌∙◌}
use Rattle.std.specs.Option.{option_copied}
use Rattle.validate_rows_gc.proofs.lookups.func_type_of_cont_type.Goals as goal

pub returns-clause-params : goal.returns-clause-params
returns-clause-params g c =
    let is_func = sym c.func_type_of.ensures ∙ ap option_copied c.in-Some-func_type_of.is in
    ((g.met.R.WasmModuleResources.lawful c.args.resources.now).types_of_ids c.in-Some.id c.sub_type_at_id.result.now c.sub_type_at_id.ensures).params c.in-Some-func_type_of.func_type.now is_func

pub returns-clause-results : goal.returns-clause-results
returns-clause-results g c =
    let is_func = sym c.func_type_of.ensures ∙ ap option_copied c.in-Some-func_type_of.is in
    ((g.met.R.WasmModuleResources.lawful c.args.resources.now).types_of_ids c.in-Some.id c.sub_type_at_id.result.now c.sub_type_at_id.ensures).results c.in-Some-func_type_of.func_type.now is_func
