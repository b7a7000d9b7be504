use Rattle.std.proofs.Common.{sym, ap, ◌∙◌}
use Rattle.std.specs.Option.{option_copied}
use Rattle.validate_shapes.proofs.functions.find_func_type.Goals as goal

pub returns-clause-params : goal.returns-clause-params
returns-clause-params g c =
    let there = sym c.sub_type_at.ensures ∙ ap option_copied c.in-Some.is in
    let is_func = sym c.func_type_of.ensures ∙ ap option_copied c.in-Some-func_type_of.is in
    ((g.met.R.WasmModuleResources.lawful c.args.context.now.resources.now).types c.args.type_index c.in-Some.sub_type.now there).params c.in-Some-func_type_of.func_type.now is_func

pub returns-clause-results : goal.returns-clause-results
returns-clause-results g c =
    let there = sym c.sub_type_at.ensures ∙ ap option_copied c.in-Some.is in
    let is_func = sym c.func_type_of.ensures ∙ ap option_copied c.in-Some-func_type_of.is in
    ((g.met.R.WasmModuleResources.lawful c.args.context.now.resources.now).types c.args.type_index c.in-Some.sub_type.now there).results c.in-Some-func_type_of.func_type.now is_func
