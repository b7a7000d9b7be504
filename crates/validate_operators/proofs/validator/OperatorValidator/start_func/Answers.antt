use Rattle.std.proofs.Common.{sym, ap, ◌∙◌}
use Rattle.std.specs.Option.{option_copied}
use Rattle.validate_operators.proofs.Params.{starting_func}
use Rattle.validate_operators.proofs.validator.OperatorValidator.start_func.Goals as goal

pub returns-clause-starting : goal.returns-clause-starting
returns-clause-starting g c =
    let md = g.R.WasmModuleResources.context c.args.resources.now in
    starting_func md c.args.features.now c.args.ty c.in-Some.sub_type.now c.in-Some-func_type_of.func_type.now c.start.result c.start.new.stacks.body (g.met.R.WasmModuleResources.lawful c.args.resources.now) (sym c.sub_type_at.ensures ∙ ap option_copied c.in-Some.is) (sym c.func_type_of.ensures ∙ ap option_copied c.in-Some-func_type_of.is) c.start.ensures.made
