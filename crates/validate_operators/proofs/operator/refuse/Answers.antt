use Rattle.validate_operators.proofs.operator.refuse.Goals as goal

pub returns-in-Ok-clause-valid : goal.returns-in-Ok-clause-valid
returns-in-Ok-clause-valid g c = c.refuse.ensures.valid (g.R.WasmModuleResources.context c.args.context.resources.now) c.end_part.ensures.valid
