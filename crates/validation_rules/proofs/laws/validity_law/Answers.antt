use Rattle.validation_rules.proofs.ValidBodies.{rows_keep_valid}
use Rattle.validation_rules.proofs.laws.validity_law.Goals as goal

pub returns : goal.returns
returns g c = rows_keep_valid _ (g.met.R.WasmModuleResources.lawful c.args.resources.now)
