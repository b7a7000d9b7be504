use Rattle.type_safety.proofs.Bodies.{body_heights}
use Rattle.type_safety.proofs.heights_law.Goals as goal

pub returns : goal.returns
returns g c = body_heights _ (g.met.R.WasmModuleResources.lawful c.args.resources.now)
