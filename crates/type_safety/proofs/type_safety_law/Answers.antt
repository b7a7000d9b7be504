use Rattle.type_safety.proofs.Bodies.{body_safety}
use Rattle.type_safety.proofs.type_safety_law.Goals as goal

pub returns : goal.returns
returns g c = body_safety _ (g.met.R.WasmModuleResources.lawful c.args.resources.now)
