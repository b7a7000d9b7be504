use Rattle.type_safety.proofs.Progress.{body_progress}
use Rattle.type_safety.proofs.progress_law.Goals as goal

pub returns : goal.returns
returns g c = body_progress _ (g.met.R.WasmModuleResources.lawful c.args.resources.now)
