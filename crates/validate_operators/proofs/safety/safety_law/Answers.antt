use Rattle.validate_operators.proofs.Listed.{safe_accepted}
use Rattle.validate_operators.proofs.safety.safety_law.Goals as goal

pub returns : goal.returns
returns g c =
    let md = g.R.WasmModuleResources.context c.args._resources.now in
    λ v ops _ a ty s. safe_accepted md v ops ty (g.met.R.WasmModuleResources.lawful c.args._resources.now) s a
