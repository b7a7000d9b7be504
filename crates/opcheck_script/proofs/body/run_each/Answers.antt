use Rattle.std.proofs.Common.{◌≡◌, true, Ok, subst}
use Rattle.wasmparser_validate.specs.Functions.{FunctionState}
use Rattle.validate_operators.specs.Runs.{IsSafe}
use Rattle.opcheck_script.specs.Attempts.{accepted_of}
use Rattle.opcheck_script.proofs.body.run_each.Goals as goal

pub returns-clause-safe : goal.returns-clause-safe
returns-clause-safe g c =
    let outcome = c.answer_each-outcome.result in
    let accepted = accepted_of c.args.ops.now c.answer_each-outcome.new.answers.items in
    subst (λ (f : FunctionState g.row.R.Denot). outcome ≡ Ok true → IsSafe (g.R.WasmModuleResources.context f.resources) f.starting accepted)
    c.new-function.ensures c.answer_each-outcome.ensures.safe
