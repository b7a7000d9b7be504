-- The module that was read of the bytes is what was found of it; bytes that weren't read are what is told of them.
use Rattle.std.proofs.Common.{◌≡◌, ◌∙◌, sym, subst}
use Rattle.module_check.specs.Outcomes.{outcome_of_load}
use Rattle.module_check.proofs.Outcomes.{complete_unloaded, no_valid_so, so_unloaded}
use Rattle.wasmcheck.proofs.Found.{complete_checked, no_valid_checked, so_checked}
use Rattle.wasmcheck.proofs.module.check_bytes.Goals as goal

pub returns-in-Ok : goal.returns-in-Ok
returns-in-Ok g c =
    let m = c.in-Ok.module in
    let x = c.in-Ok.ensures in
    let features = c.args.options.features in
    let bytes = c.args.bytes.now in
    let found = c.check_module.ensures.found in
    let so = so_checked m features bytes x.bytes x.features c.check_module.result c.check_module.ensures.valid found in
    record {
      so = so;
      complete = complete_checked m features bytes x.bytes x.features c.check_module.result found;
      refused = no_valid_checked features bytes c.check_module.result so;
    }

pub returns-in_ok-outcome-in-Err : goal.returns-in_ok-outcome-in-Err
returns-in_ok-outcome-in-Err g c =
    let features = c.args.options.features in
    let bytes = c.args.bytes.now in
    let refusal = c.in-Err.refusal in
    let x = c.in-Err.ensures in
    let told = c.before_items.result.outcome in
    let is : told ≡ outcome_of_load refusal = c.before_items.ensures ∙ c.in_ok-outcome-in-Err.ensures in
    let so = so_unloaded features bytes told refusal is x.refused
    (λ offset e. record { offset = offset; begins = x.uncovered offset e; is_on = x.proposal offset e })
    x.malformed x.invalid x.too_large in
    record {
      so = so;
      complete = complete_unloaded features bytes told refusal is x.complete;
      refused = no_valid_so features bytes told so;
    }
