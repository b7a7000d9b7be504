use Rattle.std.proofs.Common.{◌≡◌, None}
use Rattle.validate_operators.specs.Validator.{state}
use Rattle.validate_stacks.specs.State.{IsValidBody}
use Rattle.script_runs.proofs.timing.visit_each.Given as goal

abbrev pub invariant-loop-pair : goal.invariant-loop-pair
invariant-loop-pair g l =
    record {
      valid : IsValidBody (g.R.WasmModuleResources.context l.resources) (state l.validator);
      idle : (state l.validator).undone ≡ None;
    }
