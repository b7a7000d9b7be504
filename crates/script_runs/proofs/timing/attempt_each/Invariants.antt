use Rattle.std.proofs.Common.{◌≡◌, None}
use Rattle.validate_operators.specs.Validator.{state}
use Rattle.validate_stacks.specs.State.{IsValidBody}
use Rattle.script_runs.proofs.timing.attempt_each.Given as goal

abbrev pub invariant-loop-pair : goal.invariant-loop-pair
invariant-loop-pair g l =
    record {
      next : (goal.iterator-loop-pair g).can_next l.pair-iterator;
      finite : (goal.iterator-loop-pair g).is_finite l.pair-iterator;
      valid : IsValidBody (g.R.WasmModuleResources.context l.resources) (state l.validator);
      idle : (state l.validator).undone ≡ None;
    }
