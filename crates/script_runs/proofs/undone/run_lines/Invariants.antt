-- No attempt is pending, and the types are valid.
use Rattle.std.proofs.Common.{◌≡◌, None}
use Rattle.validate_stacks.specs.State.{IsValidBody}
use Rattle.validate_operators.specs.Validator.{state}
use Rattle.script_runs.proofs.undone.run_lines.Given as goal

abbrev pub invariant-loop-line : goal.invariant-loop-line
invariant-loop-line g l = record {
  valid : IsValidBody (g.R.WasmModuleResources.context l.resources) (state l.v);
  idle : (state l.v).undone ≡ None;
}
