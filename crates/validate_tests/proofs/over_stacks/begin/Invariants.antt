-- The body has begun, and no operator was visited.
use Rattle.validate_stacks.specs.State.{IsStarting}
use Rattle.validate_tests.proofs.over_stacks.begin.Given as goal

abbrev pub invariant-loop-group : goal.invariant-loop-group
invariant-loop-group g l = record { starting : IsStarting (g.R.WasmModuleResources.context l.lists) l.stacks.body }
