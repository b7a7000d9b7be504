-- No attempt is pending, and an operator may be visited.
use Rattle.std.proofs.Common.{◌≡◌, None}
use Rattle.validate_stacks.specs.Visits.{MayVisit}
use Rattle.validate_tests.proofs.over_stacks.expect_attempts.Given as goal

abbrev pub invariant-loop-attempt : goal.invariant-loop-attempt
invariant-loop-attempt g l = record {
  idle : l.stacks.body.undone ≡ None;
  visit : MayVisit (g.R.WasmModuleResources.context l.lists) l.stacks;
}
