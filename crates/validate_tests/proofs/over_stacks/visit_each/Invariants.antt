-- No attempt is pending, and the next operator may be visited.
use Rattle.std.proofs.Common.{◌≡◌, None}
use Rattle.validate_stacks.specs.Visits.{MayVisit}
use Rattle.validate_tests.proofs.over_stacks.visit_each.Given as goal

abbrev pub invariant-loop-op : goal.invariant-loop-op
invariant-loop-op g l = record {
  idle : l.stacks.body.undone ≡ None;
  visit : MayVisit (g.R.WasmModuleResources.context l.lists) l.stacks;
}
