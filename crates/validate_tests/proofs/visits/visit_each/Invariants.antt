-- No attempt is pending, and the next operator may be visited.
use Rattle.std.proofs.Common.{◌≡◌, None}
use Rattle.validate_stacks.specs.Visits.{MayVisit}
use Rattle.wasmparser_validate.specs.Validator.{state, stacks_of}
use Rattle.validate_tests.proofs.visits.visit_each.Given as goal

abbrev pub invariant-loop-op : goal.invariant-loop-op
invariant-loop-op g l = record {
  idle : (state l.v).undone ≡ None;
  visit : MayVisit (g.R.WasmModuleResources.context l.lists) (stacks_of l.v);
}
