-- No attempt is pending, the types are valid, and the lines that are left are text.
use Rattle.std.proofs.Common.{◌≡◌, None}
use Rattle.validate_stacks.specs.State.{IsValidBody}
use Rattle.validate_tests.proofs.over_stacks.add_each.Given as goal
use denote.Shadow.{shadow}
use denote.Text.{Utf8}

abbrev pub invariant-loop-pair : goal.invariant-loop-pair
invariant-loop-pair g l = record {
  idle : l.stacks.body.undone ≡ None;
  valid : IsValidBody (g.R.WasmModuleResources.context l.lists) l.stacks.body;
  text : shadow (Utf8 l.left);
}
