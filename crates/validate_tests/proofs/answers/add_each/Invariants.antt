-- No attempt is pending, the types are valid, and the lines that are left are text.
use Rattle.std.proofs.Common.{◌≡◌, None}
use Rattle.validate_stacks.specs.State.{IsValidBody}
use Rattle.wasmparser_validate.specs.Validator.{state}
use Rattle.validate_tests.proofs.answers.add_each.Given as goal
use denote.Shadow.{shadow}
use denote.Text.{Utf8}

abbrev pub invariant-loop-pair : goal.invariant-loop-pair
invariant-loop-pair g l = record {
  idle : (state l.v).undone ≡ None;
  valid : IsValidBody (g.R.WasmModuleResources.context l.lists) (state l.v);
  text : shadow (Utf8 l.left);
}
