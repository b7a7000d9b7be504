use Rattle.std.proofs.Common.{◌≡◌, None}
use Rattle.wasmparser_validate.specs.Validator.{state}
use Rattle.wasmparser_validate.specs.State.{IsValidBody}
use Rattle.example_module.proofs.print_operators.Given as goal

abbrev pub invariant-loop : goal.invariant-loop
invariant-loop g l =
    record {
      valid : IsValidBody (g.R.WasmModuleResources.context l.resources) (state l.v);
      idle : (state l.v).undone ≡ None;
    }
