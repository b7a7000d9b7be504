-- The rows so far hold, and the validator is in the state before the next operator, which may be visited.
use Rattle.std.proofs.Common.{◌≡◌, Some, drop}
use Rattle.validate_stacks.specs.Pops.{IsKept}
use Rattle.validate_stacks.specs.State.{IsValidBody}
use Rattle.validate_operators.specs.Runs.{body_before}
use Rattle.validate_operators.specs.Validator.{state}
use Rattle.validate_operators.proofs.Listed.{IsOrderedBelow}
use Rattle.wasmparser_validate.proofs.func.operands.operands_before.Given as goal

abbrev pub invariant-loop-index : goal.invariant-loop-index
invariant-loop-index g l =
    let md = g.R.WasmModuleResources.context l.resources in
    record {
      run : body_before md (state l.fn.v) l.ops l.index ≡ Some (state l.v).present;
      valid : IsValidBody md (state l.v);
      kept : IsKept (state l.fn.v) (state l.v);
      ordered : IsOrderedBelow (state l.v).present.frames (drop l.index l.ops);
    }
