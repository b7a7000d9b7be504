-- Some operators were read and accepted, none was refused, and the validator is in the state behind them, where a frame is
-- open. Each takes a byte at least.
use Rattle.std.proofs.Common.{◌≡◌, None, length}
use Rattle.validate_operators.specs.Validator.{state}
use Rattle.module_check.specs.Constant.{may_stand}
use Rattle.module_check.proofs.Behind.{IsOpenBehind}
use Rattle.module_check.proofs.operators.check_function_operators.Given as goal

abbrev pub decreases-loop-resources : goal.decreases-loop-resources
decreases-loop-resources g l = length l.reader.left

abbrev pub invariant-loop-resources : goal.invariant-loop-resources
invariant-loop-resources g l =
    record {
      so_far : IsOpenBehind (g.R.WasmModuleResources.context l.body.context.now.resources.now) l.body.context.now.types (may_stand None) (state l.fn.v) (state l.v) l.code.left l.reader.left;
      untold : l.refusal ≡ None;
    }
