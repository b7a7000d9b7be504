-- The check refuses only where the row doesn't hold.
use Rattle.validation_rules.specs.Operators.{operator}
use Rattle.validate_operators.specs.Validator.{state}
use Rattle.module_check.proofs.Turned.{fails}
use Rattle.module_check.proofs.operators.is_accepted_by_check.Goals as goal

pub returns-in-Err-clause-refused : goal.returns-in-Err-clause-refused
returns-in-Err-clause-refused g c = λ is memory.
    fails (g.R.WasmModuleResources.context c.args.resources.now) (λ cx. operator cx c.args.op.now) c.args.offset (state c.args.v.now) (state c.check_slowly.new.self) c.in-Err.error c.in-Err.ensures.row memory
