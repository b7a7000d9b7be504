-- The validator is that of the module.
use Rattle.std.proofs.Common.{subst}
use Rattle.validate_operators.specs.Begin.{CannotStart, IsBodyStart}
use Rattle.validate_operators.specs.Validator.{state}
use Rattle.validate_stacks.specs.State.{IsStarting}
use Rattle.c_api.specs.Modules.{context_in, features_in}
use Rattle.c_api.proofs.Begun.{kind_begun}
use Rattle.c_api.proofs.function.FunctionInProgress.begin.Goals as goal

pub of_start-requires : goal.of_start-requires
of_start-requires c = subst (λ h. IsStarting (context_in h) (state c.in-Ok.validator)) c.deref.ensures c.in-Ok.ensures.starting

pub returns-in-Ok-clause-begun : goal.returns-in-Ok-clause-begun
returns-in-Ok-clause-begun c =
    let v = state c.in-Ok.validator in
    kind_begun c.args.module c.args.kind v c.of_start.result c.of_start.ensures
    (subst (λ h. IsBodyStart (context_in h) (features_in h) c.args.kind v) c.deref.ensures c.in-Ok.ensures.made)

pub returns-in-Err-clause-cannot : goal.returns-in-Err-clause-cannot
returns-in-Err-clause-cannot c = λ memory.
    subst (λ h. CannotStart (context_in h) (features_in h) c.args.kind) c.deref.ensures (c.in-Err.ensures.cannot memory)
