use Rattle.std.proofs.Common.{sym, ap, subst}
use Rattle.validate_stacks.specs.Attempts.{body_of}
use Rattle.validate_stacks.specs.State.{IsUndoneValid}
use Rattle.validate_stacks.proofs.Phases.{begun_valid}
use Rattle.validate_operators.proofs.validator.OperatorValidator.begin_try_op.Goals as goal

pub returns-clause-valid : goal.returns-clause-valid
returns-clause-valid c = λ md h. subst (IsUndoneValid md) (ap body_of (sym c.begin_try_op.ensures)) (begun_valid md c.args.self.now.stacks h)
