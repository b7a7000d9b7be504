use Rattle.std.proofs.Common.{sym, ap, subst}
use Rattle.validate_stacks.specs.Attempts.{body_of}
use Rattle.validate_stacks.specs.State.{IsValidBody}
use Rattle.validate_stacks.proofs.Phases.{rolled_valid}
use Rattle.validate_operators.proofs.validator.OperatorValidator.rollback.Goals as goal

pub returns-clause-valid : goal.returns-clause-valid
returns-clause-valid c = λ md h. subst (IsValidBody md) (ap body_of (sym c.rollback.ensures)) (rolled_valid md c.args.self.now.stacks c.requires h)
