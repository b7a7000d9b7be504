use Rattle.validate_operators.proofs.Listed.{visit_valid, visit_kept}
use Rattle.validate_operators.proofs.validator.OperatorValidator.check_slowly.Goals as goal

pub returns-in-Ok-clause-valid : goal.returns-in-Ok-clause-valid
returns-in-Ok-clause-valid g c = visit_valid _ _ _ _ _ _ c.in-Ok.ensures.row

pub returns-in-Ok-clause-kept : goal.returns-in-Ok-clause-kept
returns-in-Ok-clause-kept g c = visit_kept _ _ _ _ _ _ c.in-Ok.ensures.row

pub returns-in-Err-clause-valid : goal.returns-in-Err-clause-valid
returns-in-Err-clause-valid g c = visit_valid _ _ _ _ _ _ c.in-Err.ensures.row

pub returns-in-Err-clause-kept : goal.returns-in-Err-clause-kept
returns-in-Err-clause-kept g c = visit_kept _ _ _ _ _ _ c.in-Err.ensures.row
