use Rattle.wasmparser_validate.specs.Validator.{state}
use Rattle.validate_operators.proofs.Listed.{visit_valid, visit_kept}
use Rattle.validate_tests.proofs.visits.visit_by.Goals as goal

pub returns-clause-valid : goal.returns-clause-valid
returns-clause-valid g c = visit_valid _ _ _ (state c.args.v.now) (state c.visit_by_row.new.v) _ c.visit_by_row.ensures

pub returns-clause-kept : goal.returns-clause-kept
returns-clause-kept g c = visit_kept _ _ _ (state c.args.v.now) (state c.visit_by_row.new.v) _ c.visit_by_row.ensures
