use Rattle.std.proofs.lemmas.Bool.{and_left, and_right}
use Rattle.std.proofs.lemmas.Result.{err_from_is_err_and}
use Rattle.validate_resources.proofs.lists.canonical.FuncTypeCanonical.canonical.Goals as goal

pub returns-in_err-params-clause-refused : goal.returns-in_err-params-clause-refused
returns-in_err-params-clause-refused c =
    let p = err_from_is_err_and c.from_residual.result c.from_residual.ensures.1 in
    rw (p.1, p.2) (λ h. let e = c.in_err-params.ensures.refused h in and_left _ _ (rw c.params.ensures at e))

pub returns-in_err-results-clause-refused : goal.returns-in_err-results-clause-refused
returns-in_err-results-clause-refused c =
    let p = err_from_is_err_and c.from_residual-in_err-results.result c.from_residual-in_err-results.ensures.1 in
    rw (p.1, p.2) (λ h. let e = c.in_err-results.ensures.refused h in and_right _ _ (rw c.results.ensures at e))
