use Rattle.std.proofs.lemmas.Result.{err_from_is_err_and}
use Rattle.validate_resources.proofs.lists.canonical.StructTypeCanonical.canonical.Goals as goal

pub returns-in_err-fields-clause-refused : goal.returns-in_err-fields-clause-refused
returns-in_err-fields-clause-refused c =
    let p = err_from_is_err_and c.from_residual.result c.from_residual.ensures.1 in
    rw (p.1, p.2) (λ h. let e = c.in_err-fields.ensures.refused h in rw (c.deref.ensures.value, c.self.view_is) at e)
