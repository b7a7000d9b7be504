-- The names differ, or two are one.
use Rattle.std.proofs.lemmas.Bool.{and_right}
use Rattle.module_rules.proofs.validity.check_named_exports.Goals as goal

pub returns-in-Err-check_names-clause-invalid : goal.returns-in-Err-check_names-clause-invalid
returns-in-Err-check_names-clause-invalid c = λ e told. and_right _ _ (rw c.deref.ensures.value at (c.in-Err-check_names.ensures.invalid (c.invalid.ensures.invalid e told)))
