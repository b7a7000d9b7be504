-- The module's own items behind those that are imported.
use Rattle.std.proofs.lemmas.Result.{err_from_is_err_and}
use Rattle.binary_modules.proofs.whole.read_items.Goals as goal

pub returns-clause-read : goal.returns-clause-read
returns-clause-read c = (
  c.in_ok-items.items,
  c.in_ok-items.ensures.read,
  c.in_ok-imports.ensures.counted,
  c.in_ok-read_own_items.ensures.read,
)

pub returns-in_err-items-clause-refused : goal.returns-in_err-items-clause-refused
returns-in_err-items-clause-refused c =
    let p = err_from_is_err_and c.from_residual.result c.from_residual.ensures.1 in
    rw (p.1, p.2) (λ short contents h. c.in_err-items.ensures.refused short contents.imports h.imports)

pub returns-in_err-read_own_items-clause-refused : goal.returns-in_err-read_own_items-clause-refused
returns-in_err-read_own_items-clause-refused c =
    let p = err_from_is_err_and c.from_residual-in_err-read_own_items.result c.from_residual-in_err-read_own_items.ensures.1 in
    rw (p.1, p.2) (c.in_err-read_own_items.ensures.refused)
