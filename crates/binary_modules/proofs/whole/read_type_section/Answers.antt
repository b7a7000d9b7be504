-- There are no such types, or others behind them.
use Rattle.std.proofs.Common.{List, ℕ, [], subst, sym}
use Rattle.std.proofs.lemmas.Result.{err_from_is_err_and}
use Rattle.binary_modules.specs.GroupsRead.{AreTypes}
use Rattle.binary_modules.proofs.NoModule.{all_of_types}
use Rattle.binary_modules.proofs.whole.read_type_section.Goals as goal

pub returns-in_err-section-clause-refused : goal.returns-in_err-section-clause-refused
returns-in_err-section-clause-refused c =
    let p = err_from_is_err_and c.from_residual.result c.from_residual.ensures.1 in
    rw (p.1, p.2) (λ short types canonical written h.
    c.in_err-section.ensures.refused short types canonical written []
    (subst (λ (l : List ℕ). AreTypes l types canonical written []) (sym c.contents_of-reader.ensures) h))

pub returns-in_err-check_end-clause-refused : goal.returns-in_err-check_end-clause-refused
returns-in_err-check_end-clause-refused c =
    let p = err_from_is_err_and c.from_residual-in_err-check_end.result c.from_residual-in_err-check_end.ensures.1 in
    rw (p.1, p.2) (λ short types canonical written h.
    c.in_err-check_end.ensures.refused
    (all_of_types c.contents_of-reader.result.left _ types _ canonical _ written c.read_types.new.reader.left c.in_ok-section.ensures.read
    (subst (λ (l : List ℕ). AreTypes l types canonical written []) (sym c.contents_of-reader.ensures) h)))
