-- The bytes begin otherwise, or those behind the magic number do.
use Rattle.std.proofs.Common.{ap, sym, ◌∙◌, ◌≡◌, ◌++◌, ◌∷◌, drop}
use Rattle.std.proofs.lemmas.Result.{err_from_is_err_and, on_err_weaker}
use Rattle.binary_modules.proofs.whole.read_header.Goals as goal

pub returns-in_err-read_expected-clause-refused : goal.returns-in_err-read_expected-clause-refused
returns-in_err-read_expected-clause-refused c =
    let p = err_from_is_err_and c.from_residual.result c.from_residual.ensures.1 in
    rw p.1 (λ rest e.
    c.in_err-read_expected.ensures.refused (1 ∷ 0 ∷ 0 ∷ 0 ∷ rest)
    (e ∙ sym (ap (λ l. l ++ (1 ∷ 0 ∷ 0 ∷ 0 ∷ rest)) c.as_slice.ensures)))

pub returns-clause-refused : goal.returns-clause-refused
returns-clause-refused c =
    let left = c.read_expected.new.reader.left in
    on_err_weaker c.read_expected-2.result (λ others rest e.
    let first : c.args.reader.now.left ≡ 0 ∷ 97 ∷ 115 ∷ 109 ∷ left =
    c.in_ok-read_expected.ensures.read ∙ ap (λ l. l ++ left) c.as_slice.ensures in
    let behind : left ≡ 1 ∷ 0 ∷ 0 ∷ 0 ∷ rest = sym (ap (drop 4) first) ∙ ap (drop 4) e in
    others rest (behind ∙ sym (ap (λ l. l ++ rest) c.as_slice-2.ensures))) c.read_expected-2.ensures.refused
