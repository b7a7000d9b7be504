-- What was read are these bytes, or others.
use Rattle.std.proofs.Common.{ap, arith, sym, ◌∙◌, ◌≡◌, ◌++◌, take, drop, length, length-append, take-append-drop}
use Rattle.std.proofs.Math.Seq.{take-append_seam}
use Rattle.std.proofs.lemmas.Result.{err_from_is_err_and}
use borrow.Author.Tests.{clash}
use Rattle.std.proofs.lemmas.Slice.Eq.{bytes_eq-Decides}
use Rattle.binary_modules.proofs.whole.read_expected.Goals as goal

pub returns-then-eq-clause-read : goal.returns-then-eq-clause-read
returns-then-eq-clause-read c =
    let bytes = c.args.reader.now.left in
    let count = length c.args.expected.now in
    let e = c.in_ok-read_bytes.ensures in
    let same : c.in_ok-read_bytes.field-0.now ≡ c.args.expected.now =
    (bytes_eq-Decides c.in_ok-read_bytes.field-0.now c.args.expected.now).0 (sym c.eq.ensures ∙ c.if-eq.true) in
    sym (take-append-drop count bytes)
    ∙ ap (λ l. l ++ drop count bytes) (sym e.read ∙ same)
    ∙ ap (λ l. c.args.expected.now ++ l) (sym e.rest)

pub returns-in_err-read_bytes-clause-refused : goal.returns-in_err-read_bytes-clause-refused
returns-in_err-read_bytes-clause-refused c =
    let p = err_from_is_err_and c.from_residual.result c.from_residual.ensures.1 in
    let fewer = c.in_err-read_bytes.ensures.ended in
    rw p.1 (λ rest e.
    let l = ap length e in
    let k = length-append c.args.expected.now rest in
    absurd (omega (arith, l, k, fewer)))

pub returns-clause-refused : goal.returns-clause-refused
returns-clause-refused c = λ rest e.
    let expected = c.args.expected.now in
    let same : c.in_ok-read_bytes.field-0.now ≡ expected =
    c.in_ok-read_bytes.ensures.read ∙ ap (take (length expected)) e ∙ take-append_seam expected rest in
    clash (sym c.if-eq.false ∙ c.eq.ensures ∙ (bytes_eq-Decides c.in_ok-read_bytes.field-0.now expected).1 same)
