-- The two bytes are a `ref.null`.
use Rattle.std.proofs.Common.{rules, arith, ap, sym, ◌∙◌, ◌≡◌, ◌≤◌, ◌∷◌, drop}
use Rattle.binary_operators.specs.Unread.{Unread}
use Rattle.binary_modules.proofs.Pieces.{null_piece}
use Rattle.binary_modules.proofs.expressions.read_null.Goals as goal

pub returns-clause-null : goal.returns-clause-null
returns-clause-null c = λ _ types.
    let bytes = c.args.reader.now.left in
    let code : c.in-Some.code ≡ 0xd0 = search rules in
    let low : 0x68 ≤ c.in-Some.ty = omega (arith, c.if-ty-lt104.false) in
    let high : c.in-Some.ty ≤ 0x75 = omega (arith, c.if-ty-gt117.false) in
    let begins : bytes ≡ c.in-Some.code ∷ c.in-Some.ty ∷ drop 2 bytes = search rules in
    let left : c.behind.result.left ≡ drop 2 bytes = ap (λ (r : Unread). r.left) c.behind.ensures in
    null_piece types bytes c.behind.result.left c.in-Some.ty low high
    (begins ∙ ap (λ n. n ∷ c.in-Some.ty ∷ drop 2 bytes) code ∙ ap (λ l. 0xd0 ∷ c.in-Some.ty ∷ l) (sym left))
