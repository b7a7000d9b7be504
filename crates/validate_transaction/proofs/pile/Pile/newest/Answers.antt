use Rattle.std.proofs.Common.{◌≡◌, ◌-◌, length, take, drop, reverse, ap, ◌∙◌, arith}
use Rattle.std.proofs.lemmas.List.{take_all, length-drop, length-reverse}
use Rattle.validate_transaction.specs.Piled.{Piled}
use Rattle.validate_transaction.proofs.Tops.{newest_shown}
use Rattle.validate_transaction.proofs.pile.Pile.newest.Goals as goal

pub returns : goal.returns
returns g c =
    let n = c.args.count in
    let k = c.len.result - n in
    let xs = c.deref.result.now in
    let shown : reverse xs ≡ c.args.self.now.items = ap reverse c.deref.ensures.value ∙ ap (λ (p : Piled _). p.items) c.self.view_is in
    let count = ap length shown in
    take_all (length xs - k) (drop k xs) (omega (arith, length-drop k xs))
    ∙ newest_shown xs n k (omega (arith, c.requires, count, length-reverse xs)) (omega (arith, c.len.ensures, c.deref.ensures.len))
    ∙ ap (λ ts. reverse (take n ts)) shown
