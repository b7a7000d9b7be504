use Rattle.std.proofs.Common.{ℕ, ◌≡◌, ◌-◌, ◌↔◌, IsTrue, true, false, nat_le, List, [], length, drop, ap, sym, ◌∙◌, arith, inl, inr}
use Rattle.std.proofs.lemmas.List.{drop_all, length-drop}
use Rattle.std.proofs.lemmas.Bool.Decides.{leb_tells}
use Rattle.binary_operators.proofs.reader.BinaryReader.is_at_end.Goals as goal

none_left : (place : ℕ) (bytes : List ℕ) → IsTrue (nat_le (length bytes) place) ↔ (drop place bytes ≡ [])
none_left place bytes = elim (leb_tells (length bytes) place) [
  | inl y ↦ ((λ at_end. drop_all place bytes y.1), (λ ended. y.0))
  | inr n ↦ (
    (λ at_end. let clash : true ≡ false = sym at_end ∙ n.0 in absurd cc),
    (λ ended. let none : length bytes - place ≡ 0 = sym (length-drop place bytes) ∙ ap length ended in
        absurd (omega (arith, none, n.1))),
  )
]

pub returns : goal.returns
returns c = rw (← c.self.view_is) (none_left c.self.inside.place c.self.inside.bytes.now)
