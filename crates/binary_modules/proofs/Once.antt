-- What is read is read in one way.
use Rattle.std.proofs.Common.{◌≡◌, ◌∙◌, ◌↔◌, ℕ, Bool, false, List, [], Option, Some, None, ap, sym}
use Rattle.std.specs.Prelude.{IsTrue}
use Rattle.binary_operators.specs.Integers.{unsigned}
use Rattle.binary_modules.specs.SectionsRead.{IsNumber}
use borrow.Author.Tests.{clash}

pub some_same : {A : Type 0} → (a b : A) → Some a ≡ Some b → a ≡ b
some_same a b e = cc

pub both_same : {A B : Type 0} → (o : Option (A × B)) (a b : A) (x y : B) → o ≡ Some (a, x) → o ≡ Some (b, y) → (a ≡ b) × (x ≡ y)
both_same {A = A} {B = B} o a b x y e f =
    let p : (a, x) ≡ (b, y) = some_same (a, x) (b, y) (sym e ∙ f) in (
      ap (λ (q : A × B). q.0) p,
      ap (λ (q : A × B). q.1) p,
    )

pub none_or_some : {A : Type 0} → (o : Option A) (a : A) → o ≡ None → o ≡ Some a → ⊥
none_or_some o a e f = absurd cc

pub not_so : {P : Type 0} → (b : Bool) → IsTrue b ↔ P → b ≡ false → P → ⊥
not_so b h f p = clash (sym f ∙ h.1 p)

-- a section is one number, if it is any
pub number_same : (contents : Option (List ℕ)) (m n : Option ℕ) → IsNumber contents m → IsNumber contents n → m ≡ n
number_same None m n h k = h ∙ sym k
number_same (Some contents) m n h k =
    h.2 ∙ ap (λ x. Some x) (both_same (unsigned 32 contents) h.0 k.0 [] [] h.1 k.1).0 ∙ sym k.2
