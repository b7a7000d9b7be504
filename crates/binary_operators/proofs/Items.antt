-- What is left to read of a list, behind the items that were read.
use Rattle.std.proofs.Common.{arith, ap, ◌∙◌, ◌≡◌, sym, refl, ℕ, suc, ◌+◌, ◌-◌, ◌<◌, List, [], ◌∷◌, ◌++◌, append_assoc, Option, Some, None}
use Rattle.std.specs.Option.{option_and_then}
use Rattle.binary_operators.specs.Values.{so_many, list_of}
use Rattle.binary_operators.specs.Integers.{unsigned}

-- a list that begins so, as far as it could be read
abbrev pub with_front : {A : Type 0} → List A → Option (List A × List ℕ) → Option (List A × List ℕ)
with_front front None = None
with_front front (Some r) = Some (front ++ r.0, r.1)

pub no_front : {A : Type 0} → (r : Option (List A × List ℕ)) → with_front [] r ≡ r
no_front None = refl
no_front (Some r) = refl

front_more : {A : Type 0} → (front : List A) (x : A) (r : Option (List A × List ℕ)) → with_front front (option_and_then (λ (others : List A × List ℕ). Some (x ∷ others.0, others.1)) r) ≡ with_front (front ++ x ∷ []) r
front_more front x None = refl
front_more front x (Some r) = ap (λ l. Some (l, r.1)) (sym (append_assoc front (x ∷ []) r.0))

at_item : {A : Type 0} → (item : List ℕ → Option (A × List ℕ)) (n : ℕ) (bytes : List ℕ) (x : A) (rest : List ℕ) → item bytes ≡ Some (x, rest) → so_many item (suc n) bytes ≡ option_and_then (λ (others : List A × List ℕ). Some (x ∷ others.0, others.1)) (so_many item n rest)
at_item item n bytes x rest e =
    ap (λ o. option_and_then (λ (first : _ × List ℕ). option_and_then (λ (others : List _ × List ℕ). Some (first.0 ∷ others.0, others.1)) (so_many item n first.1)) o) e

-- where an item is read, the front is longer by it
pub one_more : {A : Type 0} → (item : List ℕ → Option (A × List ℕ)) (count i : ℕ) (bytes : List ℕ) (front : List A) (x : A) (rest : List ℕ) → i < count → item bytes ≡ Some (x, rest) → with_front front (so_many item (count - i) bytes) ≡ with_front (front ++ x ∷ []) (so_many item (count - (i + 1)) rest)
one_more item count i bytes front x rest h e =
    let k : count - i ≡ suc (count - (i + 1)) = omega arith in
    ap (λ n. with_front front (so_many item n bytes)) k
    ∙ ap (with_front front) (at_item item (count - (i + 1)) bytes x rest e)
    ∙ front_more front x (so_many item (count - (i + 1)) rest)

-- where all are read, the front is the list
pub all_read : {A : Type 0} → (item : List ℕ → Option (A × List ℕ)) (count : ℕ) (bytes : List ℕ) (front : List A) → with_front front (so_many item (count - count) bytes) ≡ Some (front ++ [], bytes)
all_read item count bytes front =
    let k : count - count ≡ 0 = omega arith in
    ap (λ n. with_front front (so_many item n bytes)) k

-- where the next item can't be read, neither can the list
pub none_more : {A : Type 0} → (item : List ℕ → Option (A × List ℕ)) (count i : ℕ) (bytes : List ℕ) (front : List A) → i < count → item bytes ≡ None → with_front front (so_many item (count - i) bytes) ≡ None
none_more item count i bytes front h e =
    let k : count - i ≡ suc (count - (i + 1)) = omega arith in
    ap (λ n. with_front front (so_many item n bytes)) k
    ∙ ap (λ o. with_front front (option_and_then (λ (first : _ × List ℕ). option_and_then (λ (others : List _ × List ℕ). Some (first.0 ∷ others.0, others.1)) (so_many item (count - (i + 1)) first.1)) o)) e

pub list_broken : {A : Type 0} → (item : List ℕ → Option (A × List ℕ)) (bytes : List ℕ) (count i : ℕ) (rest left : List ℕ) (front : List A) → unsigned 32 bytes ≡ Some (count, rest) → with_front front (so_many item (count - i) left) ≡ so_many item count rest → i < count → item left ≡ None → list_of item bytes ≡ None
unfolding list_of
list_broken item bytes count i rest left front counted inv h e =
    ap (λ o. option_and_then (λ (n : ℕ × List ℕ). so_many item n.0 n.1) o) counted
    ∙ sym inv
    ∙ none_more item count i left front h e
