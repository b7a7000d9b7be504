-- Proofs, which need no belief: chains of supertypes.
use Rattle.std.specs.Prelude.{◌≡◌, ℕ, ◌+◌, ◌<◌, ◌≤◌, Bool, List, [], ◌∷◌, ◌++◌, true, false, zero, suc}
use Rattle.std.specs.Prelude.{◌||◌, ◌==◌, nat_lt, length, slice_get, slice_index_or, Option, Some, None}
use Rattle.std.specs.Prelude.{refl}
use Rattle.std.specs.Bool.{beq}
use Rattle.std.specs.List.{list_all, list_any, enumerate_from}
use Rattle.std.proofs.Common.{arith, ap, sym, ◌∙◌, subst, ⊎_elim}
use Rattle.std.proofs.lemmas.Bool.{and_parts, or_cases, or_left, or_right, eqb-true, eq-eqb, ne_eqb, ltb-true}
use Rattle.std.proofs.lemmas.List.{length-append}
use Rattle.std.proofs.lemmas.Option.{cond_some}
use Rattle.std.proofs.Math.Nat.{eq-or-lt_of_le}
use Rattle.std.proofs.Math.ListN.{get_or, get_or-append}
use Rattle.std.proofs.Math.Seq.{get_or-append_seam}
use Rattle.validate_types.specs.Heap.{number_of}
use Rattle.validate_types.specs.declared.heap.UnpackedIndex.{UnpackedIndex}
use Rattle.validate_types.specs.declared.types.CompositeType.{CompositeType}
use Rattle.validate_types.specs.declared.types.SubType.{SubType}
use Rattle.validate_resources.specs.Order.{is_same_sort, has_supertype_of_its_sort}
use Rattle.validate_resources.specs.Order.{have_supertypes_of_their_sort}
use Rattle.validate_resources.specs.Order.{earlier_index, declared_supertype, supertype_of, chain_by}
use Rattle.validate_resources.specs.Order.{chains, supertypes, is_on_chain, is_index_below}

pub beq-equal : (a b : Bool) → beq a b ≡ true → a ≡ b
beq-equal true true h = refl
beq-equal false false h = refl
beq-equal _ _ h = cc

-- ---- supertypes are earlier

earlier-below : (k u : ℕ) (x : Option UnpackedIndex) → earlier_index k x ≡ Some u → u < k
earlier-below k u None h = cc
earlier-below k u (Some i) h =
    let p = cond_some (nat_lt (number_of i) k) (number_of i) u h in
    subst (λ n. n < k) p.1 (ltb-true (number_of i) k p.0)

declared-below : (k u : ℕ) (o : Option SubType) → declared_supertype k o ≡ Some u → u < k
declared-below k u None h = cc
declared-below k u (Some s) h = earlier-below k u s.supertype_idx h

pub supertype-below : (types : List SubType) (k u : ℕ) → supertype_of types k ≡ Some u → u < k
supertype-below types k u h = declared-below k u (slice_get types k) h

-- ---- a chain is the supertype, and the chain from it

chains-length : (types : List SubType) (n : ℕ) → length (chains types n) ≡ n
chains-length types zero = refl
chains-length types (suc n) = let e = chains-length types n in
    length-append (chains types n) (chain_by (chains types n) (supertype_of types n) ∷ []) ∙ (omega arith)

chain-at : (types : List SubType) (n u : ℕ) → u < n → slice_index_or (chains types n) u [] ≡ supertypes types u
chain-at types zero u h = absurd (omega arith)
chain-at types (suc n) u h =
    let count = chains-length types n in
    let at_most : u ≤ n = omega arith in
    ⊎_elim (λ (e : u ≡ n).
    subst (λ k. get_or (chains types n ++ supertypes types n ∷ []) k [] ≡ supertypes types u) (count ∙ sym e)
    (get_or-append_seam (chains types n) (supertypes types n) [] [] ∙ ap (supertypes types) (sym e)))
    (λ (e : u < n). get_or-append (chains types n) (supertypes types n ∷ []) [] u (omega arith) ∙ chain-at types n u e)
    (eq-or-lt_of_le at_most)

pub chain-step : (types : List SubType) (i u : ℕ) → supertype_of types i ≡ Some u → supertypes types i ≡ u ∷ supertypes types u
chain-step types i u e = ap (chain_by (chains types i)) e ∙ ap (λ c. u ∷ c) (chain-at types i u (supertype-below types i u e))

pub chain-end : (types : List SubType) (i : ℕ) → supertype_of types i ≡ None → supertypes types i ≡ []
chain-end types i e = ap (chain_by (chains types i)) e

-- one step of a chain
step : (types : List SubType) (i u k : ℕ) → supertype_of types i ≡ Some u → is_index_below types i k ≡ ((i == k) || is_index_below types u k)
step types i u k e = ap (λ c. (i == k) || list_any (λ v. v == k) c) (chain-step types i u e)

-- the same, where the chain hasn't come to its end
pub step-on : (types : List SubType) (i u k : ℕ) → supertype_of types i ≡ Some u → (i ≡ k → ⊥) → is_index_below types u k ≡ is_index_below types i k
step-on types i u k e f = sym (step types i u k e ∙ ap (λ b. b || is_index_below types u k) (ne_eqb i k f))

-- the end of a chain
pub step-off : (types : List SubType) (i k : ℕ) → supertype_of types i ≡ None → (i ≡ k → ⊥) → is_index_below types i k ≡ false
step-off types i k e f = ap (λ c. (i == k) || list_any (λ v. v == k) c) (chain-end types i e) ∙ ap (λ b. b || false) (ne_eqb i k f)

pub index-reflexive : (types : List SubType) (i : ℕ) → is_index_below types i i ≡ true
index-reflexive types i = or_left (i == i) _ (eq-eqb i i refl)

-- ---- two chains make one

-- what is on the chain of a type has its supertype below it
on-chain : (types : List SubType) (i j : ℕ) → is_on_chain types i j ≡ true → (u : ℕ) × (supertype_of types i ≡ Some u) × (is_index_below types u j ≡ true)
on-chain types i j h = by (supertype_of types i) refl
  where
    by : (o : Option ℕ) → supertype_of types i ≡ o → (u : ℕ) × (supertype_of types i ≡ Some u) × (is_index_below types u j ≡ true)
    by None e = let off = ap (list_any (λ v. v == j)) (chain-end types i e) in cc
    by (Some u) e = (u, e, sym (ap (list_any (λ v. v == j)) (chain-step types i u e)) ∙ h)

further : (types : List SubType) (m i j k : ℕ) → i < m → is_index_below types i j ≡ true → is_index_below types j k ≡ true → is_index_below types i k ≡ true
further types zero i j k l h g = absurd (omega arith)
further types (suc m) i j k l h g =
    ⊎_elim (λ e. subst (λ n. is_index_below types n k ≡ true) (sym (eqb-true i j e)) g)
    (λ e. let (u, is, on) = on-chain types i j e in let b : u < i = supertype-below types i u is in
    step types i u k is ∙ or_right (i == k) _ (further types m u j k (omega arith) on g))
    (or_cases (i == j) _ h)

pub index-transitive : (types : List SubType) (i j k : ℕ) → is_index_below types i j ≡ true → is_index_below types j k ≡ true → is_index_below types i k ≡ true
index-transitive types i j k h g = further types (suc i) i j k (omega arith) h g

-- ---- a chain keeps the kind and the sharedness

-- what holds of each element and its place, holds of the one at i
pub enumerated : {X : Type 0} (p : ℕ × X → Bool) (n i : ℕ) (xs : List X) (x : X) → list_all p (enumerate_from n xs) ≡ true → slice_get xs i ≡ Some x → p (n + i, x) ≡ true
enumerated p n i [] x h e = cc
enumerated p n zero (y ∷ ys) x h e = let is : y ≡ x = cc in let at : n ≡ n + 0 = omega arith in
    rw (← at, ← is) (and_parts (p (n, y)) _ h).0
enumerated p n (suc i) (y ∷ ys) x h e = let at : (n + 1) + i ≡ n + suc i = omega arith in
    rw (← at) (enumerated p (n + 1) i ys x (and_parts (p (n, y)) _ h).1 e)

fits-sort : (types : List SubType) (k u : ℕ) (c : CompositeType) (x : Option UnpackedIndex) → has_supertype_of_its_sort types k c x ≡ true → earlier_index k x ≡ Some u → is_same_sort c (slice_get types u) ≡ true
fits-sort types k u c None h e = cc
fits-sort types k u c (Some i) h e =
    let is = cond_some (nat_lt (number_of i) k) (number_of i) u e in
    subst (λ n. is_same_sort c (slice_get types n) ≡ true) is.1 (and_parts (nat_lt (number_of i) k) _ h).1

-- two types of the same kind and sharedness show the same
abbrev pub KeepsSort : {X : Type 0} → (Option SubType → X) → Type 0
KeepsSort shown = (s t : SubType) → is_same_sort s.composite_type (Some t) ≡ true → shown (Some s) ≡ shown (Some t)

declared-sort : {X : Type 0} (shown : Option SubType → X) → KeepsSort shown → (types : List SubType) (k u : ℕ) (o : Option SubType) → slice_get types k ≡ o → have_supertypes_of_their_sort types ≡ true → declared_supertype k o ≡ Some u → shown o ≡ shown (slice_get types u)
declared-sort shown keeps types k u None is h e = cc
declared-sort shown keeps types k u (Some s) is h e =
    let zero_more : 0 + k ≡ k = omega arith in
    let fits = enumerated (λ (e : ℕ × SubType). has_supertype_of_its_sort types e.0 e.1.composite_type e.1.supertype_idx) 0 k types s h is in
    same (slice_get types u) (fits-sort types k u s.composite_type s.supertype_idx (rw zero_more at fits) e)
  where
    same : (p : Option SubType) → is_same_sort s.composite_type p ≡ true → shown (Some s) ≡ shown p
    same None f = cc
    same (Some t) f = keeps s t f

below-sort : {X : Type 0} (shown : Option SubType → X) → KeepsSort shown → (types : List SubType) (m i j : ℕ) → have_supertypes_of_their_sort types ≡ true → i < m → is_index_below types i j ≡ true → shown (slice_get types i) ≡ shown (slice_get types j)
below-sort shown keeps types zero i j h l g = absurd (omega arith)
below-sort shown keeps types (suc m) i j h l g =
    ⊎_elim (λ e. ap (λ n. shown (slice_get types n)) (eqb-true i j e))
    (λ e. let (u, is, on) = on-chain types i j e in let b : u < i = supertype-below types i u is in
    declared-sort shown keeps types i u (slice_get types i) refl h is ∙ below-sort shown keeps types m u j h (omega arith) on)
    (or_cases (i == j) _ g)

-- what two types of the same kind and sharedness show alike, types on one chain do
pub index-sort : {X : Type 0} (shown : Option SubType → X) → KeepsSort shown → (types : List SubType) (i j : ℕ) → have_supertypes_of_their_sort types ≡ true → is_index_below types i j ≡ true → shown (slice_get types i) ≡ shown (slice_get types j)
index-sort shown keeps types i j h g = below-sort shown keeps types (suc i) i j h (omega arith) g
