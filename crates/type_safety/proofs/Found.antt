-- Operators that look for a reference below an abstract type keep what the law asks of operators: what lies
-- below a reference is of its sharedness, so it lies below the same abstract type.
use Rattle.std.proofs.Common.{◌≡◌, Bool, true, false, ◌&&◌, List, [], ◌∷◌, map, Some, refl, sym, ap, ◌∙◌, subst}
use Rattle.std.specs.Bool.{beq}
use Rattle.validate_resources.specs.Context.{IsLawful}
use Rattle.validate_types.specs.Refs.{reference, nullable_reference}
use Rattle.validate_types.specs.declared.heap.AbstractHeapType.{AbstractHeapType}
use Rattle.validate_types.specs.declared.heap.AbstractHeapType.TheVariants.{Eq}
use Rattle.validate_types.specs.declared.heap.HeapType.TheVariants.{Abstract}
use Rattle.validate_types.specs.declared.refs.RefType.{RefType}
use Rattle.validation_rules.specs.Context.{ValType, I32, Ref, Context, IsValidBelow, AllBelow}
use Rattle.validation_rules.specs.Fits.{MaybeType, Known}
use Rattle.validation_rules.specs.Found.{abstract_beside, is_found_below, found_pushes, converted_operand, is_same_sharedness, ref_eq_pushes}
use Rattle.validation_rules.specs.Rows.{Looks, guard}
use Rattle.validation_rules.proofs.Below.{and_true, true_and, below-trans}
use Rattle.validation_rules.proofs.Steps.{some_injective, guard_some}
use Rattle.type_safety.proofs.Laws.{IsMonotoneAt}

module _ (cx : Context) (laws : IsLawful cx.of_module) where
  -- a reference below another
  record IsLower (y : ValType) (r : RefType) : Type 0 where
    lower : RefType
    is : y ≡ Ref lower
    order : IsValidBelow cx.of_module (Ref lower) (Ref r)
    sharedness : cx.of_module.is_shared lower ≡ cx.of_module.is_shared r
    without_null : r.nullable ≡ false → lower.nullable ≡ false

  lower_of : (y : ValType) (r : RefType) → IsValidBelow cx.of_module y (Ref r) → IsLower y r
  lower_of y r b =
      let l = laws.below_reference y r b in
      record { lower = l.lower; is = l.is; order = subst (λ t. IsValidBelow cx.of_module t (Ref r)) l.is b; sharedness = l.same_sharedness; without_null = l.without_null }

  -- what lies below a reference that was found below an abstract type is found there too
  lower_found : (a : AbstractHeapType) (y : ValType) (r : RefType) → IsLower y r → is_found_below cx.of_module a (Known (Ref r)) ≡ true → is_found_below cx.of_module a (Known y) ≡ true
  lower_found a y r l h =
      ap (λ t. is_found_below cx.of_module a (Known t)) l.is
      ∙ (ap (λ s. cx.of_module.below (Ref l.lower) (Ref (nullable_reference (Abstract s a)))) l.sharedness
      ∙ laws.transitive (Ref l.lower) (Ref r) (Ref (nullable_reference (abstract_beside cx.of_module r a))) l.order h)

  -- with what is pushed for a reference, of which that for a lower one lies below
  found_monotone : (a : AbstractHeapType) (gives : MaybeType → MaybeType) (into : RefType → ValType) → ((r : RefType) → gives (Known (Ref r)) ≡ Known (into r)) → ((y : ValType) (r : RefType) (l : IsLower y r) → IsValidBelow cx.of_module (into l.lower) (into r)) → (xs ys : List ValType) (pushed : List MaybeType) → AllBelow cx ys xs → found_pushes cx.of_module a gives (map Known xs) ≡ Some pushed → IsMonotoneAt cx (Looks 1 (found_pushes cx.of_module a gives)) xs ys pushed
  found_monotone a gives into known keeps (Ref r ∷ []) (y ∷ []) pushed b h =
      let g = guard_some (is_found_below cx.of_module a (Known (Ref r))) _ _ h in
      let l = lower_of y r b.0 in
      record {
        upper = into r ∷ [];
        lower = into l.lower ∷ [];
        known = sym (some_injective _ _ g.1) ∙ ap (λ (x : MaybeType). x ∷ []) (known r);
        passes =
            ap (λ t. guard t (Some (gives (Known y) ∷ []))) (lower_found a y r l g.0)
            ∙ ap (λ t. Some (gives (Known t) ∷ [])) l.is
            ∙ ap (λ (x : MaybeType). Some (x ∷ [])) (known l.lower);
        below = λ us e. below-trans cx laws us (into l.lower ∷ []) (into r ∷ []) e (keeps y r l, tt);
      }
  found_monotone a gives into known keeps (Ref r ∷ []) [] pushed b h = elim b [ ]
  found_monotone a gives into known keeps (Ref r ∷ []) (y ∷ z ∷ ys) pushed b h = elim b.1 [ ]
  found_monotone a gives into known keeps (x ∷ []) ys pushed b h = absurd cc
  found_monotone a gives into known keeps [] ys pushed b h = absurd cc
  found_monotone a gives into known keeps (x ∷ w ∷ xs) ys pushed b h = absurd cc

  pub measure_monotone : (a : AbstractHeapType) (xs ys : List ValType) (pushed : List MaybeType) → AllBelow cx ys xs → found_pushes cx.of_module a (λ x. Known I32) (map Known xs) ≡ Some pushed → IsMonotoneAt cx (Looks 1 (found_pushes cx.of_module a (λ x. Known I32))) xs ys pushed
  measure_monotone a = found_monotone a (λ x. Known I32) (λ r. I32) (λ r. refl) (λ y r l. laws.reflexive I32 refl)

  -- references to one abstract type, the lower one without null where the other has none
  abstract_below : (m n s : Bool) (a : AbstractHeapType) → (n ≡ false → m ≡ false) → IsValidBelow cx.of_module (Ref (reference m (Abstract s a))) (Ref (reference n (Abstract s a)))
  abstract_below true true s a h = laws.reflexive (Ref (reference true (Abstract s a))) refl
  abstract_below false false s a h = laws.reflexive (Ref (reference false (Abstract s a))) refl
  abstract_below false true s a h = laws.non_null_below (reference true (Abstract s a)) refl
  abstract_below true false s a h = let e : true ≡ false = h refl in absurd cc

  pub converted_monotone : (from into : AbstractHeapType) (xs ys : List ValType) (pushed : List MaybeType) → AllBelow cx ys xs → found_pushes cx.of_module from (converted_operand cx.of_module into) (map Known xs) ≡ Some pushed → IsMonotoneAt cx (Looks 1 (found_pushes cx.of_module from (converted_operand cx.of_module into))) xs ys pushed
  converted_monotone from into =
      found_monotone from (converted_operand cx.of_module into) (λ r. Ref (reference r.nullable (abstract_beside cx.of_module r into))) (λ r. refl)
      (λ y r l.
      subst (λ s. IsValidBelow cx.of_module (Ref (reference l.lower.nullable (Abstract s into))) (Ref (reference r.nullable (abstract_beside cx.of_module r into)))) (sym l.sharedness)
      (abstract_below l.lower.nullable r.nullable (cx.of_module.is_shared r) into l.without_null))

  -- ---- two references compared

  -- what lies below an operand that was found below an abstract type is found there too
  found_keeps : (a : AbstractHeapType) (y t : ValType) → IsValidBelow cx.of_module y t → is_found_below cx.of_module a (Known t) ≡ true → is_found_below cx.of_module a (Known y) ≡ true
  found_keeps a y (Ref r) b h = lower_found a y r (lower_of y r b) h
  found_keeps a y _ b h = absurd cc

  same_keeps : (y t z u : ValType) → IsValidBelow cx.of_module y t → IsValidBelow cx.of_module z u → is_found_below cx.of_module Eq (Known t) ≡ true → is_found_below cx.of_module Eq (Known u) ≡ true → is_same_sharedness cx.of_module (Known t) (Known u) ≡ true → is_same_sharedness cx.of_module (Known y) (Known z) ≡ true
  same_keeps y (Ref r) z (Ref s) b c p q h =
      let l = lower_of y r b in
      let m = lower_of z s c in
      ap (λ t. is_same_sharedness cx.of_module (Known t) (Known z)) l.is
      ∙ (ap (λ t. is_same_sharedness cx.of_module (Known (Ref l.lower)) (Known t)) m.is
      ∙ (ap (λ t. beq t (cx.of_module.is_shared m.lower)) l.sharedness
      ∙ (ap (beq (cx.of_module.is_shared r)) m.sharedness ∙ h)))
  same_keeps y (Ref r) z _ b c p q h = absurd cc
  same_keeps y _ z u b c p q h = absurd cc

  pub ref_eq_monotone : (xs ys : List ValType) (pushed : List MaybeType) → AllBelow cx ys xs → ref_eq_pushes cx.of_module (map Known xs) ≡ Some pushed → IsMonotoneAt cx (Looks 2 (ref_eq_pushes cx.of_module)) xs ys pushed
  ref_eq_monotone (t ∷ u ∷ []) (y ∷ z ∷ []) pushed b h =
      let both = is_found_below cx.of_module Eq (Known t) && is_found_below cx.of_module Eq (Known u) in
      let g = guard_some (both && is_same_sharedness cx.of_module (Known t) (Known u)) _ _ h in
      let p = and_true both _ g.0 in
      let q = and_true (is_found_below cx.of_module Eq (Known t)) _ p.0 in
      let found = true_and _ _ (found_keeps Eq y t b.0 q.0) (found_keeps Eq z u b.1.0 q.1) in
      record {
        upper = I32 ∷ [];
        lower = I32 ∷ [];
        known = some_injective _ _ (sym g.1);
        passes = ap (λ b. guard b (Some (Known I32 ∷ []))) (true_and _ _ found (same_keeps y t z u b.0 b.1.0 q.0 q.1 p.1));
        below = λ us e. e;
      }
  ref_eq_monotone (t ∷ u ∷ []) [] pushed b h = elim b [ ]
  ref_eq_monotone (t ∷ u ∷ []) (y ∷ []) pushed b h = elim b.1 [ ]
  ref_eq_monotone (t ∷ u ∷ []) (y ∷ z ∷ w ∷ ys) pushed b h = elim b.1.1 [ ]
  ref_eq_monotone [] ys pushed b h = absurd cc
  ref_eq_monotone (x ∷ []) ys pushed b h = absurd cc
  ref_eq_monotone (x ∷ w ∷ v ∷ xs) ys pushed b h = absurd cc
