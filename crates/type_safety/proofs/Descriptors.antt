-- Operators that read a descriptor, or cast by one, keep what the law asks of operators: below an exact reference
-- lie exact references of the same type and those of the bottom type of its kind, so what is found exact stays so;
-- and an exact reference lies below the one that isn't exact.
use Rattle.std.proofs.Common.{◌≡◌, ℕ, suc, Bool, true, false, not, ◌||◌, List, [], ◌∷◌, ◌++◌, length, map, drop, Option, Some, None, refl, sym, ap, ◌∙◌, subst}
use Rattle.std.specs.Option.{option_map}
use Rattle.validate_resources.specs.Context.{IsLawful, IsBelowExact, IsCheckedIndex, is_valid_index, descriptor_of, is_struct, bottom_of}
use Rattle.validate_resources.specs.Order.{kind_bottom}
use Rattle.validate_types.specs.Refs.{nullable_reference, non_null_reference, is_exact, is_none_heap}
use Rattle.validate_types.specs.declared.heap.AbstractHeapType.TheVariants.{None as NoAny}
use Rattle.validate_types.specs.declared.heap.HeapType.{HeapType}
use Rattle.validate_types.specs.declared.heap.HeapType.TheVariants.{Abstract, Concrete, Exact}
use Rattle.validate_types.specs.declared.heap.UnpackedIndex.{UnpackedIndex}
use Rattle.validate_types.specs.declared.heap.UnpackedIndex.TheVariants.{Module}
use Rattle.validate_types.specs.declared.refs.RefType.{RefType}
use Rattle.validate_types.specs.declared.types.CompositeInnerType.{CompositeInnerType}
use Rattle.validate_types.specs.declared.types.CompositeInnerType.TheVariants.{Func, Array, Struct, Cont}
use Rattle.validate_visit.specs.declared.op.BranchCast.{BranchCast}
use Rattle.validation_rules.specs.Branches.{has_label, label_types_at}
use Rattle.validation_rules.specs.Casts.{CastTypes, cast_type, cast_operand, checked_cast, split_last, with_last}
use Rattle.validation_rules.specs.Context.{SubType, ValType, Ref, Context, IsValidBelow, AllBelow}
use Rattle.validation_rules.specs.Descriptors.{descriptor_at, descriptor_in, descriptor, is_found_exact, get_desc_pushes, ref_get_desc_row, fit_under, tested_pushes, is_below_if_known, is_cast_descriptor, ref_cast_desc_eq_row, without_last, descriptor_branch_row_for, descriptor_branch_row, cast_desc_eq_branch_row}
use Rattle.validation_rules.specs.Exact.{declared_heap}
use Rattle.validation_rules.specs.Fits.{MaybeType, Known}
use Rattle.validation_rules.specs.Indirect.{type_reference}
use Rattle.validation_rules.specs.Operators.{lookup_row, lookups_row, looking_row, staying_operator, row_operator}
use Rattle.validation_rules.specs.Rows.{Head, Looks, guard}
use Rattle.validation_rules.proofs.Below.{and_true, true_and, below-trans}
use Rattle.validation_rules.proofs.Steps.{some_injective, guard_some, mapped_some, and_then_given}
use Rattle.validation_rules.proofs.Valid.{descriptor_valid}
use Rattle.type_safety.proofs.Laws.{IsMonotoneAt, IsLawfulRow, IsLawfulOperator}
use Rattle.type_safety.proofs.Branches.{one_target, types_reach}
use Rattle.type_safety.proofs.Casts.{split_is, last_replaced}
use Rattle.type_safety.proofs.Plain.{plain_monotone, no_target, found_lawful, flat_lawful}

module _ (cx : Context) (laws : IsLawful cx.of_module) where
  -- ---- what is found exact

  struct_bottom : (i : CompositeInnerType) → is_struct i ≡ true → kind_bottom i ≡ NoAny
  struct_bottom (Struct fields) h = refl
  struct_bottom (Func f) h = absurd cc
  struct_bottom (Array a) h = absurd cc
  struct_bottom (Cont c) h = absurd cc

  -- the bottom type of the kind of a type with a descriptor
  described_bottom : (i : ℕ) (d u : UnpackedIndex) (h : HeapType) (c : IsCheckedIndex cx.of_module (Module i) h) → descriptor_at cx.of_module i ≡ Some d → bottom_of cx.of_module c.index ≡ Some NoAny
  described_bottom i d u h c e =
      let s = and_then_given (cx.of_module.type_at i) descriptor_of d e in
      ap (option_map (λ (t : SubType). kind_bottom t.composite_type.inner)) (c.same_type ∙ s.1)
      ∙ ap Some (struct_bottom s.0.composite_type.inner ((laws.types i s.0 s.1).descriptor d s.2).on_struct)

  below_is_exact : (h : HeapType) (u : UnpackedIndex) → bottom_of cx.of_module u ≡ Some NoAny → IsBelowExact cx.of_module h u → (is_exact h || is_none_heap h) ≡ true
  below_is_exact (Exact v) u b e = refl
  below_is_exact (Concrete v) u b e = absurd e
  below_is_exact (Abstract shared ty) u b e =
      subst (λ a. (is_exact (Abstract shared a) || is_none_heap (Abstract shared a)) ≡ true) (some_injective NoAny ty (sym b ∙ e)) refl

  -- what lies below an operand that was found exact is found exact too
  exact_keeps : (u : UnpackedIndex) (y x : ValType) → bottom_of cx.of_module u ≡ Some NoAny → IsValidBelow cx.of_module y x → is_found_exact cx.of_module (Exact u) (Known x) ≡ true → is_found_exact cx.of_module (Exact u) (Known y) ≡ true
  exact_keeps u y (Ref r) bottom b h =
      let l = laws.below_reference y r b in
      let e = and_true (is_exact r.heap_type || is_none_heap r.heap_type) _ h in
      let low : IsValidBelow cx.of_module (Ref l.lower) (Ref (nullable_reference (Exact u))) =
      laws.transitive _ _ _ (subst (λ t. IsValidBelow cx.of_module t (Ref r)) l.is b) e.1 in
      ap (λ t. is_found_exact cx.of_module (Exact u) (Known t)) l.is
      ∙ true_and _ _ (below_is_exact l.lower.heap_type u bottom (laws.below_exact l.lower true u low)) low
  exact_keeps u y _ bottom b h = absurd cc

  -- an exact type below the same one, exact or not
  declared_below : (m n : Bool) (d : UnpackedIndex) → is_valid_index cx.of_module d ≡ true → (n ≡ true → m ≡ true) → IsValidBelow cx.of_module (Ref (non_null_reference (declared_heap m d))) (Ref (non_null_reference (declared_heap n d)))
  declared_below true true d v h = laws.reflexive (Ref (non_null_reference (Exact d))) v
  declared_below false false d v h = laws.reflexive (Ref (non_null_reference (Concrete d))) v
  declared_below true false d v h = laws.exact_below false d v
  declared_below false true d v h = let e : false ≡ true = h refl in absurd cc

  -- what is found of it is exact in u
  get_desc_monotone : (t : ValType) (u d : UnpackedIndex) → is_valid_index cx.of_module d ≡ true → bottom_of cx.of_module u ≡ Some NoAny → (xs ys : List ValType) (pushed : List MaybeType) → AllBelow cx ys xs → get_desc_pushes cx t (Exact u) d (map Known xs) ≡ Some pushed → IsMonotoneAt cx (Looks 1 (get_desc_pushes cx t (Exact u) d)) xs ys pushed
  get_desc_monotone t u d v bottom (x ∷ []) (y ∷ []) pushed b h =
      let g = guard_some (cx.of_module.below x t) _ _ h in
      let upper = Ref (non_null_reference (declared_heap (is_found_exact cx.of_module (Exact u) (Known x)) d)) in
      let lower = Ref (non_null_reference (declared_heap (is_found_exact cx.of_module (Exact u) (Known y)) d)) in
      record {
        upper = upper ∷ [];
        lower = lower ∷ [];
        known = some_injective _ _ (sym g.1);
        passes = ap (λ s. guard s (Some (Known lower ∷ []))) (laws.transitive y x t b.0 g.0);
        below = λ us e. below-trans cx laws us (lower ∷ []) (upper ∷ []) e (declared_below _ _ d v (exact_keeps u y x bottom b.0), tt);
      }
  get_desc_monotone t u d v bottom (x ∷ []) [] pushed b h = elim b [ ]
  get_desc_monotone t u d v bottom (x ∷ []) (y ∷ z ∷ ys) pushed b h = elim b.1 [ ]
  get_desc_monotone t u d v bottom [] ys pushed b h = absurd cc
  get_desc_monotone t u d v bottom (x ∷ w ∷ xs) ys pushed b h = absurd cc

  pub get_desc_lawful : (i : ℕ) → IsLawfulOperator cx (row_operator (ref_get_desc_row cx i))
  get_desc_lawful i = flat_lawful cx laws _ (λ hs. by hs (descriptor_at cx.of_module i) refl)
    where
      exactly : (hs : List Head) (d : UnpackedIndex) (t : ValType) (h k : HeapType) → descriptor_at cx.of_module i ≡ Some d → cx.of_module.canonical_heap (Concrete (Module i)) ≡ Some h → cx.of_module.canonical_heap (Exact (Module i)) ≡ Some k → IsLawfulRow cx hs (looking_row 1 (get_desc_pushes cx t k d))
      exactly hs d t h k e f g =
          let c = laws.checked_exact (Module i) h f in
          subst (λ (l : HeapType). IsLawfulRow cx hs (looking_row 1 (get_desc_pushes cx t l d))) (some_injective _ _ (sym c.exact ∙ g))
          (no_target cx laws hs _ refl (get_desc_monotone t c.index d (descriptor_valid cx laws i d e) (described_bottom i d c.index h c e)))

      found : (hs : List Head) (d : UnpackedIndex) (t : ValType) → descriptor_at cx.of_module i ≡ Some d → type_reference cx nullable_reference i ≡ Some t → (o : Option HeapType) → cx.of_module.canonical_heap (Exact (Module i)) ≡ o → IsLawfulRow cx hs (lookup_row o (λ h. looking_row 1 (get_desc_pushes cx t h d)))
      found hs d t e f None g = no_target cx laws hs _ refl (plain_monotone cx laws [] [] [])
      found hs d t e f (Some k) g =
          let m = mapped_some (λ h. Ref (nullable_reference h)) (cx.of_module.canonical_heap (Concrete (Module i))) t f in
          exactly hs d t m.0 k e m.1 g

      typed : (hs : List Head) (d : UnpackedIndex) → descriptor_at cx.of_module i ≡ Some d → (o : Option ValType) → type_reference cx nullable_reference i ≡ o → IsLawfulRow cx hs (lookups_row o (cx.of_module.canonical_heap (Exact (Module i))) (λ t h. looking_row 1 (get_desc_pushes cx t h d)))
      typed hs d e None f = no_target cx laws hs _ refl (plain_monotone cx laws [] [] [])
      typed hs d e (Some t) f = found hs d t e f (cx.of_module.canonical_heap (Exact (Module i))) refl

      by : (hs : List Head) (o : Option UnpackedIndex) → descriptor_at cx.of_module i ≡ o → IsLawfulRow cx hs (lookup_row o (λ d. lookups_row (type_reference cx nullable_reference i) (cx.of_module.canonical_heap (Exact (Module i))) (λ t h. looking_row 1 (get_desc_pushes cx t h d))))
      by hs None e = no_target cx laws hs _ refl (plain_monotone cx laws [] [] [])
      by hs (Some d) e = typed hs d e (type_reference cx nullable_reference i) refl

  -- ---- casts by a descriptor

  -- what passes the test passes it from below too
  abbrev IsKept : (MaybeType → Bool) → Type 0
  IsKept test = (y x : ValType) → IsValidBelow cx.of_module y x → test (Known x) ≡ true → test (Known y) ≡ true

  under_keeps : (test : MaybeType → Bool) → IsKept test → (expected xs ys : List ValType) → AllBelow cx ys xs → fit_under cx test expected (map Known xs) ≡ true → fit_under cx test expected (map Known ys) ≡ true
  under_keeps test keeps [] (x ∷ []) (y ∷ []) b h = keeps y x b.0 h
  under_keeps test keeps [] (x ∷ []) [] b h = elim b [ ]
  under_keeps test keeps [] (x ∷ []) (y ∷ z ∷ ys) b h = elim b.1 [ ]
  under_keeps test keeps [] [] ys b h = absurd cc
  under_keeps test keeps [] (x ∷ w ∷ xs) ys b h = absurd cc
  under_keeps test keeps (t ∷ ts) [] ys b h = absurd cc
  under_keeps test keeps (t ∷ ts) (x ∷ xs) [] b h = elim b [ ]
  under_keeps test keeps (t ∷ ts) (x ∷ xs) (y ∷ ys) b h =
      let a = and_true (cx.of_module.below x t) _ h in
      true_and _ _ (laws.transitive y x t b.0 a.0) (under_keeps test keeps ts xs ys b.1 a.1)

  tested_monotone : (n : ℕ) (test : MaybeType → Bool) → IsKept test → (expected push xs ys : List ValType) (pushed : List MaybeType) → AllBelow cx ys xs → tested_pushes cx test expected push (map Known xs) ≡ Some pushed → IsMonotoneAt cx (Looks n (tested_pushes cx test expected push)) xs ys pushed
  tested_monotone n test keeps expected push xs ys pushed b h =
      let g = guard_some (fit_under cx test expected (map Known xs)) _ _ h in
      record {
        upper = push;
        lower = push;
        known = some_injective _ _ (sym g.1);
        passes = ap (λ s. guard s (Some (map Known push))) (under_keeps test keeps expected xs ys b g.0);
        below = λ us e. e;
      }

  exact_if_known : (exact : Bool) (u y x : ValType) → IsValidBelow cx.of_module y x → (not exact || is_below_if_known cx.of_module u (Known x)) ≡ true → (not exact || is_below_if_known cx.of_module u (Known y)) ≡ true
  exact_if_known true u y x b h = laws.transitive y x u b h
  exact_if_known false u y x b h = refl

  pub descriptor_keeps : (exact : Bool) (d : UnpackedIndex) → IsKept (is_cast_descriptor cx exact d)
  descriptor_keeps exact d y x b h =
      let a = and_true (cx.of_module.below x (descriptor false d)) _ h in
      true_and _ _ (laws.transitive y x (descriptor false d) b a.0) (exact_if_known exact (descriptor true d) y x b a.1)

  pub cast_desc_eq_lawful : (nullable : Bool) (h : HeapType) → IsLawfulOperator cx (row_operator (ref_cast_desc_eq_row cx nullable h))
  cast_desc_eq_lawful nullable h =
      flat_lawful cx laws _
      (λ hs. found_lawful cx laws hs (descriptor_in cx.of_module h) _
      (λ d. found_lawful cx laws hs (cast_type cx nullable h) _
      (λ r. no_target cx laws hs _ refl (tested_monotone 2 (is_cast_descriptor cx (is_exact h) d) (descriptor_keeps (is_exact h) d) (cast_operand cx.of_module r ∷ []) (Ref r ∷ [])))))

  -- operands that pass fit the types below the one that is tested
  under_fits : (test : MaybeType → Bool) (expected ys : List ValType) → fit_under cx test expected (map Known ys) ≡ true → AllBelow cx (without_last ys) expected
  under_fits test [] (y ∷ []) h = tt
  under_fits test [] [] h = absurd cc
  under_fits test [] (y ∷ z ∷ ys) h = absurd cc
  under_fits test (t ∷ ts) [] h = absurd cc
  under_fits test (t ∷ ts) (y ∷ []) h = let a = and_true (cx.of_module.below y t) _ h in absurd (none ts a.1)
    where
      none : (ts : List ValType) → fit_under cx test ts [] ≡ true → ⊥
      none [] e = cc
      none (u ∷ us) e = cc
  under_fits test (t ∷ ts) (y ∷ z ∷ ys) h =
      let a = and_true (cx.of_module.below y t) _ h in
      (a.0, under_fits test ts (z ∷ ys) a.1)

  descriptor_branch_row_lawful : (hs : List Head) (test : MaybeType → Bool) → IsKept test → (d : ℕ) (types : CastTypes) → IsLawfulRow cx hs (descriptor_branch_row cx hs test d types)
  descriptor_branch_row_lawful hs test keeps d types = by (guard (has_label hs d) (split_last (label_types_at cx hs d))) refl
    where
      by : (o : Option (List ValType × ValType)) → guard (has_label hs d) (split_last (label_types_at cx hs d)) ≡ o → IsLawfulRow cx hs (lookup_row o (descriptor_branch_row_for cx test d types))
      by None e = no_target cx laws hs _ refl (plain_monotone cx laws [] [] [])
      by (Some p) e =
          let g = guard_some (has_label hs d) _ _ e in
          let expected = p.0 ++ Ref types.from ∷ [] in
          let left = p.0 ++ Ref types.left ∷ [] in
          one_target cx laws hs _ (record { depth = d; carried = λ found. with_last (Ref types.carried) (without_last found) }) refl (tested_monotone (suc (length expected)) test keeps expected left)
          (λ ys pushed q h.
          let f = under_fits test expected ys (guard_some (fit_under cx test expected (map Known ys)) _ _ h).0 in
          let b = last_replaced cx laws p.0 (Ref types.from) (Ref types.carried) p.1 (without_last ys) q f in
          types_reach cx laws (drop d hs) _ g.0 (subst (λ (ts : List ValType). AllBelow cx (with_last (Ref types.carried) (without_last ys)) ts) (split_is cx laws (label_types_at cx hs d) p g.1) b))

  pub descriptor_branch_lawful : (types : RefType × RefType → CastTypes) (cast : BranchCast) → IsLawfulOperator cx (staying_operator (λ hs. cast_desc_eq_branch_row cx hs types cast))
  descriptor_branch_lawful types cast =
      flat_lawful cx laws _
      (λ hs. found_lawful cx laws hs (descriptor_in cx.of_module cast.to_ref_type.heap_type) _
      (λ d. found_lawful cx laws hs (checked_cast cx cast) _
      (λ p. descriptor_branch_row_lawful hs (is_cast_descriptor cx (is_exact cast.to_ref_type.heap_type) d) (descriptor_keeps (is_exact cast.to_ref_type.heap_type) d) cast.relative_depth (types p))))
