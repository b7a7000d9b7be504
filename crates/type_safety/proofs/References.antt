-- Operators that look whether a reference is null keep what the law asks of operators: what lies below a
-- reference is a reference, and taking null away keeps the order.
use Rattle.std.proofs.Common.{◌≡◌, ℕ, suc, List, [], ◌∷◌, ◌++◌, length, map, take, Option, Some, None, drop, refl, sym, ap, ◌∙◌, subst}
use Rattle.std.specs.Option.{option_map}
use Rattle.validate_resources.specs.Context.{IsLawful}
use Rattle.validate_types.specs.Refs.{without_null, with_null}
use Rattle.validate_types.specs.declared.refs.RefType.{RefType}
use Rattle.validation_rules.specs.Branches.{label_types_at, target}
use Rattle.validation_rules.specs.Context.{ValType, I32, Ref, Context, IsValidBelow, AllBelow}
use Rattle.validation_rules.specs.Fits.{MaybeType, Known}
use Rattle.validation_rules.specs.References.{null_test_pushes, non_null_pushes, last_reference, without_null_known, last_without_null, br_on_null_row, br_on_non_null_row_for, br_on_non_null_row}
use Rattle.validation_rules.specs.Rows.{Head, Looks, guard}
use Rattle.validation_rules.specs.Operators.{lookup_row}
use Rattle.validation_rules.proofs.Below.{below-trans}
use Rattle.validation_rules.proofs.Steps.{some_injective, guard_some, mapped_some}
use Rattle.type_safety.proofs.Laws.{IsMonotoneAt, IsLawfulRow}
use Rattle.type_safety.proofs.Branches.{one_target, types_reach}
use Rattle.type_safety.proofs.Plain.{plain_monotone, plain_below, no_target}

module _ (cx : Context) (laws : IsLawful cx.of_module) where
  -- ---- what is found of a reference, and of what lies below it

  pub is_null_monotone : (xs ys : List ValType) (pushed : List MaybeType) → AllBelow cx ys xs → null_test_pushes (map Known xs) ≡ Some pushed → IsMonotoneAt cx (Looks 1 null_test_pushes) xs ys pushed
  is_null_monotone (Ref r ∷ []) (y ∷ []) pushed b h =
      record {
        upper = I32 ∷ [];
        lower = I32 ∷ [];
        known = some_injective _ _ (sym h);
        passes = ap (λ t. null_test_pushes (Known t ∷ [])) (laws.below_reference y r b.0).is;
        below = λ us k. k;
      }
  is_null_monotone (Ref r ∷ []) [] pushed b h = elim b [ ]
  is_null_monotone (Ref r ∷ []) (y ∷ z ∷ ys) pushed b h = elim b.1 [ ]
  is_null_monotone (x ∷ []) ys pushed b h = absurd cc
  is_null_monotone [] ys pushed b h = absurd cc
  is_null_monotone (x ∷ w ∷ xs) ys pushed b h = absurd cc

  -- what lies below the others lies below them under the same type too
  below_under : (t : ValType) (lower upper : List ValType) → ((us : List ValType) → AllBelow cx us lower → AllBelow cx us upper) → (us : List ValType) → AllBelow cx us (t ∷ lower) → AllBelow cx us (t ∷ upper)
  below_under t lower upper h (u ∷ us) k = (k.0, h us k.1)
  below_under t lower upper h [] k = elim k [ ]

  pub non_null_monotone : (n : ℕ) (ts xs ys : List ValType) (pushed : List MaybeType) → AllBelow cx ys xs → non_null_pushes cx ts (map Known xs) ≡ Some pushed → IsMonotoneAt cx (Looks n (non_null_pushes cx ts)) xs ys pushed
  non_null_monotone n [] (Ref r ∷ []) (y ∷ []) pushed b h =
      let l = laws.below_reference y r b.0 in
      let k = laws.non_null_keeps l.lower r (subst (λ t. IsValidBelow cx.of_module t (Ref r)) l.is b.0) in
      record {
        upper = Ref (without_null r) ∷ [];
        lower = Ref (without_null l.lower) ∷ [];
        known = some_injective _ _ (sym h);
        passes = ap (λ t. non_null_pushes cx [] (Known t ∷ [])) l.is;
        below = λ us e. below-trans cx laws us (Ref (without_null l.lower) ∷ []) (Ref (without_null r) ∷ []) e (k, tt);
      }
  non_null_monotone n [] (Ref r ∷ []) [] pushed b h = elim b [ ]
  non_null_monotone n [] (Ref r ∷ []) (y ∷ z ∷ ys) pushed b h = elim b.1 [ ]
  non_null_monotone n [] (x ∷ []) ys pushed b h = absurd cc
  non_null_monotone n [] [] ys pushed b h = absurd cc
  non_null_monotone n [] (x ∷ w ∷ xs) ys pushed b h = absurd cc
  non_null_monotone n (t ∷ ts) [] ys pushed b h = absurd cc
  non_null_monotone n (t ∷ ts) (x ∷ xs) [] pushed b h = elim b [ ]
  non_null_monotone n (t ∷ ts) (x ∷ xs) (y ∷ ys) pushed b h =
      let g = guard_some (cx.of_module.below x t) _ _ h in
      let m = mapped_some _ (non_null_pushes cx ts (map Known xs)) pushed g.1 in
      let f = non_null_monotone n ts xs ys m.0 b.1 m.1 in
      record {
        upper = t ∷ f.upper;
        lower = t ∷ f.lower;
        known = sym m.2 ∙ ap (λ l. Known t ∷ l) f.known;
        passes = ap (λ s. guard s (option_map (λ (l : List MaybeType). Known t ∷ l) (non_null_pushes cx ts (map Known ys)))) (laws.transitive y x t b.0 g.0) ∙ ap (option_map (λ (l : List MaybeType). Known t ∷ l)) f.passes;
        below = below_under t f.lower f.upper f.below;
      }

  -- ---- branches

  -- operands that pass fit the types below the reference
  below_reference_fits : (ts ys : List ValType) (pushed : List MaybeType) → non_null_pushes cx ts (map Known ys) ≡ Some pushed → AllBelow cx (take (length ts) ys) ts
  below_reference_fits [] ys pushed h = tt
  below_reference_fits (t ∷ ts) [] pushed h = absurd cc
  below_reference_fits (t ∷ ts) (y ∷ ys) pushed h =
      let g = guard_some (cx.of_module.below y t) _ _ h in
      let m = mapped_some _ (non_null_pushes cx ts (map Known ys)) pushed g.1 in
      (g.0, below_reference_fits ts ys m.0 m.1)

  pub br_on_null_lawful : (hs : List Head) (d : ℕ) → IsLawfulRow cx hs (br_on_null_row cx hs d)
  br_on_null_lawful hs d =
      one_target cx laws hs _ (target cx hs d) refl (non_null_monotone (suc (length (label_types_at cx hs d))) (label_types_at cx hs d))
      (λ ys pushed p g.
      types_reach cx laws (drop d hs) _ p (below_reference_fits (label_types_at cx hs d) ys pushed g))

  last_is : (ts : List ValType) (p : List ValType × RefType) → last_reference ts ≡ Some p → p.0 ++ Ref p.1 ∷ [] ≡ ts
  last_is [] p e = absurd cc
  last_is (Ref r ∷ []) p e = ap (λ (q : List ValType × RefType). q.0 ++ Ref q.1 ∷ []) (sym (some_injective _ _ e))
  last_is (t ∷ u ∷ ts) p e =
      let m = mapped_some _ (last_reference (u ∷ ts)) p e in
      ap (λ (q : List ValType × RefType). q.0 ++ Ref q.1 ∷ []) (sym m.2) ∙ ap (λ l. t ∷ l) (last_is (u ∷ ts) m.0 m.1)
  last_is (t ∷ []) p e = absurd cc

  -- a reference, null or not, that lies below one without null once its own is taken away
  loses_null : (y : ValType) (r : RefType) → IsValidBelow cx.of_module y (Ref (with_null r)) → IsValidBelow cx.of_module (without_null_known y) (Ref r)
  loses_null y r b =
      let l = laws.below_reference y (with_null r) b in
      let k = laws.non_null_keeps l.lower (with_null r) (subst (λ t. IsValidBelow cx.of_module t (Ref (with_null r))) l.is b) in
      let v = laws.both_valid _ _ k in
      subst (λ t. IsValidBelow cx.of_module (without_null_known t) (Ref r)) (sym l.is) (laws.transitive _ _ _ k (laws.non_null_below r v.1))

  last_loses_null : (ts : List ValType) (r : RefType) (ys : List ValType) → AllBelow cx ys (ts ++ Ref (with_null r) ∷ []) → AllBelow cx (last_without_null ys) (ts ++ Ref r ∷ [])
  last_loses_null [] r (y ∷ []) b = (loses_null y r b.0, tt)
  last_loses_null [] r [] b = elim b [ ]
  last_loses_null [] r (y ∷ z ∷ ys) b = elim b.1 [ ]
  last_loses_null (t ∷ ts) r [] b = elim b [ ]
  last_loses_null (t ∷ []) r (y ∷ []) b = elim b.1 [ ]
  last_loses_null (t ∷ u ∷ ts) r (y ∷ []) b = elim b.1 [ ]
  last_loses_null (t ∷ ts) r (y ∷ z ∷ ys) b = (b.0, last_loses_null ts r (z ∷ ys) b.1)

  pub br_on_non_null_lawful : (hs : List Head) (d : ℕ) → IsLawfulRow cx hs (br_on_non_null_row cx hs d)
  br_on_non_null_lawful hs d = by (last_reference (label_types_at cx hs d)) refl
    where
      by : (o : Option (List ValType × RefType)) → last_reference (label_types_at cx hs d) ≡ o → IsLawfulRow cx hs (lookup_row o (br_on_non_null_row_for cx hs d))
      by None e = no_target cx laws hs _ refl (plain_monotone cx laws [] [] [])
      by (Some p) e =
          one_target cx laws hs _ (record { depth = d; carried = last_without_null }) refl (plain_monotone cx laws (p.0 ++ Ref (with_null p.1) ∷ []) [] p.0)
          (λ ys pushed q g.
          let b = last_loses_null p.0 p.1 ys (plain_below cx laws (p.0 ++ Ref (with_null p.1) ∷ []) [] p.0 ys pushed g) in
          types_reach cx laws (drop d hs) _ q (subst (λ (ts : List ValType). AllBelow cx (last_without_null ys) ts) (last_is (label_types_at cx hs d) p e) b))
