-- The rows of branches keep what the law asks of operators: every label that they name is one that the
-- operands fit.
use Rattle.std.proofs.Common.{◌≡◌, ℕ, zero, suc, pred, Bool, true, List, [], ◌∷◌, ◌++◌, length, map, take, drop, Some, refl, sym, ap, ◌∙◌, subst, slice_get, append-nil}
use Rattle.validate_resources.specs.Context.{IsLawful}
use Rattle.validation_rules.specs.Calls.{tail_call_row}
use Rattle.validation_rules.specs.Branches.{has_first_label, first_label_types, label_types_at, has_label, has_labels, target, br_row, br_if_row, br_table_row}
use Rattle.validation_rules.specs.Context.{ValType, I32, Context, AllBelow}
use Rattle.validation_rules.specs.Fits.{MaybeType, Known, all_fit}
use Rattle.validation_rules.specs.Rows.{Head, Target, Row, all_fit_each, pushed_for}
use Rattle.validation_rules.proofs.Below.{and_true, below_of_fit}
use Rattle.validation_rules.proofs.Steps.{some_injective, guard_some}
use Rattle.type_safety.proofs.Laws.{IsMonotoneAt, HeadAccepts, IsLawfulRow}
use Rattle.type_safety.proofs.Plain.{plain_monotone, plain_below, below_front}

module _ (cx : Context) (laws : IsLawful cx.of_module) where
  pub one_target : (hs : List Head) (row : Row) (t : Target) → row.targets ≡ t ∷ [] → ((xs ys : List ValType) (pushed : List MaybeType) → AllBelow cx ys xs → pushed_for cx row.type (map Known xs) ≡ Some pushed → IsMonotoneAt cx row.type xs ys pushed) → ((ys : List ValType) (pushed : List MaybeType) → row.premise ≡ true → pushed_for cx row.type (map Known ys) ≡ Some pushed → HeadAccepts cx (drop t.depth hs) (t.carried ys)) → IsLawfulRow cx hs row
  one_target hs row t one monotone reach =
      record { monotone = monotone; reaches = λ ys pushed p g j u e. at ys (reach ys pushed p g) j u (ap (λ ts. slice_get ts j) (sym one) ∙ e) }
    where
      at : (ys : List ValType) → HeadAccepts cx (drop t.depth hs) (t.carried ys) → (j : ℕ) (u : Target) → slice_get (t ∷ []) j ≡ Some u → HeadAccepts cx (drop u.depth hs) (u.carried ys)
      at ys h zero u e = subst (λ (v : Target). HeadAccepts cx (drop v.depth hs) (v.carried ys)) (some_injective t u e) h
      at ys h (suc j) u e = absurd cc

  -- types below those of a label that is there
  pub types_reach : (hs : List Head) (ts : List ValType) → has_first_label hs ≡ true → AllBelow cx ts (first_label_types cx hs) → HeadAccepts cx hs ts
  types_reach [] ts p b = absurd cc
  types_reach (k ∷ hs) ts p b = b

  front_reaches : (hs : List Head) (more ys : List ValType) → has_first_label hs ≡ true → AllBelow cx ys (first_label_types cx hs ++ more) → HeadAccepts cx hs (take (length (first_label_types cx hs)) ys)
  front_reaches hs more ys h below = types_reach hs _ h (below_front cx laws (first_label_types cx hs) more ys below)

  pub br_lawful : (hs : List Head) (d : ℕ) → IsLawfulRow cx hs (br_row cx hs d)
  br_lawful hs d =
      one_target hs _ (target cx hs d) refl (plain_monotone cx laws (label_types_at cx hs d) [] [])
      (λ ys pushed p g. front_reaches (drop d hs) [] ys p (subst (λ ws. AllBelow cx ys ws) (sym (append-nil (label_types_at cx hs d))) (plain_below cx laws (label_types_at cx hs d) [] [] ys pushed g)))

  pub br_if_lawful : (hs : List Head) (d : ℕ) → IsLawfulRow cx hs (br_if_row cx hs d)
  br_if_lawful hs d =
      one_target hs _ (target cx hs d) refl (plain_monotone cx laws (label_types_at cx hs d ++ I32 ∷ []) [] (label_types_at cx hs d))
      (λ ys pushed p g. front_reaches (drop d hs) (I32 ∷ []) ys p (plain_below cx laws (label_types_at cx hs d ++ I32 ∷ []) [] (label_types_at cx hs d) ys pushed g))

  table_reaches : (hs : List Head) (ds : List ℕ) (ys : List ValType) → has_labels hs ds ≡ true → all_fit_each cx (map Known ys) (map (λ d. label_types_at cx hs d ++ I32 ∷ []) ds) ≡ true → (j : ℕ) (t : Target) → slice_get (map (target cx hs) ds) j ≡ Some t → HeadAccepts cx (drop t.depth hs) (t.carried ys)
  table_reaches hs [] ys p h j t e = absurd cc
  table_reaches hs (d ∷ ds) ys p h zero t e =
      let a = and_true (all_fit cx (map Known ys) (label_types_at cx hs d ++ I32 ∷ [])) _ h in
      subst (λ (v : Target). HeadAccepts cx (drop v.depth hs) (v.carried ys)) (some_injective (target cx hs d) t e)
      (front_reaches (drop d hs) (I32 ∷ []) ys (and_true (has_label hs d) _ p).0 (below_of_fit cx ys (label_types_at cx hs d ++ I32 ∷ []) a.0))
  table_reaches hs (d ∷ ds) ys p h (suc j) t e =
      let a = and_true (all_fit cx (map Known ys) (label_types_at cx hs d ++ I32 ∷ [])) _ h in
      table_reaches hs ds ys (and_true (has_label hs d) _ p).1 a.1 j t e

  -- every label of a table is one that the operands fit, not the default alone
  pub br_table_lawful : (hs : List Head) (complete : Bool) (ds : List ℕ) (d : ℕ) → IsLawfulRow cx hs (br_table_row cx hs complete ds d)
  br_table_lawful hs complete ds d =
      record {
        monotone = plain_monotone cx laws (label_types_at cx hs d ++ I32 ∷ []) (map (λ e. label_types_at cx hs e ++ I32 ∷ []) ds) [];
        reaches = λ ys pushed p g j t e. table_reaches hs (d ∷ ds) ys (and_true complete _ p).1 (guard_some _ _ _ g).0 j t e;
      }

  -- the results of a tail call fit the outermost label, whatever the call takes
  pub tail_call_lawful : (hs : List Head) (expected results : List ValType) → IsLawfulRow cx hs (tail_call_row cx hs expected results)
  tail_call_lawful hs expected results =
      one_target hs _ (record { depth = pred (length hs); carried = λ found. results }) refl (plain_monotone cx laws expected [] [])
      (λ ys pushed p g.
      let r = and_true (has_label hs (pred (length hs))) _ p in
      types_reach (drop (pred (length hs)) hs) results r.0 (below_of_fit cx results _ r.1))
