-- Branches by a cast keep what the law asks of operators: what is carried to the label lies below the last
-- of its types, and the operands under it fit the others.
use Rattle.std.proofs.Common.{◌≡◌, ℕ, List, [], ◌∷◌, ◌++◌, drop, Option, Some, None, refl, sym, ap, ◌∙◌, subst}
use Rattle.validate_resources.specs.Context.{IsLawful}
use Rattle.validate_types.specs.declared.refs.RefType.{RefType}
use Rattle.validate_visit.specs.declared.op.BranchCast.{BranchCast}
use Rattle.validation_rules.specs.Branches.{has_label, label_types_at}
use Rattle.validation_rules.specs.Casts.{CastTypes, checked_cast, split_last, with_last, cast_branch_row_for, cast_branch_row}
use Rattle.validation_rules.specs.Context.{ValType, Ref, Context, IsValidBelow, AllBelow}
use Rattle.validation_rules.specs.Operators.{lookup_row, staying_operator}
use Rattle.validation_rules.specs.Rows.{Head, guard}
use Rattle.validation_rules.proofs.Steps.{some_injective, guard_some, mapped_some}
use Rattle.type_safety.proofs.Laws.{IsLawfulRow, IsLawfulOperator}
use Rattle.type_safety.proofs.Branches.{one_target, types_reach}
use Rattle.type_safety.proofs.Plain.{plain_monotone, plain_below, no_target, found_lawful, flat_lawful}

module _ (cx : Context) (laws : IsLawful cx.of_module) where
  pub split_is : (ts : List ValType) (p : List ValType × ValType) → split_last ts ≡ Some p → p.0 ++ p.1 ∷ [] ≡ ts
  split_is [] p e = absurd cc
  split_is (t ∷ []) p e = ap (λ (q : List ValType × ValType). q.0 ++ q.1 ∷ []) (sym (some_injective _ _ e))
  split_is (t ∷ u ∷ ts) p e =
      let m = mapped_some _ (split_last (u ∷ ts)) p e in
      ap (λ (q : List ValType × ValType). q.0 ++ q.1 ∷ []) (sym m.2) ∙ ap (λ l. t ∷ l) (split_is (u ∷ ts) m.0 m.1)

  -- types below a list, with the last of them replaced by one below the last of another
  pub last_replaced : (ts : List ValType) (from carried last : ValType) (ys : List ValType) → IsValidBelow cx.of_module carried last → AllBelow cx ys (ts ++ from ∷ []) → AllBelow cx (with_last carried ys) (ts ++ last ∷ [])
  last_replaced [] from carried last (y ∷ []) c b = (c, tt)
  last_replaced [] from carried last [] c b = elim b [ ]
  last_replaced [] from carried last (y ∷ z ∷ ys) c b = elim b.1 [ ]
  last_replaced (t ∷ ts) from carried last [] c b = elim b [ ]
  last_replaced (t ∷ []) from carried last (y ∷ []) c b = elim b.1 [ ]
  last_replaced (t ∷ u ∷ ts) from carried last (y ∷ []) c b = elim b.1 [ ]
  last_replaced (t ∷ ts) from carried last (y ∷ z ∷ ys) c b = (b.0, last_replaced ts from carried last (z ∷ ys) c b.1)

  cast_branch_row_lawful : (hs : List Head) (d : ℕ) (types : CastTypes) → IsLawfulRow cx hs (cast_branch_row cx hs d types)
  cast_branch_row_lawful hs d types = by (guard (has_label hs d) (split_last (label_types_at cx hs d))) refl
    where
      by : (o : Option (List ValType × ValType)) → guard (has_label hs d) (split_last (label_types_at cx hs d)) ≡ o → IsLawfulRow cx hs (lookup_row o (cast_branch_row_for cx d types))
      by None e = no_target cx laws hs _ refl (plain_monotone cx laws [] [] [])
      by (Some p) e =
          let g = guard_some (has_label hs d) _ _ e in
          let expected = p.0 ++ Ref types.from ∷ [] in
          let left = p.0 ++ Ref types.left ∷ [] in
          one_target cx laws hs _ (record { depth = d; carried = with_last (Ref types.carried) }) refl (plain_monotone cx laws expected [] left)
          (λ ys pushed q h.
          let b = last_replaced p.0 (Ref types.from) (Ref types.carried) p.1 ys q (plain_below cx laws expected [] left ys pushed h) in
          types_reach cx laws (drop d hs) _ g.0 (subst (λ (ts : List ValType). AllBelow cx (with_last (Ref types.carried) ys) ts) (split_is (label_types_at cx hs d) p g.1) b))

  pub cast_branch_lawful : (types : RefType × RefType → CastTypes) (cast : BranchCast) → IsLawfulOperator cx (staying_operator (λ hs. lookup_row (checked_cast cx cast) (λ p. cast_branch_row cx hs cast.relative_depth (types p))))
  cast_branch_lawful types cast =
      flat_lawful cx laws _
      (λ hs. found_lawful cx laws hs (checked_cast cx cast) (λ p. cast_branch_row cx hs cast.relative_depth (types p)) (λ p. cast_branch_row_lawful hs cast.relative_depth (types p)))
