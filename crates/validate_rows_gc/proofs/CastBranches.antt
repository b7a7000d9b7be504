-- Branches by a cast: their types, and their steps by their pops.
use Rattle.std.proofs.Common.{◌≡◌, ◌≢◌, ℕ, true, false, List, [], ◌∷◌, ◌++◌, reverse, Option, Some, None, refl, ap, ◌∙◌, subst}
use Rattle.std.specs.List.{AllByRecursion}
use Rattle.std.specs.Option.{option_map}
use Rattle.validate_resources.specs.Context.{ModuleContext, IsLawful, Valid}
use Rattle.validate_types.specs.declared.refs.RefType.{RefType}
use Rattle.validation_rules.specs.Branches.{has_label, label_types_at}
use Rattle.validation_rules.specs.Casts.{CastTypes, split_last, with_last, cast_branch_row_for, cast_branch_row}
use Rattle.validation_rules.specs.Context.{ValType, Ref, Context}
use Rattle.validation_rules.specs.Operators.{lookup_row, staying_operator}
use Rattle.validation_rules.specs.Rows.{Target, guard}
use Rattle.validation_rules.specs.Static.{heads}
use Rattle.validation_rules.proofs.Rows.{row_with}
use Rattle.validation_rules.proofs.Steps.{some_injective, mapped_some}
use Rattle.validation_rules.proofs.Valid.{difference_valid}
use Rattle.validate_stacks.specs.Pops.{body_popped_each, body_pushed_each}
use Rattle.validate_stacks.specs.State.{BodyState, body_context}
use Rattle.validate_stacks.specs.Visits.{step_body}
use Rattle.validate_shapes.proofs.BranchSteps.{pushes_is}
use Rattle.validate_rows_gc.specs.Casts.{branch_types}
use Rattle.validate_rows_gc.specs.declared.casts.CastBranch.{CastBranch}
use Rattle.validate_rows_gc.specs.declared.casts.CastBranch.TheVariants.{OnCast, OnCastFail}

-- ---- the types of either branch, where those of the cast are valid

module _ (cx : Context) (laws : IsLawful cx.of_module) (p : RefType × RefType) (from : Valid cx.of_module (Ref p.0)) (to : Valid cx.of_module (Ref p.1)) where
  pub from_valid : (b : CastBranch) → Valid cx.of_module (Ref (branch_types b p).from)
  from_valid OnCast = from
  from_valid OnCastFail = from

  pub carried_valid : (b : CastBranch) → Valid cx.of_module (Ref (branch_types b p).carried)
  carried_valid OnCast = to
  carried_valid OnCastFail = difference_valid cx laws p.0 p.1 from

  pub left_valid : (b : CastBranch) → Valid cx.of_module (Ref (branch_types b p).left)
  left_valid OnCast = difference_valid cx laws p.0 p.1 from
  left_valid OnCastFail = to

-- ---- the last type of a label

pub split_ends : (xs : List ValType) (t : ValType) → split_last (xs ++ t ∷ []) ≡ Some (xs, t)
split_ends [] t = refl
split_ends (x ∷ []) t = refl
split_ends (x ∷ y ∷ xs) t = ap (option_map (λ (p : List ValType × ValType). (x ∷ p.0, p.1))) (split_ends (y ∷ xs) t)

pub last_is_valid : (md : ModuleContext) (ts : List ValType) (p : List ValType × ValType) → AllByRecursion (Valid md) ts → split_last ts ≡ Some p → Valid md p.1
last_is_valid md [] p h e = absurd cc
last_is_valid md (t ∷ []) p h e = subst (λ (q : List ValType × ValType). Valid md q.1) (some_injective _ _ e) h.0
last_is_valid md (t ∷ u ∷ ts) p h e =
    let m = mapped_some _ (split_last (u ∷ ts)) p e in
    subst (λ (q : List ValType × ValType). Valid md q.1) m.2 (last_is_valid md (u ∷ ts) m.0 h.1 m.1)

-- ---- rows and steps

-- a label that isn't there or has no types, or whose last one doesn't lie above what is carried there
module _ (md : ModuleContext) (v : BodyState) (d : ℕ) (types : CastTypes) where
  abbrev LiesElsewhere : Option (List ValType × ValType) → Type 0
  LiesElsewhere None = Unit {0}
  LiesElsewhere (Some p) = md.below (Ref types.carried) p.1 ≡ false

  pub barred_unlabelled : has_label (heads v.present.frames) d ≡ false → (cast_branch_row (body_context md v) (heads v.present.frames) d types).premise ≡ false
  barred_unlabelled =
      ap (λ b. (lookup_row (guard b (split_last (label_types_at (body_context md v) (heads v.present.frames) d))) (cast_branch_row_for (body_context md v) d types)).premise)

  pub barred_at : (found : Option (List ValType × ValType)) → has_label (heads v.present.frames) d ≡ true → split_last (label_types_at (body_context md v) (heads v.present.frames) d) ≡ found → LiesElsewhere found → (cast_branch_row (body_context md v) (heads v.present.frames) d types).premise ≡ false
  barred_at found there e elsewhere =
      ap (λ b. (lookup_row (guard b (split_last (label_types_at (body_context md v) (heads v.present.frames) d))) (cast_branch_row_for (body_context md v) d types)).premise) there
      ∙ (ap (λ q. (lookup_row q (cast_branch_row_for (body_context md v) d types)).premise) e ∙ by found elsewhere)
    where
      by : (found : Option (List ValType × ValType)) → LiesElsewhere found → (lookup_row found (cast_branch_row_for (body_context md v) d types)).premise ≡ false
      by None h = refl
      by (Some p) h = h

-- a branch to a label whose last type lies above what is carried there
module _ (md : ModuleContext) (v : BodyState) (o : v.present.frames ≢ []) (d : ℕ) (types : CastTypes) (others : List ValType) (last : ValType) (there : has_label (heads v.present.frames) d ≡ true) (ends : split_last (label_types_at (body_context md v) (heads v.present.frames) d) ≡ Some (others, last)) (below : md.below (Ref types.carried) last ≡ true) where
  abbrev expected : List ValType
  expected = others ++ Ref types.from ∷ []

  abbrev pushed : List ValType
  pushed = others ++ Ref types.left ∷ []

  abbrev targets_of : List Target
  targets_of = record { depth = d; carried = with_last (Ref types.carried) } ∷ []

  pub branch_is : step_body md (λ c. staying_operator (λ hs. cast_branch_row c hs d types)) v ≡ option_map (λ u. body_pushed_each pushed u) (body_popped_each md (reverse expected) v)
  branch_is =
      let cx = body_context md v in
      let hs = heads v.present.frames in
      pushes_is md v o (λ c hs. cast_branch_row c hs d types) true expected pushed targets_of
      (ap (λ b. lookup_row (guard b (split_last (label_types_at cx hs d))) (cast_branch_row_for cx d types)) there
      ∙ (ap (λ q. lookup_row q (cast_branch_row_for cx d types)) ends
      ∙ ap (λ b. row_with b None expected [] pushed None targets_of [] false) below))
