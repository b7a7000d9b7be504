-- What is carried to a label: types below those of the label.
use Rattle.std.proofs.Common.{◌≡◌, ℕ, zero, suc, pred, Bool, true, false, ◌&&◌, List, [], ◌∷◌, ◌++◌, map, drop, length, slice_get, Some, None, refl, sym, ap, ap₂, ◌∙◌}
use Rattle.std.proofs.Math.Bool.{and-true}
use Rattle.std.specs.List.{AllByRecursion}
use Rattle.std.specs.Option.{option_map}
use Rattle.validate_types.specs.declared.types.ValType.{ValType}
use Rattle.validate_visit.specs.declared.frame.BlockType.{BlockType}
use Rattle.validation_rules.specs.Context.{Context}
use Rattle.validation_rules.specs.Fits.{Known, all_fit}
use Rattle.validation_rules.specs.Rows.{FrameKind, Head, label_types}
use Rattle.validation_rules.specs.Static.{label_accepts}
use Rattle.validation_rules.proofs.Below.{and_true, true_and}
use Rattle.validation_rules.proofs.Pops.{and_false}
use Rattle.validation_rules.proofs.Steps.{some_injective}
use Rattle.validate_stacks.specs.Steps.{head_of, type_and_kind}

-- the label that was found at this depth
pub accepts_there : (cx : Context) (types : List ValType) (hs : List Head) (d : ℕ) (bt : BlockType) (kind : FrameKind) → option_map type_and_kind (slice_get hs d) ≡ Some (bt, kind) → label_accepts cx (drop d hs) types ≡ all_fit cx (map Known types) (label_types cx (head_of kind bt))
accepts_there cx types [] zero bt kind e = absurd cc
accepts_there cx types [] (suc d) bt kind e = absurd cc
accepts_there cx types (h ∷ hs) zero bt kind e =
    let both : (h.block_type, h.kind) ≡ (bt, kind) = some_injective _ _ e in
    ap₂ (λ k b. all_fit cx (map Known types) (label_types cx (head_of k b))) (ap (λ (p : BlockType × FrameKind). p.1) both) (ap (λ (p : BlockType × FrameKind). p.0) both)
accepts_there cx types (h ∷ hs) (suc d) bt kind e = accepts_there cx types hs d bt kind e

-- the types of that label
pub carried_at : (cx : Context) (types expected : List ValType) (hs : List Head) (d : ℕ) (bt : BlockType) (kind : FrameKind) → option_map type_and_kind (slice_get hs d) ≡ Some (bt, kind) → expected ≡ label_types cx (head_of kind bt) → label_accepts cx (drop d hs) types ≡ all_fit cx (map Known types) expected
carried_at cx types expected hs d bt kind there same = accepts_there cx types hs d bt kind there ∙ ap (all_fit cx (map Known types)) (sym same)

pub accepts_none : (cx : Context) (types : List ValType) (hs : List Head) (d : ℕ) → option_map type_and_kind (slice_get hs d) ≡ None → label_accepts cx (drop d hs) types ≡ false
accepts_none cx types [] zero e = refl
accepts_none cx types [] (suc d) e = refl
accepts_none cx types (h ∷ hs) zero e = absurd cc
accepts_none cx types (h ∷ hs) (suc d) e = accepts_none cx types hs d e

-- one more type behind as many
pub fits_with_last : (cx : Context) (ts ws : List ValType) (t w : ValType) → length ts ≡ length ws → all_fit cx (map Known (ts ++ t ∷ [])) (ws ++ w ∷ []) ≡ (all_fit cx (map Known ts) ws && cx.of_module.below t w)
fits_with_last cx [] [] t w e = and-true (cx.of_module.below t w)
fits_with_last cx [] (y ∷ ws) t w e = absurd cc
fits_with_last cx (x ∷ ts) [] t w e = absurd cc
fits_with_last cx (x ∷ ts) (y ∷ ws) t w e = ap (λ b. cx.of_module.below x y && b) (fits_with_last cx ts ws t w (ap pred e)) ∙ sym (assoc (cx.of_module.below x y) (all_fit cx (map Known ts) ws) (cx.of_module.below t w))
  where
    assoc : (a b c : Bool) → ((a && b) && c) ≡ (a && (b && c))
    assoc true b c = refl
    assoc false b c = refl

-- one more type where there is none
pub last_none : (cx : Context) (ts ws : List ValType) (t : ValType) → length ws ≡ 0 → all_fit cx (map Known (ts ++ t ∷ [])) ws ≡ false
last_none cx [] [] t e = refl
last_none cx (x ∷ ts) [] t e = refl
last_none cx ts (w ∷ ws) t e = absurd cc

-- one more type behind another number
pub last_of_others : (cx : Context) (ts ws : List ValType) (t w : ValType) → (length ws ≡ length ts → ⊥) → all_fit cx (map Known (ts ++ t ∷ [])) (ws ++ w ∷ []) ≡ false
last_of_others cx [] [] t w n = absurd (n refl)
last_of_others cx [] (y ∷ ws) t w n = ap (λ b. cx.of_module.below t y && b) (none ws) ∙ and_false (cx.of_module.below t y)
  where
    none : (ws : List ValType) → all_fit cx [] (ws ++ w ∷ []) ≡ false
    none [] = refl
    none (y ∷ ws) = refl
last_of_others cx (x ∷ ts) [] t w n = ap (λ b. cx.of_module.below x w && b) (last_none cx ts [] t refl) ∙ and_false (cx.of_module.below x w)
last_of_others cx (x ∷ ts) (y ∷ ws) t w n = ap (λ b. cx.of_module.below x y && b) (last_of_others cx ts ws t w (λ e. n (ap suc e))) ∙ and_false (cx.of_module.below x y)

-- what holds of a list holds of its front and of its last
pub front_and_last : {A : Type 0} (P : A → Type 0) (xs : List A) (x : A) → AllByRecursion P (xs ++ x ∷ []) → AllByRecursion P xs × P x
front_and_last P [] x h = (tt, h.0)
front_and_last P (y ∷ xs) x h = let r = front_and_last P xs x h.1 in ((h.0, r.0), r.1)

-- as many types as expected, and one more of each
pub fits_and_last : (cx : Context) (ts ws : List ValType) (t w : ValType) → all_fit cx (map Known ts) ws ≡ true → cx.of_module.below t w ≡ true → all_fit cx (map Known (ts ++ t ∷ [])) (ws ++ w ∷ []) ≡ true
fits_and_last cx [] [] t w h b = ap (λ c. c && true) b
fits_and_last cx [] (y ∷ ws) t w h b = absurd cc
fits_and_last cx (x ∷ ts) [] t w h b = absurd cc
fits_and_last cx (x ∷ ts) (y ∷ ws) t w h b =
    let p = and_true (cx.of_module.below x y) _ h in
    true_and _ _ p.0 (fits_and_last cx ts ws t w p.1 b)
