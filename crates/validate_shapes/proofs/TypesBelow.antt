-- Types below types, one by one.
use Rattle.std.proofs.Common.{◌≡◌, ◌<◌, ◌≤◌, ℕ, zero, suc, pred, arith, Bool, true, false, ◌&&◌, List, [], ◌∷◌, drop, length, map, slice_index_or, refl, sym, ap, ◌∙◌}
use Rattle.std.specs.List.{AllByRecursion}
use Rattle.validate_resources.specs.Context.{ModuleContext, Valid}
use Rattle.validate_types.specs.declared.types.ValType.{ValType}
use Rattle.validation_rules.specs.Context.{I32, Context}
use Rattle.validation_rules.specs.Fits.{Known, all_fit}
use Rattle.validation_rules.proofs.Pops.{and_false}

module _ (cx : Context) where
  pub other_count : (xs ys : List ValType) → (length xs ≡ length ys → ⊥) → false ≡ all_fit cx (map Known xs) ys
  other_count [] [] n = absurd (n refl)
  other_count [] (y ∷ ys) n = refl
  other_count (x ∷ xs) [] n = refl
  other_count (x ∷ xs) (y ∷ ys) n = sym (and_false (cx.of_module.below x y)) ∙ ap (λ b. cx.of_module.below x y && b) (other_count xs ys (λ e. n (ap suc e)))

  -- one more type is compared
  pub compared : (b : Bool) (i : ℕ) (xs ys : List ValType) → i < length xs → length xs ≡ length ys → b ≡ cx.of_module.below (slice_index_or xs i I32) (slice_index_or ys i I32) → all_fit cx (map Known (drop i xs)) (drop i ys) ≡ b && all_fit cx (map Known (drop (suc i) xs)) (drop (suc i) ys)
  compared b i [] ys l e h = absurd (omega (arith, l))
  compared b i (x ∷ xs) [] l e h = absurd cc
  compared b zero (x ∷ xs) (y ∷ ys) l e h = ap (λ d. d && all_fit cx (map Known xs) ys) (sym h)
  compared b (suc i) (x ∷ xs) (y ∷ ys) l e h = compared b i xs ys (omega (arith, l)) (ap pred e) h

  -- none is left
  pub all_compared : (i : ℕ) (xs ys : List ValType) → length xs ≤ i → length xs ≡ length ys → true ≡ all_fit cx (map Known (drop i xs)) (drop i ys)
  all_compared zero [] [] l e = refl
  all_compared (suc i) [] [] l e = refl
  all_compared i [] (y ∷ ys) l e = absurd cc
  all_compared i (x ∷ xs) [] l e = absurd cc
  all_compared zero (x ∷ xs) (y ∷ ys) l e = absurd (omega (arith, l))
  all_compared (suc i) (x ∷ xs) (y ∷ ys) l e = all_compared i xs ys (omega (arith, l)) (ap pred e)

-- each of the types at an index is among the valid ones
pub valid_at : (md : ModuleContext) (i : ℕ) (xs : List ValType) → i < length xs → AllByRecursion (Valid md) xs → Valid md (slice_index_or xs i I32)
valid_at md i [] l v = absurd (omega (arith, l))
valid_at md zero (x ∷ xs) l v = v.0
valid_at md (suc i) (x ∷ xs) l v = valid_at md i xs (omega (arith, l)) v.1

pub ruleset compared_lists = (other_count, compared, all_compared, valid_at)
