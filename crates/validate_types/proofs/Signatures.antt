-- Lists of types, compared one by one.
use Rattle.std.proofs.Common.{◌≡◌, ◌<◌, ◌≤◌, ℕ, zero, suc, pred, arith, Bool, true, false, ◌&&◌, List, [], ◌∷◌, drop, length, slice_get, slice_index_or, Some, refl, sym, ap, ◌∙◌}
use Rattle.validate_types.specs.Signatures.{is_each_below}
use Rattle.validate_types.specs.declared.types.ValType.{ValType}
use Rattle.validate_types.specs.declared.types.ValType.TheVariants.{I32}

-- the type at an index within the list
pub got : (i : ℕ) (ts : List ValType) → i < length ts → slice_get ts i ≡ Some (slice_index_or ts i I32)
got i [] l = absurd (omega (arith, l))
got zero (t ∷ ts) l = refl
got (suc i) (t ∷ ts) l = got i ts (omega (arith, l))

and_false : (b : Bool) → b && false ≡ false
and_false true = refl
and_false false = refl

pub other_count : (below : ValType → ValType → Bool) (ts us : List ValType) → (length ts ≡ length us → ⊥) → false ≡ is_each_below below ts us
other_count below [] [] n = absurd (n refl)
other_count below [] (u ∷ us) n = refl
other_count below (t ∷ ts) [] n = refl
other_count below (t ∷ ts) (u ∷ us) n = sym (and_false (below t u)) ∙ ap (λ b. below t u && b) (other_count below ts us (λ e. n (ap suc e)))

-- one more type is compared
pub compared : (below : ValType → ValType → Bool) (b : Bool) (i : ℕ) (ts us : List ValType) → i < length ts → length ts ≡ length us → b ≡ below (slice_index_or ts i I32) (slice_index_or us i I32)
    → is_each_below below (drop i ts) (drop i us) ≡ b && is_each_below below (drop (suc i) ts) (drop (suc i) us)
compared below b i [] us l e h = absurd (omega (arith, l))
compared below b i (t ∷ ts) [] l e h = absurd cc
compared below b zero (t ∷ ts) (u ∷ us) l e h = ap (λ d. d && is_each_below below ts us) (sym h)
compared below b (suc i) (t ∷ ts) (u ∷ us) l e h = compared below b i ts us (omega (arith, l)) (ap pred e) h

-- none is left
pub all_compared : (below : ValType → ValType → Bool) (i : ℕ) (ts us : List ValType) → length ts ≤ i → length ts ≡ length us → true ≡ is_each_below below (drop i ts) (drop i us)
all_compared below zero [] [] l e = refl
all_compared below (suc i) [] [] l e = refl
all_compared below i [] (u ∷ us) l e = absurd cc
all_compared below i (t ∷ ts) [] l e = absurd cc
all_compared below zero (t ∷ ts) (u ∷ us) l e = absurd (omega (arith, l))
all_compared below (suc i) (t ∷ ts) (u ∷ us) l e = all_compared below i ts us (omega (arith, l)) (ap pred e)
