-- A module that was read of the bytes, and is valid or isn't covered; or why it wasn't read.
use Rattle.std.proofs.Common.{◌≡◌, ◌≤◌, arith, refl, ℕ, zero, suc, true, List, drop, inl, inr, ◌∙◌, subst}
use Rattle.std.specs.Prelude.{◌⊎◌, Result, Ok, Err, IsOk, IfOk, IfErr, MatchResult}
use Rattle.binary_operators.specs.Vectors.{BeginVector}
use Rattle.module_check.specs.Decoded.{AreNoValidModule, AreTooLarge, AreValidModule}
use Rattle.module_check.specs.Loaded.{bytes_of, features_of, IsAcceptedModule, IsValid}
use Rattle.module_check.proofs.Decoded.{are_valid, declares_valid, is_no_valid, not_past, unread_no_valid}
use Rattle.module_check.specs.declared.loaded.LoadedModule.{LoadedModule}
use Rattle.binary_modules.specs.Modules.{IsNoModule}
use Rattle.module_check.specs.FaultyModule.{HasInvalid, HasMalformed}
use Rattle.module_check.specs.UncoveredModule.{AreUncovered, HasUncovered, HasVectorIn}
use Rattle.module_check.specs.Unloaded.{AreInvalid, AreMalformed, AreUnloaded}
use Rattle.module_check.specs.declared.load_refusal.LoadRefusal.{LoadRefusal}
use Rattle.module_check.specs.declared.load_refusal.LoadRefusal.TheVariants.{Judged, TooLarge}
use Rattle.module_check.specs.declared.verdict.Verdict.TheVariants.{Refused, Malformed, NotCovered}
use Rattle.module_rules.specs.Features.{of_bits, operator_features}
use Rattle.module_rules.specs.declared.features.ModuleFeatures.{ModuleFeatures}
use Rattle.module_check.specs.EmptySections.{completed}
use Rattle.module_check.specs.Unbodied.{DeclaresInModule, declared_by, features_of as features_alone}
use Rattle.module_check.specs.declared.unbodied.LoadedDeclarations.{LoadedDeclarations}
use Rattle.validate_types.specs.Features.{has, simd}
use Rattle.validate_types.specs.declared.error.Error.{Error}
use Rattle.c_api.specs.Calls.{IsLoadedFrom, AreDeclaredFrom}

pub read_valid : (bytes : List ℕ) (bits : ℕ) (r : Result LoadedModule LoadRefusal) → IfOk r (IsLoadedFrom bytes bits) → IsOk r → IfOk r IsValid → AreValidModule (of_bits bits) bytes
read_valid bytes bits (Ok m) l o s =
    subst (λ (f : ModuleFeatures). AreValidModule f bytes) l.has_features (subst (AreValidModule (features_of m)) l.has_bytes (are_valid m s))
read_valid bytes bits (Err v) l o s = absurd cc

pub loaded_from : (bytes : List ℕ) (bits : ℕ) (f : ModuleFeatures) (r : Result LoadedModule LoadRefusal) → IfOk r (λ m. bytes_of m ≡ bytes) → IfOk r (λ m. features_of m ≡ f) → f ≡ of_bits bits → IfOk r (IsLoadedFrom bytes bits)
loaded_from bytes bits f (Ok m) b e s = record { has_bytes = b; has_features = e ∙ s }
loaded_from bytes bits f (Err v) b e s = tt

pub declared_from : (bytes : List ℕ) (bits : ℕ) (f : ModuleFeatures) (r : Result LoadedDeclarations LoadRefusal) → IfOk r (λ d. DeclaresInModule (completed bytes) (declared_by d)) → IfOk r (λ d. features_alone d ≡ f) → f ≡ of_bits bits → IfOk r (AreDeclaredFrom bytes bits)
declared_from bytes bits f (Ok d) b e s = record { declare = b; have_features = e ∙ s }
declared_from bytes bits f (Err v) b e s = tt

-- what isn't covered of a module that was read, or why it wasn't
pub read_uncovered : (bytes : List ℕ) (bits : ℕ) (r : Result LoadedModule LoadRefusal) → IfOk r (IsLoadedFrom bytes bits) → IfErr r (λ v. (offset : ℕ) → v ≡ Judged (NotCovered offset) → HasVectorIn (of_bits bits) bytes) → MatchResult r HasUncovered (λ v. (offset : ℕ) × (v ≡ Judged (NotCovered offset))) → AreUncovered (of_bits bits) bytes
read_uncovered bytes bits (Ok m) l u h = inl (record { loaded = m; of_bytes = l.has_bytes; under = l.has_features; has_uncovered = h })
read_uncovered bytes bits (Err v) l u h = inr (u h.0 h.1)

-- why bytes weren't read, under the proposals that the bits stand for
pub vector_in : {T : Type 0} → (bytes : List ℕ) (bits : ℕ) (f : ModuleFeatures) (r : Result T LoadRefusal) → IfErr r (λ v. (offset : ℕ) → v ≡ Judged (NotCovered offset) → has (operator_features f) simd ≡ true) → IfErr r (λ v. (offset : ℕ) → v ≡ Judged (NotCovered offset) → BeginVector (drop offset bytes)) → f ≡ of_bits bits → IfErr r (λ v. (offset : ℕ) → v ≡ Judged (NotCovered offset) → HasVectorIn (of_bits bits) bytes)
vector_in bytes bits f (Ok m) p b s = tt
vector_in bytes bits f (Err v) p b s = λ offset e. record {
  offset = offset;
  begins = b offset e;
  is_on = subst (λ g. has (operator_features g) simd ≡ true) s (p offset e);
}

-- bytes that weren't read, since what they declare is past a limit
pub read_too_large : {T : Type 0} → (bytes : List ℕ) (r : Result T LoadRefusal) → IfErr r (λ v. (e : Error) → v ≡ TooLarge e → AreTooLarge bytes) → MatchResult r (λ m. ⊥) (λ v. (e : Error) × (v ≡ TooLarge e)) → AreTooLarge bytes
read_too_large bytes (Ok m) l h = absurd h
read_too_large bytes (Err v) l h = l h.0 h.1

-- the same under the proposals that the bits stand for
pub under_bits : {T : Type 0} → (bits : ℕ) (f : ModuleFeatures) (r : Result T LoadRefusal) (P : ModuleFeatures → LoadRefusal → Type 0) → IfErr r (P f) → f ≡ of_bits bits → IfErr r (P (of_bits bits))
under_bits bits f r P u s = subst (λ g. IfErr r (P g)) s u

-- what is malformed of a module that was read, or why it wasn't; and what is invalid
pub read_malformed : (bytes : List ℕ) (bits : ℕ) (r : Result LoadedModule LoadRefusal) → IfOk r (IsLoadedFrom bytes bits) → IfErr r (λ v. (e : Error) → v ≡ Judged (Malformed e) → IsNoModule bytes) → MatchResult r HasMalformed (λ v. (e : Error) × (v ≡ Judged (Malformed e))) → AreMalformed (of_bits bits) bytes
read_malformed bytes bits (Ok m) l u h = inr (record { loaded = m; of_bytes = l.has_bytes; under = l.has_features; has_malformed = h })
read_malformed bytes bits (Err v) l u h = inl (u h.0 h.1)

pub read_invalid : (bytes : List ℕ) (bits : ℕ) (r : Result LoadedModule LoadRefusal) → IfOk r (IsLoadedFrom bytes bits) → IfErr r (λ v. (e : Error) → v ≡ Judged (Refused e) → AreUnloaded (of_bits bits) bytes) → MatchResult r HasInvalid (λ v. (e : Error) × (v ≡ Judged (Refused e))) → AreInvalid (of_bits bits) bytes
read_invalid bytes bits (Ok m) l u h = inr (record { loaded = m; of_bytes = l.has_bytes; under = l.has_features; has_invalid = h })
read_invalid bytes bits (Err v) l u h = inl (u h.0 h.1)

-- ---- of the bytes of a valid module, no other status is told

not_refused : (features : ModuleFeatures) (bytes : List ℕ) → AreValidModule features bytes → AreNoValidModule features bytes → ⊥
not_refused features bytes h none = none h.decoded h.is_decoded h.is_valid

-- a module that was read isn't accepted, or bytes that have a vector operator weren't read
pub read_no_valid : (bytes : List ℕ) (bits : ℕ) (r : Result LoadedModule LoadRefusal) → IfOk r (IsLoadedFrom bytes bits) → IfErr r (λ v. (offset : ℕ) → v ≡ Judged (NotCovered offset) → IsNoModule bytes) → IfOk r (λ m. ¬ IsAcceptedModule m) → MatchResult r HasUncovered (λ v. (offset : ℕ) × (v ≡ Judged (NotCovered offset))) → AreNoValidModule (of_bits bits) bytes
read_no_valid bytes bits (Ok m) l unread none found =
    subst (λ (f : ModuleFeatures). AreNoValidModule f bytes) l.has_features (subst (AreNoValidModule (features_of m)) l.has_bytes (is_no_valid m none))
read_no_valid bytes bits (Err v) l unread none found = unread_no_valid (of_bits bits) bytes (unread found.0 found.1)

up_to_four : (status : ℕ) → status ≤ 4 → (status ≡ 0) ⊎ (status ≡ 1) ⊎ (status ≡ 2) ⊎ (status ≡ 3) ⊎ (status ≡ 4)
up_to_four zero h = inl refl
up_to_four (suc zero) h = inr (inl refl)
up_to_four (suc (suc zero)) h = inr (inr (inl refl))
up_to_four (suc (suc (suc zero))) h = inr (inr (inr (inl refl)))
up_to_four (suc (suc (suc (suc n)))) h = inr (inr (inr (inr (omega (arith, h)))))

pub no_other : (features : ModuleFeatures) (bytes : List ℕ) (status : ℕ) → ((status ≡ 1) ⊎ (status ≡ 2) → AreNoValidModule features bytes) → (status ≡ 4 → AreNoValidModule features bytes) → (status ≡ 7 → AreTooLarge bytes) → (status ≤ 4) ⊎ (status ≡ 7) → AreValidModule features bytes → (status ≡ 0) ⊎ (status ≡ 3)
no_other features bytes status refused uncovered large (inr seven) h = absurd (not_past features bytes (declares_valid features bytes h) (large seven))
no_other features bytes status refused uncovered large (inl few) h =
    elim (up_to_four status few) [
      | inl none ↦ inl none
      | inr (inl one) ↦ absurd (not_refused features bytes h (refused (inl one)))
      | inr (inr (inl two)) ↦ absurd (not_refused features bytes h (refused (inr two)))
      | inr (inr (inr (inl three))) ↦ inr three
      | inr (inr (inr (inr four))) ↦ absurd (not_refused features bytes h (uncovered four))
    ]
