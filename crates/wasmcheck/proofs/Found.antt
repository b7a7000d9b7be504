-- What an outcome says of a module, by what was found of its items.
use Rattle.std.proofs.Common.{◌≡◌, ◌⊎◌, ◌<◌, ℕ, inl, inr, refl, sym, subst, Result, Ok, Err, IfOk, List}
use Rattle.module_check.specs.Decoded.{AreNoValidModule, AreValidModule}
use Rattle.module_check.specs.FaultyModule.{IsInvalidAt, IsMalformedAt}
use Rattle.module_check.specs.Items.{item_count}
use Rattle.module_check.specs.Loaded.{IsValid, bytes_of, features_of}
use Rattle.module_check.specs.Outcomes.{AreSo, HasFound, IsFoundAt}
use Rattle.module_check.specs.UncoveredModule.{IsUncoveredAt}
use Rattle.module_check.specs.Verdicts.{outcome_of}
use Rattle.module_check.specs.declared.loaded.LoadedModule.{LoadedModule}
use Rattle.module_check.specs.declared.outcome.Outcome.{Outcome}
use Rattle.module_check.specs.declared.outcome.Outcome.TheVariants.{Valid, Invalid, NotCovered, TooLarge}
use Rattle.module_check.specs.declared.outcome.Outcome.TheVariants.{Malformed as IsMalformed}
use Rattle.module_check.specs.declared.outcome.Outcome.TheVariants.{Unreadable, OutOfMemory as IsOutOfMemory}
use Rattle.module_check.specs.declared.verdict.Verdict.{Verdict}
use Rattle.module_check.specs.declared.verdict.Verdict.TheVariants.{Accepted, Refused, Malformed, OutOfMemory}
use Rattle.module_check.specs.declared.verdict.Verdict.TheVariants.{NotCovered as Uncovered}
use Rattle.module_check.proofs.Outcomes.{complete_found, no_valid_so, so_found}
use Rattle.module_rules.specs.declared.features.ModuleFeatures.{ModuleFeatures}
use Rattle.validate_types.specs.declared.error.Error.{Error}
use Rattle.wasmcheck.specs.declared.module.CheckedModule.{CheckedModule}

-- what is found of one item is found of the module
pub found_in : (m : LoadedModule) (place : ℕ) (o : Outcome) → place < item_count m → IsFoundAt m place o → HasFound m o
found_in m place Valid w f = tt
found_in m place Invalid w f = (place, w, f)
found_in m place IsMalformed w f = (place, w, f)
found_in m place NotCovered w f = (place, w, f)
found_in m place TooLarge w f = f
found_in m place Unreadable w f = f
found_in m place IsOutOfMemory w f = tt

-- the verdict on an item says so
pub found_of : (m : LoadedModule) (place : ℕ) (v : Verdict) → ((offset : ℕ) → v ≡ Uncovered offset → IsUncoveredAt m place) → ((e : Error) → v ≡ Malformed e → IsMalformedAt m place) → ((e : Error) → v ≡ Refused e → IsInvalidAt m place) → IsFoundAt m place (outcome_of v)
found_of m place Accepted u x i = tt
found_of m place (Refused e) u x i = i e refl
found_of m place (Malformed e) u x i = x e refl
found_of m place (Uncovered offset) u x i = u offset refl
found_of m place OutOfMemory u x i = tt

-- a new outcome is that of before, or that of this verdict
pub now_found : (m : LoadedModule) (place : ℕ) (before now : Outcome) (v : Verdict) → (now ≡ before) ⊎ (now ≡ outcome_of v) → ((offset : ℕ) → v ≡ Uncovered offset → IsUncoveredAt m place) → ((e : Error) → v ≡ Malformed e → IsMalformedAt m place) → ((e : Error) → v ≡ Refused e → IsInvalidAt m place) → (now ≡ before) ⊎ IsFoundAt m place now
now_found m place before now v either u x i =
    elim either [
      | inl same ↦ inl same
      | inr this ↦ inr (subst (λ (o : Outcome). IsFoundAt m place o) (sym this) (found_of m place v u x i))
    ]

-- so of several
pub found_since : (m : LoadedModule) (first before now : Outcome) → (before ≡ first) ⊎ HasFound m before → (now ≡ before) → (now ≡ first) ⊎ HasFound m now
found_since m first before now found same = subst (λ (o : Outcome). (o ≡ first) ⊎ HasFound m o) (sym same) found

-- where nothing was found before
found_at_last : (m : LoadedModule) (now : Outcome) → (now ≡ Valid) ⊎ HasFound m now → HasFound m now
found_at_last m now found = elim found [ inl valid ↦ subst (λ (o : Outcome). HasFound m o) (sym valid) tt | inr this ↦ this ]

-- where nothing was found at first
pub found_anew : {E : Type 0} → (m : LoadedModule) (first : Outcome) (r : Result CheckedModule E) → first ≡ Valid → IfOk r (λ k. (k.outcome ≡ first) ⊎ HasFound m k.outcome) → IfOk r (λ k. HasFound m k.outcome)
found_anew m first (Ok k) valid found = found_at_last m k.outcome (subst (λ (f : Outcome). (k.outcome ≡ f) ⊎ HasFound m k.outcome) valid found)
found_anew m first (Err e) valid found = found

-- ---- the module that was read of the bytes is so

pub so_checked : {E : Type 0} → (m : LoadedModule) (features : ModuleFeatures) (bytes : List ℕ) → bytes_of m ≡ bytes → features_of m ≡ features → (r : Result CheckedModule E) → IfOk r (λ k. k.outcome ≡ Valid → IsValid m) → IfOk r (λ k. HasFound m k.outcome) → IfOk r (λ k. AreSo features bytes k.outcome)
so_checked m features bytes b f (Ok k) valid found = so_found m features bytes b f k.outcome valid found
so_checked m features bytes b f (Err e) valid found = found

pub complete_checked : {E : Type 0} → (m : LoadedModule) (features : ModuleFeatures) (bytes : List ℕ) → bytes_of m ≡ bytes → features_of m ≡ features → (r : Result CheckedModule E) → IfOk r (λ k. HasFound m k.outcome) → IfOk r (λ k. AreValidModule features bytes → (k.outcome ≡ Valid) ⊎ (k.outcome ≡ IsOutOfMemory))
complete_checked m features bytes b f (Ok k) found = complete_found m features bytes b f k.outcome found
complete_checked m features bytes b f (Err e) found = found

pub no_valid_checked : {E : Type 0} → (features : ModuleFeatures) (bytes : List ℕ) (r : Result CheckedModule E) → IfOk r (λ k. AreSo features bytes k.outcome) → IfOk r (λ k. (k.outcome ≡ Invalid) ⊎ (k.outcome ≡ IsMalformed) → AreNoValidModule features bytes)
no_valid_checked features bytes (Ok k) so = no_valid_so features bytes k.outcome so
no_valid_checked features bytes (Err e) so = so
