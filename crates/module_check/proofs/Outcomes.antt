-- What an outcome says of bytes, by what was found in the module that was read of them, or by why none was.
use Rattle.std.proofs.Common.{◌≡◌, ◌≢◌, ◌⊎◌, ℕ, inl, inr, refl, sym, ap, ◌∙◌, subst, List}
use Rattle.binary_modules.specs.Modules.{IsNoModule}
use Rattle.module_check.specs.Decoded.{AreNoValidModule, AreTooLarge, AreValidModule, DeclareValid}
use Rattle.module_check.specs.Loaded.{IsValid, bytes_of, features_of}
use Rattle.module_check.specs.Outcomes.{AreSo, HasFound, outcome_of_load}
use Rattle.module_check.specs.UncoveredModule.{HasVectorIn}
use Rattle.module_check.specs.Unloaded.{AreUnloaded}
use Rattle.module_check.specs.declared.load_refusal.LoadRefusal.{LoadRefusal}
use Rattle.module_check.specs.declared.load_refusal.LoadRefusal.TheVariants.{Judged}
use Rattle.module_check.specs.declared.load_refusal.LoadRefusal.TheVariants.{TooLarge as PastLimit}
use Rattle.module_check.specs.declared.loaded.LoadedModule.{LoadedModule}
use Rattle.module_check.specs.declared.outcome.Outcome.{Outcome}
use Rattle.module_check.specs.declared.outcome.Outcome.TheVariants.{Valid, Invalid, NotCovered, TooLarge}
use Rattle.module_check.specs.declared.outcome.Outcome.TheVariants.{Malformed as IsMalformed}
use Rattle.module_check.specs.declared.outcome.Outcome.TheVariants.{Unreadable, OutOfMemory as IsOutOfMemory}
use Rattle.module_check.specs.declared.verdict.Verdict.TheVariants.{Accepted, Refused, Malformed, OutOfMemory}
use Rattle.module_check.specs.declared.verdict.Verdict.TheVariants.{NotCovered as Uncovered}
use Rattle.module_check.proofs.Decoded.{are_valid, declares_valid}
use Rattle.module_check.proofs.Faulty.{invalid_module, malformed_module, no_valid_invalid, no_valid_malformed, not_valid, uncovered_module}
use Rattle.module_rules.specs.declared.features.ModuleFeatures.{ModuleFeatures}
use Rattle.validate_types.specs.declared.error.Error.{Error}

-- ---- the module that was read of the bytes is so

module _ (m : LoadedModule) (features : ModuleFeatures) (bytes : List ℕ) (b : bytes_of m ≡ bytes) (f : features_of m ≡ features) where
  pub so_found : (o : Outcome) → (o ≡ Valid → IsValid m) → HasFound m o → AreSo features bytes o
  so_found Valid valid found = subst (λ (x : ModuleFeatures). AreValidModule x bytes) f (subst (AreValidModule (features_of m)) b (are_valid m (valid refl)))
  so_found Invalid valid found = inr (record { loaded = m; of_bytes = b; under = f; has_invalid = found })
  so_found IsMalformed valid found = inr (record { loaded = m; of_bytes = b; under = f; has_malformed = found })
  so_found NotCovered valid found = inl (record { loaded = m; of_bytes = b; under = f; has_uncovered = found })
  so_found TooLarge valid found = absurd found
  so_found Unreadable valid found = found
  so_found IsOutOfMemory valid found = tt

  pub complete_found : (o : Outcome) → HasFound m o → AreValidModule features bytes → (o ≡ Valid) ⊎ (o ≡ IsOutOfMemory)
  complete_found Valid found v = inl refl
  complete_found Invalid found v = absurd (not_valid features bytes m b f (invalid_module m found) v.decoded v.is_decoded v.is_valid)
  complete_found IsMalformed found v = absurd (not_valid features bytes m b f (malformed_module m found) v.decoded v.is_decoded v.is_valid)
  complete_found NotCovered found v = absurd (not_valid features bytes m b f (uncovered_module m found) v.decoded v.is_decoded v.is_valid)
  complete_found TooLarge found v = absurd found
  complete_found Unreadable found v = absurd found
  complete_found IsOutOfMemory found v = inr refl

-- ---- the bytes that weren't read are so

module _ (features : ModuleFeatures) (bytes : List ℕ) (o : Outcome) where
  pub so_unloaded : (refusal : LoadRefusal) → o ≡ outcome_of_load refusal → refusal ≢ Judged Accepted → ((offset : ℕ) → refusal ≡ Judged (Uncovered offset) → HasVectorIn features bytes) → ((e : Error) → refusal ≡ Judged (Malformed e) → IsNoModule bytes) → ((e : Error) → refusal ≡ Judged (Refused e) → AreUnloaded features bytes) → ((e : Error) → refusal ≡ PastLimit e → AreTooLarge bytes) → AreSo features bytes o
  so_unloaded (Judged Accepted) same accepted uncovered malformed invalid large = absurd (accepted refl)
  so_unloaded (Judged (Refused e)) same accepted uncovered malformed invalid large = subst (AreSo features bytes) (sym same) (inl (invalid e refl))
  so_unloaded (Judged (Malformed e)) same accepted uncovered malformed invalid large = subst (AreSo features bytes) (sym same) (inl (malformed e refl))
  so_unloaded (Judged (Uncovered offset)) same accepted uncovered malformed invalid large = subst (AreSo features bytes) (sym same) (inr (uncovered offset refl))
  so_unloaded (Judged OutOfMemory) same accepted uncovered malformed invalid large = subst (AreSo features bytes) (sym same) tt
  so_unloaded (PastLimit e) same accepted uncovered malformed invalid large = subst (AreSo features bytes) (sym same) (large e refl)

  pub complete_unloaded : (refusal : LoadRefusal) → o ≡ outcome_of_load refusal → (DeclareValid features bytes → refusal ≡ Judged OutOfMemory) → AreValidModule features bytes → (o ≡ Valid) ⊎ (o ≡ IsOutOfMemory)
  complete_unloaded refusal same complete valid = inr (same ∙ ap outcome_of_load (complete (declares_valid features bytes valid)))

  pub no_valid_so : AreSo features bytes o → (o ≡ Invalid) ⊎ (o ≡ IsMalformed) → AreNoValidModule features bytes
  no_valid_so so (inl is) = no_valid_invalid features bytes (subst (AreSo features bytes) is so)
  no_valid_so so (inr is) = no_valid_malformed features bytes (subst (AreSo features bytes) is so)
