-- What an outcome says of a module that was read, and of bytes (the crate's own).
use Rattle.std.specs.Prelude.{ℕ, List}
use Rattle.module_check.specs.Decoded.{AreTooLarge, AreValidModule}
use Rattle.module_check.specs.FaultyModule.{HasInvalid, HasMalformed, IsInvalidAt, IsMalformedAt}
use Rattle.module_check.specs.UncoveredModule.{AreUncovered, HasUncovered, IsUncoveredAt}
use Rattle.module_check.specs.Unloaded.{AreInvalid, AreMalformed}
use Rattle.module_check.specs.Verdicts.{outcome_of}
use Rattle.module_check.specs.declared.load_refusal.LoadRefusal.{LoadRefusal}
use Rattle.module_check.specs.declared.load_refusal.LoadRefusal.TheVariants.{Judged, TooLarge as PastLimit}
use Rattle.module_check.specs.declared.loaded.LoadedModule.{LoadedModule}
use Rattle.module_check.specs.declared.outcome.Outcome.{Outcome}
use Rattle.module_check.specs.declared.outcome.Outcome.TheVariants.{Valid, Invalid, Malformed}
use Rattle.module_check.specs.declared.outcome.Outcome.TheVariants.{NotCovered, TooLarge, Unreadable, OutOfMemory}
use Rattle.module_rules.specs.declared.features.ModuleFeatures.{ModuleFeatures}

-- what stands at this place of the row is so; none is too large, or unreadable
abbrev pub IsFoundAt : LoadedModule → ℕ → Outcome → Type 0
IsFoundAt m place Valid = Unit {0}
IsFoundAt m place Invalid = IsInvalidAt m place
IsFoundAt m place Malformed = IsMalformedAt m place
IsFoundAt m place NotCovered = IsUncoveredAt m place
IsFoundAt m place TooLarge = ⊥
IsFoundAt m place Unreadable = ⊥
IsFoundAt m place OutOfMemory = Unit {0}

-- something in the row is so
abbrev pub HasFound : LoadedModule → Outcome → Type 0
HasFound m Valid = Unit {0}
HasFound m Invalid = HasInvalid m
HasFound m Malformed = HasMalformed m
HasFound m NotCovered = HasUncovered m
HasFound m TooLarge = ⊥
HasFound m Unreadable = ⊥
HasFound m OutOfMemory = Unit {0}

-- what it comes to where a module isn't loaded for this
abbrev pub outcome_of_load : LoadRefusal → Outcome
outcome_of_load (Judged verdict) = outcome_of verdict
outcome_of_load (PastLimit e) = TooLarge

-- these bytes are so, under these proposals; none are unreadable
abbrev pub AreSo : ModuleFeatures → List ℕ → Outcome → Type 0
AreSo features bytes Valid = AreValidModule features bytes
AreSo features bytes Invalid = AreInvalid features bytes
AreSo features bytes Malformed = AreMalformed features bytes
AreSo features bytes NotCovered = AreUncovered features bytes
AreSo features bytes TooLarge = AreTooLarge bytes
AreSo features bytes Unreadable = ⊥
AreSo features bytes OutOfMemory = Unit {0}
