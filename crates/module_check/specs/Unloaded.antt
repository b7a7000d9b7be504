-- What bytes are that aren't loaded (the crate's own).
use Rattle.std.specs.Prelude.{◌≡◌, ◌⊎◌, ℕ, List}
use Rattle.binary_modules.specs.Modules.{IsNoModule}
use Rattle.module_rules.specs.declared.features.ModuleFeatures.{ModuleFeatures}
use Rattle.module_check.specs.Decoded.{DeclareInvalid}
use Rattle.module_check.specs.FaultyModule.{HasInvalid, HasMalformed}
use Rattle.module_check.specs.Loaded.{bytes_of, features_of}
use Rattle.module_check.specs.declared.loaded.LoadedModule.{LoadedModule}

-- they are no module's, or what they declare isn't valid
abbrev pub AreUnloaded : ModuleFeatures → List ℕ → Type 0
AreUnloaded features bytes = IsNoModule bytes ⊎ DeclareInvalid features bytes

-- A module was read of these bytes, under these proposals, and something in it is malformed, or invalid.
pub record AreMalformedModule (features : ModuleFeatures) (bytes : List ℕ) : Type 0 where
  pub loaded : LoadedModule
  pub of_bytes : bytes_of loaded ≡ bytes
  pub under : features_of loaded ≡ features
  pub has_malformed : HasMalformed loaded

pub record AreInvalidModule (features : ModuleFeatures) (bytes : List ℕ) : Type 0 where
  pub loaded : LoadedModule
  pub of_bytes : bytes_of loaded ≡ bytes
  pub under : features_of loaded ≡ features
  pub has_invalid : HasInvalid loaded

-- these bytes are malformed: they are no module's, or something in the module that they are is malformed
abbrev pub AreMalformed : ModuleFeatures → List ℕ → Type 0
AreMalformed features bytes = IsNoModule bytes ⊎ AreMalformedModule features bytes

-- they are invalid: what they declare isn't valid, or something in the module that they are isn't
abbrev pub AreInvalid : ModuleFeatures → List ℕ → Type 0
AreInvalid features bytes = AreUnloaded features bytes ⊎ AreInvalidModule features bytes
