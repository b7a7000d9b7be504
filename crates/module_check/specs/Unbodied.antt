-- What a module declares that has no bodies yet (the crate's own).
use Rattle.std.specs.Prelude.{◌≡◌, ℕ, ◌-◌, ◌^◌, List, length, min}
use Rattle.binary_modules.specs.Modules.{IsModule}
use Rattle.binary_operators.specs.declared.types.CanonicalTypes.{CanonicalTypes}
use Rattle.binary_operators.specs.declared.types.GroupNames.TheVariants.{Indices}
use Rattle.module_rules.specs.Declarations.{Declarations, declarations_of}
use Rattle.module_rules.specs.declared.features.ModuleFeatures.{ModuleFeatures}
use Rattle.module_rules.specs.declared.module.Place.{Place}
use Rattle.validate_resources.specs.Context.{ModuleContext}
use Rattle.validate_resources.specs.Kept.{declared_lists}
use Rattle.validate_resources.specs.Lists.{context_of}
use Rattle.module_check.specs.declared.unbodied.LoadedDeclarations.{LoadedDeclarations}

-- what is declared, the proposals that are on, and the lookup
abbrev pub declared_by : LoadedDeclarations → Declarations
declared_by d = declarations_of d.declared

abbrev pub features_of : LoadedDeclarations → ModuleFeatures
features_of d = d.features

abbrev pub context_in : LoadedDeclarations → ModuleContext
context_in d = context_of (declared_lists d.lists)

-- an index of a type is read as that of the type that stands for it
pub record AreTypesIn (d : LoadedDeclarations) (types : CanonicalTypes) : Type 0 where
  pub canonical : types.canonical.now ≡ d.declared.canonical.items
  pub behind : types.group ≡ Indices (min (length d.declared.canonical.items) (2 ^ 32 - 1))

-- the bytes are those of a module that declares this
pub record DeclaresInModule (bytes : List ℕ) (d : Declarations) : Type 0 where
  pub bodies : List (List ℕ)
  pub expressions : List (Place × List ℕ)
  pub is_module : IsModule bytes d bodies expressions
