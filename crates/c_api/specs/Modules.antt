-- What is read of a module, with its bodies or without (the crate's own).
use Rattle.std.specs.Prelude.{◌≡◌, ℕ, ◌-◌, ◌^◌, List, length, min}
use Rattle.std_alloc.specs.Arc.{arc_value}
use Rattle.binary_operators.specs.declared.types.CanonicalTypes.{CanonicalTypes}
use Rattle.binary_operators.specs.declared.types.GroupNames.TheVariants.{Indices}
use Rattle.module_check.specs.Loaded.{declared, declarations, features_of}
use Rattle.module_check.specs.Unbodied.{context_in as context_alone, declared_by, features_of as features_alone}
use Rattle.module_rules.specs.Declarations.{Declarations}
use Rattle.module_rules.specs.Features.{operator_features}
use Rattle.validate_resources.specs.Context.{ModuleContext}
use Rattle.validate_types.specs.declared.features.WasmFeatures.{WasmFeatures}
use Rattle.c_api.specs.declared.shared.HeldModule.{HeldModule}
use Rattle.c_api.specs.declared.shared.HeldModule.TheVariants.{Whole, Declared}
use Rattle.c_api.specs.declared.shared.SharedModule.{SharedModule}

-- what its bodies look up
abbrev pub context_in : HeldModule → ModuleContext
context_in (Whole m) = declared m
context_in (Declared d) = context_alone d

-- the proposals that are on, as operators need them
abbrev pub features_in : HeldModule → WasmFeatures
features_in (Whole m) = operator_features (features_of m)
features_in (Declared d) = operator_features (features_alone d)

-- which type stands for each
abbrev pub canonical_in : HeldModule → List ℕ
canonical_in (Whole m) = m.declared.canonical.items
canonical_in (Declared d) = d.declared.canonical.items

-- an index of a type is read as that of the type that the module has stand for it
pub record AreTypesIn (h : HeldModule) (types : CanonicalTypes) : Type 0 where
  pub canonical : types.canonical.now ≡ canonical_in h
  pub behind : types.group ≡ Indices (min (length (canonical_in h)) (2 ^ 32 - 1))

-- what a share is of
abbrev pub module_of : SharedModule → HeldModule
module_of s = arc_value s.held

-- what a module declares
abbrev pub declared_in : HeldModule → Declarations
declared_in (Whole m) = declarations m
declared_in (Declared d) = declared_by d

-- how many functions it has, the imported ones counted, and how many of them are imported
abbrev pub functions_in : HeldModule → ℕ
functions_in h = length (declared_in h).functions

abbrev pub imported_functions_in : HeldModule → ℕ
imported_functions_in h = (declared_in h).imports.functions
