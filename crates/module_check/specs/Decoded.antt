-- When a module is valid, as it is decoded from its bytes (WebAssembly core specification, "Validation:
-- Modules").
use Rattle.std.specs.Prelude.{◌≡◌, ℕ, ◌-◌, ◌≤◌, ◌<◌, Bool, false, List, Some, None, length, slice_get}
use Rattle.binary_modules.specs.Modules.{DecodedModule, decode, naming_all}
use Rattle.binary_operators.specs.declared.types.CanonicalTypes.{CanonicalTypes}
use Rattle.module_rules.specs.Constants.{expression_type, is_constant_in}
use Rattle.module_rules.specs.Features.{operator_features}
use Rattle.module_rules.specs.Lookup.{lookup_lists}
use Rattle.module_rules.specs.Validity.{IsValidModule, is_valid_module}
use Rattle.module_rules.specs.Within.{IsWithin, is_within}
use Rattle.module_rules.specs.declared.features.ModuleFeatures.{ModuleFeatures}
use Rattle.module_rules.specs.declared.module.Place.{Place}
use Rattle.module_check.specs.Accepted.{IsAcceptedCode}
use Rattle.module_check.specs.Constant.{may_stand}
use Rattle.module_check.specs.Safe.{IsSafeCode}
use Rattle.validate_resources.specs.Context.{ModuleContext}
use Rattle.validate_resources.specs.Lists.{Declared, context_of, module_of}
use Rattle.validate_types.specs.declared.features.WasmFeatures.{WasmFeatures}
use Rattle.validate_types.specs.declared.types.ValType.{ValType}
use Rattle.validate_visit.specs.declared.body.BodyKind.{BodyKind}
use Rattle.validate_visit.specs.declared.body.BodyKind.TheVariants.{Function, Expression}
use Rattle.validate_visit.specs.declared.op.Op.{Op}

-- what may be said of the bytes of a body of some kind, in a lookup, under proposals, where types are named so
abbrev pub OfCode : Type 1
OfCode = ModuleContext → WasmFeatures → CanonicalTypes → BodyKind → (Op → Bool) → List ℕ → Type 0

-- the module has a body for the function at this index, of which that is so
pub record FunctionIs
    (Is : OfCode) (features : ModuleFeatures) (m : DecodedModule) (lookup : ModuleContext) (function : ℕ) :
    Type 0 where
  pub type_index : ℕ
  pub is_of_type : lookup.type_index_of function ≡ Some type_index
  pub body : List ℕ
  pub is_body : slice_get m.bodies (function - m.declared.imports.functions) ≡ Some body
  pub is_so :
      Is lookup (operator_features features) (naming_all m.declared.canonical) (Function type_index)
      (may_stand None) body

-- the place of this constant expression asks for a type; of the expression, whose operators may stand there,
-- that is so
pub record ExpressionIs
    (Is : OfCode) (features : ModuleFeatures) (m : DecodedModule) (lookup : ModuleContext)
    (e : Place × List ℕ) : Type 0 where
  pub value_type : ValType
  pub is_of_type : expression_type m.declared e.0 ≡ Some value_type
  pub is_so :
      Is lookup (operator_features features) (naming_all m.declared.canonical) (Expression value_type)
      (is_constant_in features m.declared e.0) e.1

-- that is so of the body of each function of the module's own, and of each constant expression
pub record CodeIs
    (Is : OfCode) (features : ModuleFeatures) (m : DecodedModule) (lookup : ModuleContext) : Type 0 where
  pub functions : (function : ℕ) → m.declared.imports.functions ≤ function
      → function < length m.declared.functions → FunctionIs Is features m lookup function
  pub expressions : (place : ℕ) → (e : Place × List ℕ) → slice_get m.expressions place ≡ Some e
      → ExpressionIs Is features m lookup e

-- What the module declares is valid under these proposals, and makes a lookup. In that each body and each
-- constant expression is accepted.
pub record IsValidDecoded (features : ModuleFeatures) (m : DecodedModule) : Type 0 where
  pub declarations_valid : IsValidModule features m.declared
  pub lists : Declared
  pub are_lists : module_of (lookup_lists m.declared) ≡ Some lists
  pub code_accepted : CodeIs IsAcceptedCode features m (context_of lists)

-- In the lookup that it makes each body and each constant expression is type safe.
pub record IsSafeDecoded (features : ModuleFeatures) (m : DecodedModule) : Type 0 where
  pub lists : Declared
  pub are_lists : module_of (lookup_lists m.declared) ≡ Some lists
  pub code_safe : CodeIs IsSafeCode features m (context_of lists)

-- These bytes are those of a valid module, under these proposals. It is within the limits of this
-- implementation, and its code is type safe.
pub record AreValidModule (features : ModuleFeatures) (bytes : List ℕ) : Type 0 where
  pub decoded : DecodedModule
  pub is_decoded : decode bytes ≡ Some decoded
  pub is_valid : IsValidDecoded features decoded
  pub is_within : IsWithin decoded.declared
  pub is_safe : IsSafeDecoded features decoded

-- these bytes are no module's, or that isn't valid
abbrev pub AreNoValidModule : ModuleFeatures → List ℕ → Type 0
AreNoValidModule features bytes = (m : DecodedModule) → decode bytes ≡ Some m → ¬ IsValidDecoded features m

-- these bytes are those of a module that is past a limit of this implementation by what it declares
pub record AreTooLarge (bytes : List ℕ) : Type 0 where
  pub decoded : DecodedModule
  pub is_decoded : decode bytes ≡ Some decoded
  pub is_past : is_within decoded.declared ≡ false

-- these bytes are those of a module, and what it declares isn't valid under these proposals
pub record DeclareInvalid (features : ModuleFeatures) (bytes : List ℕ) : Type 0 where
  pub decoded : DecodedModule
  pub is_decoded : decode bytes ≡ Some decoded
  pub is_invalid : is_valid_module features decoded.declared ≡ false

-- these bytes are those of a module; what it declares is valid under these proposals, and within the limits
pub record DeclareValid (features : ModuleFeatures) (bytes : List ℕ) : Type 0 where
  pub decoded : DecodedModule
  pub is_decoded : decode bytes ≡ Some decoded
  pub is_valid : IsValidModule features decoded.declared
  pub is_within : IsWithin decoded.declared
