-- What a loaded module says of itself, its bodies and its constant expressions (the crate's own).
use Rattle.std.specs.Prelude.{◌≡◌, ℕ, ◌+◌, ◌-◌, ◌^◌, ◌≤◌, ◌<◌, List, Option, Some, None, length}
use Rattle.std.specs.Prelude.{min, map, slice_get}
use Rattle.binary_modules.specs.declared.initializers.ConstantExpression.{ConstantExpression}
use Rattle.binary_modules.specs.ContentsRead.{bytes_of as bytes_left}
use Rattle.binary_modules.specs.Kept.{told}
use Rattle.binary_modules.specs.Modules.{IsModule}
use Rattle.binary_operators.specs.Unread.{Unread}
use Rattle.binary_operators.specs.declared.types.CanonicalTypes.{CanonicalTypes}
use Rattle.binary_operators.specs.declared.types.GroupNames.TheVariants.{Indices}
use Rattle.module_rules.specs.Constants.{expression_type, is_constant_in}
use Rattle.module_rules.specs.Declarations.{Declarations, declarations_of}
use Rattle.module_rules.specs.Features.{operator_features}
use Rattle.module_rules.specs.Lookup.{lookup_lists}
use Rattle.module_rules.specs.Validity.{IsValidModule}
use Rattle.module_rules.specs.Within.{IsWithin}
use Rattle.module_rules.specs.declared.features.ModuleFeatures.{ModuleFeatures}
use Rattle.validate_resources.specs.Context.{ModuleContext}
use Rattle.validate_resources.specs.Kept.{declared_lists}
use Rattle.validate_resources.specs.Lists.{context_of, module_of}
use Rattle.validate_types.specs.declared.types.ValType.{ValType}
use Rattle.module_check.specs.Accepted.{IsAcceptedCode}
use Rattle.module_check.specs.Constant.{may_stand}
use Rattle.module_check.specs.Safe.{IsSafeCode}
use Rattle.validate_visit.specs.declared.body.BodyKind.TheVariants.{Function, Expression}
use Rattle.module_check.specs.declared.loaded.LoadedModule.{LoadedModule}

-- the bytes that it was read of, what it declares, and the proposals that are on
abbrev pub bytes_of : LoadedModule → List ℕ
bytes_of m = m.bytes.now

abbrev pub declarations : LoadedModule → Declarations
declarations m = declarations_of m.declared

abbrev pub features_of : LoadedModule → ModuleFeatures
features_of m = m.features

-- the lookup that the module declares
abbrev pub declared : LoadedModule → ModuleContext
declared m = context_of (declared_lists m.lists)

-- a reader of the body of the function at this index: those that are imported have none
abbrev pub body_at : LoadedModule → ℕ → Option Unread
body_at m function = slice_get m.bodies.items (function - m.declared.imports.functions)

-- an index of a type is read as that of the type that the module has stand for it
pub record AreTypesOf (m : LoadedModule) (types : CanonicalTypes) : Type 0 where
  pub canonical : types.canonical.now ≡ m.declared.canonical.items
  pub behind : types.group ≡ Indices (min (length m.declared.canonical.items) (2 ^ 32 - 1))

-- the module has this body for the function at this index, whose type stands at that index; in the body,
-- indices of types are read as these
pub record HasBody (m : LoadedModule) (function type_index : ℕ) (body : Unread) (types : CanonicalTypes)
    : Type 0 where
  pub is_of_type : (declared m).type_index_of function ≡ Some type_index
  pub is_own : m.declared.imports.functions ≤ function
  pub is_body : body_at m function ≡ Some body
  pub are_types : AreTypesOf m types

-- The bytes of the function's body are accepted, in the lookup that the module declares.
pub record IsAcceptedFunction (m : LoadedModule) (function : ℕ) : Type 0 where
  pub type_index : ℕ
  pub body : Unread
  pub types : CanonicalTypes
  pub is_body : HasBody m function type_index body types
  pub is_accepted : IsAcceptedCode (declared m) (operator_features (features_of m)) types
      (Function type_index) (may_stand None) body.left

-- The same, and what they say is type safe.
pub record IsSafeFunction (m : LoadedModule) (function : ℕ) : Type 0 where
  pub type_index : ℕ
  pub body : Unread
  pub types : CanonicalTypes
  pub is_body : HasBody m function type_index body types
  pub is_safe : IsSafeCode (declared m) (operator_features (features_of m)) types
      (Function type_index) (may_stand None) body.left

-- the place of a constant expression asks for this type; in it, indices of types are read as these
pub record HasPlace
    (m : LoadedModule) (e : ConstantExpression) (value_type : ValType) (types : CanonicalTypes)
    : Type 0 where
  pub is_of_type : expression_type (declarations m) e.place ≡ Some value_type
  pub are_types : AreTypesOf m types

-- The bytes of the expression are accepted, in the lookup that the module declares, and each operator is
-- constant in its place.
pub record IsAcceptedExpression (m : LoadedModule) (e : ConstantExpression) : Type 0 where
  pub value_type : ValType
  pub types : CanonicalTypes
  pub has_place : HasPlace m e value_type types
  pub is_accepted : IsAcceptedCode (declared m) (operator_features (features_of m)) types
      (Expression value_type) (is_constant_in (features_of m) (declarations m) e.place) e.bytes.left

-- The same, and what they say is type safe.
pub record IsSafeExpression (m : LoadedModule) (e : ConstantExpression) : Type 0 where
  pub value_type : ValType
  pub types : CanonicalTypes
  pub has_place : HasPlace m e value_type types
  pub is_safe : IsSafeCode (declared m) (operator_features (features_of m)) types
      (Expression value_type) (is_constant_in (features_of m) (declarations m) e.place) e.bytes.left

-- each of the module's first bodies, as many as these, is type safe, where its function's index has 32 bits
abbrev pub AreSafeBodies : LoadedModule → ℕ → Type 0
AreSafeBodies m count = (body : ℕ) → body < count → m.declared.imports.functions + body < 2 ^ 32
    → IsSafeFunction m (m.declared.imports.functions + body)

-- each function of the module that isn't imported has a body that is type safe
abbrev pub AreSafeFunctions : LoadedModule → Type 0
AreSafeFunctions m = (function : ℕ) → m.declared.imports.functions ≤ function
    → function < length m.declared.functions.items → IsSafeFunction m function

-- each of its first constant expressions, as many as these, is type safe and constant
abbrev pub AreSafeExpressions : LoadedModule → ℕ → Type 0
AreSafeExpressions m count = (place : ℕ) → (e : ConstantExpression) → place < count
    → slice_get m.expressions.items place ≡ Some e → IsSafeExpression m e

-- each function and each constant expression of the module is type safe, and these are constant
pub record IsSafeModule (m : LoadedModule) : Type 0 where
  pub functions : AreSafeFunctions m
  pub expressions : AreSafeExpressions m (length m.expressions.items)

-- each function that isn't imported has a body that is accepted, and so is each constant expression
pub record IsAcceptedModule (m : LoadedModule) : Type 0 where
  pub functions : (function : ℕ) → m.declared.imports.functions ≤ function
      → function < length m.declared.functions.items → IsAcceptedFunction m function
  pub expressions : (place : ℕ) → (e : ConstantExpression)
      → slice_get m.expressions.items place ≡ Some e → IsAcceptedExpression m e

-- The module is valid (WebAssembly core specification, "Validation: Modules"): its bytes are those of a module
-- that declares this, with these bodies and constant expressions; what it declares is valid under its
-- proposals, of which the lookup is made; and so are its bodies and its constant expressions. And it is within the
-- limits of this implementation.
pub record IsValid (m : LoadedModule) : Type 0 where
  pub is_module :
      IsModule (bytes_of m) (declarations m) (bytes_left m.bodies.items) (map told m.expressions.items)
  pub declarations_valid : IsValidModule (features_of m) (declarations m)
  pub declarations_within : IsWithin (declarations m)
  pub is_lookup : module_of (lookup_lists (declarations m)) ≡ Some (declared_lists m.lists)
  pub code_safe : IsSafeModule m
