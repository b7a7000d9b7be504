-- What isn't covered of a module, and of bytes (the crate's own).
use Rattle.std.specs.Prelude.{◌≡◌, ◌⊎◌, ℕ, ◌<◌, true, List, None, drop}
use Rattle.binary_modules.specs.declared.initializers.ConstantExpression.{ConstantExpression}
use Rattle.binary_operators.specs.Unread.{Unread}
use Rattle.binary_operators.specs.Vectors.{BeginVector}
use Rattle.binary_operators.specs.declared.types.CanonicalTypes.{CanonicalTypes}
use Rattle.module_rules.specs.Constants.{is_constant_in}
use Rattle.module_rules.specs.Features.{operator_features}
use Rattle.module_rules.specs.declared.features.ModuleFeatures.{ModuleFeatures}
use Rattle.validate_types.specs.Features.{has, simd}
use Rattle.validate_types.specs.declared.types.ValType.{ValType}
use Rattle.validate_visit.specs.declared.body.BodyKind.TheVariants.{Function, Expression}
use Rattle.module_check.specs.Constant.{may_stand}
use Rattle.module_check.specs.Items.{StandsAt, item_count}
use Rattle.module_check.specs.Loaded.{bytes_of, declarations, declared, features_of, HasBody, HasPlace}
use Rattle.module_check.specs.Uncovered.{HasVector}
use Rattle.module_check.specs.declared.loaded.LoadedModule.{LoadedModule}

-- The function's body isn't covered: a vector operator stands where all operators before it are accepted.
pub record IsUncoveredFunction (m : LoadedModule) (function : ℕ) : Type 0 where
  pub type_index : ℕ
  pub body : Unread
  pub types : CanonicalTypes
  pub is_body : HasBody m function type_index body types
  pub has_vector : HasVector (declared m) (operator_features (features_of m)) types
      (Function type_index) (may_stand None) body.left

-- The same of a constant expression.
pub record IsUncoveredExpression (m : LoadedModule) (e : ConstantExpression) : Type 0 where
  pub value_type : ValType
  pub types : CanonicalTypes
  pub has_place : HasPlace m e value_type types
  pub has_vector : HasVector (declared m) (operator_features (features_of m)) types
      (Expression value_type) (is_constant_in (features_of m) (declarations m) e.place) e.bytes.left

-- What stands at this place of the row, if something does, isn't covered.
abbrev pub IsUncoveredAt : LoadedModule → ℕ → Type 0
IsUncoveredAt m = StandsAt m (IsUncoveredExpression m) (IsUncoveredFunction m)

-- something in the row isn't covered
abbrev pub HasUncovered : LoadedModule → Type 0
HasUncovered m = (place : ℕ) × (place < item_count m) × IsUncoveredAt m place

-- A module was read of these bytes, under these proposals, and something in it isn't covered.
pub record AreUncoveredModule (features : ModuleFeatures) (bytes : List ℕ) : Type 0 where
  pub loaded : LoadedModule
  pub of_bytes : bytes_of loaded ≡ bytes
  pub under : features_of loaded ≡ features
  pub has_uncovered : HasUncovered loaded

-- A vector operator begins in these bytes, and its proposal is on.
pub record HasVectorIn (features : ModuleFeatures) (bytes : List ℕ) : Type 0 where
  pub offset : ℕ
  pub begins : BeginVector (drop offset bytes)
  pub is_on : has (operator_features features) simd ≡ true

-- these bytes aren't covered: something in the module that they are isn't, or they aren't read, for a vector operator
abbrev pub AreUncovered : ModuleFeatures → List ℕ → Type 0
AreUncovered features bytes = AreUncoveredModule features bytes ⊎ HasVectorIn features bytes
