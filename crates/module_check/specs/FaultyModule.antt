-- What a loaded module's bodies and constant expressions have, where they aren't accepted (the crate's own).
use Rattle.std.specs.Prelude.{◌⊎◌, ◌<◌, ℕ, None}
use Rattle.binary_modules.specs.declared.initializers.ConstantExpression.{ConstantExpression}
use Rattle.binary_operators.specs.Unread.{Unread}
use Rattle.binary_operators.specs.declared.types.CanonicalTypes.{CanonicalTypes}
use Rattle.module_rules.specs.Constants.{is_constant_in}
use Rattle.module_rules.specs.Features.{operator_features}
use Rattle.validate_operators.specs.Begin.{CannotStart}
use Rattle.validate_types.specs.declared.types.ValType.{ValType}
use Rattle.validate_visit.specs.declared.body.BodyKind.TheVariants.{Function, Expression}
use Rattle.module_check.specs.Constant.{may_stand}
use Rattle.module_check.specs.Faults.{IsMalformedCode, IsRefusedCode}
use Rattle.module_check.specs.Items.{StandsAt, item_count}
use Rattle.module_check.specs.Loaded.{declarations, declared, features_of, HasBody, HasPlace}
use Rattle.module_check.specs.declared.loaded.LoadedModule.{LoadedModule}

-- The function's body is malformed: of its first fault nothing can be read.
pub record IsMalformedFunction (m : LoadedModule) (function : ℕ) : Type 0 where
  pub type_index : ℕ
  pub body : Unread
  pub types : CanonicalTypes
  pub is_body : HasBody m function type_index body types
  pub is_malformed : IsMalformedCode (declared m) (operator_features (features_of m)) types
      (Function type_index) (may_stand None) body

-- The function has a body, which can't start, or is refused at its first fault, at this offset.
pub record HasRefusedBody (m : LoadedModule) (function offset : ℕ) : Type 0 where
  pub type_index : ℕ
  pub body : Unread
  pub types : CanonicalTypes
  pub is_body : HasBody m function type_index body types
  pub is_refused : CannotStart (declared m) (operator_features (features_of m)) (Function type_index)
      ⊎ IsRefusedCode (declared m) (operator_features (features_of m)) types
      (Function type_index) (may_stand None) body offset

-- The function has no body, or one that is refused, which is told at this offset.
abbrev pub IsRefusedFunction : LoadedModule → ℕ → ℕ → Type 0
IsRefusedFunction m function offset =
    ((type_index : ℕ) (body : Unread) (types : CanonicalTypes) → ¬ HasBody m function type_index body types)
    ⊎ HasRefusedBody m function offset

-- The same of a constant expression.
pub record IsMalformedExpression (m : LoadedModule) (e : ConstantExpression) : Type 0 where
  pub value_type : ValType
  pub types : CanonicalTypes
  pub has_place : HasPlace m e value_type types
  pub is_malformed : IsMalformedCode (declared m) (operator_features (features_of m)) types
      (Expression value_type) (is_constant_in (features_of m) (declarations m) e.place) e.bytes

pub record HasRefusedExpression (m : LoadedModule) (e : ConstantExpression) (offset : ℕ) : Type 0 where
  pub value_type : ValType
  pub types : CanonicalTypes
  pub has_place : HasPlace m e value_type types
  pub is_refused : CannotStart (declared m) (operator_features (features_of m)) (Expression value_type)
      ⊎ IsRefusedCode (declared m) (operator_features (features_of m)) types
      (Expression value_type) (is_constant_in (features_of m) (declarations m) e.place) e.bytes offset

abbrev pub IsRefusedExpression : LoadedModule → ConstantExpression → ℕ → Type 0
IsRefusedExpression m e offset =
    ((value_type : ValType) (types : CanonicalTypes) → ¬ HasPlace m e value_type types)
    ⊎ HasRefusedExpression m e offset

-- What stands at this place of the row, if something does, is malformed, or it is refused.
abbrev pub IsMalformedAt : LoadedModule → ℕ → Type 0
IsMalformedAt m = StandsAt m (IsMalformedExpression m) (IsMalformedFunction m)

abbrev pub IsInvalidAt : LoadedModule → ℕ → Type 0
IsInvalidAt m =
    StandsAt m (λ e. (offset : ℕ) × IsRefusedExpression m e offset)
    (λ function. (offset : ℕ) × IsRefusedFunction m function offset)

-- something in the row is malformed, or is refused
abbrev pub HasMalformed : LoadedModule → Type 0
HasMalformed m = (place : ℕ) × (place < item_count m) × IsMalformedAt m place

abbrev pub HasInvalid : LoadedModule → Type 0
HasInvalid m = (place : ℕ) × (place < item_count m) × IsInvalidAt m place
