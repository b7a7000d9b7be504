-- The constant expressions that a reader of a module keeps, and operators that it passes over in them (the crate's own).
use Rattle.std.specs.Prelude.{◌≡◌, ℕ, ℤ, List, ◌++◌, map, flat_map, Some}
use Rattle.binary_operators.specs.declared.types.CanonicalTypes.{CanonicalTypes}
use Rattle.module_rules.specs.declared.module.Place.{Place}
use Rattle.validate_types.specs.declared.heap.HeapType.{HeapType}
use Rattle.validate_visit.specs.declared.op.NumericOp.TheVariants.{I32Const}
use Rattle.validate_visit.specs.declared.op.Op.TheVariants.{Numeric, Reference}
use Rattle.validate_visit.specs.declared.op.ReferenceOp.TheVariants.{RefNull}
use Rattle.binary_modules.specs.Initializers.{Expression, piece}
use Rattle.binary_modules.specs.declared.initializers.ConstantExpression.{ConstantExpression}
use Rattle.binary_modules.specs.declared.initializers.Initializers.{Initializers}

-- what an expression is for, and its bytes
abbrev pub told : ConstantExpression → Place × List ℕ
told i = (i.place, i.bytes.left)

abbrev pub told_expression : Place × Expression → Place × List ℕ
told_expression e = (e.0, e.1.bytes)

-- these expressions stand behind those that were there, and the functions that they name behind those
pub record Adds
    (before : Initializers) (read : List (Place × Expression)) (after : Initializers) : Type 0 where
  pub expressions :
      map told after.expressions.items ≡ map told before.expressions.items ++ map told_expression read
  pub functions :
      after.functions.items
      ≡ before.functions.items ++ flat_map (λ (e : Place × Expression). e.1.functions) read

-- the bytes begin with an `i32.const`, and these are behind it
abbrev pub IsInteger : CanonicalTypes → List ℕ → List ℕ → Type 0
IsInteger types bytes rest = (value : ℤ) × (piece types bytes ≡ Some (Some (Numeric (I32Const value)), rest))

-- the bytes begin with a `ref.null`, and these are behind it
abbrev pub IsNull : CanonicalTypes → List ℕ → List ℕ → Type 0
IsNull types bytes rest = (ty : HeapType) × (piece types bytes ≡ Some (Some (Reference (RefNull ty)), rest))
