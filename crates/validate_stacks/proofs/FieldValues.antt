-- The values of fields.
use Rattle.std.proofs.Common.{◌≡◌, ℕ, zero, suc, ◌<◌, List, [], ◌∷◌, length, get_or, refl, arith}
use Rattle.std.specs.List.{AllByRecursion}
use Rattle.validate_resources.specs.Context.{ModuleContext, Valid}
use Rattle.validate_types.specs.Types.{unpacked_fields}
use Rattle.validate_types.specs.declared.types.FieldType.{FieldType}
use Rattle.validation_rules.specs.Structs.{field_value}

-- the value of a field that is there is valid where all are
pub value_valid : (md : ModuleContext) (fields : List FieldType) (i : ℕ) (d : FieldType) → AllByRecursion (Valid md) (unpacked_fields fields) → i < length fields → Valid md (field_value (get_or fields i d))
value_valid md [] i d v h = absurd (omega (arith, h))
value_valid md (f ∷ fields) zero d v h = v.0
value_valid md (f ∷ fields) (suc i) d v h = value_valid md fields i d v.1 (omega (arith, h))

-- it is that of the list of values
pub value_at : (fields : List FieldType) (i : ℕ) (d : FieldType) → get_or (unpacked_fields fields) i (field_value d) ≡ field_value (get_or fields i d)
value_at [] i d = refl
value_at (f ∷ fields) zero d = refl
value_at (f ∷ fields) (suc i) d = value_at fields i d
