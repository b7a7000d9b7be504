-- What operators of shared-everything threads push is valid.
use Rattle.std.proofs.Common.{◌≡◌, ℕ, Bool, true, false, List, [], ◌∷◌, ◌++◌, refl}
use Rattle.std.specs.List.{AllByRecursion}
use Rattle.validate_resources.specs.Context.{IsLawful, Valid}
use Rattle.validate_types.specs.Refs.{nullable_reference}
use Rattle.validate_types.specs.Types.{address_type_of_table}
use Rattle.validate_types.specs.declared.types.FieldType.{FieldType}
use Rattle.validate_visit.specs.declared.shared.FieldAccess.{FieldAccess}
use Rattle.validate_visit.specs.declared.shared.FieldAccess.TheVariants.{Whole, GetPacked}
use Rattle.validate_visit.specs.declared.shared.Update.TheVariants.{Value, Rmw}
use Rattle.validate_visit.specs.declared.shared.SharedOp.{SharedOp}
use Rattle.validate_visit.specs.declared.shared.SharedOp.TheVariants.{Global, Table, Struct, Array, RefI31Shared}
use Rattle.validate_visit.specs.declared.shared.Exchange.TheVariants.{Get, Set, Xchg, Cmpxchg}
use Rattle.validation_rules.specs.Arrays.{array_type}
use Rattle.validation_rules.specs.Calls.{global_type}
use Rattle.validation_rules.specs.Context.{ValType, I32, Context}
use Rattle.validation_rules.specs.Indirect.{type_reference}
use Rattle.validation_rules.specs.Operators.{row_operator}
use Rattle.validation_rules.specs.Shared.{pushed_by, place_row, held_by_global, held_by_table, shared_row}
use Rattle.validation_rules.specs.Structs.{struct_field, field_value}
use Rattle.validation_rules.specs.Tables.{table_type}
use Rattle.validation_rules.proofs.PushesValid.{PushesValid}
use Rattle.validation_rules.proofs.Valid.{plain_valid, by_lookup_valid, lookups_valid, global_valid, table_found}
use Rattle.validation_rules.proofs.ValidAggregates.{field_valid, element_valid}

module _ (cx : Context) (laws : IsLawful cx.of_module) where
  given_valid : (access : FieldAccess) (t : ValType) → Valid cx.of_module t → AllByRecursion (Valid cx.of_module) (pushed_by access t)
  given_valid (Whole (Value Set)) t v = tt
  given_valid (Whole (Value Get)) t v = (v, tt)
  given_valid (Whole (Value Xchg)) t v = (v, tt)
  given_valid (Whole (Value Cmpxchg)) t v = (v, tt)
  given_valid (Whole (Rmw op)) t v = (v, tt)
  given_valid (GetPacked sign) t v = (v, tt)

  -- where what is held is valid, so is what is given
  place_valid : (shared : Bool) (access : FieldAccess) (place : List ValType) (f : FieldType) → Valid cx.of_module (field_value f) → PushesValid cx (row_operator (place_row cx shared access place f))
  place_valid shared access place f v = plain_valid cx laws _ _ _ _ (pushed_by access (field_value f)) _ (λ p. given_valid access (field_value f) v)

  pub shared_valid : (op : SharedOp) → PushesValid cx (row_operator (shared_row cx op))
  shared_valid (Global access ordering i) =
      by_lookup_valid cx laws (global_type cx i) (λ g. place_row cx false (Whole access) [] (held_by_global g))
      (λ g e. place_valid false (Whole access) [] (held_by_global g) (global_valid cx laws i g e))
  shared_valid (Table access ordering i) =
      by_lookup_valid cx laws (table_type cx i) (λ t. place_row cx true (Whole (Value access)) (address_type_of_table t ∷ []) (held_by_table t))
      (λ t e. place_valid true (Whole (Value access)) (address_type_of_table t ∷ []) (held_by_table t) (laws.tables i t (table_found cx laws i t e)))
  shared_valid (Struct access ordering index) =
      lookups_valid cx laws (struct_field cx index) (type_reference cx nullable_reference index.struct_type_index) (λ f t. place_row cx true access (t ∷ []) f)
      (λ f t e k. place_valid true access (t ∷ []) f (field_valid cx laws index f e))
  shared_valid (Array access ordering i) =
      lookups_valid cx laws (array_type cx i) (type_reference cx nullable_reference i) (λ f t. place_row cx true access (t ∷ I32 ∷ []) f)
      (λ f t e k. place_valid true access (t ∷ I32 ∷ []) f (element_valid cx laws i f e))
  shared_valid RefI31Shared = plain_valid cx laws _ _ _ _ _ _ (λ p. (refl, tt))
