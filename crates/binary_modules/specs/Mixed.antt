-- A number that is mixed from the types of a recursion group. Equal groups have the same. That others mostly have
-- another is a matter of speed alone: so some parts of types are left out.
use Rattle.std.specs.Prelude.{ℕ, List, length, Option, Some, None, if◌then◌else◌}
use Rattle.std.specs.List.{fold}
use Rattle.module_rules.specs.Mixing.{mix}
use Rattle.validate_types.specs.declared.heap.HeapType.{HeapType}
use Rattle.validate_types.specs.declared.heap.HeapType.TheVariants.{Abstract, Concrete, Exact}
use Rattle.validate_types.specs.declared.heap.UnpackedIndex.{UnpackedIndex}
use Rattle.validate_types.specs.declared.heap.UnpackedIndex.TheVariants.{Module, Id}
use Rattle.validate_types.specs.declared.types.CompositeInnerType.{CompositeInnerType}
use Rattle.validate_types.specs.declared.types.CompositeInnerType.TheVariants.{Func, Array, Struct, Cont}
use Rattle.validate_types.specs.declared.types.FieldType.{FieldType}
use Rattle.validate_types.specs.declared.types.StorageType.{StorageType}
use Rattle.validate_types.specs.declared.types.StorageType.TheVariants.{I8, I16, Val}
use Rattle.validate_types.specs.declared.types.SubType.{SubType}
use Rattle.validate_types.specs.declared.types.ValType.{ValType}
use Rattle.validate_types.specs.declared.types.ValType.TheVariants.{I32, I64, F32, F64, V128, Ref}

abbrev pub mix_index : ℕ → UnpackedIndex → ℕ
mix_index mixed (Module index) = mix (mix mixed 1) index
mix_index mixed (Id id) = mix (mix mixed 2) id.index

abbrev pub mix_heap : ℕ → HeapType → ℕ
mix_heap mixed (Abstract shared ty) = mix mixed 1
mix_heap mixed (Concrete index) = mix_index (mix mixed 2) index
mix_heap mixed (Exact index) = mix_index (mix mixed 3) index

abbrev pub mix_value : ℕ → ValType → ℕ
mix_value mixed I32 = mix mixed 1
mix_value mixed I64 = mix mixed 2
mix_value mixed F32 = mix mixed 3
mix_value mixed F64 = mix mixed 4
mix_value mixed V128 = mix mixed 5
mix_value mixed (Ref r) = mix_heap (mix mixed (if r.nullable then 6 else 7)) r.heap_type

abbrev pub mix_values : ℕ → List ValType → ℕ
mix_values mixed types = fold mix_value (mix mixed (length types)) types

abbrev pub mix_storage : ℕ → StorageType → ℕ
mix_storage mixed I8 = mix mixed 8
mix_storage mixed I16 = mix mixed 9
mix_storage mixed (Val ty) = mix_value mixed ty

abbrev pub mix_field : ℕ → FieldType → ℕ
mix_field mixed f = mix_storage (mix mixed (if f.mutable then 1 else 0)) f.element_type

abbrev pub mix_fields : ℕ → List FieldType → ℕ
mix_fields mixed fields = fold mix_field (mix mixed (length fields)) fields

abbrev pub mix_inner : ℕ → CompositeInnerType → ℕ
mix_inner mixed (Func f) = mix_values (mix_values mixed f.params) f.results
mix_inner mixed (Array a) = mix_field (mix mixed 1) a.0
mix_inner mixed (Struct fields) = mix_fields (mix mixed 2) fields
mix_inner mixed (Cont c) = mix_index (mix mixed 3) c.0

-- the supertype, if there is one
abbrev pub mix_above : ℕ → Option UnpackedIndex → ℕ
mix_above mixed None = mix mixed 3
mix_above mixed (Some index) = mix_index mixed index

abbrev pub mix_type : ℕ → SubType → ℕ
mix_type mixed ty =
    mix_inner (mix_above (mix mixed (if ty.is_final then 1 else 0)) ty.supertype_idx) ty.composite_type.inner

-- the number that is mixed from the types of a group
unfoldable pub mix_types : List SubType → ℕ
mix_types types = fold mix_type 0 types
