-- The rows of operators on arrays (WebAssembly core specification, "Validation: Aggregate Instructions";
-- the shared marks are those of the shared-everything-threads proposal).
-- A packed integer is an i32 as an operand. An array is copied from one of the same packed integer, or of a
-- type below. Numbers and vectors are read from a data segment, references from an element segment of a
-- type below.
use Rattle.std.specs.Prelude.{ℕ, Bool, true, false, ◌&&◌, [], ◌∷◌, Option, Some, None, replicate}
use Rattle.std.specs.Option.{option_and_then}
use Rattle.validate_resources.specs.Context.{is_number_or_vector}
use Rattle.validate_types.specs.Refs.{nullable_reference}
use Rattle.validate_types.specs.Types.{is_defaultable}
use Rattle.validate_types.specs.declared.heap.AbstractHeapType.TheVariants.{Array as AnyArray}
use Rattle.validate_types.specs.declared.refs.RefType.{RefType}
use Rattle.validate_types.specs.declared.types.CompositeInnerType.{CompositeInnerType}
use Rattle.validate_types.specs.declared.types.CompositeInnerType.TheVariants.{Array}
use Rattle.validate_types.specs.declared.types.FieldType.{FieldType}
use Rattle.validate_types.specs.declared.types.StorageType.{StorageType}
use Rattle.validate_types.specs.declared.types.StorageType.TheVariants.{I8, I16, Val}
use Rattle.validate_visit.specs.declared.op.ArrayOp.{ArrayOp}
use Rattle.validate_visit.specs.declared.op.ArrayOp.TheVariants.{ArrayNew, ArrayNewDefault, ArrayNewFixed}
use Rattle.validate_visit.specs.declared.op.ArrayOp.TheVariants.{ArrayNewData, ArrayNewElem, ArrayGet}
use Rattle.validate_visit.specs.declared.op.ArrayOp.TheVariants.{ArrayGetPacked, ArraySet, ArrayLen}
use Rattle.validate_visit.specs.declared.op.ArrayOp.TheVariants.{ArrayFill, ArrayCopy, ArrayInitData}
use Rattle.validate_visit.specs.declared.op.ArrayOp.TheVariants.{ArrayInitElem}
use Rattle.validation_rules.specs.Calls.{may_access}
use Rattle.validation_rules.specs.Context.{ModuleContext, SubType, ValType, I32, Ref, Context}
use Rattle.validation_rules.specs.Found.{measure_row}
use Rattle.validation_rules.specs.Exact.{allocated_reference}
use Rattle.validation_rules.specs.Indirect.{type_reference}
use Rattle.validation_rules.specs.Memories.{is_segment}
use Rattle.validation_rules.specs.Rows.{Row, guard}
use Rattle.validation_rules.specs.Shapes.{plain_row, plain_row_if, lookups_row}
use Rattle.validation_rules.specs.Structs.{field_value, is_packed_field, is_whole_field}

-- ---- what is looked up

-- what each place holds, where it is an array
abbrev pub array_element : CompositeInnerType → Option FieldType
array_element (Array a) = Some a.0
array_element _ = None

-- that of a type that the function may access
abbrev pub accessible_array : Context → SubType → Option FieldType
accessible_array cx s = guard (may_access cx s.composite_type.shared) (array_element s.composite_type.inner)

-- what each place of the array type at this index holds, which the function may access
abbrev pub array_type : Context → ℕ → Option FieldType
array_type cx i = option_and_then (accessible_array cx) (cx.of_module.type_at i)

-- ---- rows

-- a row for what each place of an array holds, and a reference to the array that is made
abbrev pub array_made_row : Context → ℕ → (FieldType → ValType → Row) → Row
array_made_row cx i row = lookups_row (array_type cx i) (allocated_reference cx i) row

-- the same of one that is there, or null
abbrev pub array_row_for : Context → ℕ → (FieldType → ValType → Row) → Row
array_row_for cx i row = lookups_row (array_type cx i) (type_reference cx nullable_reference i) row

-- one value for all places, and so many
abbrev pub array_new_row : Context → ℕ → Row
array_new_row cx i =
    array_made_row cx i (λ f t. plain_row (field_value f ∷ I32 ∷ []) (t ∷ []))

abbrev pub array_new_default_row : Context → ℕ → Row
array_new_default_row cx i =
    array_made_row cx i
    (λ f t. plain_row_if (is_defaultable (field_value f)) (I32 ∷ []) (t ∷ []))

-- a value for each of so many places
abbrev pub array_new_fixed_row : Context → ℕ → ℕ → Row
array_new_fixed_row cx i n =
    array_made_row cx i (λ f t. plain_row (replicate n (field_value f)) (t ∷ []))

-- the data segment is there, and what it holds can be read as values of this type
abbrev pub is_read_from_data : ModuleContext → ℕ → FieldType → Bool
is_read_from_data md segment f = is_number_or_vector (field_value f) && is_segment md.data_count segment

-- from a place of the data segment, so many
abbrev pub array_new_data_row : Context → ℕ → ℕ → Row
array_new_data_row cx i segment =
    array_made_row cx i
    (λ f t. plain_row_if (is_read_from_data cx.of_module segment f) (I32 ∷ I32 ∷ []) (t ∷ []))

-- elements of this type, if there are any, can be put into such a place
abbrev pub may_hold : ModuleContext → FieldType → Option RefType → Bool
may_hold md f None = false
may_hold md f (Some r) = md.below (Ref r) (field_value f)

-- the element segment is there, and what it holds can be put into such a place
abbrev pub is_read_from_elements : ModuleContext → ℕ → FieldType → Bool
is_read_from_elements md segment f = may_hold md f (md.element_at segment)

-- from a place of the element segment, so many
abbrev pub array_new_elem_row : Context → ℕ → ℕ → Row
array_new_elem_row cx i segment =
    array_made_row cx i
    (λ f t. plain_row_if (is_read_from_elements cx.of_module segment f) (I32 ∷ I32 ∷ []) (t ∷ []))

-- reads a place, where the test of what it holds passes
abbrev pub array_read_row : Context → (FieldType → Bool) → ℕ → Row
array_read_row cx test i =
    array_row_for cx i
    (λ f t. plain_row_if (test f) (t ∷ I32 ∷ []) (field_value f ∷ []))

abbrev pub array_set_row : Context → ℕ → Row
array_set_row cx i =
    array_row_for cx i
    (λ f t. plain_row_if f.mutable (t ∷ I32 ∷ field_value f ∷ []) [])

-- from this place on, with this value, so many
abbrev pub array_fill_row : Context → ℕ → Row
array_fill_row cx i =
    array_row_for cx i
    (λ f t. plain_row_if f.mutable (t ∷ I32 ∷ field_value f ∷ I32 ∷ []) [])

-- what is held can be put into places of this storage type (Specification, "Matching: Field Types")
abbrev pub may_be_copied : ModuleContext → StorageType → StorageType → Bool
may_be_copied md I8 I8 = true
may_be_copied md I16 I16 = true
may_be_copied md (Val from) (Val to) = md.below from to
may_be_copied md _ _ = false

-- to a place, from a place, so many
abbrev pub array_copy_row_for : Context → ℕ → FieldType → ValType → Row
array_copy_row_for cx src dst_field dst_type =
    array_row_for cx src
    (λ src_field src_type. plain_row_if
    (dst_field.mutable && may_be_copied cx.of_module src_field.element_type dst_field.element_type)
    (dst_type ∷ I32 ∷ src_type ∷ I32 ∷ I32 ∷ []) [])

abbrev pub array_copy_row : Context → ℕ → ℕ → Row
array_copy_row cx dst src = array_row_for cx dst (array_copy_row_for cx src)

-- to a place of the array, from one of the data segment, so many
abbrev pub array_init_data_row : Context → ℕ → ℕ → Row
array_init_data_row cx i segment =
    array_row_for cx i
    (λ f t. plain_row_if (f.mutable && is_read_from_data cx.of_module segment f)
    (t ∷ I32 ∷ I32 ∷ I32 ∷ []) [])

-- the same from an element segment
abbrev pub array_init_elem_row : Context → ℕ → ℕ → Row
array_init_elem_row cx i segment =
    array_row_for cx i
    (λ f t. plain_row_if (f.mutable && is_read_from_elements cx.of_module segment f)
    (t ∷ I32 ∷ I32 ∷ I32 ∷ []) [])

abbrev pub array_row : Context → ArrayOp → Row
array_row cx (ArrayNew i) = array_new_row cx i
array_row cx (ArrayNewDefault i) = array_new_default_row cx i
array_row cx (ArrayNewFixed i n) = array_new_fixed_row cx i n
array_row cx (ArrayNewData i segment) = array_new_data_row cx i segment
array_row cx (ArrayNewElem i segment) = array_new_elem_row cx i segment
array_row cx (ArrayGet i) = array_read_row cx is_whole_field i
array_row cx (ArrayGetPacked sign i) = array_read_row cx is_packed_field i
array_row cx (ArraySet i) = array_set_row cx i
array_row cx ArrayLen = measure_row cx AnyArray
array_row cx (ArrayFill i) = array_fill_row cx i
array_row cx (ArrayCopy dst src) = array_copy_row cx dst src
array_row cx (ArrayInitData i segment) = array_init_data_row cx i segment
array_row cx (ArrayInitElem i segment) = array_init_elem_row cx i segment
