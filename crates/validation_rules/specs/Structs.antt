-- The rows of operators on structs (WebAssembly core specification, "Validation: Aggregate
-- Instructions"; the shared marks are those of the shared-everything-threads proposal, descriptors those of a
-- proposal, "Custom Descriptors").
-- A packed integer is an i32 as an operand.
use Rattle.std.specs.Prelude.{ℕ, Bool, true, not, List, [], ◌∷◌, ◌++◌, Option, Some, None, is_none, slice_get}
use Rattle.std.specs.List.{list_all}
use Rattle.std.specs.Option.{option_and_then}
use Rattle.validate_types.specs.Refs.{nullable_reference}
use Rattle.validate_types.specs.Types.{is_defaultable, is_packed, unpacked_type, unpacked_fields}
use Rattle.validate_types.specs.declared.types.CompositeInnerType.{CompositeInnerType}
use Rattle.validate_types.specs.declared.types.CompositeInnerType.TheVariants.{Struct}
use Rattle.validate_types.specs.declared.types.FieldType.{FieldType}
use Rattle.validate_visit.specs.declared.op.FieldIndex.{FieldIndex}
use Rattle.validate_visit.specs.declared.op.StructOp.{StructOp}
use Rattle.validate_visit.specs.declared.op.StructOp.TheVariants.{StructNew, StructNewDefault, StructGet}
use Rattle.validate_visit.specs.declared.op.StructOp.TheVariants.{StructGetPacked, StructSet}
use Rattle.validate_visit.specs.declared.op.StructOp.TheVariants.{StructNewDesc, StructNewDefaultDesc}
use Rattle.validation_rules.specs.Calls.{may_access}
use Rattle.validation_rules.specs.Context.{SubType, ValType, Context}
use Rattle.validation_rules.specs.Descriptors.{descriptor_at, descriptor}
use Rattle.validation_rules.specs.Exact.{allocated_reference}
use Rattle.validation_rules.specs.Indirect.{type_reference}
use Rattle.validation_rules.specs.Rows.{Row, guard}
use Rattle.validation_rules.specs.Shapes.{plain_row, plain_row_if, lookup_row, lookups_row}

-- ---- what is looked up

-- the fields, where it is a struct
abbrev pub struct_fields : CompositeInnerType → Option (List FieldType)
struct_fields (Struct fields) = Some fields
struct_fields _ = None

-- those of a type that the function may access
abbrev pub accessible_struct : Context → SubType → Option (List FieldType)
accessible_struct cx s =
    guard (may_access cx s.composite_type.shared) (struct_fields s.composite_type.inner)

-- the fields of the struct type at this index, which the function may access
abbrev pub struct_type : Context → ℕ → Option (List FieldType)
struct_type cx i = option_and_then (accessible_struct cx) (cx.of_module.type_at i)

-- a field of it
abbrev pub struct_field : Context → FieldIndex → Option FieldType
struct_field cx index =
    option_and_then (λ fields. slice_get fields index.field_index) (struct_type cx index.struct_type_index)

-- its value as an operand
abbrev pub field_value : FieldType → ValType
field_value f = unpacked_type f.element_type

-- it holds a packed integer
abbrev pub is_packed_field : FieldType → Bool
is_packed_field f = is_packed f.element_type

-- it holds a value as it is
abbrev pub is_whole_field : FieldType → Bool
is_whole_field f = not (is_packed f.element_type)

-- ---- rows

-- what a struct is made of, and a reference to it, where its type has no descriptor
abbrev pub undescribed_row_for : Context → ℕ → (List FieldType → ValType → Row) → Row
undescribed_row_for cx i row =
    lookups_row (guard (is_none (descriptor_at cx.of_module i)) (struct_type cx i)) (allocated_reference cx i) row

-- the same where it has one, with its descriptor, exact in that type, or null
abbrev pub described_row_for : Context → ℕ → (ValType → List FieldType → ValType → Row) → Row
described_row_for cx i row =
    lookup_row (descriptor_at cx.of_module i)
    (λ d. lookups_row (struct_type cx i) (allocated_reference cx i) (row (descriptor true d)))

-- each field has a default value
abbrev pub have_defaults : List FieldType → Bool
have_defaults fields = list_all is_defaultable (unpacked_fields fields)

-- a value for each field, the last on top
abbrev pub struct_new_row : Context → ℕ → Row
struct_new_row cx i = undescribed_row_for cx i (λ fields t. plain_row (unpacked_fields fields) (t ∷ []))

abbrev pub struct_new_default_row : Context → ℕ → Row
struct_new_default_row cx i =
    undescribed_row_for cx i (λ fields t. plain_row_if (have_defaults fields) [] (t ∷ []))

-- and above the values the descriptor
abbrev pub struct_new_desc_row : Context → ℕ → Row
struct_new_desc_row cx i =
    described_row_for cx i (λ d fields t. plain_row (unpacked_fields fields ++ d ∷ []) (t ∷ []))

abbrev pub struct_new_default_desc_row : Context → ℕ → Row
struct_new_default_desc_row cx i =
    described_row_for cx i (λ d fields t. plain_row_if (have_defaults fields) (d ∷ []) (t ∷ []))

-- a row for a field, and a reference to its struct
abbrev pub struct_row_for : Context → FieldIndex → (FieldType → ValType → Row) → Row
struct_row_for cx index row =
    lookups_row (struct_field cx index) (type_reference cx nullable_reference index.struct_type_index) row

-- reads a field, where the test of what it holds passes
abbrev pub struct_read_row : Context → (FieldType → Bool) → FieldIndex → Row
struct_read_row cx test index =
    struct_row_for cx index (λ f t. plain_row_if (test f) (t ∷ []) (field_value f ∷ []))

-- writes a field that can be written
abbrev pub struct_set_row : Context → FieldIndex → Row
struct_set_row cx index =
    struct_row_for cx index (λ f t. plain_row_if f.mutable (t ∷ field_value f ∷ []) [])

abbrev pub struct_row : Context → StructOp → Row
struct_row cx (StructNew i) = struct_new_row cx i
struct_row cx (StructNewDefault i) = struct_new_default_row cx i
struct_row cx (StructNewDesc i) = struct_new_desc_row cx i
struct_row cx (StructNewDefaultDesc i) = struct_new_default_desc_row cx i
struct_row cx (StructGet index) = struct_read_row cx is_whole_field index
struct_row cx (StructGetPacked sign index) = struct_read_row cx is_packed_field index
struct_row cx (StructSet index) = struct_set_row cx index
