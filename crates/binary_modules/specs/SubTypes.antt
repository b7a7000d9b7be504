-- The types that a module declares, in its bytes (WebAssembly core specification, "Binary Format: Types",
-- "Composite Types" and "Recursive Types"; continuation types are of a proposal, "Stack Switching",
-- descriptors of another, "Custom Descriptors", and shared types of a third, "Shared-Everything Threads").
use Rattle.std.specs.Prelude.{ℕ, Bool, true, false, List, [], ◌∷◌, Option, Some, None, nat_eq, nat_lt}
use Rattle.std.specs.Prelude.{if◌then◌else◌}
use Rattle.binary_operators.specs.Integers.{unsigned}
use Rattle.binary_operators.specs.Types.{type_name, type_number, value_type}
use Rattle.binary_operators.specs.Values.{◌>>=◌, byte, list_of}
use Rattle.binary_operators.specs.declared.types.CanonicalTypes.{CanonicalTypes}
use Rattle.validate_types.specs.Heap.{packed_index}
use Rattle.validate_types.specs.declared.heap.UnpackedIndex.{UnpackedIndex}
use Rattle.validate_types.specs.declared.types.CompositeInnerType.{CompositeInnerType}
use Rattle.validate_types.specs.declared.types.CompositeInnerType.TheVariants.{Func, Array, Struct, Cont}
use Rattle.validate_types.specs.declared.types.CompositeType.{CompositeType}
use Rattle.validate_types.specs.declared.types.FieldType.{FieldType}
use Rattle.validate_types.specs.declared.types.StorageType.{StorageType}
use Rattle.validate_types.specs.declared.types.StorageType.TheVariants.{I8, I16, Val}
use Rattle.validate_types.specs.declared.types.SubType.{SubType}
use Rattle.validate_types.specs.declared.types.ValType.{ValType}
use Rattle.binary_modules.specs.Parts.{if_so, marked}

-- ---- indices of types

-- A type, by its index. Types pack what names it; how large that may be is a limit of an implementation.
unfoldable pub type_index : CanonicalTypes → List ℕ → Option (UnpackedIndex × List ℕ)
type_index types bytes = do
  i ← unsigned 32 bytes
  name ← packed_index (type_name types i.0)
  Some (name, i.1)

-- ---- fields

abbrev pub of_value : Option (ValType × List ℕ) → Option (StorageType × List ℕ)
of_value None = None
of_value (Some ty) = Some (Val ty.0, ty.1)

-- a packed type, or a value type
unfoldable pub storage_type : CanonicalTypes → List ℕ → Option (StorageType × List ℕ)
storage_type types [] = None
storage_type types (code ∷ bytes) =
    if nat_eq code 0x78 then Some (I8, bytes)
    else (if nat_eq code 0x77 then Some (I16, bytes) else of_value (value_type types (code ∷ bytes)))

-- whether it can be written
abbrev pub mutability : List ℕ → Option (Bool × List ℕ)
mutability [] = None
mutability (code ∷ bytes) =
    if nat_eq code 0x00 then Some (false, bytes)
    else (if nat_eq code 0x01 then Some (true, bytes) else None)

unfoldable pub field_type : CanonicalTypes → List ℕ → Option (FieldType × List ℕ)
field_type types bytes = do
  storage ← storage_type types bytes
  mutable ← mutability storage.1
  Some (record { element_type = storage.0; mutable = mutable.0 }, mutable.1)

-- ---- what types are made of

-- what a function takes and what it gives
unfoldable pub func_type : CanonicalTypes → List ℕ → Option (CompositeInnerType × List ℕ)
func_type types bytes = do
  params ← list_of (value_type types) bytes
  results ← list_of (value_type types) params.1
  Some (Func (record { params = params.0; results = results.0 }), results.1)

unfoldable pub struct_type : CanonicalTypes → List ℕ → Option (CompositeInnerType × List ℕ)
struct_type types bytes = do
  fields ← list_of (field_type types) bytes
  Some (Struct fields.0, fields.1)

unfoldable pub array_type : CanonicalTypes → List ℕ → Option (CompositeInnerType × List ℕ)
array_type types bytes = do
  field ← field_type types bytes
  Some (Array (record { 0 = field.0 }), field.1)

-- the function type of what is still to run, whose index is written as a heap type is
unfoldable pub cont_type : CanonicalTypes → List ℕ → Option (CompositeInnerType × List ℕ)
cont_type types bytes = do
  i ← type_number bytes
  name ← packed_index (type_name types i.0)
  Some (Cont (record { 0 = name }), i.1)

abbrev pub inner_behind : ℕ → CanonicalTypes → List ℕ → Option (CompositeInnerType × List ℕ)
inner_behind code types bytes =
    if nat_eq code 0x60 then func_type types bytes
    else (if nat_eq code 0x5f then struct_type types bytes
    else (if nat_eq code 0x5e then array_type types bytes
    else (if nat_eq code 0x5d then cont_type types bytes else None)))

unfoldable pub composite_inner_type : CanonicalTypes → List ℕ → Option (CompositeInnerType × List ℕ)
composite_inner_type types bytes = do
  code ← byte bytes
  inner_behind code.0 types code.1

-- ---- composite types

-- the type whose index stands behind this code, where the code stands first
unfoldable pub marked_index : ℕ → CanonicalTypes → List ℕ → Option (Option UnpackedIndex × List ℕ)
marked_index code types bytes = do
  mark ← marked code bytes
  if_so mark.0 (type_index types) mark.1

-- Code 0x65 says that it is shared, 0x4c that it describes the values of another type, and 0x4d that it has a
-- descriptor.
unfoldable pub composite_type : CanonicalTypes → List ℕ → Option (CompositeType × List ℕ)
composite_type types bytes = do
  shared ← marked 0x65 bytes
  describes ← marked_index 0x4c types shared.1
  descriptor ← marked_index 0x4d types describes.1
  inner ← composite_inner_type types descriptor.1
  Some (
    record {
      inner = inner.0;
      shared = shared.0;
      descriptor_idx = descriptor.0;
      describes_idx = describes.0;
    },
    inner.1,
  )

-- ---- sub types

-- the supertype, if there is one: the format has a list of them, but no type may have two
abbrev pub supertype_of : ℕ → CanonicalTypes → List ℕ → Option (Option UnpackedIndex × List ℕ)
supertype_of count types bytes =
    if nat_lt 1 count then None else if_so (nat_eq count 1) (type_index types) bytes

unfoldable pub supertype : CanonicalTypes → List ℕ → Option (Option UnpackedIndex × List ℕ)
supertype types bytes = do
  count ← unsigned 32 bytes
  supertype_of count.0 types count.1

unfoldable pub with_supertype :
    Bool → Option UnpackedIndex → CanonicalTypes → List ℕ → Option (SubType × List ℕ)
with_supertype is_final above types bytes = do
  composite ← composite_type types bytes
  Some (
    record { is_final = is_final; supertype_idx = above; composite_type = composite.0 },
    composite.1,
  )

unfoldable pub below_supertype : Bool → CanonicalTypes → List ℕ → Option (SubType × List ℕ)
below_supertype is_final types bytes = do
  above ← supertype types bytes
  with_supertype is_final above.0 types above.1

-- Behind code 0x50 stands a type that others may be declared below, behind 0x4f a final one. Without such a
-- code it is final and has no supertype.
unfoldable pub sub_type : CanonicalTypes → List ℕ → Option (SubType × List ℕ)
sub_type types [] = None
sub_type types (code ∷ bytes) =
    if nat_eq code 0x50 then below_supertype false types bytes
    else (if nat_eq code 0x4f then below_supertype true types bytes
    else with_supertype true None types (code ∷ bytes))
