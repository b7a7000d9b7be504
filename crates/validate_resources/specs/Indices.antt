-- The indices in types, and the canonical forms of types: an id for each index
-- (WebAssembly core specification, "Types", and "Validation: Types" for the indices that are valid;
-- an id stands for its "Defined Types").
use Rattle.std.specs.Prelude.{ℕ, Bool, List, true, false, ◌&&◌, map, nat_lt, Option, Some, None, option_map}
use Rattle.std.specs.Prelude.{◌++◌, codes, decimal, if◌then◌else◌}
use Rattle.std.specs.List.{list_all}
use Rattle.validate_types.specs.Heap.{number_of}
use Rattle.validate_types.specs.Refs.{reference}
use Rattle.validate_types.specs.Types.{Signature}
use Rattle.validate_types.specs.declared.heap.HeapType.{HeapType}
use Rattle.validate_types.specs.declared.heap.HeapType.TheVariants.{Abstract, Concrete, Exact}
use Rattle.validate_types.specs.declared.heap.UnpackedIndex.{UnpackedIndex}
use Rattle.validate_types.specs.declared.heap.UnpackedIndex.TheVariants.{Module, Id}
use Rattle.validate_types.specs.declared.refs.RefType.{RefType}
use Rattle.validate_types.specs.declared.types.ArrayType.{ArrayType}
use Rattle.validate_types.specs.declared.types.CompositeInnerType.{CompositeInnerType}
use Rattle.validate_types.specs.declared.types.CompositeInnerType.TheVariants.{Func, Array, Struct, Cont}
use Rattle.validate_types.specs.declared.types.CompositeType.{CompositeType}
use Rattle.validate_types.specs.declared.types.ContType.{ContType}
use Rattle.validate_types.specs.declared.types.FieldType.{FieldType}
use Rattle.validate_types.specs.declared.types.GlobalType.{GlobalType}
use Rattle.validate_types.specs.declared.types.StorageType.{StorageType}
use Rattle.validate_types.specs.declared.types.StorageType.TheVariants.{I8, I16, Val}
use Rattle.validate_types.specs.declared.types.SubType.{SubType}
use Rattle.validate_types.specs.declared.types.TableType.{TableType}
use Rattle.validate_types.specs.declared.types.ValType.{ValType}
use Rattle.validate_types.specs.declared.types.ValType.TheVariants.{I32, I64, F32, F64, V128, Ref}

-- one of so many types, by its index or its id (Specification, "Validation: Types", heap types)
abbrev pub is_known : ℕ → UnpackedIndex → Bool
is_known n i = nat_lt (number_of i) n

-- the id of one of so many types
abbrev pub is_id : ℕ → UnpackedIndex → Bool
is_id n (Module i) = false
is_id n (Id id) = nat_lt id.index n

-- ---- a test of each index in a type (Specification, "Types")

abbrev pub heap_indices_pass : (UnpackedIndex → Bool) → HeapType → Bool
heap_indices_pass p (Abstract shared ty) = true
heap_indices_pass p (Concrete i) = p i
heap_indices_pass p (Exact i) = p i

abbrev pub ref_indices_pass : (UnpackedIndex → Bool) → RefType → Bool
ref_indices_pass p r = heap_indices_pass p r.heap_type

abbrev pub type_indices_pass : (UnpackedIndex → Bool) → ValType → Bool
type_indices_pass p (Ref r) = ref_indices_pass p r
type_indices_pass p _ = true

abbrev pub table_indices_pass : (UnpackedIndex → Bool) → TableType → Bool
table_indices_pass p t = ref_indices_pass p t.element_type

abbrev pub global_indices_pass : (UnpackedIndex → Bool) → GlobalType → Bool
global_indices_pass p g = type_indices_pass p g.content_type

-- of an index that a type may have
abbrev pub option_index_passes : (UnpackedIndex → Bool) → Option UnpackedIndex → Bool
option_index_passes p None = true
option_index_passes p (Some i) = p i

abbrev pub signature_indices_pass : (UnpackedIndex → Bool) → Signature → Bool
signature_indices_pass p f =
    list_all (type_indices_pass p) f.params && list_all (type_indices_pass p) f.results

abbrev pub storage_indices_pass : (UnpackedIndex → Bool) → StorageType → Bool
storage_indices_pass p (Val t) = type_indices_pass p t
storage_indices_pass p _ = true

abbrev pub field_indices_pass : (UnpackedIndex → Bool) → FieldType → Bool
field_indices_pass p f = storage_indices_pass p f.element_type

abbrev pub inner_indices_pass : (UnpackedIndex → Bool) → CompositeInnerType → Bool
inner_indices_pass p (Func f) = signature_indices_pass p f
inner_indices_pass p (Array a) = field_indices_pass p a.0
inner_indices_pass p (Struct fields) = list_all (field_indices_pass p) fields
inner_indices_pass p (Cont c) = p c.0

abbrev pub composite_indices_pass : (UnpackedIndex → Bool) → CompositeType → Bool
composite_indices_pass p c =
    inner_indices_pass p c.inner && option_index_passes p c.descriptor_idx
    && option_index_passes p c.describes_idx

abbrev pub sub_indices_pass : (UnpackedIndex → Bool) → SubType → Bool
sub_indices_pass p s = option_index_passes p s.supertype_idx && composite_indices_pass p s.composite_type

-- ---- the form of a type with an id for each index (Specification, "Types")

abbrev pub index_with_id : UnpackedIndex → UnpackedIndex
index_with_id i = Id (record { index = number_of i })

abbrev pub heap_with_id : HeapType → HeapType
heap_with_id (Abstract shared ty) = Abstract shared ty
heap_with_id (Concrete i) = Concrete (index_with_id i)
heap_with_id (Exact i) = Exact (index_with_id i)

abbrev pub ref_with_id : RefType → RefType
ref_with_id r = reference r.nullable (heap_with_id r.heap_type)

abbrev pub type_with_id : ValType → ValType
type_with_id I32 = I32
type_with_id I64 = I64
type_with_id F32 = F32
type_with_id F64 = F64
type_with_id V128 = V128
type_with_id (Ref r) = Ref (ref_with_id r)

abbrev pub table_with_id : TableType → TableType
table_with_id t = record t { element_type = ref_with_id t.element_type }

abbrev pub global_with_id : GlobalType → GlobalType
global_with_id g = record g { content_type = type_with_id g.content_type }

abbrev pub signature_with_ids : Signature → Signature
signature_with_ids f = record { params = map type_with_id f.params; results = map type_with_id f.results }

abbrev pub storage_with_id : StorageType → StorageType
storage_with_id I8 = I8
storage_with_id I16 = I16
storage_with_id (Val t) = Val (type_with_id t)

abbrev pub field_with_id : FieldType → FieldType
field_with_id f = record f { element_type = storage_with_id f.element_type }

abbrev pub array_with_id : ArrayType → ArrayType
array_with_id a = record { 0 = field_with_id a.0 }

abbrev pub cont_with_id : ContType → ContType
cont_with_id c = record { 0 = index_with_id c.0 }

abbrev pub inner_with_ids : CompositeInnerType → CompositeInnerType
inner_with_ids (Func f) = Func (signature_with_ids f)
inner_with_ids (Array a) = Array (array_with_id a)
inner_with_ids (Struct fields) = Struct (map field_with_id fields)
inner_with_ids (Cont c) = Cont (cont_with_id c)

abbrev pub composite_with_ids : CompositeType → CompositeType
composite_with_ids c = record c {
  inner = inner_with_ids c.inner;
  descriptor_idx = option_map index_with_id c.descriptor_idx;
  describes_idx = option_map index_with_id c.describes_idx;
}

abbrev pub sub_with_ids : SubType → SubType
sub_with_ids s = record s {
  supertype_idx = option_map index_with_id s.supertype_idx;
  composite_type = composite_with_ids s.composite_type;
}

-- ---- the canonical form of a type of a module of so many types, where it has one

abbrev pub canonical_index : ℕ → UnpackedIndex → Option UnpackedIndex
canonical_index n i = if is_known n i then Some (index_with_id i) else None

abbrev pub canonical_heap : ℕ → HeapType → Option HeapType
canonical_heap n h = if heap_indices_pass (is_known n) h then Some (heap_with_id h) else None

abbrev pub canonical_ref : ℕ → RefType → Option RefType
canonical_ref n r = if ref_indices_pass (is_known n) r then Some (ref_with_id r) else None

abbrev pub canonical_type : ℕ → ValType → Option ValType
canonical_type n t = if type_indices_pass (is_known n) t then Some (type_with_id t) else None

-- ---- the number of the index in a type, or 0 where it has none

abbrev pub heap_number : HeapType → ℕ
heap_number (Abstract shared ty) = 0
heap_number (Concrete i) = number_of i
heap_number (Exact i) = number_of i

abbrev pub type_number : ValType → ℕ
type_number (Ref r) = heap_number r.heap_type
type_number _ = 0

-- ---- the text of the refusal of an index of which there is no type

abbrev pub unknown_text : ℕ → List ℕ
unknown_text n = codes "unknown type " ++ decimal n ++ codes ": type index out of bounds"
