-- Types in the bytes of a module (WebAssembly core specification, "Binary Format: Types"; exact types are of
-- a proposal, "Custom Descriptors", and shared ones of another, "Shared-Everything Threads").
use Rattle.std.specs.Prelude.{ℕ, ◌+◌, ◌-◌, ◌^◌, Bool, true, false, List, [], ◌∷◌, length, drop, min}
use Rattle.std.specs.Prelude.{Option, Some, None, unwrap_or, slice_get, is_some, nat_lt, nat_eq}
use Rattle.std.specs.Prelude.{if◌then◌else◌}
use Rattle.binary_operators.specs.Integers.{unsigned, biased}
use Rattle.binary_operators.specs.Values.{◌>>=◌, byte}
use Rattle.binary_operators.specs.declared.types.CanonicalTypes.{CanonicalTypes}
use Rattle.binary_operators.specs.declared.types.GroupNames.{GroupNames}
use Rattle.binary_operators.specs.declared.types.GroupNames.TheVariants.{Places, Indices}
use Rattle.validate_types.specs.declared.heap.AbstractHeapType.{AbstractHeapType}
use Rattle.validate_types.specs.declared.heap.AbstractHeapType.TheVariants.{Func, Extern, Any, NoExtern}
use Rattle.validate_types.specs.declared.heap.AbstractHeapType.TheVariants.{NoFunc}
use Rattle.validate_types.specs.declared.heap.AbstractHeapType.TheVariants.{None as NoAny, Eq, Struct, Array}
use Rattle.validate_types.specs.declared.heap.AbstractHeapType.TheVariants.{I31}
use Rattle.validate_types.specs.declared.heap.AbstractHeapType.TheVariants.{Exn, NoExn, Cont, NoCont}
use Rattle.validate_types.specs.declared.heap.HeapType.{HeapType}
use Rattle.validate_types.specs.declared.heap.HeapType.TheVariants.{Abstract, Concrete, Exact}
use Rattle.validate_types.specs.declared.heap.UnpackedIndex.{UnpackedIndex}
use Rattle.validate_types.specs.declared.heap.UnpackedIndex.TheVariants.{Module, Id}
use Rattle.validate_types.specs.declared.refs.RefType.{RefType}
use Rattle.validate_types.specs.declared.types.ValType.{ValType}
use Rattle.validate_types.specs.declared.types.ValType.TheVariants.{I32, I64, F32, F64, V128, Ref}
use Rattle.validate_types.specs.Refs.{reference_to}

-- ---- indices of types

-- An index of a type is read as that of the type that stands for it, the first of those that are equal
-- ("Defined Types"); one past the types that were read is left as it is.
abbrev pub canonical : CanonicalTypes → ℕ → ℕ
canonical types i = unwrap_or (slice_get types.canonical.now i) i

-- In a heap type the same, but that a type of the group that is being read, behind these, is named by its
-- place in the group, or by an index.
abbrev pub name_in_group : GroupNames → ℕ → UnpackedIndex
name_in_group Places place = Id (record { index = place })
name_in_group (Indices first) place = Module (min (first + place) (2 ^ 32 - 1))

abbrev pub type_count : CanonicalTypes → ℕ
type_count types = min (length types.canonical.now) (2 ^ 32 - 1)

abbrev pub name_of : Option ℕ → CanonicalTypes → ℕ → UnpackedIndex
name_of (Some first) types i = Module first
name_of None types i = name_in_group types.group (i - type_count types)

abbrev pub type_name : CanonicalTypes → ℕ → UnpackedIndex
type_name types i = name_of (slice_get types.canonical.now i) types i

-- the index of a type: an integer of 33 bits that is not negative
abbrev pub type_number : List ℕ → Option (ℕ × List ℕ)
type_number bytes = do
  i ← biased 33 bytes
  if nat_lt i.0 (2 ^ 32) then None else Some (i.0 - 2 ^ 32, i.1)

-- ---- heap types

-- the abstract heap types, from code 0x68 on
abbrev pub abstract_types : List AbstractHeapType
abstract_types =
    Cont ∷ Exn ∷ Array ∷ Struct ∷ I31 ∷ Eq ∷ Any ∷ Extern ∷ Func
    ∷ NoAny ∷ NoExtern ∷ NoFunc ∷ NoExn ∷ NoCont ∷ []

abbrev pub abstract_type : ℕ → Option AbstractHeapType
abstract_type code = if nat_lt code 0x68 then None else slice_get abstract_types (code - 0x68)

-- the heap type of a type of the module, whose index was read
abbrev pub named :
    (UnpackedIndex → HeapType) → CanonicalTypes → Option (ℕ × List ℕ) → Option (HeapType × List ℕ)
named heap types None = None
named heap types (Some i) = Some (heap (type_name types i.0), i.1)

-- the abstract heap type of this code, or else a type of the module: behind a code exactly that, or its index
-- alone
abbrev pub unshared_heap : CanonicalTypes → Option AbstractHeapType → ℕ → List ℕ → Option (HeapType × List ℕ)
unshared_heap types (Some ty) code bytes = Some (Abstract false ty, bytes)
unshared_heap types None code bytes =
    if nat_eq code 0x62 then named Exact types (unsigned 32 bytes)
    else named Concrete types (type_number (code ∷ bytes))

abbrev pub shared_heap : List ℕ → Option (HeapType × List ℕ)
shared_heap bytes = do
  code ← byte bytes
  ty ← abstract_type code.0
  Some (Abstract true ty, code.1)

unfoldable pub heap_type : CanonicalTypes → List ℕ → Option (HeapType × List ℕ)
heap_type types [] = None
heap_type types (code ∷ bytes) =
    if nat_eq code 0x65 then shared_heap bytes else unshared_heap types (abstract_type code) code bytes

-- ---- reference types

-- the references to a heap type, with null or without; one with too large an index is no type here
unfoldable pub reference_type : CanonicalTypes → Bool → List ℕ → Option (RefType × List ℕ)
reference_type types nullable bytes = do
  heap ← heap_type types bytes
  ty ← reference_to nullable heap.0
  Some (ty, heap.1)

-- Code 0x63 says that null is among the values, and 0x64 that it isn't; an abstract heap type alone has it.
unfoldable pub ref_type : CanonicalTypes → List ℕ → Option (RefType × List ℕ)
ref_type types [] = None
ref_type types (code ∷ bytes) =
    if nat_eq code 0x63 then reference_type types true bytes
    else (if nat_eq code 0x64 then reference_type types false bytes
    else (if nat_eq code 0x65 then reference_type types true (code ∷ bytes)
    else (if is_some (abstract_type code) then reference_type types true (code ∷ bytes) else None)))

-- ---- value types

-- the number types and the vector type, from code 0x7b on
abbrev pub number_types : List ValType
number_types = V128 ∷ F64 ∷ F32 ∷ I64 ∷ I32 ∷ []

abbrev pub number_type : ℕ → Option ValType
number_type code = if nat_lt code 0x7b then None else slice_get number_types (code - 0x7b)

-- the number type of the first byte, or else a reference type
abbrev pub value_of : CanonicalTypes → Option ValType → List ℕ → Option (ValType × List ℕ)
value_of types (Some ty) bytes = Some (ty, drop 1 bytes)
value_of types None bytes = do
  ty ← ref_type types bytes
  Some (Ref ty.0, ty.1)

unfoldable pub value_type : CanonicalTypes → List ℕ → Option (ValType × List ℕ)
value_type types [] = None
value_type types (code ∷ bytes) = value_of types (number_type code) (code ∷ bytes)
