-- The rows of loads and stores, of memories and of arrays, and of atomic operators on memories
-- (WebAssembly core specification, "Validation: Memory Instructions"; the multibyte array access
-- proposal for arrays, and the threads proposal for the atomic ones).
-- An offset is at most 4294967295 where the address is an i32, of an array too. The alignment is at most
-- the natural one; an atomic access has just that. An array is accessed under `multibyte_array_access`,
-- without `gc`.
use Rattle.std.specs.Prelude.{ℕ, Bool, true, ◌&&◌, ◌^◌, nat_eq, nat_le, nat_lt, List, [], ◌∷◌}
use Rattle.std.specs.Prelude.{Option, Some, None, ◌++◌}
use Rattle.std.specs.List.{list_all}
use Rattle.std.specs.Option.{option_map, option_and_then}
use Rattle.validate_resources.specs.Context.{is_number_or_vector}
use Rattle.validate_types.specs.Features.{has, multibyte_array_access}
use Rattle.validate_types.specs.Gates.{is_open}
use Rattle.validate_types.specs.Refs.{nullable_reference}
use Rattle.validate_types.specs.declared.gate.Gate.TheVariants.{AcquireReleaseAtomics}
use Rattle.validate_types.specs.declared.types.FieldType.{FieldType}
use Rattle.validate_visit.specs.declared.memory.MemArg.{MemArg}
use Rattle.validate_visit.specs.declared.memory.MemArgTarget.{MemArgTarget}
use Rattle.validate_visit.specs.declared.memory.MemArgTarget.TheVariants.{Memory, Array}
use Rattle.validate_visit.specs.declared.memory.Ordering.{Ordering}
use Rattle.validate_visit.specs.declared.memory.Ordering.TheVariants.{SeqCst, AcqRel}
use Rattle.validation_rules.specs.Arrays.{array_type}
use Rattle.validation_rules.specs.Context.{ModuleContext, WasmFeatures, ValType, I32, I64, Context}
use Rattle.validation_rules.specs.Indirect.{type_reference}
use Rattle.validation_rules.specs.Memories.{memory_address_type}
use Rattle.validation_rules.specs.Rows.{Row, guard}
use Rattle.validation_rules.specs.Shapes.{plain_row, plain_row_if, lookup_row}
use Rattle.validation_rules.specs.Structs.{field_value}

-- ---- what is accessed

-- such places of an array can be loaded from: they hold no references
abbrev pub is_loadable : FieldType → Bool
is_loadable f = is_number_or_vector (field_value f)

-- and stored to, where they can be written
abbrev pub is_storable : FieldType → Bool
is_storable f = f.mutable && is_loadable f

-- a reference to the array type at this index, where its places pass the test
abbrev pub reference_to_places : Context → (FieldType → Bool) → ℕ → Option ValType
reference_to_places cx test i =
    option_and_then (λ f. guard (test f) (type_reference cx nullable_reference i)) (array_type cx i)

-- the same, which needs a proposal of its own
abbrev pub accessed_array : Context → (FieldType → Bool) → ℕ → Option ValType
accessed_array cx test i =
    guard (has cx.features multibyte_array_access) (reference_to_places cx test i)

-- ---- addresses

-- the types of the address of what is accessed, the last on top, where that is a memory
abbrev pub memory_address_types : ModuleContext → MemArgTarget → Option (List ValType)
memory_address_types md (Memory m) = option_map (λ it. it ∷ []) (memory_address_type md m)
memory_address_types md (Array i) = None

-- or an array whose places pass the test: a reference to it, and where it is read or written
abbrev pub target_address_types : Context → (FieldType → Bool) → MemArgTarget → Option (List ValType)
target_address_types cx test (Memory m) = memory_address_types cx.of_module (Memory m)
target_address_types cx test (Array i) = option_map (λ array. array ∷ I32 ∷ []) (accessed_array cx test i)

-- an address of 32 bits allows an offset of 32 bits alone
abbrev pub allows_offset : ℕ → ValType → Bool
allows_offset offset I32 = nat_lt offset (2 ^ 32)
allows_offset offset _ = true

-- the types of an address, where each allows this offset
abbrev pub address_types_within : ℕ → Option (List ValType) → Option (List ValType)
address_types_within offset None = None
address_types_within offset (Some types) = guard (list_all (allows_offset offset) types) (Some types)

-- these, for a load or a store, whose alignment may be less than the natural one
abbrev pub address_types_for : MemArg → Option (List ValType) → Option (List ValType)
address_types_for arg types = guard (nat_le arg.align arg.max_align) (address_types_within arg.offset types)

-- the types of the address of a load or a store
abbrev pub address_types : Context → (FieldType → Bool) → MemArg → Option (List ValType)
address_types cx test arg = address_types_for arg (target_address_types cx test arg.target)

-- those of an atomic access, which is one of a memory, and whose alignment is the natural one
abbrev pub atomic_address_types : ModuleContext → MemArg → Option (List ValType)
atomic_address_types md arg =
    guard (nat_eq arg.align arg.max_align)
    (address_types_within arg.offset (memory_address_types md arg.target))

-- takes an address, and these operands above it, and pushes these
abbrev pub access_row : Option (List ValType) → List ValType → List ValType → Row
access_row o above pushed = lookup_row o (λ address. plain_row (address ++ above) pushed)

abbrev pub load_row : Context → MemArg → ValType → Row
load_row cx arg t = access_row (address_types cx is_loadable arg) [] (t ∷ [])

abbrev pub store_row : Context → MemArg → ValType → Row
store_row cx arg t = access_row (address_types cx is_storable arg) (t ∷ []) []

-- ---- atomic accesses

abbrev pub atomic_load_row : Context → MemArg → ValType → Row
atomic_load_row cx arg t = access_row (atomic_address_types cx.of_module arg) [] (t ∷ [])

abbrev pub atomic_store_row : Context → MemArg → ValType → Row
atomic_store_row cx arg t = access_row (atomic_address_types cx.of_module arg) (t ∷ []) []

-- reads, changes and writes: it gives what was there
abbrev pub atomic_rmw_row : Context → MemArg → ValType → Row
atomic_rmw_row cx arg t = access_row (atomic_address_types cx.of_module arg) (t ∷ []) (t ∷ [])

-- the expected value lies below the one that replaces it
abbrev pub atomic_cmpxchg_row : Context → MemArg → ValType → Row
atomic_cmpxchg_row cx arg t = access_row (atomic_address_types cx.of_module arg) (t ∷ t ∷ []) (t ∷ [])

-- the expected value lies below the time to wait
abbrev pub atomic_wait_row : Context → MemArg → ValType → Row
atomic_wait_row cx arg t = access_row (atomic_address_types cx.of_module arg) (t ∷ I64 ∷ []) (I32 ∷ [])

-- how many waiters to wake, and how many were
abbrev pub atomic_notify_row : Context → MemArg → Row
atomic_notify_row cx arg = access_row (atomic_address_types cx.of_module arg) (I32 ∷ []) (I32 ∷ [])

abbrev pub allows_ordering : WasmFeatures → Ordering → Bool
allows_ordering features SeqCst = true
allows_ordering features AcqRel = is_open features AcquireReleaseAtomics

abbrev pub atomic_fence_row : Context → Ordering → Row
atomic_fence_row cx ordering = plain_row_if (allows_ordering cx.features ordering) [] []
