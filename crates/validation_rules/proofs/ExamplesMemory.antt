-- Small bodies of the table's operators on memories, and every row of these operators, computed. What
-- is expected is what the standard's rules say of them, and for atomic operators the threads proposal.
use Rattle.std.proofs.Common.{◌≡◌, ◌+◌, ◌-◌, ℕ, nat_eq, Bool, true, false, List, [], ◌∷◌, ◌++◌, length, map, Option, Some, None, refl}
use Rattle.validate_resources.specs.Context.{is_address_type}
use Rattle.validate_resources.specs.Lists.{Declared}
use Rattle.validate_resources.specs.Named.{nothing_declared}
use Rattle.validate_types.specs.Features.{floats, bulk_memory, bulk_memory_opt, threads, memory_control, acquire_release_atomics, multibyte_array_access}
use Rattle.validate_types.specs.Refs.{nullable_reference}
use Rattle.validate_types.specs.declared.heap.AbstractHeapType.TheVariants.{Func as FuncHeap}
use Rattle.validate_types.specs.declared.heap.HeapType.TheVariants.{Abstract, Concrete}
use Rattle.validate_types.specs.declared.types.CompositeInnerType.{CompositeInnerType}
use Rattle.validate_types.specs.declared.types.CompositeInnerType.TheVariants.{Array as ArrayInner}
use Rattle.validate_types.specs.declared.types.MemoryType.{MemoryType}
use Rattle.validate_types.specs.declared.types.StorageType.{StorageType}
use Rattle.validate_types.specs.declared.types.StorageType.TheVariants.{I8, Val as StoredWhole}
use Rattle.validate_visit.specs.declared.memory.MemArg.{MemArg}
use Rattle.validate_visit.specs.declared.memory.MemArgTarget.TheVariants.{Memory as InMemory, Array as InArray}
use Rattle.validate_visit.specs.declared.memory.Ordering.TheVariants.{SeqCst, AcqRel}
use Rattle.validate_visit.specs.declared.memory.AtomicAccess.{AtomicAccess}
use Rattle.validate_visit.specs.declared.memory.AtomicAccess.TheVariants.{Whole, Packed}
use Rattle.validate_visit.specs.declared.memory.AtomicRmwOp.{AtomicRmwOp}
use Rattle.validate_visit.specs.declared.memory.AtomicRmwOp.TheVariants.{Add}
use Rattle.validate_visit.specs.declared.numbers.IntegerType.TheVariants.{I32 as IntegerI32, I64 as IntegerI64}
use Rattle.validate_visit.specs.declared.numbers.NumberType.TheVariants.{I32 as NumberI32, I64 as NumberI64, F32 as NumberF32, F64 as NumberF64}
use Rattle.validate_visit.specs.declared.numbers.PackedInteger.TheVariants.{I32Bits8, I32Bits16, I64Bits8, I64Bits16, I64Bits32}
use Rattle.validate_visit.specs.declared.numbers.Sign.{Sign}
use Rattle.validate_visit.specs.declared.op.AtomicOp.{AtomicOp}
use Rattle.validate_visit.specs.declared.op.AtomicOp.TheVariants.{AtomicCmpxchg, AtomicLoad, AtomicNotify, AtomicRmw, AtomicStore, AtomicWait, AtomicFence, Pause}
use Rattle.validate_visit.specs.declared.op.MemoryOp.{MemoryOp}
use Rattle.validate_visit.specs.declared.op.MemoryOp.TheVariants.{Load, LoadPacked, Store, StorePacked, MemorySize, MemoryGrow, MemoryInit, DataDrop, MemoryCopy, MemoryFill, MemoryDiscard}
use Rattle.validate_visit.specs.declared.op.Op.{Op}
use Rattle.validate_visit.specs.declared.op.Op.TheVariants.{Memory, Atomic}
use Rattle.validation_rules.specs.Context.{SubType, ValType, I32, I64, F32, F64, V128, Ref, Empty, Val, Context}
use Rattle.validation_rules.specs.Fits.{MaybeType, Known}
use Rattle.validation_rules.specs.Rows.{Block}
use Rattle.validation_rules.specs.Static.{State, open_state, state_before, start}
use Rattle.validation_rules.specs.Operators.{row_operator, plain_row, operator, operators}
use Rattle.validation_rules.proofs.Refusals.{IsRefusedAtLast}
use Rattle.validation_rules.proofs.ExampleWords.{id, a_type, func_type, every, within, unreachable, end}
use Rattle.validation_rules.proofs.ExampleWords.{i32_const, i64_const, null_of, after_all, premise_in}

-- ---- a module of two memories and two data segments: memory 0, which is shared, has addresses of 32
-- bits, and memory 1 of 64; whether it is shared is nothing to any of these operators

abbrev memories : List MemoryType
memories = record { memory64 = false; shared = true } ∷ record { memory64 = true; shared = false } ∷ []

abbrev with_count : Option ℕ → Declared
with_count count = record nothing_declared { memories = memories; data_count = count }

-- with these proposals on
abbrev over : Option ℕ → ℕ → Context
over count bits = within (with_count count) bits false

abbrev under : ℕ → Context
under bits = over (Some 2) bits

abbrev cx : Context
cx = under every

-- a type of addresses is an i32 or an i64
index_types : map is_address_type (I32 ∷ I64 ∷ F32 ∷ F64 ∷ V128 ∷ []) ≡ true ∷ true ∷ false ∷ false ∷ false ∷ []
index_types = refl

-- ---- accesses

-- of this alignment, where that one is natural (both are exponents of 2)
abbrev aligned : ℕ → ℕ → ℕ → MemArg
aligned align max_align m = record { align = align; max_align = max_align; offset = 0; target = InMemory m }

-- an alignment smaller than the natural one, just that, and greater by one
abbrev smaller : ℕ → MemArg
smaller m = aligned 1 2 m

abbrev natural : ℕ → MemArg
natural m = aligned 2 2 m

abbrev greater : ℕ → MemArg
greater m = aligned 3 2 m

-- and at this offset
abbrev at_offset : ℕ → ℕ → MemArg
at_offset offset m = record (natural m) { offset = offset }

-- ---- whole rows

abbrev premise : Context → Op → Bool
premise c op = premise_in c [] op

abbrev AllHold : List Op → Type 0
AllHold ops = map (premise cx) ops ≡ map (λ op. true) ops

abbrev NoneHolds : List Op → Type 0
NoneHolds ops = map (premise cx) ops ≡ map (λ op. false) ops

-- With these proposals alone, each operator wants and pushes exactly these types, and does nothing
-- else; without them, and with all others, no row holds, unless it needs none.
abbrev Says : List Op → List ValType → List ValType → ℕ → Type 0
Says ops expected pushed needs =
    (map (operator (under needs)) ops ≡ map (λ op. row_operator (plain_row expected pushed)) ops) × (map (premise (under (every - needs))) ops ≡ map (λ op. nat_eq needs 0) ops)

-- Operators of an access that may be aligned less: over an address of either type, these above it and
-- pushed, and never aligned more, nor to a memory that isn't there.
abbrev Access : (MemArg → List MemoryOp) → List ValType → List ValType → ℕ → Type 0
Access group above pushed needs =
    let ops = λ (arg : MemArg). map (λ op. Memory op) (group arg) in
    Says (ops (natural 0)) (I32 ∷ above) pushed needs × Says (ops (smaller 1)) (I64 ∷ above) pushed needs × AllHold (ops (smaller 0)) × NoneHolds (ops (greater 0)) × NoneHolds (ops (greater 1)) × NoneHolds (ops (natural 2))

-- and of one whose alignment is the natural one
abbrev AtomicAccesses : (MemArg → List AtomicOp) → List ValType → List ValType → Type 0
AtomicAccesses group above pushed =
    let ops = λ (arg : MemArg). map (λ op. Atomic op) (group arg) in
    Says (ops (natural 0)) (I32 ∷ above) pushed threads × Says (ops (natural 1)) (I64 ∷ above) pushed threads × NoneHolds (ops (smaller 0)) × NoneHolds (ops (smaller 1)) × NoneHolds (ops (greater 0)) × NoneHolds (ops (natural 2))

-- ---- loads and stores

loads_of_i32 : (sign : Sign) → Access (λ arg. Load NumberI32 arg ∷ LoadPacked I32Bits8 sign arg ∷ LoadPacked I32Bits16 sign arg ∷ []) [] (I32 ∷ []) 0
loads_of_i32 sign = ((refl, refl), (refl, refl), refl, refl, refl, refl)

loads_of_i64 : (sign : Sign) → Access (λ arg. Load NumberI64 arg ∷ LoadPacked I64Bits8 sign arg ∷ LoadPacked I64Bits16 sign arg ∷ LoadPacked I64Bits32 sign arg ∷ []) [] (I64 ∷ []) 0
loads_of_i64 sign = ((refl, refl), (refl, refl), refl, refl, refl, refl)

load_of_f32 : Access (λ arg. Load NumberF32 arg ∷ []) [] (F32 ∷ []) floats
load_of_f32 = ((refl, refl), (refl, refl), refl, refl, refl, refl)

load_of_f64 : Access (λ arg. Load NumberF64 arg ∷ []) [] (F64 ∷ []) floats
load_of_f64 = ((refl, refl), (refl, refl), refl, refl, refl, refl)

stores_of_i32 : Access (λ arg. Store NumberI32 arg ∷ StorePacked I32Bits8 arg ∷ StorePacked I32Bits16 arg ∷ []) (I32 ∷ []) [] 0
stores_of_i32 = ((refl, refl), (refl, refl), refl, refl, refl, refl)

stores_of_i64 : Access (λ arg. Store NumberI64 arg ∷ StorePacked I64Bits8 arg ∷ StorePacked I64Bits16 arg ∷ StorePacked I64Bits32 arg ∷ []) (I64 ∷ []) [] 0
stores_of_i64 = ((refl, refl), (refl, refl), refl, refl, refl, refl)

store_of_f32 : Access (λ arg. Store NumberF32 arg ∷ []) (F32 ∷ []) [] floats
store_of_f32 = ((refl, refl), (refl, refl), refl, refl, refl, refl)

store_of_f64 : Access (λ arg. Store NumberF64 arg ∷ []) (F64 ∷ []) [] floats
store_of_f64 = ((refl, refl), (refl, refl), refl, refl, refl, refl)

-- ---- atomic accesses

-- of a whole integer, and of fewer bits
abbrev i32_accesses : List AtomicAccess
i32_accesses = Whole IntegerI32 ∷ Packed I32Bits8 ∷ Packed I32Bits16 ∷ []

abbrev i64_accesses : List AtomicAccess
i64_accesses = Whole IntegerI64 ∷ Packed I64Bits8 ∷ Packed I64Bits16 ∷ Packed I64Bits32 ∷ []

atomic_loads_of_i32 : AtomicAccesses (λ arg. map (λ access. AtomicLoad access arg) i32_accesses) [] (I32 ∷ [])
atomic_loads_of_i32 = ((refl, refl), (refl, refl), refl, refl, refl, refl)

atomic_loads_of_i64 : AtomicAccesses (λ arg. map (λ access. AtomicLoad access arg) i64_accesses) [] (I64 ∷ [])
atomic_loads_of_i64 = ((refl, refl), (refl, refl), refl, refl, refl, refl)

atomic_stores_of_i32 : AtomicAccesses (λ arg. map (λ access. AtomicStore access arg) i32_accesses) (I32 ∷ []) []
atomic_stores_of_i32 = ((refl, refl), (refl, refl), refl, refl, refl, refl)

atomic_stores_of_i64 : AtomicAccesses (λ arg. map (λ access. AtomicStore access arg) i64_accesses) (I64 ∷ []) []
atomic_stores_of_i64 = ((refl, refl), (refl, refl), refl, refl, refl, refl)

-- `add`, `sub`, `and`, `or`, `xor` and `xchg`: an operand, and what was there
rmw_of_i32 : (op : AtomicRmwOp) → AtomicAccesses (λ arg. map (λ access. AtomicRmw access op arg) i32_accesses) (I32 ∷ []) (I32 ∷ [])
rmw_of_i32 op = ((refl, refl), (refl, refl), refl, refl, refl, refl)

rmw_of_i64 : (op : AtomicRmwOp) → AtomicAccesses (λ arg. map (λ access. AtomicRmw access op arg) i64_accesses) (I64 ∷ []) (I64 ∷ [])
rmw_of_i64 op = ((refl, refl), (refl, refl), refl, refl, refl, refl)

-- what is expected, what replaces it, and what was there
cmpxchg_of_i32 : AtomicAccesses (λ arg. map (λ access. AtomicCmpxchg access arg) i32_accesses) (I32 ∷ I32 ∷ []) (I32 ∷ [])
cmpxchg_of_i32 = ((refl, refl), (refl, refl), refl, refl, refl, refl)

cmpxchg_of_i64 : AtomicAccesses (λ arg. map (λ access. AtomicCmpxchg access arg) i64_accesses) (I64 ∷ I64 ∷ []) (I64 ∷ [])
cmpxchg_of_i64 = ((refl, refl), (refl, refl), refl, refl, refl, refl)

-- how many to wake, and how many were
notify : AtomicAccesses (λ arg. AtomicNotify arg ∷ []) (I32 ∷ []) (I32 ∷ [])
notify = ((refl, refl), (refl, refl), refl, refl, refl, refl)

-- what is expected, how long to wait, and how the waiting ended
wait_of_i32 : AtomicAccesses (λ arg. AtomicWait IntegerI32 arg ∷ []) (I32 ∷ I64 ∷ []) (I32 ∷ [])
wait_of_i32 = ((refl, refl), (refl, refl), refl, refl, refl, refl)

wait_of_i64 : AtomicAccesses (λ arg. AtomicWait IntegerI64 arg ∷ []) (I64 ∷ I64 ∷ []) (I32 ∷ [])
wait_of_i64 = ((refl, refl), (refl, refl), refl, refl, refl, refl)

-- ---- fences

fence : Says (Atomic (AtomicFence SeqCst) ∷ []) [] [] threads
fence = (refl, refl)

-- the weaker ordering needs both proposals
weaker_fence : Says (Atomic (AtomicFence AcqRel) ∷ []) [] [] (threads + acquire_release_atomics)
weaker_fence = (refl, refl)

weaker_fence_closed : premise (under (every - acquire_release_atomics)) (Atomic (AtomicFence AcqRel)) ≡ false
weaker_fence_closed = refl

weaker_fence_no_threads : premise (under (every - threads)) (Atomic (AtomicFence AcqRel)) ≡ false
weaker_fence_no_threads = refl

-- and `pause` the second alone
pause : Says (Atomic Pause ∷ []) [] [] acquire_release_atomics
pause = (refl, refl)

-- ---- whole memories and data segments

size_of_32 : Says (Memory (MemorySize 0) ∷ []) [] (I32 ∷ []) 0
size_of_32 = (refl, refl)

size_of_64 : Says (Memory (MemorySize 1) ∷ []) [] (I64 ∷ []) 0
size_of_64 = (refl, refl)

grow_of_32 : Says (Memory (MemoryGrow 0) ∷ []) (I32 ∷ []) (I32 ∷ []) 0
grow_of_32 = (refl, refl)

grow_of_64 : Says (Memory (MemoryGrow 1) ∷ []) (I64 ∷ []) (I64 ∷ []) 0
grow_of_64 = (refl, refl)

-- an address, a byte and a length
fill_of_32 : Says (Memory (MemoryFill 0) ∷ []) (I32 ∷ I32 ∷ I32 ∷ []) [] bulk_memory_opt
fill_of_32 = (refl, refl)

fill_of_64 : Says (Memory (MemoryFill 1) ∷ []) (I64 ∷ I32 ∷ I64 ∷ []) [] bulk_memory_opt
fill_of_64 = (refl, refl)

discard_of_32 : Says (Memory (MemoryDiscard 0) ∷ []) (I32 ∷ I32 ∷ []) [] memory_control
discard_of_32 = (refl, refl)

discard_of_64 : Says (Memory (MemoryDiscard 1) ∷ []) (I64 ∷ I64 ∷ []) [] memory_control
discard_of_64 = (refl, refl)

-- to an address, from an address, and a length of 64 bits only where both are
copy_in_32 : Says (Memory (MemoryCopy 0 0) ∷ []) (I32 ∷ I32 ∷ I32 ∷ []) [] bulk_memory_opt
copy_in_32 = (refl, refl)

copy_to_32 : Says (Memory (MemoryCopy 0 1) ∷ []) (I32 ∷ I64 ∷ I32 ∷ []) [] bulk_memory_opt
copy_to_32 = (refl, refl)

copy_to_64 : Says (Memory (MemoryCopy 1 0) ∷ []) (I64 ∷ I32 ∷ I32 ∷ []) [] bulk_memory_opt
copy_to_64 = (refl, refl)

copy_in_64 : Says (Memory (MemoryCopy 1 1) ∷ []) (I64 ∷ I64 ∷ I64 ∷ []) [] bulk_memory_opt
copy_in_64 = (refl, refl)

-- an address, and within the segment an offset and a length
init_of_32 : Says (Memory (MemoryInit 1 0) ∷ []) (I32 ∷ I32 ∷ I32 ∷ []) [] bulk_memory
init_of_32 = (refl, refl)

init_of_64 : Says (Memory (MemoryInit 0 1) ∷ []) (I64 ∷ I32 ∷ I32 ∷ []) [] bulk_memory
init_of_64 = (refl, refl)

drop_segment : Says (Memory (DataDrop 0) ∷ Memory (DataDrop 1) ∷ []) [] [] bulk_memory
drop_segment = (refl, refl)

-- a memory that isn't there
no_memory : NoneHolds (map (λ op. Memory op) (MemorySize 2 ∷ MemoryGrow 2 ∷ MemoryFill 2 ∷ MemoryDiscard 2 ∷ MemoryCopy 2 0 ∷ MemoryCopy 0 2 ∷ MemoryInit 0 2 ∷ []))
no_memory = refl

-- a segment that isn't there: there are two
no_segment : NoneHolds (map (λ op. Memory op) (MemoryInit 2 0 ∷ MemoryInit 2 1 ∷ MemoryInit 3 0 ∷ DataDrop 2 ∷ DataDrop 3 ∷ []))
no_segment = refl

-- a module that doesn't say how many segments it has, or has none
abbrev on_segments : List Op
on_segments = Memory (MemoryInit 0 0) ∷ Memory (MemoryInit 0 1) ∷ Memory (DataDrop 0) ∷ []

no_count : map (premise (over None every)) on_segments ≡ false ∷ false ∷ false ∷ []
no_count = refl

count_of_none : map (premise (over (Some 0) every)) on_segments ≡ false ∷ false ∷ false ∷ []
count_of_none = refl

-- ---- other alignments, and offsets

-- one operator of each shape
abbrev plain_accesses : MemArg → List Op
plain_accesses arg = Memory (Load NumberI32 arg) ∷ Memory (Store NumberF64 arg) ∷ []

abbrev atomic_accesses : MemArg → List Op
atomic_accesses arg =
    Atomic (AtomicLoad (Whole IntegerI64) arg) ∷ Atomic (AtomicStore (Whole IntegerI32) arg) ∷ Atomic (AtomicRmw (Whole IntegerI32) Add arg) ∷ Atomic (AtomicCmpxchg (Whole IntegerI64) arg) ∷ Atomic (AtomicNotify arg) ∷ Atomic (AtomicWait IntegerI32 arg) ∷ []

abbrev accesses : MemArg → List Op
accesses arg = plain_accesses arg ++ atomic_accesses arg

-- of 8 bytes, and of one
of_eight : AllHold (accesses (aligned 3 3 0))
of_eight = refl

of_one : AllHold (accesses (aligned 0 0 1))
of_one = refl

one_as_two : NoneHolds (accesses (aligned 1 0 0))
one_as_two = refl

eight_as_one : AllHold (plain_accesses (aligned 0 3 0))
eight_as_one = refl

eight_as_four : NoneHolds (atomic_accesses (aligned 2 3 0))
eight_as_four = refl

-- the last offset of 32 bits, at an address of 32
last_offset : AllHold (accesses (at_offset 4294967295 0))
last_offset = refl

-- and the next
first_beyond : NoneHolds (accesses (at_offset 4294967296 0))
first_beyond = refl

-- at an address of 64 bits that one, and the last of 64
beyond_in_64 : AllHold (accesses (at_offset 4294967296 1))
beyond_in_64 = refl

last_in_64 : AllHold (accesses (at_offset 18446744073709551615 1))
last_in_64 = refl

-- ---- bodies

abbrev i32_load : MemArg → Op
i32_load arg = Memory (Load NumberI32 arg)

abbrev i64_store : MemArg → Op
i64_store arg = Memory (Store NumberI64 arg)

abbrev Refused : List Op → Type 0
Refused ops = IsRefusedAtLast cx Empty ops

-- accepted so far, with these operands in the outermost frame, the top first
abbrev Stands : List Op → List MaybeType → Bool → Type 0
Stands ops own dead = after_all cx Empty ops ≡ Some (open_state (record { head = record { kind = Block; block_type = Empty }; operands = own; dead = dead; first_set = [] } ∷ []))

-- the address goes, and what lies below it stays
load_in_32 : Stands (i64_const ∷ i32_const ∷ i32_load (natural 0) ∷ []) (Known I32 ∷ Known I64 ∷ []) false
load_in_32 = refl

load_in_64 : Stands (i32_const ∷ i64_const ∷ i32_load (smaller 1) ∷ []) (Known I32 ∷ Known I32 ∷ []) false
load_in_64 = refl

-- an address of the other memory's type, and none
load_in_32_by_64 : Refused (i64_const ∷ i32_load (natural 0) ∷ [])
load_in_32_by_64 = refl

load_in_64_by_32 : Refused (i32_const ∷ i32_load (natural 1) ∷ [])
load_in_64_by_32 = refl

load_at_once : Refused (i32_load (natural 0) ∷ [])
load_at_once = refl

-- also in dead code: it gives its type, and its memory, alignment and offset count
load_in_dead : Stands (unreachable ∷ i32_load (natural 0) ∷ []) (Known I32 ∷ []) true
load_in_dead = refl

load_of_no_memory : Refused (unreachable ∷ i32_load (natural 2) ∷ [])
load_of_no_memory = refl

load_aligned_more : Refused (unreachable ∷ i32_load (greater 0) ∷ [])
load_aligned_more = refl

load_beyond : Refused (unreachable ∷ i32_load (at_offset 4294967296 0) ∷ [])
load_beyond = refl

-- the value lies above the address
store_in_32 : Stands (i32_const ∷ i32_const ∷ i64_const ∷ i64_store (natural 0) ∷ []) (Known I32 ∷ []) false
store_in_32 = refl

store_turned : Refused (i64_const ∷ i32_const ∷ i64_store (natural 0) ∷ [])
store_turned = refl

store_without_address : Refused (i64_const ∷ i64_store (natural 1) ∷ [])
store_without_address = refl

-- the expected value and then the time to wait, above the address
wait_for_i32 : Stands (i32_const ∷ i32_const ∷ i64_const ∷ Atomic (AtomicWait IntegerI32 (natural 0)) ∷ []) (Known I32 ∷ []) false
wait_for_i32 = refl

wait_turned : Refused (i32_const ∷ i64_const ∷ i32_const ∷ Atomic (AtomicWait IntegerI32 (natural 0)) ∷ [])
wait_turned = refl

-- to memory 1 from memory 0, and not the other way round
copies_out : Stands (i64_const ∷ i32_const ∷ i32_const ∷ Memory (MemoryCopy 1 0) ∷ []) [] false
copies_out = refl

copies_turned : Refused (i64_const ∷ i32_const ∷ i32_const ∷ Memory (MemoryCopy 0 1) ∷ [])
copies_turned = refl

-- a body that grows memory 1 by its own size, and gives what it had
grows : after_all cx (Val I64) (Memory (MemorySize 1) ∷ Memory (MemoryGrow 1) ∷ end ∷ []) ≡ Some (record { frames = []; left = Known I64 ∷ [] })
grows = refl

grows_by_other : Refused (Memory (MemorySize 0) ∷ Memory (MemoryGrow 1) ∷ [])
grows_by_other = refl

-- ---- accesses of arrays, in a module of these types: 0 of packed integers, 1 of the same that can't be
-- written, 2 of references, 3 of numbers and shared, and 4, which is no array

abbrev array_of : StorageType → Bool → CompositeInnerType
array_of held mutable = ArrayInner (record { 0 = record { element_type = held; mutable = mutable } })

abbrev funcref : ValType
funcref = Ref (nullable_reference (Abstract false FuncHeap))

abbrev array_types : List SubType
array_types =
    a_type false (array_of I8 true) ∷ a_type false (array_of I8 false) ∷ a_type false (array_of (StoredWhole funcref) true) ∷ a_type true (array_of (StoredWhole F64) true) ∷ func_type [] [] ∷ []

-- with these proposals on, in a function that is shared or isn't
abbrev over_arrays : ℕ → Bool → Context
over_arrays bits shared =
    within (record (with_count None) { types = array_types }) bits shared

abbrev in_array : ℕ → MemArg
in_array i = record (natural 0) { target = InArray i }

-- a reference, perhaps null, to the type at this index
abbrev to_type : ℕ → ValType
to_type i = Ref (nullable_reference (Concrete (id i)))

abbrev load_and_store : MemArg → List Op
load_and_store arg = Memory (Load NumberI32 arg) ∷ Memory (Store NumberI64 arg) ∷ []

-- whether a load holds, and a store
abbrev hold : Bool → MemArg → List Bool
hold shared arg = map (premise (over_arrays every shared)) (load_and_store arg)

-- the reference lies below the i32, whatever the places hold
array_load : map (operator (over_arrays every false)) (Memory (Load NumberF64 (in_array 0)) ∷ Memory (LoadPacked I64Bits8 Sign.Signed (in_array 1)) ∷ []) ≡ row_operator (plain_row (to_type 0 ∷ I32 ∷ []) (F64 ∷ [])) ∷ row_operator (plain_row (to_type 1 ∷ I32 ∷ []) (I64 ∷ [])) ∷ []
array_load = refl

-- and what is stored above
array_store : map (operator (over_arrays every true)) (Memory (Store NumberI64 (in_array 3)) ∷ Memory (StorePacked I32Bits16 (in_array 3)) ∷ []) ≡ row_operator (plain_row (to_type 3 ∷ I32 ∷ I64 ∷ []) []) ∷ row_operator (plain_row (to_type 3 ∷ I32 ∷ I32 ∷ []) []) ∷ []
array_store = refl

-- one that can't be written is loaded from alone
array_immutable : hold false (in_array 1) ≡ true ∷ false ∷ []
array_immutable = refl

-- references, another type, and none
array_of_references : hold false (in_array 2) ≡ false ∷ false ∷ []
array_of_references = refl

no_array : hold false (in_array 4) ≡ false ∷ false ∷ []
no_array = refl

no_array_type : hold false (in_array 5) ≡ false ∷ false ∷ []
no_array_type = refl

-- a shared function accesses what is shared
array_unshared : hold true (in_array 0) ≡ false ∷ false ∷ []
array_unshared = refl

array_shared : hold true (in_array 3) ≡ true ∷ true ∷ []
array_shared = refl

-- the proposal alone is needed
array_opened : map (premise (over_arrays multibyte_array_access false)) (load_and_store (in_array 0)) ≡ true ∷ true ∷ []
array_opened = refl

array_closed : map (premise (over_arrays (every - multibyte_array_access) false)) (load_and_store (in_array 0)) ≡ false ∷ false ∷ []
array_closed = refl

-- alignments as of a memory, and offsets as at an address of 32 bits
array_aligned_less : hold false (record (smaller 0) { target = InArray 0 }) ≡ true ∷ true ∷ []
array_aligned_less = refl

array_aligned_more : hold false (record (greater 0) { target = InArray 0 }) ≡ false ∷ false ∷ []
array_aligned_more = refl

array_last_offset : hold false (record (at_offset 4294967295 0) { target = InArray 0 }) ≡ true ∷ true ∷ []
array_last_offset = refl

array_first_beyond : hold false (record (at_offset 4294967296 0) { target = InArray 0 }) ≡ false ∷ false ∷ []
array_first_beyond = refl

-- atomic operators access no array
array_atomic : map (premise (over_arrays every false)) (atomic_accesses (in_array 0)) ≡ map (λ op. false) (atomic_accesses (in_array 0))
array_atomic = refl

abbrev after_array : List Op → Option State
after_array ops = state_before (over_arrays every false) (operators (over_arrays every false) ops) (start (Val I32)) (length ops)

array_body : after_array (null_of 0 ∷ i32_const ∷ i32_load (in_array 0) ∷ end ∷ []) ≡ Some (record { frames = []; left = Known I32 ∷ [] })
array_body = refl

array_body_turned : after_array (i32_const ∷ null_of 0 ∷ i32_load (in_array 0) ∷ []) ≡ None
array_body_turned = refl

array_body_as_memory : after_array (i32_const ∷ i32_load (in_array 0) ∷ []) ≡ None
array_body_as_memory = refl
