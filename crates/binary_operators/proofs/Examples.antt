-- Numbers, types and operators in bytes, computed. The integers are those of the standard's own notes.
use Rattle.std.proofs.Common.{◌≡◌, negsuc, true, false, [], ◌∷◌, replicate, Some, None, refl, ap, get_or, arith}
use Rattle.binary_operators.specs.Atomics.{atomic_at, accessed, field_accesses}
use Rattle.binary_operators.specs.Codes.{plain_ops, index_ops, two_index_ops, typed_index_ops, two_type_ops, heap_ops, block_ops, access_ops}
use Rattle.binary_operators.specs.Forms.{forms, forms_fb, forms_fc, forms_fe}
use Rattle.binary_operators.specs.Immediates.{block_type, memarg, catch_clause, handler, ordering}
use Rattle.binary_operators.specs.Instructions.{index_op, two_index_op, typed_index_op, two_type_op, heap_op, block_op, access_op, constant_i32, constant_f32, branch_table, select_op, try_table_op, resume_ops, resume_op, resume_throw_op, atomic_op, fence_op, field_op, prefixed_op, operator}
use Rattle.binary_operators.specs.Numbers.{numeric_ops, conversion_ops}
use Rattle.binary_operators.specs.Values.{float32, list_of}
use Rattle.binary_operators.specs.Integers.{unsigned, signed}
use Rattle.binary_operators.specs.Types.{canonical, heap_type, ref_type, value_type}
use Rattle.binary_operators.specs.Unplaced.{nowhere}
use Rattle.binary_operators.specs.Vectors.{BeginVector}
use Rattle.binary_operators.specs.declared.types.CanonicalTypes.{CanonicalTypes}
use Rattle.binary_operators.specs.declared.types.GroupNames.TheVariants.{Indices}
use Rattle.validate_types.specs.declared.heap.AbstractHeapType.TheVariants.{Func, Extern, Any}
use Rattle.validate_types.specs.declared.heap.HeapType.TheVariants.{Abstract, Concrete}
use Rattle.validate_types.specs.declared.heap.UnpackedIndex.TheVariants.{Module}
use Rattle.validate_types.specs.declared.types.ValType.TheVariants.{I32, I64}
use Rattle.validate_visit.specs.declared.catch.Catch.TheVariants.{One, AllRef}
use Rattle.validate_visit.specs.declared.frame.BlockType.TheVariants.{Empty, Val, FuncType}
use Rattle.validate_visit.specs.declared.memory.MemArgTarget.TheVariants.{Memory as InMemory}
use Rattle.validate_visit.specs.declared.memory.AtomicAccess.TheVariants.{Packed}
use Rattle.validate_visit.specs.declared.memory.AtomicRmwOp.TheVariants.{Xor}
use Rattle.validate_visit.specs.declared.memory.Ordering.TheVariants.{AcqRel}
use Rattle.validate_visit.specs.declared.numbers.IntegerType.TheVariants.{I32 as W32, I64 as W64}
use Rattle.validate_visit.specs.declared.numbers.FloatType.TheVariants.{F64 as R64}
use Rattle.validate_visit.specs.declared.numbers.NumberType.TheVariants.{I32 as N32}
use Rattle.validate_visit.specs.declared.numbers.PackedInteger.TheVariants.{I32Bits16, I64Bits32}
use Rattle.validate_visit.specs.declared.numbers.Sign.TheVariants.{Unsigned}
use Rattle.validate_visit.specs.declared.numeric.IntegerBinaryOp.TheVariants.{Add, Rotr}
use Rattle.validate_visit.specs.declared.numeric.FloatBinaryOp.TheVariants.{Copysign}
use Rattle.validate_visit.specs.declared.op.ArrayOp.TheVariants.{ArrayCopy}
use Rattle.validate_visit.specs.declared.op.AtomicOp.TheVariants.{AtomicRmw, AtomicFence}
use Rattle.validate_visit.specs.declared.op.ContinuationOp.TheVariants.{Resume, ResumeThrow}
use Rattle.validate_visit.specs.declared.op.ControlOp.TheVariants.{Unreachable, Block, Br, BrTable, CallIndirect, LocalGet, GlobalSet, TypedSelect, TypedSelectMulti}
use Rattle.validate_visit.specs.declared.op.ConvertOp.TheVariants.{Wrap, ExtendPacked, TruncSat}
use Rattle.validate_visit.specs.declared.op.ExceptionOp.TheVariants.{TryTable}
use Rattle.validate_visit.specs.declared.op.MemoryOp.TheVariants.{Load, MemoryCopy}
use Rattle.validate_visit.specs.declared.op.NumericOp.TheVariants.{I32Const, F32Const, Eqz, IntegerBinary, FloatBinary}
use Rattle.validate_visit.specs.declared.op.Op.TheVariants.{Control, Numeric, Convert, Memory, Atomic, Reference, Array, Exception, Continuation, Shared}
use Rattle.validate_visit.specs.declared.op.ReferenceOp.TheVariants.{RefNull}
use Rattle.validate_visit.specs.declared.resume.Handle.TheVariants.{OnLabel, OnSwitch}
use Rattle.validate_visit.specs.declared.shared.FieldAccess.TheVariants.{GetPacked}
use Rattle.validate_visit.specs.declared.shared.SharedOp.TheVariants.{Struct as FieldAtomic}

-- ---- integers

-- 3 in a byte of 8 bits, also with a byte more, but not with a bit more than it has
three : (unsigned 8 (0x03 ∷ []) ≡ Some (3, [])) × (unsigned 8 (0x83 ∷ 0x00 ∷ []) ≡ Some (3, [])) × (unsigned 8 (0x83 ∷ 0x10 ∷ []) ≡ None)
three = (refl, refl, refl)

-- -2 of 16 bits, in one to three bytes; in the last byte all unused bits are the sign
minus_two : (signed 16 (0x7e ∷ []) ≡ Some (negsuc 1, [])) × (signed 16 (0xfe ∷ 0x7f ∷ []) ≡ Some (negsuc 1, [])) × (signed 16 (0xfe ∷ 0xff ∷ 0x7f ∷ []) ≡ Some (negsuc 1, [])) × (signed 8 (0x83 ∷ 0x3e ∷ []) ≡ None)
minus_two = (refl, refl, refl, refl)

-- ---- types

-- four types, of which the last is equal to the one at index 1
abbrev types : CanonicalTypes
types = record { canonical = record { ref_ptr = nowhere; now = 0 ∷ 1 ∷ 2 ∷ 1 ∷ [] }; group = Indices 4 }

renamed : (canonical types 3 ≡ 1) × (canonical types 2 ≡ 2) × (canonical types 7 ≡ 7)
renamed = (refl, refl, refl)

heap_types : (heap_type types (0x70 ∷ []) ≡ Some (Abstract false Func, [])) × (heap_type types (0x65 ∷ 0x6e ∷ []) ≡ Some (Abstract true Any, [])) × (heap_type types (0x03 ∷ []) ≡ Some (Concrete (Module 1), [])) × (heap_type types (0x40 ∷ []) ≡ None)
unfolding heap_type
heap_types = (refl, refl, refl, refl)

value_types : (value_type types (0x7f ∷ 0x00 ∷ []) ≡ Some (I32, 0x00 ∷ [])) × (value_type types (0x7a ∷ []) ≡ None) × (value_type types (0x40 ∷ []) ≡ None)
unfolding value_type ref_type
value_types = (refl, refl, refl)

block_types : (block_type types (0x40 ∷ []) ≡ Some (Empty, [])) × (block_type types (0x7e ∷ []) ≡ Some (Val I64, [])) × (block_type types (0x03 ∷ []) ≡ Some (FuncType 1, [])) × (block_type types (0x41 ∷ []) ≡ None)
unfolding block_type value_type ref_type
block_types = (refl, refl, refl, refl)

-- ---- operators

plain : (operator types (0x00 ∷ 0x0b ∷ []) ≡ Some (Control Unreachable, 0x0b ∷ [])) × (operator types (0x16 ∷ []) ≡ None) × (operator types (0xff ∷ []) ≡ None) × (operator types [] ≡ None)
unfolding operator forms plain_ops
plain = (refl, refl, refl, refl)

indices : (operator types (0x0c ∷ 0x02 ∷ []) ≡ Some (Control (Br 2), [])) × (operator types (0x20 ∷ 0x80 ∷ 0x01 ∷ []) ≡ Some (Control (LocalGet 128), [])) × (operator types (0x24 ∷ 0x03 ∷ []) ≡ Some (Control (GlobalSet 3), [])) × (operator types (0x27 ∷ 0x00 ∷ []) ≡ None)
unfolding operator forms index_op index_ops
indices = (refl, refl, refl, refl)

-- the type's index comes first, and is renamed; the table's isn't
call_indirect : operator types (0x11 ∷ 0x03 ∷ 0x03 ∷ []) ≡ Some (Control (CallIndirect 1 3), [])
unfolding operator forms typed_index_op typed_index_ops
call_indirect = refl

block : operator types (0x02 ∷ 0x40 ∷ 0x0b ∷ []) ≡ Some (Control (Block Empty), 0x0b ∷ [])
unfolding operator forms block_op block_ops block_type
block = refl

constants : (operator types (0x41 ∷ 0x7f ∷ []) ≡ Some (Numeric (I32Const (negsuc 0)), [])) × (operator types (0x43 ∷ 0x00 ∷ 0x00 ∷ 0x80 ∷ 0x3f ∷ []) ≡ Some (Numeric (F32Const (record { 0 = 0x3f800000 })), [])) × (operator types (0x43 ∷ 0x00 ∷ 0x00 ∷ 0x80 ∷ []) ≡ None)
unfolding operator forms constant_i32 constant_f32 float32
constants = (refl, refl, refl)

numbers : (operator types (0x45 ∷ []) ≡ Some (Numeric (Eqz W32), [])) × (operator types (0x6a ∷ []) ≡ Some (Numeric (IntegerBinary W32 Add), [])) × (operator types (0x8a ∷ []) ≡ Some (Numeric (IntegerBinary W64 Rotr), [])) × (operator types (0xa6 ∷ []) ≡ Some (Numeric (FloatBinary R64 Copysign), []))
unfolding operator forms numeric_ops
numbers = (refl, refl, refl, refl)

conversions : (operator types (0xa7 ∷ []) ≡ Some (Convert Wrap, [])) × (operator types (0xc4 ∷ []) ≡ Some (Convert (ExtendPacked I64Bits32), [])) × (operator types (0xc5 ∷ []) ≡ None) × (operator types (0xfc ∷ 0x07 ∷ []) ≡ Some (Convert (TruncSat W64 R64 Unsigned), []))
unfolding operator forms prefixed_op forms_fc conversion_ops plain_ops
conversions = (refl, refl, refl, refl)

-- alignment 4, offset 8; the memory at index 1 is named where 2^6 is added to the alignment
load : (operator types (0x28 ∷ 0x02 ∷ 0x08 ∷ []) ≡ Some (Memory (Load N32 (record { align = 2; max_align = 2; offset = 8; target = InMemory 0 })), [])) × (operator types (0x28 ∷ 0x42 ∷ 0x01 ∷ 0x08 ∷ []) ≡ Some (Memory (Load N32 (record { align = 2; max_align = 2; offset = 8; target = InMemory 1 })), [])) × (memarg (0x80 ∷ 0x01 ∷ 0x00 ∷ []) ≡ None)
unfolding operator forms access_op access_ops memarg
load = (refl, refl, refl)

-- the memory that is written comes first
memory_copy : operator types (0xfc ∷ 0x0a ∷ 0x01 ∷ 0x00 ∷ []) ≡ Some (Memory (MemoryCopy 1 0), [])
unfolding operator forms prefixed_op forms_fc two_index_op two_index_ops
memory_copy = refl

array_copy : operator types (0xfb ∷ 0x11 ∷ 0x03 ∷ 0x02 ∷ []) ≡ Some (Array (ArrayCopy 1 2), [])
unfolding operator forms prefixed_op forms_fb two_type_op two_type_ops
array_copy = refl

null : operator types (0xd0 ∷ 0x6f ∷ []) ≡ Some (Reference (RefNull (Abstract false Extern)), [])
unfolding operator forms heap_op heap_ops heap_type
null = refl

-- ---- operators with lists

br_table : operator types (0x0e ∷ 0x02 ∷ 0x05 ∷ 0x06 ∷ 0x07 ∷ []) ≡ Some (Control (BrTable (record { targets = record { ref_ptr = nowhere; now = 5 ∷ 6 ∷ [] }; complete = true; default = 7 })), [])
unfolding operator forms branch_table list_of
br_table = refl

-- one byte too few
br_table_short : operator types (0x0e ∷ 0x02 ∷ 0x05 ∷ 0x06 ∷ []) ≡ None
unfolding operator forms branch_table list_of
br_table_short = refl

select : (operator types (0x1c ∷ 0x01 ∷ 0x7f ∷ []) ≡ Some (Control (TypedSelect I32), [])) × (operator types (0x1c ∷ 0x02 ∷ 0x7f ∷ 0x7e ∷ []) ≡ Some (Control (TypedSelectMulti (record { ref_ptr = nowhere; now = I32 ∷ I64 ∷ [] })), []))
unfolding operator forms select_op list_of value_type
select = (refl, refl)

try_table : operator types (0x1f ∷ 0x40 ∷ 0x02 ∷ 0x00 ∷ 0x04 ∷ 0x01 ∷ 0x03 ∷ 0x00 ∷ []) ≡ Some (Exception (TryTable (record { ty = Empty; catches = record { ref_ptr = nowhere; now = One 4 1 ∷ AllRef 0 ∷ [] } })), [])
unfolding operator forms try_table_op list_of block_type catch_clause
try_table = refl

resume : operator types (0xe3 ∷ 0x03 ∷ 0x02 ∷ 0x00 ∷ 0x04 ∷ 0x01 ∷ 0x01 ∷ 0x05 ∷ []) ≡ Some (Continuation (Resume 1 (record { handlers = record { ref_ptr = nowhere; now = OnLabel 4 1 ∷ OnSwitch 5 ∷ [] } })), [])
unfolding operator forms resume_op resume_ops list_of handler
resume = refl

resume_throw : operator types (0xe4 ∷ 0x03 ∷ 0x03 ∷ 0x00 ∷ []) ≡ Some (Continuation (ResumeThrow 1 3 (record { handlers = record { ref_ptr = nowhere; now = [] } })), [])
unfolding operator forms resume_throw_op list_of
resume_throw = refl

-- ---- atomic operators

-- `i32.atomic.rmw16.xor_u`, `atomic.fence` and `struct.atomic.get_u`
atomics : (operator types (0xfe ∷ 0x3d ∷ 0x01 ∷ 0x00 ∷ []) ≡ Some (Atomic (AtomicRmw (Packed I32Bits16) Xor (record { align = 1; max_align = 1; offset = 0; target = InMemory 0 })), [])) × (operator types (0xfe ∷ 0x03 ∷ 0x01 ∷ []) ≡ Some (Atomic (AtomicFence AcqRel), [])) × (operator types (0xfe ∷ 0x5e ∷ 0x01 ∷ 0x03 ∷ 0x02 ∷ []) ≡ Some (Shared (FieldAtomic (GetPacked Unsigned) AcqRel (record { struct_type_index = 1; field_index = 2 })), [])) × (operator types (0xfe ∷ 0x05 ∷ []) ≡ None)
unfolding operator forms prefixed_op forms_fe atomic_op atomic_at accessed memarg fence_op ordering field_op field_accesses
atomics = (refl, refl, refl, refl)

-- vector operators are none here
vector : operator types (0xfd ∷ 0x0c ∷ replicate 16 0x00) ≡ None
unfolding operator forms
vector = refl

-- ---- vector operators

-- the prefix 0xfd alone begins one
vectors : BeginVector (0xfd ∷ 0x0c ∷ []) × (¬ BeginVector (0xfc ∷ 0x0c ∷ [])) × (¬ BeginVector [])
vectors = (refl, (λ e. let first : 0xfc ≡ 0xfd = ap (λ bytes. get_or bytes 0 0) e in omega (arith, first)), (λ e. absurd cc))
