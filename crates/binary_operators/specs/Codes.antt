-- Operators by their codes (WebAssembly core specification, "Binary Format: Instructions", and the
-- proposals): a table for each form, which has what the immediates make the operator. A code behind a prefix
-- has the prefix above it, as 0xfb0f. Operators on numbers are in `Numbers.antt`, and atomic ones in
-- `Atomics.antt`.
use Rattle.std.specs.Prelude.{ℕ, List, [], ◌∷◌, Option, Some, None, nat_eq, if◌then◌else◌}
use Rattle.validate_types.specs.declared.heap.HeapType.{HeapType}
use Rattle.validate_visit.specs.declared.frame.BlockType.{BlockType}
use Rattle.validate_visit.specs.declared.memory.MemArg.{MemArg}
use Rattle.validate_visit.specs.declared.numbers.IntegerType.TheVariants.{I32 as W32, I64 as W64}
use Rattle.validate_visit.specs.declared.numbers.FloatType.TheVariants.{F32 as R32, F64 as R64}
use Rattle.validate_visit.specs.declared.numbers.NumberType.TheVariants.{I32, I64, F32, F64}
use Rattle.validate_visit.specs.declared.numbers.PackedInteger.TheVariants.{I32Bits8, I32Bits16, I64Bits8}
use Rattle.validate_visit.specs.declared.numbers.PackedInteger.TheVariants.{I64Bits16, I64Bits32}
use Rattle.validate_visit.specs.declared.numbers.Sign.TheVariants.{Signed, Unsigned}
use Rattle.validate_visit.specs.declared.op.ArrayOp.TheVariants.{ArrayNew, ArrayNewDefault, ArrayNewFixed}
use Rattle.validate_visit.specs.declared.op.ArrayOp.TheVariants.{ArrayNewData, ArrayNewElem, ArrayGet}
use Rattle.validate_visit.specs.declared.op.ArrayOp.TheVariants.{ArrayGetPacked, ArraySet, ArrayLen}
use Rattle.validate_visit.specs.declared.op.ArrayOp.TheVariants.{ArrayFill}
use Rattle.validate_visit.specs.declared.op.ArrayOp.TheVariants.{ArrayCopy, ArrayInitData, ArrayInitElem}
use Rattle.validate_visit.specs.declared.op.AtomicOp.TheVariants.{AtomicNotify, AtomicWait, Pause}
use Rattle.validate_visit.specs.declared.op.BranchCast.{BranchCast}
use Rattle.validate_visit.specs.declared.op.ContinuationOp.TheVariants.{ContNew, ContBind, Suspend, Switch}
use Rattle.validate_visit.specs.declared.op.ControlOp.TheVariants.{Unreachable, Nop, Block, Loop, If, Else}
use Rattle.validate_visit.specs.declared.op.ControlOp.TheVariants.{End}
use Rattle.validate_visit.specs.declared.op.ControlOp.TheVariants.{Br, BrIf, Return, Call, CallIndirect}
use Rattle.validate_visit.specs.declared.op.ControlOp.TheVariants.{ReturnCall, ReturnCallIndirect, CallRef}
use Rattle.validate_visit.specs.declared.op.ControlOp.TheVariants.{ReturnCallRef, Drop, Select, LocalGet}
use Rattle.validate_visit.specs.declared.op.ControlOp.TheVariants.{LocalSet, LocalTee, GlobalGet, GlobalSet}
use Rattle.validate_visit.specs.declared.op.ConvertOp.TheVariants.{TruncSat}
use Rattle.validate_visit.specs.declared.op.ExceptionOp.TheVariants.{Try, Catch, Throw, Rethrow, ThrowRef}
use Rattle.validate_visit.specs.declared.op.ExceptionOp.TheVariants.{Delegate, CatchAll}
use Rattle.validate_visit.specs.declared.op.FieldIndex.{FieldIndex}
use Rattle.validate_visit.specs.declared.op.MemoryOp.TheVariants.{Load, LoadPacked, Store, StorePacked}
use Rattle.validate_visit.specs.declared.op.MemoryOp.TheVariants.{MemorySize, MemoryGrow, MemoryInit}
use Rattle.validate_visit.specs.declared.op.MemoryOp.TheVariants.{DataDrop}
use Rattle.validate_visit.specs.declared.op.MemoryOp.TheVariants.{MemoryCopy, MemoryFill, MemoryDiscard}
use Rattle.validate_visit.specs.declared.op.NumericOp.TheVariants.{Add128, Sub128, MulWide}
use Rattle.validate_visit.specs.declared.op.Op.{Op}
use Rattle.validate_visit.specs.declared.op.Op.TheVariants.{Control, Numeric, Convert, Memory, Atomic}
use Rattle.validate_visit.specs.declared.op.Op.TheVariants.{Reference}
use Rattle.validate_visit.specs.declared.op.Op.TheVariants.{Table, Struct, Array, Exception, Continuation}
use Rattle.validate_visit.specs.declared.op.Op.TheVariants.{Shared}
use Rattle.validate_visit.specs.declared.op.ReferenceOp.TheVariants.{RefNull, RefIsNull, RefFunc}
use Rattle.validate_visit.specs.declared.op.ReferenceOp.TheVariants.{RefAsNonNull}
use Rattle.validate_visit.specs.declared.op.ReferenceOp.TheVariants.{BrOnNull, BrOnNonNull, RefEq}
use Rattle.validate_visit.specs.declared.op.ReferenceOp.TheVariants.{RefTestNonNull, RefTestNullable}
use Rattle.validate_visit.specs.declared.op.ReferenceOp.TheVariants.{RefCastNonNull, RefCastNullable}
use Rattle.validate_visit.specs.declared.op.ReferenceOp.TheVariants.{BrOnCast}
use Rattle.validate_visit.specs.declared.op.ReferenceOp.TheVariants.{BrOnCastFail, RefGetDesc}
use Rattle.validate_visit.specs.declared.op.ReferenceOp.TheVariants.{RefCastDescEqNonNull}
use Rattle.validate_visit.specs.declared.op.ReferenceOp.TheVariants.{RefCastDescEqNullable, BrOnCastDescEq}
use Rattle.validate_visit.specs.declared.op.ReferenceOp.TheVariants.{BrOnCastDescEqFail, RefI31, I31Get}
use Rattle.validate_visit.specs.declared.op.ReferenceOp.TheVariants.{AnyConvertExtern, ExternConvertAny}
use Rattle.validate_visit.specs.declared.op.StructOp.TheVariants.{StructNew, StructNewDefault, StructNewDesc}
use Rattle.validate_visit.specs.declared.op.StructOp.TheVariants.{StructNewDefaultDesc, StructGet}
use Rattle.validate_visit.specs.declared.op.StructOp.TheVariants.{StructGetPacked, StructSet}
use Rattle.validate_visit.specs.declared.op.TableOp.TheVariants.{TableGet, TableSet, TableGrow, TableSize}
use Rattle.validate_visit.specs.declared.op.TableOp.TheVariants.{TableFill, TableInit, ElemDrop, TableCopy}
use Rattle.validate_visit.specs.declared.shared.SharedOp.TheVariants.{RefI31Shared}

-- what a table has for this code
abbrev pub at : {A : Type 0} → ℕ → List (ℕ × A) → Option A
at code [] = None
at code (row ∷ rows) = if nat_eq code row.0 then Some row.1 else at code rows

-- no immediates
unfoldable pub plain_ops : List (ℕ × Op)
plain_ops =
    (0x00, Control Unreachable) ∷ (0x01, Control Nop) ∷ (0x05, Control Else) ∷ (0x0a, Exception ThrowRef)
    ∷ (0x0b, Control End) ∷ (0x0f, Control Return) ∷ (0x19, Exception CatchAll) ∷ (0x1a, Control Drop)
    ∷ (0x1b, Control Select)
    ∷ (0xd1, Reference RefIsNull) ∷ (0xd3, Reference RefEq) ∷ (0xd4, Reference RefAsNonNull)
    ∷ (0xfb0f, Array ArrayLen) ∷ (0xfb1a, Reference AnyConvertExtern) ∷ (0xfb1b, Reference ExternConvertAny)
    ∷ (0xfb1c, Reference RefI31) ∷ (0xfb1d, Reference (I31Get Signed)) ∷ (0xfb1e, Reference (I31Get Unsigned))
    ∷ (0xfc00, Convert (TruncSat W32 R32 Signed)) ∷ (0xfc01, Convert (TruncSat W32 R32 Unsigned))
    ∷ (0xfc02, Convert (TruncSat W32 R64 Signed)) ∷ (0xfc03, Convert (TruncSat W32 R64 Unsigned))
    ∷ (0xfc04, Convert (TruncSat W64 R32 Signed)) ∷ (0xfc05, Convert (TruncSat W64 R32 Unsigned))
    ∷ (0xfc06, Convert (TruncSat W64 R64 Signed)) ∷ (0xfc07, Convert (TruncSat W64 R64 Unsigned))
    ∷ (0xfc13, Numeric Add128) ∷ (0xfc14, Numeric Sub128)
    ∷ (0xfc15, Numeric (MulWide Signed)) ∷ (0xfc16, Numeric (MulWide Unsigned))
    ∷ (0xfe04, Atomic Pause) ∷ (0xfe72, Shared RefI31Shared) ∷ []

-- an index
unfoldable pub index_ops : List (ℕ × (ℕ → Op))
index_ops =
    (0x07, λ i. Exception (Catch i)) ∷ (0x08, λ i. Exception (Throw i)) ∷ (0x09, λ i. Exception (Rethrow i))
    ∷ (0x0c, λ i. Control (Br i)) ∷ (0x0d, λ i. Control (BrIf i))
    ∷ (0x10, λ i. Control (Call i)) ∷ (0x12, λ i. Control (ReturnCall i))
    ∷ (0x18, λ i. Exception (Delegate i))
    ∷ (0x20, λ i. Control (LocalGet i)) ∷ (0x21, λ i. Control (LocalSet i))
    ∷ (0x22, λ i. Control (LocalTee i))
    ∷ (0x23, λ i. Control (GlobalGet i)) ∷ (0x24, λ i. Control (GlobalSet i))
    ∷ (0x25, λ i. Table (TableGet i)) ∷ (0x26, λ i. Table (TableSet i))
    ∷ (0x3f, λ i. Memory (MemorySize i)) ∷ (0x40, λ i. Memory (MemoryGrow i))
    ∷ (0xd2, λ i. Reference (RefFunc i)) ∷ (0xd5, λ i. Reference (BrOnNull i))
    ∷ (0xd6, λ i. Reference (BrOnNonNull i)) ∷ (0xe2, λ i. Continuation (Suspend i))
    ∷ (0xfc09, λ i. Memory (DataDrop i)) ∷ (0xfc0b, λ i. Memory (MemoryFill i))
    ∷ (0xfc0d, λ i. Table (ElemDrop i))
    ∷ (0xfc0f, λ i. Table (TableGrow i)) ∷ (0xfc10, λ i. Table (TableSize i))
    ∷ (0xfc11, λ i. Table (TableFill i))
    ∷ (0xfc12, λ i. Memory (MemoryDiscard i)) ∷ []

-- two indices
unfoldable pub two_index_ops : List (ℕ × (ℕ → ℕ → Op))
two_index_ops =
    (0xfc08, λ segment memory. Memory (MemoryInit segment memory))
    ∷ (0xfc0a, λ to source. Memory (MemoryCopy to source))
    ∷ (0xfc0c, λ segment table. Table (TableInit segment table))
    ∷ (0xfc0e, λ to source. Table (TableCopy to source)) ∷ []

-- the index of a type
unfoldable pub type_ops : List (ℕ × (ℕ → Op))
type_ops =
    (0x14, λ t. Control (CallRef t)) ∷ (0x15, λ t. Control (ReturnCallRef t))
    ∷ (0xe0, λ t. Continuation (ContNew t))
    ∷ (0xfb00, λ t. Struct (StructNew t)) ∷ (0xfb01, λ t. Struct (StructNewDefault t))
    ∷ (0xfb06, λ t. Array (ArrayNew t)) ∷ (0xfb07, λ t. Array (ArrayNewDefault t))
    ∷ (0xfb0b, λ t. Array (ArrayGet t)) ∷ (0xfb0c, λ t. Array (ArrayGetPacked Signed t))
    ∷ (0xfb0d, λ t. Array (ArrayGetPacked Unsigned t)) ∷ (0xfb0e, λ t. Array (ArraySet t))
    ∷ (0xfb10, λ t. Array (ArrayFill t)) ∷ (0xfb20, λ t. Struct (StructNewDesc t))
    ∷ (0xfb21, λ t. Struct (StructNewDefaultDesc t)) ∷ (0xfb22, λ t. Reference (RefGetDesc t)) ∷ []

-- the index of a type, and another index
abbrev pub field : ℕ → ℕ → FieldIndex
field t i = record { struct_type_index = t; field_index = i }

unfoldable pub typed_index_ops : List (ℕ × (ℕ → ℕ → Op))
typed_index_ops =
    (0x11, λ t i. Control (CallIndirect t i)) ∷ (0x13, λ t i. Control (ReturnCallIndirect t i))
    ∷ (0xe6, λ t i. Continuation (Switch t i))
    ∷ (0xfb02, λ t i. Struct (StructGet (field t i)))
    ∷ (0xfb03, λ t i. Struct (StructGetPacked Signed (field t i)))
    ∷ (0xfb04, λ t i. Struct (StructGetPacked Unsigned (field t i)))
    ∷ (0xfb05, λ t i. Struct (StructSet (field t i)))
    ∷ (0xfb08, λ t i. Array (ArrayNewFixed t i)) ∷ (0xfb09, λ t i. Array (ArrayNewData t i))
    ∷ (0xfb0a, λ t i. Array (ArrayNewElem t i)) ∷ (0xfb12, λ t i. Array (ArrayInitData t i))
    ∷ (0xfb13, λ t i. Array (ArrayInitElem t i)) ∷ []

-- the indices of two types
unfoldable pub two_type_ops : List (ℕ × (ℕ → ℕ → Op))
two_type_ops = (0xe1, λ t u. Continuation (ContBind t u)) ∷ (0xfb11, λ t u. Array (ArrayCopy t u)) ∷ []

-- a heap type
unfoldable pub heap_ops : List (ℕ × (HeapType → Op))
heap_ops =
    (0xd0, λ ty. Reference (RefNull ty))
    ∷ (0xfb14, λ ty. Reference (RefTestNonNull ty)) ∷ (0xfb15, λ ty. Reference (RefTestNullable ty))
    ∷ (0xfb16, λ ty. Reference (RefCastNonNull ty)) ∷ (0xfb17, λ ty. Reference (RefCastNullable ty))
    ∷ (0xfb23, λ ty. Reference (RefCastDescEqNonNull ty))
    ∷ (0xfb24, λ ty. Reference (RefCastDescEqNullable ty)) ∷ []

-- a cast
unfoldable pub cast_ops : List (ℕ × (BranchCast → Op))
cast_ops =
    (0xfb18, λ c. Reference (BrOnCast c)) ∷ (0xfb19, λ c. Reference (BrOnCastFail c))
    ∷ (0xfb25, λ c. Reference (BrOnCastDescEq c)) ∷ (0xfb26, λ c. Reference (BrOnCastDescEqFail c)) ∷ []

-- the type of a block
unfoldable pub block_ops : List (ℕ × (BlockType → Op))
block_ops =
    (0x02, λ ty. Control (Block ty)) ∷ (0x03, λ ty. Control (Loop ty)) ∷ (0x04, λ ty. Control (If ty))
    ∷ (0x06, λ ty. Exception (Try ty)) ∷ []

-- a place in a memory, with the natural alignment of the operator, as an exponent of 2
abbrev pub natural : ℕ → MemArg → MemArg
natural n m = record m { max_align = n }

unfoldable pub access_ops : List (ℕ × (MemArg → Op))
access_ops =
    (0x28, λ m. Memory (Load I32 (natural 2 m))) ∷ (0x29, λ m. Memory (Load I64 (natural 3 m)))
    ∷ (0x2a, λ m. Memory (Load F32 (natural 2 m))) ∷ (0x2b, λ m. Memory (Load F64 (natural 3 m)))
    ∷ (0x2c, λ m. Memory (LoadPacked I32Bits8 Signed (natural 0 m)))
    ∷ (0x2d, λ m. Memory (LoadPacked I32Bits8 Unsigned (natural 0 m)))
    ∷ (0x2e, λ m. Memory (LoadPacked I32Bits16 Signed (natural 1 m)))
    ∷ (0x2f, λ m. Memory (LoadPacked I32Bits16 Unsigned (natural 1 m)))
    ∷ (0x30, λ m. Memory (LoadPacked I64Bits8 Signed (natural 0 m)))
    ∷ (0x31, λ m. Memory (LoadPacked I64Bits8 Unsigned (natural 0 m)))
    ∷ (0x32, λ m. Memory (LoadPacked I64Bits16 Signed (natural 1 m)))
    ∷ (0x33, λ m. Memory (LoadPacked I64Bits16 Unsigned (natural 1 m)))
    ∷ (0x34, λ m. Memory (LoadPacked I64Bits32 Signed (natural 2 m)))
    ∷ (0x35, λ m. Memory (LoadPacked I64Bits32 Unsigned (natural 2 m)))
    ∷ (0x36, λ m. Memory (Store I32 (natural 2 m))) ∷ (0x37, λ m. Memory (Store I64 (natural 3 m)))
    ∷ (0x38, λ m. Memory (Store F32 (natural 2 m))) ∷ (0x39, λ m. Memory (Store F64 (natural 3 m)))
    ∷ (0x3a, λ m. Memory (StorePacked I32Bits8 (natural 0 m)))
    ∷ (0x3b, λ m. Memory (StorePacked I32Bits16 (natural 1 m)))
    ∷ (0x3c, λ m. Memory (StorePacked I64Bits8 (natural 0 m)))
    ∷ (0x3d, λ m. Memory (StorePacked I64Bits16 (natural 1 m)))
    ∷ (0x3e, λ m. Memory (StorePacked I64Bits32 (natural 2 m)))
    ∷ (0xfe00, λ m. Atomic (AtomicNotify (natural 2 m)))
    ∷ (0xfe01, λ m. Atomic (AtomicWait W32 (natural 2 m)))
    ∷ (0xfe02, λ m. Atomic (AtomicWait W64 (natural 3 m))) ∷ []
