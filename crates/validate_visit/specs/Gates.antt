-- The gate of each operator: the proposal that it needs (WebAssembly core specification, "Change
-- History"; that floats can be left out is the crate's own).
use Rattle.validate_types.specs.declared.gate.Gate.{Gate}
use Rattle.validate_types.specs.declared.gate.Gate.TheVariants.{Mvp, Floats, ReferenceTypes, BulkMemory}
use Rattle.validate_types.specs.declared.gate.Gate.TheVariants.{BulkMemoryOpt, SignExtension}
use Rattle.validate_types.specs.declared.gate.Gate.TheVariants.{SaturatingFloatToInt, Threads, TailCall}
use Rattle.validate_types.specs.declared.gate.Gate.TheVariants.{Exceptions, LegacyExceptions}
use Rattle.validate_types.specs.declared.gate.Gate.TheVariants.{SharedEverythingThreads}
use Rattle.validate_types.specs.declared.gate.Gate.TheVariants.{FunctionReferences, Gc, MemoryControl}
use Rattle.validate_types.specs.declared.gate.Gate.TheVariants.{StackSwitching, WideArithmetic}
use Rattle.validate_types.specs.declared.gate.Gate.TheVariants.{AcquireReleaseAtomics, CustomDescriptors}
use Rattle.validate_visit.specs.declared.numbers.NumberType.{NumberType}
use Rattle.validate_visit.specs.declared.numbers.NumberType.TheVariants.{I32, I64, F32, F64}
use Rattle.validate_visit.specs.declared.op.Op.{Op}
use Rattle.validate_visit.specs.declared.op.Op.TheVariants.{Control, Numeric, Convert, Memory, Atomic}
use Rattle.validate_visit.specs.declared.op.Op.TheVariants.{Reference, Table, Struct, Array, Exception}
use Rattle.validate_visit.specs.declared.op.Op.TheVariants.{Continuation}
use Rattle.validate_visit.specs.declared.op.Op.TheVariants.{Shared}
use Rattle.validate_visit.specs.declared.op.AtomicOp.{AtomicOp}
use Rattle.validate_visit.specs.declared.op.AtomicOp.TheVariants.{Pause}
use Rattle.validate_visit.specs.declared.op.AtomicOp.TheVariants.{AtomicNotify, AtomicWait, AtomicFence}
use Rattle.validate_visit.specs.declared.op.AtomicOp.TheVariants.{AtomicLoad, AtomicStore, AtomicRmw}
use Rattle.validate_visit.specs.declared.op.AtomicOp.TheVariants.{AtomicCmpxchg}
use Rattle.validate_visit.specs.declared.op.ControlOp.{ControlOp}
use Rattle.validate_visit.specs.declared.op.ControlOp.TheVariants.{ReturnCall, ReturnCallIndirect, CallRef}
use Rattle.validate_visit.specs.declared.op.ControlOp.TheVariants.{ReturnCallRef, TypedSelect}
use Rattle.validate_visit.specs.declared.op.ControlOp.TheVariants.{TypedSelectMulti}
use Rattle.validate_visit.specs.declared.op.ControlOp.TheVariants.{Unreachable, Nop, Block, Loop, If, Else}
use Rattle.validate_visit.specs.declared.op.ControlOp.TheVariants.{End, Br, BrIf, BrTable, Return, Call}
use Rattle.validate_visit.specs.declared.op.ControlOp.TheVariants.{CallIndirect, Drop, Select, LocalGet}
use Rattle.validate_visit.specs.declared.op.ControlOp.TheVariants.{LocalSet, LocalTee, GlobalGet, GlobalSet}
use Rattle.validate_visit.specs.declared.op.ConvertOp.{ConvertOp}
use Rattle.validate_visit.specs.declared.op.ConvertOp.TheVariants.{Wrap, Extend, ExtendPacked, Trunc}
use Rattle.validate_visit.specs.declared.op.ConvertOp.TheVariants.{TruncSat, Convert as ConvertInteger}
use Rattle.validate_visit.specs.declared.op.ConvertOp.TheVariants.{Demote, Promote, Reinterpret}
use Rattle.validate_visit.specs.declared.op.ExceptionOp.{ExceptionOp}
use Rattle.validate_visit.specs.declared.op.ExceptionOp.TheVariants.{TryTable, Throw, ThrowRef}
use Rattle.validate_visit.specs.declared.op.ExceptionOp.TheVariants.{Try, Catch, CatchAll, Delegate, Rethrow}
use Rattle.validate_visit.specs.declared.op.MemoryOp.{MemoryOp}
use Rattle.validate_visit.specs.declared.op.MemoryOp.TheVariants.{Load, Store, MemoryInit, DataDrop}
use Rattle.validate_visit.specs.declared.op.MemoryOp.TheVariants.{MemoryCopy, MemoryFill, MemoryDiscard}
use Rattle.validate_visit.specs.declared.op.MemoryOp.TheVariants.{LoadPacked, StorePacked, MemorySize}
use Rattle.validate_visit.specs.declared.op.MemoryOp.TheVariants.{MemoryGrow}
use Rattle.validate_visit.specs.declared.op.NumericOp.{NumericOp}
use Rattle.validate_visit.specs.declared.op.NumericOp.TheVariants.{F32Const, F64Const, FloatUnary}
use Rattle.validate_visit.specs.declared.op.NumericOp.TheVariants.{FloatBinary, FloatComparison, Add128}
use Rattle.validate_visit.specs.declared.op.NumericOp.TheVariants.{Sub128, MulWide}
use Rattle.validate_visit.specs.declared.op.NumericOp.TheVariants.{I32Const, I64Const, Eqz, IntegerUnary}
use Rattle.validate_visit.specs.declared.op.NumericOp.TheVariants.{IntegerBinary, IntegerComparison}
use Rattle.validate_visit.specs.declared.op.ReferenceOp.{ReferenceOp}
use Rattle.validate_visit.specs.declared.op.ReferenceOp.TheVariants.{RefNull, RefIsNull, RefFunc}
use Rattle.validate_visit.specs.declared.op.ReferenceOp.TheVariants.{RefAsNonNull, BrOnNull, BrOnNonNull}
use Rattle.validate_visit.specs.declared.op.ReferenceOp.TheVariants.{RefGetDesc, RefCastDescEqNonNull}
use Rattle.validate_visit.specs.declared.op.ReferenceOp.TheVariants.{RefCastDescEqNullable, BrOnCastDescEq}
use Rattle.validate_visit.specs.declared.op.ReferenceOp.TheVariants.{BrOnCastDescEqFail}
use Rattle.validate_visit.specs.declared.op.ReferenceOp.TheVariants.{RefEq, RefTestNonNull, RefTestNullable}
use Rattle.validate_visit.specs.declared.op.ReferenceOp.TheVariants.{RefCastNonNull, RefCastNullable}
use Rattle.validate_visit.specs.declared.op.ReferenceOp.TheVariants.{BrOnCast, BrOnCastFail, RefI31, I31Get}
use Rattle.validate_visit.specs.declared.op.ReferenceOp.TheVariants.{AnyConvertExtern, ExternConvertAny}
use Rattle.validate_visit.specs.declared.op.StructOp.{StructOp}
use Rattle.validate_visit.specs.declared.op.StructOp.TheVariants.{StructNewDesc, StructNewDefaultDesc}
use Rattle.validate_visit.specs.declared.op.StructOp.TheVariants.{StructNew, StructNewDefault, StructGet}
use Rattle.validate_visit.specs.declared.op.StructOp.TheVariants.{StructGetPacked, StructSet}
use Rattle.validate_visit.specs.declared.op.TableOp.{TableOp}
use Rattle.validate_visit.specs.declared.op.TableOp.TheVariants.{TableInit, ElemDrop, TableCopy}
use Rattle.validate_visit.specs.declared.op.TableOp.TheVariants.{TableGet, TableSet, TableGrow, TableSize}
use Rattle.validate_visit.specs.declared.op.TableOp.TheVariants.{TableFill}

-- that of an operator for a number of this type
abbrev pub number_gate : NumberType → Gate
number_gate I32 = Mvp
number_gate I64 = Mvp
number_gate F32 = Floats
number_gate F64 = Floats

abbrev pub control_gate : ControlOp → Gate
control_gate (ReturnCall f) = TailCall
control_gate (ReturnCallIndirect type table) = TailCall
control_gate (CallRef type) = FunctionReferences
control_gate (ReturnCallRef type) = FunctionReferences
control_gate (TypedSelect t) = ReferenceTypes
control_gate (TypedSelectMulti ts) = ReferenceTypes
control_gate Unreachable = Mvp
control_gate Nop = Mvp
control_gate (Block type) = Mvp
control_gate (Loop type) = Mvp
control_gate (If type) = Mvp
control_gate Else = Mvp
control_gate End = Mvp
control_gate (Br d) = Mvp
control_gate (BrIf d) = Mvp
control_gate (BrTable table) = Mvp
control_gate Return = Mvp
control_gate (Call f) = Mvp
control_gate (CallIndirect type table) = Mvp
control_gate Drop = Mvp
control_gate Select = Mvp
control_gate (LocalGet x) = Mvp
control_gate (LocalSet x) = Mvp
control_gate (LocalTee x) = Mvp
control_gate (GlobalGet x) = Mvp
control_gate (GlobalSet x) = Mvp

abbrev pub numeric_gate : NumericOp → Gate
numeric_gate (F32Const x) = Floats
numeric_gate (F64Const x) = Floats
numeric_gate (FloatUnary t op) = Floats
numeric_gate (FloatBinary t op) = Floats
numeric_gate (FloatComparison t op) = Floats
numeric_gate Add128 = WideArithmetic
numeric_gate Sub128 = WideArithmetic
numeric_gate (MulWide sign) = WideArithmetic
numeric_gate (I32Const x) = Mvp
numeric_gate (I64Const x) = Mvp
numeric_gate (Eqz t) = Mvp
numeric_gate (IntegerUnary t op) = Mvp
numeric_gate (IntegerBinary t op) = Mvp
numeric_gate (IntegerComparison t op) = Mvp

-- that of the type of the result, but for two proposals
abbrev pub convert_gate : ConvertOp → Gate
convert_gate Wrap = Mvp
convert_gate (Extend sign) = Mvp
convert_gate (ExtendPacked packed) = SignExtension
convert_gate (Trunc into from sign) = Mvp
convert_gate (TruncSat into from sign) = SaturatingFloatToInt
convert_gate (ConvertInteger into from sign) = Floats
convert_gate Demote = Floats
convert_gate Promote = Floats
convert_gate (Reinterpret into) = number_gate into

abbrev pub memory_gate : MemoryOp → Gate
memory_gate (Load t arg) = number_gate t
memory_gate (Store t arg) = number_gate t
memory_gate (MemoryInit segment m) = BulkMemory
memory_gate (DataDrop segment) = BulkMemory
memory_gate (MemoryCopy dst src) = BulkMemoryOpt
memory_gate (MemoryFill m) = BulkMemoryOpt
memory_gate (MemoryDiscard m) = MemoryControl
memory_gate (LoadPacked packed sign arg) = Mvp
memory_gate (StorePacked packed arg) = Mvp
memory_gate (MemorySize m) = Mvp
memory_gate (MemoryGrow m) = Mvp

abbrev pub atomic_gate : AtomicOp → Gate
atomic_gate Pause = AcquireReleaseAtomics
atomic_gate (AtomicNotify arg) = Threads
atomic_gate (AtomicWait t arg) = Threads
atomic_gate (AtomicFence ordering) = Threads
atomic_gate (AtomicLoad access arg) = Threads
atomic_gate (AtomicStore access arg) = Threads
atomic_gate (AtomicRmw access op arg) = Threads
atomic_gate (AtomicCmpxchg access arg) = Threads

abbrev pub reference_gate : ReferenceOp → Gate
reference_gate (RefNull h) = ReferenceTypes
reference_gate RefIsNull = ReferenceTypes
reference_gate (RefFunc f) = ReferenceTypes
reference_gate RefAsNonNull = FunctionReferences
reference_gate (BrOnNull d) = FunctionReferences
reference_gate (BrOnNonNull d) = FunctionReferences
reference_gate (RefGetDesc i) = CustomDescriptors
reference_gate (RefCastDescEqNonNull h) = CustomDescriptors
reference_gate (RefCastDescEqNullable h) = CustomDescriptors
reference_gate (BrOnCastDescEq cast) = CustomDescriptors
reference_gate (BrOnCastDescEqFail cast) = CustomDescriptors
reference_gate RefEq = Gc
reference_gate (RefTestNonNull h) = Gc
reference_gate (RefTestNullable h) = Gc
reference_gate (RefCastNonNull h) = Gc
reference_gate (RefCastNullable h) = Gc
reference_gate (BrOnCast cast) = Gc
reference_gate (BrOnCastFail cast) = Gc
reference_gate RefI31 = Gc
reference_gate (I31Get sign) = Gc
reference_gate AnyConvertExtern = Gc
reference_gate ExternConvertAny = Gc

abbrev pub struct_gate : StructOp → Gate
struct_gate (StructNewDesc i) = CustomDescriptors
struct_gate (StructNewDefaultDesc i) = CustomDescriptors
struct_gate (StructNew i) = Gc
struct_gate (StructNewDefault i) = Gc
struct_gate (StructGet field) = Gc
struct_gate (StructGetPacked sign field) = Gc
struct_gate (StructSet field) = Gc

abbrev pub table_gate : TableOp → Gate
table_gate (TableInit segment i) = BulkMemory
table_gate (ElemDrop segment) = BulkMemory
table_gate (TableCopy dst src) = BulkMemory
table_gate (TableGet i) = ReferenceTypes
table_gate (TableSet i) = ReferenceTypes
table_gate (TableGrow i) = ReferenceTypes
table_gate (TableSize i) = ReferenceTypes
table_gate (TableFill i) = ReferenceTypes

abbrev pub exception_gate : ExceptionOp → Gate
exception_gate (TryTable table) = Exceptions
exception_gate (Throw tag) = Exceptions
exception_gate ThrowRef = Exceptions
exception_gate (Try type) = LegacyExceptions
exception_gate (Catch tag) = LegacyExceptions
exception_gate CatchAll = LegacyExceptions
exception_gate (Delegate d) = LegacyExceptions
exception_gate (Rethrow d) = LegacyExceptions

abbrev pub gate_of : Op → Gate
gate_of (Control op) = control_gate op
gate_of (Numeric op) = numeric_gate op
gate_of (Convert op) = convert_gate op
gate_of (Memory op) = memory_gate op
gate_of (Atomic op) = atomic_gate op
gate_of (Reference op) = reference_gate op
gate_of (Table op) = table_gate op
gate_of (Struct op) = struct_gate op
gate_of (Array op) = Gc
gate_of (Exception op) = exception_gate op
gate_of (Continuation op) = StackSwitching
gate_of (Shared op) = SharedEverythingThreads
