-- Which immediates a module can have: no type holds an id, and each number lies in the range of its
-- type (WebAssembly core specification, "Instructions").
use Rattle.std.specs.Prelude.{ℕ, ℤ, pos, negsuc, Bool, true, false, ◌&&◌, ◌^◌, nat_lt}
use Rattle.std.specs.List.{list_all}
use Rattle.validate_types.specs.declared.heap.HeapType.{HeapType}
use Rattle.validate_types.specs.declared.heap.HeapType.TheVariants.{Abstract, Concrete, Exact}
use Rattle.validate_types.specs.declared.heap.UnpackedIndex.TheVariants.{Module, Id}
use Rattle.validate_types.specs.declared.types.ValType.{ValType}
use Rattle.validate_types.specs.declared.types.ValType.TheVariants.{Ref}
use Rattle.validate_visit.specs.declared.br_table.BrTable.{BrTable}
use Rattle.validate_visit.specs.declared.catch.Catch.{Catch}
use Rattle.validate_visit.specs.declared.catch.Catch.TheVariants.{One, OneRef, All, AllRef}
use Rattle.validate_visit.specs.declared.catch.TryTable.{TryTable}
use Rattle.validate_visit.specs.declared.frame.BlockType.{BlockType}
use Rattle.validate_visit.specs.declared.frame.BlockType.TheVariants.{Empty, Val, FuncType}
use Rattle.validate_visit.specs.declared.op.Op.{Op}
use Rattle.validate_visit.specs.declared.op.Op.TheVariants.{Control, Numeric, Convert, Memory, Atomic}
use Rattle.validate_visit.specs.declared.op.Op.TheVariants.{Reference, Table, Struct, Array, Exception}
use Rattle.validate_visit.specs.declared.op.Op.TheVariants.{Continuation}
use Rattle.validate_visit.specs.declared.op.Op.TheVariants.{Shared}
use Rattle.validate_visit.specs.declared.op.ControlOp.{ControlOp}
use Rattle.validate_visit.specs.declared.op.ControlOp.TheVariants.{Unreachable, Nop, Block, Loop, If, Else}
use Rattle.validate_visit.specs.declared.op.ControlOp.TheVariants.{End, Br, BrIf, BrTable as BrTableOp}
use Rattle.validate_visit.specs.declared.op.ControlOp.TheVariants.{Return, Call, ReturnCall, CallIndirect}
use Rattle.validate_visit.specs.declared.op.ControlOp.TheVariants.{ReturnCallIndirect, CallRef}
use Rattle.validate_visit.specs.declared.op.ControlOp.TheVariants.{ReturnCallRef, Drop, Select, TypedSelect}
use Rattle.validate_visit.specs.declared.op.ControlOp.TheVariants.{TypedSelectMulti, LocalGet, LocalSet}
use Rattle.validate_visit.specs.declared.op.ControlOp.TheVariants.{LocalTee, GlobalGet, GlobalSet}
use Rattle.validate_visit.specs.declared.memory.MemArg.{MemArg}
use Rattle.validate_visit.specs.declared.memory.MemArgTarget.{MemArgTarget}
use Rattle.validate_visit.specs.declared.memory.MemArgTarget.TheVariants.{Memory as InMemory, Array as InArray}
use Rattle.validate_visit.specs.declared.op.AtomicOp.{AtomicOp}
use Rattle.validate_visit.specs.declared.op.AtomicOp.TheVariants.{AtomicNotify, AtomicWait, AtomicFence}
use Rattle.validate_visit.specs.declared.op.AtomicOp.TheVariants.{AtomicLoad, AtomicStore, AtomicRmw}
use Rattle.validate_visit.specs.declared.op.AtomicOp.TheVariants.{AtomicCmpxchg, Pause}
use Rattle.validate_visit.specs.declared.op.MemoryOp.{MemoryOp}
use Rattle.validate_visit.specs.declared.op.MemoryOp.TheVariants.{Load, LoadPacked, Store, StorePacked}
use Rattle.validate_visit.specs.declared.op.MemoryOp.TheVariants.{MemorySize, MemoryGrow, MemoryInit}
use Rattle.validate_visit.specs.declared.op.MemoryOp.TheVariants.{DataDrop, MemoryCopy, MemoryFill}
use Rattle.validate_visit.specs.declared.op.MemoryOp.TheVariants.{MemoryDiscard}
use Rattle.validate_visit.specs.declared.op.NumericOp.{NumericOp}
use Rattle.validate_visit.specs.declared.op.ReferenceOp.{ReferenceOp}
use Rattle.validate_visit.specs.declared.op.ReferenceOp.TheVariants.{RefNull, RefIsNull, RefFunc}
use Rattle.validate_visit.specs.declared.op.ReferenceOp.TheVariants.{RefAsNonNull, BrOnNull, BrOnNonNull}
use Rattle.validate_visit.specs.declared.op.ReferenceOp.TheVariants.{RefEq, RefTestNonNull, RefTestNullable}
use Rattle.validate_visit.specs.declared.op.ReferenceOp.TheVariants.{RefCastNonNull, RefCastNullable}
use Rattle.validate_visit.specs.declared.op.ReferenceOp.TheVariants.{BrOnCast, BrOnCastFail, RefI31, I31Get}
use Rattle.validate_visit.specs.declared.op.ReferenceOp.TheVariants.{RefGetDesc, RefCastDescEqNonNull}
use Rattle.validate_visit.specs.declared.op.ReferenceOp.TheVariants.{RefCastDescEqNullable, BrOnCastDescEq}
use Rattle.validate_visit.specs.declared.op.ReferenceOp.TheVariants.{BrOnCastDescEqFail}
use Rattle.validate_visit.specs.declared.op.ReferenceOp.TheVariants.{AnyConvertExtern, ExternConvertAny}
use Rattle.validate_visit.specs.declared.op.BranchCast.{BranchCast}
use Rattle.validate_visit.specs.declared.op.StructOp.{StructOp}
use Rattle.validate_visit.specs.declared.op.StructOp.TheVariants.{StructNew, StructNewDefault, StructGet}
use Rattle.validate_visit.specs.declared.op.StructOp.TheVariants.{StructNewDesc, StructNewDefaultDesc}
use Rattle.validate_visit.specs.declared.op.StructOp.TheVariants.{StructGetPacked, StructSet}
use Rattle.validate_visit.specs.declared.op.FieldIndex.{FieldIndex}
use Rattle.validate_visit.specs.declared.op.ArrayOp.{ArrayOp}
use Rattle.validate_visit.specs.declared.op.ArrayOp.TheVariants.{ArrayNew, ArrayNewDefault, ArrayNewFixed}
use Rattle.validate_visit.specs.declared.op.ArrayOp.TheVariants.{ArrayNewData, ArrayNewElem, ArrayGet}
use Rattle.validate_visit.specs.declared.op.ArrayOp.TheVariants.{ArrayGetPacked, ArraySet, ArrayLen}
use Rattle.validate_visit.specs.declared.op.ArrayOp.TheVariants.{ArrayFill, ArrayCopy, ArrayInitData}
use Rattle.validate_visit.specs.declared.op.ArrayOp.TheVariants.{ArrayInitElem}
use Rattle.validate_visit.specs.declared.op.ContinuationOp.{ContinuationOp}
use Rattle.validate_visit.specs.declared.op.ContinuationOp.TheVariants.{ContNew, ContBind, Suspend, Resume}
use Rattle.validate_visit.specs.declared.op.ContinuationOp.TheVariants.{ResumeThrow, ResumeThrowRef, Switch}
use Rattle.validate_visit.specs.declared.resume.Handle.{Handle}
use Rattle.validate_visit.specs.declared.resume.Handle.TheVariants.{OnLabel, OnSwitch}
use Rattle.validate_visit.specs.declared.resume.ResumeTable.{ResumeTable}
use Rattle.validate_visit.specs.declared.op.ExceptionOp.{ExceptionOp}
use Rattle.validate_visit.specs.declared.op.ExceptionOp.TheVariants.{TryTable as TryTableOp, Throw, ThrowRef}
use Rattle.validate_visit.specs.declared.op.ExceptionOp.TheVariants.{Try, Catch as CatchOp, CatchAll}
use Rattle.validate_visit.specs.declared.op.ExceptionOp.TheVariants.{Delegate, Rethrow}
use Rattle.validate_types.specs.declared.refs.RefType.{RefType}
use Rattle.validate_visit.specs.declared.op.TableOp.{TableOp}
use Rattle.validate_visit.specs.declared.op.TableOp.TheVariants.{TableGet, TableSet, TableGrow, TableSize}
use Rattle.validate_visit.specs.declared.op.TableOp.TheVariants.{TableFill, TableInit, ElemDrop, TableCopy}
use Rattle.validate_visit.specs.declared.shared.SharedOp.{SharedOp}
use Rattle.validate_visit.specs.declared.shared.SharedOp.TheVariants.{Global as SharedGlobal, RefI31Shared}
use Rattle.validate_visit.specs.declared.shared.SharedOp.TheVariants.{Table as SharedTable}
use Rattle.validate_visit.specs.declared.shared.SharedOp.TheVariants.{Struct as SharedStruct}
use Rattle.validate_visit.specs.declared.shared.SharedOp.TheVariants.{Array as SharedArray}
use Rattle.validate_visit.specs.declared.op.NumericOp.TheVariants.{I32Const, I64Const, F32Const, F64Const}

-- an index
abbrev pub is_index : ℕ → Bool
is_index i = nat_lt i (2 ^ 32)

-- a signed number from - 2 ^ bits to 2 ^ bits - 1
abbrev pub is_signed : ℕ → ℤ → Bool
is_signed bits (pos n) = nat_lt n (2 ^ bits)
is_signed bits (negsuc n) = nat_lt n (2 ^ bits)

-- a type of the module is named by its index, not by an id
abbrev pub is_module_heap : HeapType → Bool
is_module_heap (Concrete (Module i)) = is_index i
is_module_heap (Concrete (Id id)) = false
is_module_heap (Exact (Module i)) = is_index i
is_module_heap (Exact (Id id)) = false
is_module_heap (Abstract shared ty) = true

abbrev pub is_module_ref : RefType → Bool
is_module_ref r = is_module_heap r.heap_type

abbrev pub is_module_type : ValType → Bool
is_module_type (Ref r) = is_module_ref r
is_module_type _ = true

-- a block type is nothing, a type, or the index of a function type
abbrev pub is_module_block_type : BlockType → Bool
is_module_block_type Empty = true
is_module_block_type (Val t) = is_module_type t
is_module_block_type (FuncType i) = is_index i

-- every target of a table is an index, and so is its default
abbrev pub is_module_br_table : BrTable → Bool
is_module_br_table t = list_all is_index t.targets.now && is_index t.default

abbrev pub is_module_control : ControlOp → Bool
is_module_control Unreachable = true
is_module_control Nop = true
is_module_control (Block bt) = is_module_block_type bt
is_module_control (Loop bt) = is_module_block_type bt
is_module_control (If bt) = is_module_block_type bt
is_module_control Else = true
is_module_control End = true
is_module_control (Br i) = is_index i
is_module_control (BrIf i) = is_index i
is_module_control (BrTableOp t) = is_module_br_table t
is_module_control Return = true
is_module_control (Call i) = is_index i
is_module_control (ReturnCall i) = is_index i
is_module_control (CallIndirect i j) = is_index i && is_index j
is_module_control (ReturnCallIndirect i j) = is_index i && is_index j
is_module_control (CallRef i) = is_index i
is_module_control (ReturnCallRef i) = is_index i
is_module_control Drop = true
is_module_control Select = true
is_module_control (TypedSelect t) = is_module_type t
is_module_control (TypedSelectMulti ts) = list_all is_module_type ts.now
is_module_control (LocalGet i) = is_index i
is_module_control (LocalSet i) = is_index i
is_module_control (LocalTee i) = is_index i
is_module_control (GlobalGet i) = is_index i
is_module_control (GlobalSet i) = is_index i

abbrev pub is_module_numeric : NumericOp → Bool
is_module_numeric (I32Const n) = is_signed 31 n
is_module_numeric (I64Const n) = is_signed 63 n
is_module_numeric (F32Const x) = nat_lt x.0 (2 ^ 32)
is_module_numeric (F64Const x) = nat_lt x.0 (2 ^ 64)
is_module_numeric _ = true

-- what is accessed
abbrev pub is_module_target : MemArgTarget → Bool
is_module_target (InMemory i) = is_index i
is_module_target (InArray i) = is_index i

-- two exponents of 2, what is added to an address, and what is accessed
abbrev pub is_module_access : MemArg → Bool
is_module_access arg =
    nat_lt arg.align (2 ^ 8)
    && (nat_lt arg.max_align (2 ^ 8) && (nat_lt arg.offset (2 ^ 64) && is_module_target arg.target))

abbrev pub is_module_memory : MemoryOp → Bool
is_module_memory (MemorySize i) = is_index i
is_module_memory (MemoryGrow i) = is_index i
is_module_memory (MemoryInit i j) = is_index i && is_index j
is_module_memory (DataDrop i) = is_index i
is_module_memory (MemoryCopy i j) = is_index i && is_index j
is_module_memory (MemoryFill i) = is_index i
is_module_memory (MemoryDiscard i) = is_index i
is_module_memory (Load t arg) = is_module_access arg
is_module_memory (LoadPacked packed sign arg) = is_module_access arg
is_module_memory (Store t arg) = is_module_access arg
is_module_memory (StorePacked packed arg) = is_module_access arg

abbrev pub is_module_atomic : AtomicOp → Bool
is_module_atomic (AtomicFence ordering) = true
is_module_atomic Pause = true
is_module_atomic (AtomicNotify arg) = is_module_access arg
is_module_atomic (AtomicWait t arg) = is_module_access arg
is_module_atomic (AtomicLoad access arg) = is_module_access arg
is_module_atomic (AtomicStore access arg) = is_module_access arg
is_module_atomic (AtomicRmw access op arg) = is_module_access arg
is_module_atomic (AtomicCmpxchg access arg) = is_module_access arg

-- a label and two types
abbrev pub is_module_cast : BranchCast → Bool
is_module_cast cast =
    is_index cast.relative_depth && (is_module_ref cast.from_ref_type && is_module_ref cast.to_ref_type)

abbrev pub is_module_reference : ReferenceOp → Bool
is_module_reference (RefNull h) = is_module_heap h
is_module_reference RefIsNull = true
is_module_reference (RefFunc i) = is_index i
is_module_reference RefAsNonNull = true
is_module_reference (BrOnNull i) = is_index i
is_module_reference (BrOnNonNull i) = is_index i
is_module_reference RefEq = true
is_module_reference (RefTestNonNull h) = is_module_heap h
is_module_reference (RefTestNullable h) = is_module_heap h
is_module_reference (RefCastNonNull h) = is_module_heap h
is_module_reference (RefCastNullable h) = is_module_heap h
is_module_reference (BrOnCast cast) = is_module_cast cast
is_module_reference (BrOnCastFail cast) = is_module_cast cast
is_module_reference (RefGetDesc i) = is_index i
is_module_reference (RefCastDescEqNonNull h) = is_module_heap h
is_module_reference (RefCastDescEqNullable h) = is_module_heap h
is_module_reference (BrOnCastDescEq cast) = is_module_cast cast
is_module_reference (BrOnCastDescEqFail cast) = is_module_cast cast
is_module_reference RefI31 = true
is_module_reference (I31Get sign) = true
is_module_reference AnyConvertExtern = true
is_module_reference ExternConvertAny = true

abbrev pub is_module_table : TableOp → Bool
is_module_table (TableGet i) = is_index i
is_module_table (TableSet i) = is_index i
is_module_table (TableGrow i) = is_index i
is_module_table (TableSize i) = is_index i
is_module_table (TableFill i) = is_index i
is_module_table (TableInit i j) = is_index i && is_index j
is_module_table (ElemDrop i) = is_index i
is_module_table (TableCopy i j) = is_index i && is_index j

-- a struct type and a field of it
abbrev pub is_module_field : FieldIndex → Bool
is_module_field field = is_index field.struct_type_index && is_index field.field_index

abbrev pub is_module_struct : StructOp → Bool
is_module_struct (StructNew i) = is_index i
is_module_struct (StructNewDefault i) = is_index i
is_module_struct (StructNewDesc i) = is_index i
is_module_struct (StructNewDefaultDesc i) = is_index i
is_module_struct (StructGet field) = is_module_field field
is_module_struct (StructGetPacked sign field) = is_module_field field
is_module_struct (StructSet field) = is_module_field field

abbrev pub is_module_array : ArrayOp → Bool
is_module_array (ArrayNew i) = is_index i
is_module_array (ArrayNewDefault i) = is_index i
is_module_array (ArrayNewFixed i n) = is_index i && is_index n
is_module_array (ArrayNewData i j) = is_index i && is_index j
is_module_array (ArrayNewElem i j) = is_index i && is_index j
is_module_array (ArrayGet i) = is_index i
is_module_array (ArrayGetPacked sign i) = is_index i
is_module_array (ArraySet i) = is_index i
is_module_array ArrayLen = true
is_module_array (ArrayFill i) = is_index i
is_module_array (ArrayCopy i j) = is_index i && is_index j
is_module_array (ArrayInitData i j) = is_index i && is_index j
is_module_array (ArrayInitElem i j) = is_index i && is_index j

-- a tag, where the clause names one, and a label
abbrev pub is_module_catch : Catch → Bool
is_module_catch (One tag label) = is_index tag && is_index label
is_module_catch (OneRef tag label) = is_index tag && is_index label
is_module_catch (All label) = is_index label
is_module_catch (AllRef label) = is_index label

abbrev pub is_module_try_table : TryTable → Bool
is_module_try_table t = is_module_block_type t.ty && list_all is_module_catch t.catches.now

abbrev pub is_module_exception : ExceptionOp → Bool
is_module_exception (TryTableOp table) = is_module_try_table table
is_module_exception (Throw i) = is_index i
is_module_exception ThrowRef = true
is_module_exception (Try bt) = is_module_block_type bt
is_module_exception (CatchOp i) = is_index i
is_module_exception CatchAll = true
is_module_exception (Delegate i) = is_index i
is_module_exception (Rethrow i) = is_index i

-- a tag, and a label where the handler names one
abbrev pub is_module_handle : Handle → Bool
is_module_handle (OnLabel tag label) = is_index tag && is_index label
is_module_handle (OnSwitch tag) = is_index tag

abbrev pub is_module_continuation : ContinuationOp → Bool
is_module_continuation (ContNew i) = is_index i
is_module_continuation (ContBind i j) = is_index i && is_index j
is_module_continuation (Suspend i) = is_index i
is_module_continuation (Resume i t) = is_index i && list_all is_module_handle t.handlers.now
is_module_continuation (ResumeThrow i j t) =
    is_index i && is_index j && list_all is_module_handle t.handlers.now
is_module_continuation (ResumeThrowRef i t) = is_index i && list_all is_module_handle t.handlers.now
is_module_continuation (Switch i j) = is_index i && is_index j

abbrev pub is_module_shared : SharedOp → Bool
is_module_shared (SharedGlobal access ordering i) = is_index i
is_module_shared (SharedTable access ordering i) = is_index i
is_module_shared (SharedStruct access ordering field) = is_module_field field
is_module_shared (SharedArray access ordering i) = is_index i
is_module_shared RefI31Shared = true

abbrev pub is_module_op : Op → Bool
is_module_op (Control op) = is_module_control op
is_module_op (Numeric op) = is_module_numeric op
is_module_op (Convert op) = true
is_module_op (Memory op) = is_module_memory op
is_module_op (Atomic op) = is_module_atomic op
is_module_op (Reference op) = is_module_reference op
is_module_op (Table op) = is_module_table op
is_module_op (Struct op) = is_module_struct op
is_module_op (Array op) = is_module_array op
is_module_op (Exception op) = is_module_exception op
is_module_op (Continuation op) = is_module_continuation op
is_module_op (Shared op) = is_module_shared op
