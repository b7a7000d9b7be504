-- The indices of operators, as a script writes them (the crate's own).
use Rattle.std.specs.Prelude.{ℕ, List, [], ◌∷◌}
use Rattle.validate_visit.specs.declared.op.ArrayOp.{ArrayOp}
use Rattle.validate_visit.specs.declared.op.ArrayOp.TheVariants.{ArrayNew, ArrayNewDefault, ArrayNewFixed}
use Rattle.validate_visit.specs.declared.op.ArrayOp.TheVariants.{ArrayNewData, ArrayNewElem, ArrayGet}
use Rattle.validate_visit.specs.declared.op.ArrayOp.TheVariants.{ArrayGetPacked, ArraySet, ArrayFill}
use Rattle.validate_visit.specs.declared.op.ArrayOp.TheVariants.{ArrayCopy, ArrayInitData, ArrayInitElem}
use Rattle.validate_visit.specs.declared.op.ContinuationOp.{ContinuationOp}
use Rattle.validate_visit.specs.declared.op.ContinuationOp.TheVariants.{ContNew, ContBind, Suspend, Resume}
use Rattle.validate_visit.specs.declared.op.ContinuationOp.TheVariants.{ResumeThrow, ResumeThrowRef, Switch}
use Rattle.validate_visit.specs.declared.op.ControlOp.{ControlOp}
use Rattle.validate_visit.specs.declared.op.ControlOp.TheVariants.{Br, BrIf, Call, ReturnCall, CallRef}
use Rattle.validate_visit.specs.declared.op.ControlOp.TheVariants.{ReturnCallRef, CallIndirect}
use Rattle.validate_visit.specs.declared.op.ControlOp.TheVariants.{ReturnCallIndirect, LocalGet, LocalSet}
use Rattle.validate_visit.specs.declared.op.ControlOp.TheVariants.{LocalTee, GlobalGet, GlobalSet}
use Rattle.validate_visit.specs.declared.op.ExceptionOp.{ExceptionOp}
use Rattle.validate_visit.specs.declared.op.ExceptionOp.TheVariants.{Throw, Catch, Delegate, Rethrow}
use Rattle.validate_visit.specs.declared.op.MemoryOp.{MemoryOp}
use Rattle.validate_visit.specs.declared.op.MemoryOp.TheVariants.{MemorySize, MemoryGrow, MemoryInit}
use Rattle.validate_visit.specs.declared.op.MemoryOp.TheVariants.{DataDrop, MemoryCopy, MemoryFill}
use Rattle.validate_visit.specs.declared.op.MemoryOp.TheVariants.{MemoryDiscard}
use Rattle.validate_visit.specs.declared.op.Op.{Op}
use Rattle.validate_visit.specs.declared.op.Op.TheVariants.{Control, Memory, Reference, Table, Struct, Array}
use Rattle.validate_visit.specs.declared.op.Op.TheVariants.{Exception, Continuation}
use Rattle.validate_visit.specs.declared.op.Op.TheVariants.{Shared}
use Rattle.validate_visit.specs.declared.op.ReferenceOp.{ReferenceOp}
use Rattle.validate_visit.specs.declared.op.ReferenceOp.TheVariants.{RefFunc, RefGetDesc, BrOnNull, BrOnNonNull}
use Rattle.validate_visit.specs.declared.shared.SharedOp.{SharedOp}
use Rattle.validate_visit.specs.declared.shared.SharedOp.TheVariants.{Global as SharedGlobal, RefI31Shared}
use Rattle.validate_visit.specs.declared.shared.SharedOp.TheVariants.{Table as SharedTable}
use Rattle.validate_visit.specs.declared.shared.SharedOp.TheVariants.{Struct as SharedStruct}
use Rattle.validate_visit.specs.declared.shared.SharedOp.TheVariants.{Array as SharedArray}
use Rattle.validate_visit.specs.declared.op.StructOp.{StructOp}
use Rattle.validate_visit.specs.declared.op.StructOp.TheVariants.{StructNew, StructNewDefault, StructGet}
use Rattle.validate_visit.specs.declared.op.StructOp.TheVariants.{StructGetPacked, StructSet}
use Rattle.validate_visit.specs.declared.op.StructOp.TheVariants.{StructNewDesc, StructNewDefaultDesc}
use Rattle.validate_visit.specs.declared.op.TableOp.{TableOp}
use Rattle.validate_visit.specs.declared.op.TableOp.TheVariants.{TableGet, TableSet, TableGrow, TableSize}
use Rattle.validate_visit.specs.declared.op.TableOp.TheVariants.{TableFill, TableInit, ElemDrop, TableCopy}

-- the label, function, type, table, local or global of an operator on control or variables: of an indirect
-- call the type, and then the table
abbrev pub control_indices : ControlOp → List ℕ
control_indices (Br label) = label ∷ []
control_indices (BrIf label) = label ∷ []
control_indices (Call function) = function ∷ []
control_indices (ReturnCall function) = function ∷ []
control_indices (CallRef type) = type ∷ []
control_indices (ReturnCallRef type) = type ∷ []
control_indices (CallIndirect type table) = type ∷ table ∷ []
control_indices (ReturnCallIndirect type table) = type ∷ table ∷ []
control_indices (LocalGet local) = local ∷ []
control_indices (LocalSet local) = local ∷ []
control_indices (LocalTee local) = local ∷ []
control_indices (GlobalGet global) = global ∷ []
control_indices (GlobalSet global) = global ∷ []
control_indices _ = []

-- the label, the function or the type of an operator on references
abbrev pub reference_indices : ReferenceOp → List ℕ
reference_indices (RefFunc function) = function ∷ []
reference_indices (RefGetDesc type) = type ∷ []
reference_indices (BrOnNull label) = label ∷ []
reference_indices (BrOnNonNull label) = label ∷ []
reference_indices _ = []

-- the indices of an operator on whole memories or on data segments, in their order
abbrev pub memory_indices : MemoryOp → List ℕ
memory_indices (MemorySize memory) = memory ∷ []
memory_indices (MemoryGrow memory) = memory ∷ []
memory_indices (MemoryInit segment memory) = segment ∷ memory ∷ []
memory_indices (DataDrop segment) = segment ∷ []
memory_indices (MemoryCopy to from) = to ∷ from ∷ []
memory_indices (MemoryFill memory) = memory ∷ []
memory_indices (MemoryDiscard memory) = memory ∷ []
memory_indices _ = []

-- the indices of an operator on tables or on element segments, in their order
abbrev pub table_indices : TableOp → List ℕ
table_indices (TableGet table) = table ∷ []
table_indices (TableSet table) = table ∷ []
table_indices (TableGrow table) = table ∷ []
table_indices (TableSize table) = table ∷ []
table_indices (TableFill table) = table ∷ []
table_indices (TableInit segment table) = segment ∷ table ∷ []
table_indices (ElemDrop segment) = segment ∷ []
table_indices (TableCopy to from) = to ∷ from ∷ []

-- the type of an operator on structs, and then the field
abbrev pub struct_indices : StructOp → List ℕ
struct_indices (StructNew type) = type ∷ []
struct_indices (StructNewDefault type) = type ∷ []
struct_indices (StructNewDesc type) = type ∷ []
struct_indices (StructNewDefaultDesc type) = type ∷ []
struct_indices (StructGet field) = field.struct_type_index ∷ field.field_index ∷ []
struct_indices (StructGetPacked sign field) = field.struct_type_index ∷ field.field_index ∷ []
struct_indices (StructSet field) = field.struct_type_index ∷ field.field_index ∷ []

-- the type of an operator on arrays, and then the number of elements, the segment, or the type that is read
abbrev pub array_indices : ArrayOp → List ℕ
array_indices (ArrayNew type) = type ∷ []
array_indices (ArrayNewDefault type) = type ∷ []
array_indices (ArrayNewFixed type count) = type ∷ count ∷ []
array_indices (ArrayNewData type segment) = type ∷ segment ∷ []
array_indices (ArrayNewElem type segment) = type ∷ segment ∷ []
array_indices (ArrayGet type) = type ∷ []
array_indices (ArrayGetPacked sign type) = type ∷ []
array_indices (ArraySet type) = type ∷ []
array_indices (ArrayFill type) = type ∷ []
array_indices (ArrayCopy to from) = to ∷ from ∷ []
array_indices (ArrayInitData type segment) = type ∷ segment ∷ []
array_indices (ArrayInitElem type segment) = type ∷ segment ∷ []
array_indices _ = []

-- the tag or the label of an operator on exceptions
abbrev pub exception_indices : ExceptionOp → List ℕ
exception_indices (Throw tag) = tag ∷ []
exception_indices (Catch tag) = tag ∷ []
exception_indices (Delegate label) = label ∷ []
exception_indices (Rethrow label) = label ∷ []
exception_indices _ = []

-- the type or the tag of an operator on continuations, or both, or two types
abbrev pub continuation_indices : ContinuationOp → List ℕ
continuation_indices (ContNew type) = type ∷ []
continuation_indices (ContBind from to) = from ∷ to ∷ []
continuation_indices (Suspend tag) = tag ∷ []
continuation_indices (Resume type table) = type ∷ []
continuation_indices (ResumeThrow type tag table) = type ∷ tag ∷ []
continuation_indices (ResumeThrowRef type table) = type ∷ []
continuation_indices (Switch type tag) = type ∷ tag ∷ []

-- the global, the table, the type, or the type and then the field of an operator of shared-everything threads
abbrev pub shared_indices : SharedOp → List ℕ
shared_indices (SharedGlobal access ordering global) = global ∷ []
shared_indices (SharedTable access ordering table) = table ∷ []
shared_indices (SharedStruct access ordering field) = field.struct_type_index ∷ field.field_index ∷ []
shared_indices (SharedArray access ordering type) = type ∷ []
shared_indices RefI31Shared = []

abbrev pub op_indices : Op → List ℕ
op_indices (Control op) = control_indices op
op_indices (Reference op) = reference_indices op
op_indices (Memory op) = memory_indices op
op_indices (Table op) = table_indices op
op_indices (Struct op) = struct_indices op
op_indices (Array op) = array_indices op
op_indices (Exception op) = exception_indices op
op_indices (Continuation op) = continuation_indices op
op_indices (Shared op) = shared_indices op
op_indices _ = []
