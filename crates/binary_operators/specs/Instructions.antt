-- Operators in the bytes of a body (WebAssembly core specification, "Binary Format: Instructions", and the
-- proposals): a code, and what its form says. Vector operators are left out.
use Rattle.std.specs.Prelude.{ℕ, ◌+◌, ◌*◌, ◌-◌, true, List, [], ◌∷◌, Option, Some, None}
use Rattle.binary_operators.specs.Atomics.{atomic_at, global_accesses, table_accesses, field_accesses}
use Rattle.binary_operators.specs.Codes.{at, plain_ops, index_ops, two_index_ops, type_ops, typed_index_ops}
use Rattle.binary_operators.specs.Codes.{two_type_ops, heap_ops, cast_ops, block_ops, access_ops, field}
use Rattle.binary_operators.specs.Forms.{from, forms, forms_behind}
use Rattle.binary_operators.specs.Immediates.{block_type, memarg, catch_clause, handler, cast, ordering}
use Rattle.binary_operators.specs.Integers.{unsigned, signed}
use Rattle.binary_operators.specs.Numbers.{numeric_ops, conversion_ops}
use Rattle.binary_operators.specs.Types.{canonical, heap_type, value_type}
use Rattle.binary_operators.specs.Unplaced.{nowhere}
use Rattle.binary_operators.specs.Values.{◌>>=◌, float32, float64, list_of}
use Rattle.binary_operators.specs.declared.forms.Form.{Form}
use Rattle.binary_operators.specs.declared.forms.Form.TheVariants.{Illegal, Plain, Block, Index, TwoIndices}
use Rattle.binary_operators.specs.declared.forms.Form.TheVariants.{TypeIndex, TypedIndex, TwoTypes, Heap}
use Rattle.binary_operators.specs.declared.forms.Form.TheVariants.{Cast}
use Rattle.binary_operators.specs.declared.forms.Form.TheVariants.{Access, Atomic as OfAtomic, I32, I64, F32}
use Rattle.binary_operators.specs.declared.forms.Form.TheVariants.{F64}
use Rattle.binary_operators.specs.declared.forms.Form.TheVariants.{Numeric as OfNumeric, Conversion, Labels}
use Rattle.binary_operators.specs.declared.forms.Form.TheVariants.{Types}
use Rattle.binary_operators.specs.declared.forms.Form.TheVariants.{Clauses, Handlers, Thrown, Fence, Global}
use Rattle.binary_operators.specs.declared.forms.Form.TheVariants.{Field}
use Rattle.binary_operators.specs.declared.forms.Form.TheVariants.{Table as OfTable, Array as OfArray, Prefix}
use Rattle.binary_operators.specs.declared.forms.Form.TheVariants.{Vector}
use Rattle.binary_operators.specs.declared.types.CanonicalTypes.{CanonicalTypes}
use Rattle.validate_types.specs.declared.types.ValType.{ValType}
use Rattle.validate_visit.specs.declared.op.AtomicOp.TheVariants.{AtomicFence}
use Rattle.validate_visit.specs.declared.op.ContinuationOp.TheVariants.{Resume, ResumeThrow, ResumeThrowRef}
use Rattle.validate_visit.specs.declared.op.ControlOp.TheVariants.{BrTable, TypedSelect, TypedSelectMulti}
use Rattle.validate_visit.specs.declared.op.ExceptionOp.TheVariants.{TryTable}
use Rattle.validate_visit.specs.declared.op.NumericOp.TheVariants.{I32Const, I64Const, F32Const, F64Const}
use Rattle.validate_visit.specs.declared.op.Op.{Op}
use Rattle.validate_visit.specs.declared.op.Op.TheVariants.{Control, Numeric, Convert, Atomic, Exception}
use Rattle.validate_visit.specs.declared.op.Op.TheVariants.{Continuation, Shared}
use Rattle.validate_visit.specs.declared.resume.Handle.{Handle}
use Rattle.validate_visit.specs.declared.resume.ResumeTable.{ResumeTable}
use Rattle.validate_visit.specs.declared.shared.SharedOp.TheVariants.{Global as GlobalAtomic}
use Rattle.validate_visit.specs.declared.shared.SharedOp.TheVariants.{Table as TableAtomic}
use Rattle.validate_visit.specs.declared.shared.SharedOp.TheVariants.{Struct as FieldAtomic}
use Rattle.validate_visit.specs.declared.shared.SharedOp.TheVariants.{Array as ArrayAtomic}

-- ---- no immediates

abbrev pub plain_op : ℕ → List ℕ → Option (Op × List ℕ)
plain_op code bytes = do
  op ← at code plain_ops
  Some (op, bytes)

abbrev pub numeric_op : ℕ → List ℕ → Option (Op × List ℕ)
numeric_op code bytes = do
  op ← from 0x45 numeric_ops code
  Some (Numeric op, bytes)

abbrev pub conversion_op : ℕ → List ℕ → Option (Op × List ℕ)
conversion_op code bytes = do
  op ← from 0xa7 conversion_ops code
  Some (Convert op, bytes)

-- ---- indices

unfoldable pub index_op : ℕ → List ℕ → Option (Op × List ℕ)
index_op code bytes = do
  i ← unsigned 32 bytes
  op ← at code index_ops
  Some (op i.0, i.1)

unfoldable pub two_index_op : ℕ → List ℕ → Option (Op × List ℕ)
two_index_op code bytes = do
  i ← unsigned 32 bytes
  j ← unsigned 32 i.1
  op ← at code two_index_ops
  Some (op i.0 j.0, j.1)

unfoldable pub type_op : ℕ → CanonicalTypes → List ℕ → Option (Op × List ℕ)
type_op code types bytes = do
  t ← unsigned 32 bytes
  op ← at code type_ops
  Some (op (canonical types t.0), t.1)

unfoldable pub typed_index_op : ℕ → CanonicalTypes → List ℕ → Option (Op × List ℕ)
typed_index_op code types bytes = do
  t ← unsigned 32 bytes
  i ← unsigned 32 t.1
  op ← at code typed_index_ops
  Some (op (canonical types t.0) i.0, i.1)

unfoldable pub two_type_op : ℕ → CanonicalTypes → List ℕ → Option (Op × List ℕ)
two_type_op code types bytes = do
  t ← unsigned 32 bytes
  u ← unsigned 32 t.1
  op ← at code two_type_ops
  Some (op (canonical types t.0) (canonical types u.0), u.1)

-- ---- types, and places in memories

unfoldable pub heap_op : ℕ → CanonicalTypes → List ℕ → Option (Op × List ℕ)
heap_op code types bytes = do
  ty ← heap_type types bytes
  op ← at code heap_ops
  Some (op ty.0, ty.1)

unfoldable pub cast_op : ℕ → CanonicalTypes → List ℕ → Option (Op × List ℕ)
cast_op code types bytes = do
  c ← cast types bytes
  op ← at code cast_ops
  Some (op c.0, c.1)

unfoldable pub block_op : ℕ → CanonicalTypes → List ℕ → Option (Op × List ℕ)
block_op code types bytes = do
  ty ← block_type types bytes
  op ← at code block_ops
  Some (op ty.0, ty.1)

unfoldable pub access_op : ℕ → List ℕ → Option (Op × List ℕ)
access_op code bytes = do
  m ← memarg bytes
  op ← at code access_ops
  Some (op m.0, m.1)

-- ---- constants

unfoldable pub constant_i32 : List ℕ → Option (Op × List ℕ)
constant_i32 bytes = do
  n ← signed 32 bytes
  Some (Numeric (I32Const n.0), n.1)

unfoldable pub constant_i64 : List ℕ → Option (Op × List ℕ)
constant_i64 bytes = do
  n ← signed 64 bytes
  Some (Numeric (I64Const n.0), n.1)

unfoldable pub constant_f32 : List ℕ → Option (Op × List ℕ)
constant_f32 bytes = do
  z ← float32 bytes
  Some (Numeric (F32Const (record { 0 = z.0 })), z.1)

unfoldable pub constant_f64 : List ℕ → Option (Op × List ℕ)
constant_f64 bytes = do
  z ← float64 bytes
  Some (Numeric (F64Const (record { 0 = z.0 })), z.1)

-- ---- lists

-- the labels that an operand chooses from, and that of every other operand
unfoldable pub branch_table : List ℕ → Option (Op × List ℕ)
branch_table bytes = do
  labels ← list_of (unsigned 32) bytes
  default ← unsigned 32 labels.1
  Some (
    Control (BrTable (record {
      targets = record { ref_ptr = nowhere; now = labels.0 };
      complete = true;
      default = default.0;
    })),
    default.1,
  )

-- the `select` of these types: of one, or of several
abbrev pub select_of : List ValType → Op
select_of (ty ∷ []) = Control (TypedSelect ty)
select_of types = Control (TypedSelectMulti (record { ref_ptr = nowhere; now = types }))

unfoldable pub select_op : CanonicalTypes → List ℕ → Option (Op × List ℕ)
select_op types bytes = do
  tys ← list_of (value_type types) bytes
  Some (select_of tys.0, tys.1)

unfoldable pub try_table_op : CanonicalTypes → List ℕ → Option (Op × List ℕ)
try_table_op types bytes = do
  ty ← block_type types bytes
  clauses ← list_of catch_clause ty.1
  Some (
    Exception (TryTable (record { ty = ty.0; catches = record { ref_ptr = nowhere; now = clauses.0 } })),
    clauses.1,
  )

abbrev pub resume_table : List Handle → ResumeTable
resume_table handlers = record { handlers = record { ref_ptr = nowhere; now = handlers } }

unfoldable pub resume_ops : List (ℕ × (ℕ → ResumeTable → Op))
resume_ops =
    (0xe3, λ t handlers. Continuation (Resume t handlers))
    ∷ (0xe5, λ t handlers. Continuation (ResumeThrowRef t handlers)) ∷ []

unfoldable pub resume_op : ℕ → CanonicalTypes → List ℕ → Option (Op × List ℕ)
resume_op code types bytes = do
  t ← unsigned 32 bytes
  handlers ← list_of handler t.1
  op ← at code resume_ops
  Some (op (canonical types t.0) (resume_table handlers.0), handlers.1)

unfoldable pub resume_throw_op : CanonicalTypes → List ℕ → Option (Op × List ℕ)
resume_throw_op types bytes = do
  t ← unsigned 32 bytes
  tag ← unsigned 32 t.1
  handlers ← list_of handler tag.1
  Some (Continuation (ResumeThrow (canonical types t.0) tag.0 (resume_table handlers.0)), handlers.1)

-- ---- atomic operators

unfoldable pub atomic_op : ℕ → List ℕ → Option (Op × List ℕ)
atomic_op code bytes = do
  m ← memarg bytes
  op ← atomic_at (code - 0xfe10) m.0
  Some (op, m.1)

unfoldable pub fence_op : List ℕ → Option (Op × List ℕ)
fence_op bytes = do
  order ← ordering bytes
  Some (Atomic (AtomicFence order.0), order.1)

unfoldable pub global_op : ℕ → List ℕ → Option (Op × List ℕ)
global_op code bytes = do
  order ← ordering bytes
  i ← unsigned 32 order.1
  access ← from 0xfe4f global_accesses code
  Some (Shared (GlobalAtomic access order.0 i.0), i.1)

unfoldable pub table_op : ℕ → List ℕ → Option (Op × List ℕ)
table_op code bytes = do
  order ← ordering bytes
  i ← unsigned 32 order.1
  access ← from 0xfe58 table_accesses code
  Some (Shared (TableAtomic access order.0 i.0), i.1)

unfoldable pub field_op : ℕ → CanonicalTypes → List ℕ → Option (Op × List ℕ)
field_op code types bytes = do
  order ← ordering bytes
  t ← unsigned 32 order.1
  i ← unsigned 32 t.1
  access ← from 0xfe5c field_accesses code
  Some (Shared (FieldAtomic access order.0 (field (canonical types t.0) i.0)), i.1)

unfoldable pub array_op : ℕ → CanonicalTypes → List ℕ → Option (Op × List ℕ)
array_op code types bytes = do
  order ← ordering bytes
  t ← unsigned 32 order.1
  access ← from 0xfe67 field_accesses code
  Some (Shared (ArrayAtomic access order.0 (canonical types t.0)), t.1)

-- ---- operators

-- the operator of this code, whose immediates have this form and are what the bytes begin with
abbrev pub operator_by : Form → ℕ → CanonicalTypes → List ℕ → Option (Op × List ℕ)
operator_by Illegal code types bytes = None
operator_by Plain code types bytes = plain_op code bytes
operator_by Block code types bytes = block_op code types bytes
operator_by Index code types bytes = index_op code bytes
operator_by TwoIndices code types bytes = two_index_op code bytes
operator_by TypeIndex code types bytes = type_op code types bytes
operator_by TypedIndex code types bytes = typed_index_op code types bytes
operator_by TwoTypes code types bytes = two_type_op code types bytes
operator_by Heap code types bytes = heap_op code types bytes
operator_by Cast code types bytes = cast_op code types bytes
operator_by Access code types bytes = access_op code bytes
operator_by OfAtomic code types bytes = atomic_op code bytes
operator_by I32 code types bytes = constant_i32 bytes
operator_by I64 code types bytes = constant_i64 bytes
operator_by F32 code types bytes = constant_f32 bytes
operator_by F64 code types bytes = constant_f64 bytes
operator_by OfNumeric code types bytes = numeric_op code bytes
operator_by Conversion code types bytes = conversion_op code bytes
operator_by Labels code types bytes = branch_table bytes
operator_by Types code types bytes = select_op types bytes
operator_by Clauses code types bytes = try_table_op types bytes
operator_by Handlers code types bytes = resume_op code types bytes
operator_by Thrown code types bytes = resume_throw_op types bytes
operator_by Fence code types bytes = fence_op bytes
operator_by Global code types bytes = global_op code bytes
operator_by OfTable code types bytes = table_op code bytes
operator_by Field code types bytes = field_op code types bytes
operator_by OfArray code types bytes = array_op code types bytes
operator_by Prefix code types bytes = None
operator_by Vector code types bytes = None

-- the operator behind this prefix
unfoldable pub prefixed_op : ℕ → CanonicalTypes → List ℕ → Option (Op × List ℕ)
prefixed_op prefix types bytes = do
  code ← unsigned 32 bytes
  form ← from 0 (forms_behind prefix) code.0
  operator_by form (prefix * 0x100 + code.0) types code.1

abbrev pub operator_of : Option Form → ℕ → CanonicalTypes → List ℕ → Option (Op × List ℕ)
operator_of None code types bytes = None
operator_of (Some Prefix) code types bytes = prefixed_op code types bytes
operator_of (Some form) code types bytes = operator_by form code types bytes

-- the operator that the bytes begin with, and the bytes behind it
unfoldable pub operator : CanonicalTypes → List ℕ → Option (Op × List ℕ)
operator types [] = None
operator types (code ∷ bytes) = operator_of (from 0 forms code) code types bytes
