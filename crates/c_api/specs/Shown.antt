-- Value types and frames as C is shown them (WebAssembly core specification, "Binary Format: Types").
use Rattle.std.specs.Prelude.{◌≡◌, ◌≢◌, ℕ, Bool, true, false, Option, Some, None}
use Rattle.binary_operators.specs.Types.{type_name}
use Rattle.binary_operators.specs.declared.types.CanonicalTypes.{CanonicalTypes}
use Rattle.validate_types.specs.Heap.{number_of}
use Rattle.validate_types.specs.declared.heap.AbstractHeapType.{AbstractHeapType}
use Rattle.validate_types.specs.declared.heap.AbstractHeapType.TheVariants.{Func, Extern, Any, NoExtern}
use Rattle.validate_types.specs.declared.heap.AbstractHeapType.TheVariants.{Eq, Struct, Array, I31, NoExn}
use Rattle.validate_types.specs.declared.heap.AbstractHeapType.TheVariants.{Cont, NoCont, NoFunc, Exn, None as NoneType}
use Rattle.validate_types.specs.declared.heap.HeapType.{HeapType}
use Rattle.validate_types.specs.declared.heap.HeapType.TheVariants.{Abstract, Concrete, Exact}
use Rattle.validate_types.specs.declared.types.ValType.{ValType}
use Rattle.validate_types.specs.declared.types.ValType.TheVariants.{I32, I64, F32, F64, V128, Ref}
use Rattle.validate_visit.specs.declared.frame.BlockType.{BlockType}
use Rattle.validate_visit.specs.declared.frame.BlockType.TheVariants.{Empty, Val, FuncType}
use Rattle.validate_visit.specs.declared.frame.Frame.{Frame}
use Rattle.validate_visit.specs.declared.frame.FrameKind.{FrameKind}
use Rattle.validate_visit.specs.declared.frame.FrameKind.TheVariants.{Block, If, Else, Loop, TryTable}
use Rattle.validate_visit.specs.declared.frame.FrameKind.TheVariants.{LegacyTry, LegacyCatch, LegacyCatchAll}
use Rattle.c_api.specs.declared.shown.ShownType.{ShownType}
use Rattle.c_api.specs.declared.shown.ShownFrame.{ShownFrame}

-- the byte of an abstract heap type
abbrev pub abstract_code : AbstractHeapType → ℕ
abstract_code Cont = 0x68
abstract_code Exn = 0x69
abstract_code Array = 0x6a
abstract_code Struct = 0x6b
abstract_code I31 = 0x6c
abstract_code Eq = 0x6d
abstract_code Any = 0x6e
abstract_code Extern = 0x6f
abstract_code Func = 0x70
abstract_code NoneType = 0x71
abstract_code NoExtern = 0x72
abstract_code NoFunc = 0x73
abstract_code NoExn = 0x74
abstract_code NoCont = 0x75

-- 1 for what holds, else 0
abbrev pub mark : Bool → ℕ
mark true = 1
mark false = 0

-- a type without index and marks
abbrev pub plain : ℕ → ShownType
plain code = record { code = code; index = 0; nullable = 0; shared = 0; exact = 0; reserved = 0 }

abbrev pub shown_reference : Bool → HeapType → ShownType
shown_reference null (Abstract shared ty) =
    record {
      code = abstract_code ty;
      index = 0;
      nullable = mark null;
      shared = mark shared;
      exact = 0;
      reserved = 0;
    }
shown_reference null (Concrete i) =
    record { code = 1; index = number_of i; nullable = mark null; shared = 0; exact = 0; reserved = 0 }
shown_reference null (Exact i) =
    record { code = 1; index = number_of i; nullable = mark null; shared = 0; exact = 1; reserved = 0 }

-- a value type: its byte, or 1 for a reference to a declared type
abbrev pub shown_type : ValType → ShownType
shown_type I32 = plain 0x7f
shown_type I64 = plain 0x7e
shown_type F32 = plain 0x7d
shown_type F64 = plain 0x7c
shown_type V128 = plain 0x7b
shown_type (Ref r) = shown_reference r.nullable r.heap_type

-- the type of an operand: 0 where it isn't known
abbrev pub shown_operand : Option ValType → ShownType
shown_operand None = plain 0
shown_operand (Some ty) = shown_type ty

-- a mark that is shown says this
abbrev pub Marks : ℕ → Bool → Type 0
Marks n true = n ≢ 0
Marks n false = n ≡ 0

-- what is shown names this heap type, where indices of types are read as these
abbrev pub NamesHeap : CanonicalTypes → ShownType → HeapType → Type 0
NamesHeap types c (Abstract shared ty) = (c.code ≡ abstract_code ty) × Marks c.shared shared
NamesHeap types c (Concrete i) = (c.code ≡ 1) × (i ≡ type_name types c.index) × (c.exact ≡ 0)
NamesHeap types c (Exact i) = (c.code ≡ 1) × (i ≡ type_name types c.index) × (c.exact ≢ 0)

-- what is shown names this value type
abbrev pub Names : CanonicalTypes → ShownType → ValType → Type 0
Names types c I32 = c.code ≡ 0x7f
Names types c I64 = c.code ≡ 0x7e
Names types c F32 = c.code ≡ 0x7d
Names types c F64 = c.code ≡ 0x7c
Names types c V128 = c.code ≡ 0x7b
Names types c (Ref r) = Marks c.nullable r.nullable × NamesHeap types c r.heap_type

abbrev pub kind_number : FrameKind → ℕ
kind_number Block = 0
kind_number If = 1
kind_number Else = 2
kind_number Loop = 3
kind_number TryTable = 4
kind_number LegacyTry = 5
kind_number LegacyCatch = 6
kind_number LegacyCatchAll = 7

-- a block type: how it is named, the index of a function type, and a value type
abbrev pub block_kind : BlockType → ℕ
block_kind Empty = 0
block_kind (Val ty) = 1
block_kind (FuncType i) = 2

abbrev pub block_index : BlockType → ℕ
block_index Empty = 0
block_index (Val ty) = 0
block_index (FuncType i) = i

abbrev pub block_value : BlockType → ShownType
block_value Empty = plain 0
block_value (Val ty) = shown_type ty
block_value (FuncType i) = plain 0

abbrev pub shown_frame : Frame → ShownFrame
shown_frame f =
    record {
      height = f.height;
      kind = kind_number f.kind;
      block_kind = block_kind f.block_type;
      block_index = block_index f.block_type;
      unreachable = mark f.unreachable;
      block_type = block_value f.block_type;
    }
