-- The words that examples are written in: types, contexts, operators, and what lists of operators come to.
use Rattle.std.proofs.Common.{◌≡◌, ℕ, pos, Bool, true, false, List, [], ◌∷◌, length, map, Option, Some, None}
use Rattle.validate_resources.specs.Lists.{Declared, context_of}
use Rattle.validate_types.specs.Refs.{reference}
use Rattle.validate_types.specs.declared.heap.AbstractHeapType.{AbstractHeapType}
use Rattle.validate_types.specs.declared.heap.AbstractHeapType.TheVariants.{Func as FuncHeap, Extern}
use Rattle.validate_types.specs.declared.heap.HeapType.{HeapType}
use Rattle.validate_types.specs.declared.heap.HeapType.TheVariants.{Abstract, Concrete, Exact}
use Rattle.validate_types.specs.declared.heap.UnpackedIndex.{UnpackedIndex}
use Rattle.validate_types.specs.declared.heap.UnpackedIndex.TheVariants.{Module, Id}
use Rattle.validate_types.specs.declared.types.CompositeInnerType.{CompositeInnerType}
use Rattle.validate_types.specs.declared.types.CompositeInnerType.TheVariants.{Func, Array, Cont}
use Rattle.validate_types.specs.declared.types.FieldType.{FieldType}
use Rattle.validate_types.specs.declared.types.StorageType.{StorageType}
use Rattle.validate_visit.specs.declared.catch.Catch.{Catch}
use Rattle.validate_visit.specs.declared.catch.Catch.TheVariants.{One}
use Rattle.validate_visit.specs.declared.numbers.IntegerType.TheVariants.{I32 as IntegerI32}
use Rattle.validate_visit.specs.declared.numeric.IntegerBinaryOp.TheVariants.{Add}
use Rattle.validate_visit.specs.declared.op.ContinuationOp.TheVariants.{Resume}
use Rattle.validate_visit.specs.declared.op.ControlOp.TheVariants.{Unreachable, Block as BlockOp, Loop as LoopOp}
use Rattle.validate_visit.specs.declared.op.ControlOp.TheVariants.{If as IfOp, Else as ElseOp, End, Br, BrIf}
use Rattle.validate_visit.specs.declared.op.ControlOp.TheVariants.{BrTable, Return, Call, ReturnCall, Drop}
use Rattle.validate_visit.specs.declared.op.ControlOp.TheVariants.{TypedSelect, LocalGet, LocalSet}
use Rattle.validate_visit.specs.declared.op.ExceptionOp.TheVariants.{TryTable as TryTableOp, Throw, ThrowRef}
use Rattle.validate_visit.specs.declared.op.ExceptionOp.TheVariants.{Try, Catch as CatchOp, CatchAll}
use Rattle.validate_visit.specs.declared.op.ExceptionOp.TheVariants.{Delegate, Rethrow}
use Rattle.validate_visit.specs.declared.op.NumericOp.TheVariants.{Eqz, IntegerBinary, I32Const, I64Const}
use Rattle.validate_visit.specs.declared.op.Op.{Op}
use Rattle.validate_visit.specs.declared.op.Op.TheVariants.{Control, Numeric, Reference, Exception}
use Rattle.validate_visit.specs.declared.op.Op.TheVariants.{Continuation, Struct}
use Rattle.validate_visit.specs.declared.op.ReferenceOp.TheVariants.{RefNull, RefFunc, BrOnNull, BrOnNonNull}
use Rattle.validate_visit.specs.declared.op.StructOp.TheVariants.{StructNew, StructNewDefault}
use Rattle.validate_visit.specs.declared.resume.Handle.{Handle}
use Rattle.validation_rules.specs.Context.{SubType, ValType, Ref, BlockType, FuncType, Context}
use Rattle.validation_rules.specs.Fits.{MaybeType}
use Rattle.validation_rules.specs.Rows.{FrameKind, Block, Head}
use Rattle.validation_rules.specs.Static.{Frame, State, open_state, state_before, start}
use Rattle.validation_rules.specs.Operators.{operator, operators}
use Rattle.validation_rules.proofs.Refusals.{states_of}

-- ---- types

-- references that may be null, and such as may not
abbrev pub null : HeapType → ValType
null h = Ref (reference true h)

abbrev pub no_null : HeapType → ValType
no_null h = Ref (reference false h)

-- abstract types, unshared and shared
abbrev pub abstract : AbstractHeapType → HeapType
abstract a = Abstract false a

abbrev pub shared : AbstractHeapType → HeapType
shared a = Abstract true a

abbrev pub func : HeapType
func = abstract FuncHeap

abbrev pub extern : HeapType
extern = abstract Extern

-- the id of the type at an index
abbrev pub id : ℕ → UnpackedIndex
id i = Id (record { index = i })

-- the type at an index, by its id, exactly it, and by its index
abbrev pub concrete : ℕ → HeapType
concrete i = Concrete (id i)

abbrev pub exact : ℕ → HeapType
exact i = Exact (id i)

abbrev pub named : ℕ → HeapType
named i = Concrete (Module i)

-- references to the type at an index, which may be null, and which may not
abbrev pub null_to : ℕ → ValType
null_to i = null (concrete i)

abbrev pub to : ℕ → ValType
to i = no_null (concrete i)

-- ---- declared types

-- a final type without a supertype, shared or not
abbrev pub a_type : Bool → CompositeInnerType → SubType
a_type shared inner =
    record {
      is_final = true;
      supertype_idx = None;
      composite_type = record { inner = inner; shared = shared; descriptor_idx = None; describes_idx = None };
    }

-- a type that others may stand below, with a supertype or none
abbrev pub an_open_type : Option UnpackedIndex → Bool → CompositeInnerType → SubType
an_open_type above shared inner =
    record {
      is_final = false;
      supertype_idx = above;
      composite_type = record { inner = inner; shared = shared; descriptor_idx = None; describes_idx = None };
    }

abbrev pub of_functions : List ValType → List ValType → CompositeInnerType
of_functions params results = Func (record { params = params; results = results })

abbrev pub func_type : List ValType → List ValType → SubType
func_type params results = a_type false (of_functions params results)

abbrev pub shared_func_type : List ValType → List ValType → SubType
shared_func_type params results = a_type true (of_functions params results)

-- continuations of the functions of the type at an index
abbrev pub of_continuations : ℕ → CompositeInnerType
of_continuations i = Cont (record { 0 = id i })

-- fields that can be written, and such as can't be
abbrev pub written : StorageType → FieldType
written t = record { element_type = t; mutable = true }

abbrev pub fixed : StorageType → FieldType
fixed t = record { element_type = t; mutable = false }

abbrev pub an_array : Bool → FieldType → SubType
an_array shared field = a_type shared (Array (record { 0 = field }))

-- what the type at index 0 says, in most modules: from nothing to nothing
abbrev pub to_nothing : BlockType
to_nothing = FuncType 0

-- ---- contexts

-- all proposals
abbrev pub every : ℕ
every = 2097151

-- in this module, with these proposals on, in a shared function or in another, without locals
abbrev pub within : Declared → ℕ → Bool → Context
within declared bits shared =
    record {
      of_module = context_of declared;
      features = record { 0 = bits };
      shared = shared;
      locals = [];
      set_at_entry = [];
    }

-- ---- operators

abbrev pub unreachable : Op
unreachable = Control Unreachable

abbrev pub block : BlockType → Op
block bt = Control (BlockOp bt)

abbrev pub loop : BlockType → Op
loop bt = Control (LoopOp bt)

abbrev pub an_if : BlockType → Op
an_if bt = Control (IfOp bt)

abbrev pub an_else : Op
an_else = Control ElseOp

abbrev pub end : Op
end = Control End

abbrev pub br : ℕ → Op
br d = Control (Br d)

abbrev pub br_if : ℕ → Op
br_if d = Control (BrIf d)

-- its targets, whether all are there, and the default
abbrev pub a_br_table : List ℕ → Bool → ℕ → Op
a_br_table ds complete d =
    Control (BrTable (record { targets = record { ref_ptr = (0, 0); now = ds }; complete = complete; default = d }))

abbrev pub br_table : List ℕ → ℕ → Op
br_table ds d = a_br_table ds true d

abbrev pub a_return : Op
a_return = Control Return

abbrev pub call : ℕ → Op
call f = Control (Call f)

abbrev pub return_call : ℕ → Op
return_call f = Control (ReturnCall f)

abbrev pub drops : Op
drops = Control Drop

abbrev pub typed_select : ValType → Op
typed_select t = Control (TypedSelect t)

abbrev pub local_get : ℕ → Op
local_get i = Control (LocalGet i)

abbrev pub local_set : ℕ → Op
local_set i = Control (LocalSet i)

abbrev pub i32_const : Op
i32_const = Numeric (I32Const (pos 0))

abbrev pub i64_const : Op
i64_const = Numeric (I64Const (pos 0))

abbrev pub i32_eqz : Op
i32_eqz = Numeric (Eqz IntegerI32)

abbrev pub i32_add : Op
i32_add = Numeric (IntegerBinary IntegerI32 Add)

abbrev pub ref_null : HeapType → Op
ref_null h = Reference (RefNull h)

-- null of the type at an index
abbrev pub null_of : ℕ → Op
null_of i = ref_null (named i)

abbrev pub ref_func : ℕ → Op
ref_func f = Reference (RefFunc f)

abbrev pub br_on_null : ℕ → Op
br_on_null d = Reference (BrOnNull d)

abbrev pub br_on_non_null : ℕ → Op
br_on_non_null d = Reference (BrOnNonNull d)

abbrev pub struct_new : ℕ → Op
struct_new i = Struct (StructNew i)

abbrev pub struct_new_default : ℕ → Op
struct_new_default i = Struct (StructNewDefault i)

-- a clause for exceptions with this tag, to this label
abbrev pub catch : ℕ → ℕ → Catch
catch tag label = One tag label

abbrev pub try_table : BlockType → List Catch → Op
try_table bt catches =
    Exception (TryTableOp (record { ty = bt; catches = record { ref_ptr = (0, 0); now = catches } }))

abbrev pub throw : ℕ → Op
throw tag = Exception (Throw tag)

abbrev pub throw_ref : Op
throw_ref = Exception ThrowRef

abbrev pub legacy_try : BlockType → Op
legacy_try bt = Exception (Try bt)

abbrev pub legacy_catch : ℕ → Op
legacy_catch tag = Exception (CatchOp tag)

abbrev pub legacy_catch_all : Op
legacy_catch_all = Exception CatchAll

abbrev pub delegate : ℕ → Op
delegate d = Exception (Delegate d)

abbrev pub rethrow : ℕ → Op
rethrow d = Exception (Rethrow d)

abbrev pub resume : ℕ → List Handle → Op
resume i handlers = Continuation (Resume i (record { handlers = record { ref_ptr = (0, 0); now = handlers } }))

-- ---- what lists of operators come to

abbrev pub block_head : BlockType → Head
block_head ty = record { kind = Block; block_type = ty }

-- a frame in which no local was set first
abbrev pub frame : FrameKind → BlockType → List MaybeType → Bool → Frame
frame kind ty own dead =
    record { head = record { kind = kind; block_type = ty }; operands = own; dead = dead; first_set = [] }

abbrev pub after_all : Context → BlockType → List Op → Option State
after_all cx ty ops = state_before cx (operators cx ops) (start ty) (length ops)

-- the body is closed, with these operands left
abbrev pub DoneUnder : Context → BlockType → List Op → List MaybeType → Type 0
DoneUnder cx ty ops left = after_all cx ty ops ≡ Some (record { frames = []; left = left })

-- these frames are open
abbrev pub OpenUnder : Context → BlockType → List Op → List Frame → Type 0
OpenUnder cx ty ops frames = after_all cx ty ops ≡ Some (open_state frames)

-- that of the body alone is open, with these operands, dead or not
abbrev pub LeavesUnder : Context → BlockType → List Op → List MaybeType → Bool → Type 0
LeavesUnder cx ty ops own dead = OpenUnder cx ty ops (frame Block ty own dead ∷ [])

-- each body is refused at its last operator
abbrev pub AllRefusedUnder : Context → BlockType → List (List Op) → Type 0
AllRefusedUnder cx ty bodies = map (states_of cx ty) bodies ≡ map length bodies

-- whether the row of an operator holds in these frames
abbrev pub premise_in : Context → List Head → Op → Bool
premise_in cx hs op = ((operator cx op).row hs).premise
