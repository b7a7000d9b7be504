-- Small bodies of the table's operators on tables and element segments, of calls through a table and of
-- calls by a reference, and their rows, computed. What is expected is what the standard's rules say of
-- them, and for shared tables and types the proposal shared-everything-threads.
use Rattle.std.proofs.Common.{◌≡◌, ◌-◌, ℕ, nat_eq, Bool, true, false, List, [], ◌∷◌, map, refl}
use Rattle.validate_resources.specs.Lists.{Declared}
use Rattle.validate_resources.specs.Named.{nothing_declared}
use Rattle.validate_resources.specs.declared.lists.FuncDecl.{FuncDecl}
use Rattle.validate_types.specs.Features.{reference_types, bulk_memory, tail_call, function_references}
use Rattle.validate_types.specs.Refs.{reference}
use Rattle.validate_types.specs.declared.heap.AbstractHeapType.TheVariants.{Func, NoFunc}
use Rattle.validate_types.specs.declared.heap.HeapType.{HeapType}
use Rattle.validate_types.specs.declared.heap.HeapType.TheVariants.{Abstract}
use Rattle.validate_types.specs.declared.refs.RefType.{RefType}
use Rattle.validate_types.specs.declared.types.TableType.{TableType}
use Rattle.validate_visit.specs.declared.op.ControlOp.TheVariants.{CallIndirect, ReturnCallIndirect, CallRef, ReturnCallRef}
use Rattle.validate_visit.specs.declared.op.Op.{Op}
use Rattle.validate_visit.specs.declared.op.Op.TheVariants.{Control, Table}
use Rattle.validate_visit.specs.declared.op.TableOp.{TableOp}
use Rattle.validate_visit.specs.declared.op.TableOp.TheVariants.{TableGet, TableSet, TableGrow, TableSize, TableFill, TableInit, ElemDrop, TableCopy}
use Rattle.validation_rules.specs.Context.{SubType, ValType, I32, I64, F32, BlockType, Empty, Val, FuncType, Context}
use Rattle.validation_rules.specs.Fits.{MaybeType, Known}
use Rattle.validation_rules.specs.Rows.{Head, Block, Loop, body_head}
use Rattle.validation_rules.specs.Operators.{row_operator, plain_row, operator}
use Rattle.validation_rules.proofs.ExampleWords.{null, no_null, func, extern, concrete, func_type}
use Rattle.validation_rules.proofs.ExampleWords.{shared_func_type, to_nothing, every, within, unreachable, block}
use Rattle.validation_rules.proofs.ExampleWords.{end, drops, i32_const, i64_const, ref_null, null_of, ref_func}
use Rattle.validation_rules.proofs.ExampleWords.{DoneUnder, LeavesUnder, AllRefusedUnder, premise_in}

-- ---- a module of six types, two functions, seven tables and five element segments

abbrev types : List SubType
types = func_type [] [] ∷ func_type (I32 ∷ I64 ∷ []) (F32 ∷ []) ∷ func_type [] (I32 ∷ []) ∷ func_type [] (I64 ∷ []) ∷ func_type [] (I32 ∷ I64 ∷ []) ∷ shared_func_type [] [] ∷ []

-- both may be referred to
abbrev functions : List FuncDecl
functions = map (λ i. record { type_index = i; referenced = true; exact = false }) (1 ∷ 2 ∷ [])

abbrev shared_func : HeapType
shared_func = Abstract true Func

abbrev a_table : Bool → RefType → Bool → TableType
a_table table64 r shared = record { element_type = r; table64 = table64; shared = shared }

-- tables 1 and 4 have addresses of 64 bits, and table 5 is shared
abbrev tables : List TableType
tables = a_table false (reference true func) false ∷ a_table true (reference true func) false ∷ a_table false (reference true extern) false ∷ a_table false (reference true (concrete 0)) false ∷ a_table true (reference false func) false ∷ a_table false (reference true shared_func) true ∷ a_table false (reference true shared_func) false ∷ []

abbrev elements : List RefType
elements = reference true func ∷ reference false func ∷ reference true extern ∷ reference true (concrete 0) ∷ reference true shared_func ∷ []

abbrev declared : Declared
declared = record nothing_declared { types = types; functions = functions; tables = tables; elements = elements }

-- with these proposals on
abbrev under : ℕ → Bool → Context
under bits shared = within declared bits shared

abbrev cx : Context
cx = under every false

-- in a shared function
abbrev in_shared : Context
in_shared = under every true

abbrev to_i32_and_i64 : BlockType
to_i32_and_i64 = FuncType 4

-- ---- operators

abbrev table_get : ℕ → Op
table_get i = Table (TableGet i)

abbrev table_set : ℕ → Op
table_set i = Table (TableSet i)

abbrev table_grow : ℕ → Op
table_grow i = Table (TableGrow i)

abbrev table_size : ℕ → Op
table_size i = Table (TableSize i)

abbrev table_fill : ℕ → Op
table_fill i = Table (TableFill i)

abbrev table_init : ℕ → ℕ → Op
table_init segment i = Table (TableInit segment i)

abbrev elem_drop : ℕ → Op
elem_drop segment = Table (ElemDrop segment)

-- to the first table, from the second
abbrev table_copy : ℕ → ℕ → Op
table_copy to from = Table (TableCopy to from)

-- of this type, in this table
abbrev call_indirect : ℕ → ℕ → Op
call_indirect type table = Control (CallIndirect type table)

abbrev return_call_indirect : ℕ → ℕ → Op
return_call_indirect type table = Control (ReturnCallIndirect type table)

abbrev call_ref : ℕ → Op
call_ref type = Control (CallRef type)

abbrev return_call_ref : ℕ → Op
return_call_ref type = Control (ReturnCallRef type)

-- ---- outcomes

abbrev AllRefused : BlockType → List (List Op) → Type 0
AllRefused ty bodies = AllRefusedUnder cx ty bodies

abbrev Done : BlockType → List Op → List MaybeType → Type 0
Done ty ops left = DoneUnder cx ty ops left

-- accepted so far, with these operands in the body's frame, the top first
abbrev Leaves : BlockType → List Op → List MaybeType → Bool → Type 0
Leaves ty ops own dead = LeavesUnder cx ty ops own dead

abbrev premise : Context → Op → Bool
premise c op = premise_in c (body_head to_nothing ∷ []) op

abbrev NoneHolds : List Op → Type 0
NoneHolds ops = map (premise cx) ops ≡ map (λ op. false) ops

-- With these proposals alone, the operator wants and pushes exactly these types, and does nothing else;
-- without them, and with all others, its row doesn't hold, unless it needs none.
abbrev Says : Op → List ValType → List ValType → ℕ → Type 0
Says op expected pushed needs =
    (operator (under needs false) op ≡ row_operator (plain_row expected pushed)) × (premise (under (every - needs) false) op ≡ nat_eq needs 0)

-- ---- rows

-- each table, the type of its addresses, and that of its elements
abbrev each : List (ℕ × ValType × ValType)
each = (0, I32, null func) ∷ (1, I64, null func) ∷ (2, I32, null extern) ∷ (3, I32, null (concrete 0)) ∷ (4, I64, no_null func) ∷ (5, I32, null shared_func) ∷ (6, I32, null shared_func) ∷ []

-- by the types of addresses and elements; there is no eighth table
abbrev EachTable : (ℕ → TableOp) → (ValType → ValType → List ValType) → (ValType → ValType → List ValType) → Type 0
EachTable op expected pushed =
    (map (λ (k : ℕ × ValType × ValType). operator (under reference_types false) (Table (op k.0))) each ≡ map (λ (k : ℕ × ValType × ValType). row_operator (plain_row (expected k.1 k.2) (pushed k.1 k.2))) each) × (map (λ (k : ℕ × ValType × ValType). premise (under (every - reference_types) false) (Table (op k.0))) each ≡ map (λ (k : ℕ × ValType × ValType). false) each) × (premise cx (Table (op 7)) ≡ false)

get_of_each : EachTable TableGet (λ it t. it ∷ []) (λ it t. t ∷ [])
get_of_each = (refl, refl, refl)

set_of_each : EachTable TableSet (λ it t. it ∷ t ∷ []) (λ it t. [])
set_of_each = (refl, refl, refl)

grow_of_each : EachTable TableGrow (λ it t. t ∷ it ∷ []) (λ it t. it ∷ [])
grow_of_each = (refl, refl, refl)

size_of_each : EachTable TableSize (λ it t. []) (λ it t. it ∷ [])
size_of_each = (refl, refl, refl)

fill_of_each : EachTable TableFill (λ it t. it ∷ t ∷ it ∷ []) (λ it t. [])
fill_of_each = (refl, refl, refl)

init_of_32 : Says (table_init 0 0) (I32 ∷ I32 ∷ I32 ∷ []) [] bulk_memory
init_of_32 = (refl, refl)

-- a place of the table, and a place of the segment and a length, which are i32 always
init_of_64 : Says (table_init 0 1) (I64 ∷ I32 ∷ I32 ∷ []) [] bulk_memory
init_of_64 = (refl, refl)

drop_segment : Says (elem_drop 4) [] [] bulk_memory
drop_segment = (refl, refl)

copy_in_32 : Says (table_copy 0 0) (I32 ∷ I32 ∷ I32 ∷ []) [] bulk_memory
copy_in_32 = (refl, refl)

copy_in_64 : Says (table_copy 1 1) (I64 ∷ I64 ∷ I64 ∷ []) [] bulk_memory
copy_in_64 = (refl, refl)

-- between the two the length is an i32
copy_to_32 : Says (table_copy 0 1) (I32 ∷ I64 ∷ I32 ∷ []) [] bulk_memory
copy_to_32 = (refl, refl)

copy_to_64 : Says (table_copy 1 0) (I64 ∷ I32 ∷ I32 ∷ []) [] bulk_memory
copy_to_64 = (refl, refl)

-- the place in the table lies above the parameters
indirect_of_32 : Says (call_indirect 1 0) (I32 ∷ I64 ∷ I32 ∷ []) (F32 ∷ []) 0
indirect_of_32 = (refl, refl)

indirect_of_64 : Says (call_indirect 1 1) (I32 ∷ I64 ∷ I64 ∷ []) (F32 ∷ []) 0
indirect_of_64 = (refl, refl)

-- a reference to the type, perhaps null, lies above them
by_reference : Says (call_ref 1) (I32 ∷ I64 ∷ null (concrete 1) ∷ []) (F32 ∷ []) function_references
by_reference = (refl, refl)

-- a tail call pushes nothing: its results go to the outermost label, whatever it took
abbrev inside : List Head
inside = record { kind = Loop; block_type = Empty } ∷ record { kind = Block; block_type = Val I64 } ∷ body_head (Val F32) ∷ []

-- with this proposal alone, and not without it
abbrev TailSays : Op → List ValType → ℕ → Type 0
TailSays op expected needs =
    ((operator (under needs false) op).row inside ≡ record (plain_row expected []) { targets = record { depth = 2; carried = λ found. F32 ∷ [] } ∷ []; ends_live = true }) × (((operator (under (every - needs) false) op).row inside).premise ≡ false)

tail_indirect_of_32 : TailSays (return_call_indirect 1 0) (I32 ∷ I64 ∷ I32 ∷ []) tail_call
tail_indirect_of_32 = (refl, refl)

tail_indirect_of_64 : TailSays (return_call_indirect 1 1) (I32 ∷ I64 ∷ I64 ∷ []) tail_call
tail_indirect_of_64 = (refl, refl)

tail_by_reference : TailSays (return_call_ref 1) (I32 ∷ I64 ∷ null (concrete 1) ∷ []) function_references
tail_by_reference = (refl, refl)

-- ---- `table.get` and `table.set`

-- what lies below the place stays
gets : Leaves to_nothing (i64_const ∷ i32_const ∷ table_get 0 ∷ []) (Known (null func) ∷ Known I64 ∷ []) false
gets = refl

gets_in_64 : Leaves to_nothing (i64_const ∷ table_get 4 ∷ []) (Known (no_null func) ∷ []) false
gets_in_64 = refl

-- without a place, with one of the other width, and with a reference for it; also in dead code
get_refused : AllRefused to_nothing ((table_get 0 ∷ []) ∷ (i64_const ∷ table_get 0 ∷ []) ∷ (i32_const ∷ table_get 1 ∷ []) ∷ (ref_null func ∷ table_get 0 ∷ []) ∷ (unreachable ∷ i64_const ∷ table_get 0 ∷ []) ∷ [])
get_refused = refl

get_in_dead : Leaves to_nothing (unreachable ∷ table_get 0 ∷ []) (Known (null func) ∷ []) true
get_in_dead = refl

sets : Leaves to_nothing (i64_const ∷ i32_const ∷ ref_null func ∷ table_set 0 ∷ []) (Known I64 ∷ []) false
sets = refl

-- an element below the table's
sets_below : Leaves to_nothing (i32_const ∷ null_of 1 ∷ table_set 0 ∷ i32_const ∷ ref_func 0 ∷ table_set 0 ∷ i32_const ∷ ref_null (Abstract false NoFunc) ∷ table_set 3 ∷ i64_const ∷ ref_func 1 ∷ table_set 4 ∷ []) [] false
sets_below = refl

-- and not another one, or one above, or null where the table has none
set_of_other : AllRefused to_nothing ((i32_const ∷ ref_null extern ∷ table_set 0 ∷ []) ∷ (i32_const ∷ ref_null func ∷ table_set 3 ∷ []) ∷ (i64_const ∷ ref_null func ∷ table_set 4 ∷ []) ∷ (i32_const ∷ i32_const ∷ table_set 0 ∷ []) ∷ (unreachable ∷ ref_null extern ∷ table_set 0 ∷ []) ∷ [])
set_of_other = refl

set_refused : AllRefused to_nothing ((table_set 0 ∷ []) ∷ (ref_null func ∷ table_set 0 ∷ []) ∷ (ref_null func ∷ i32_const ∷ table_set 0 ∷ []) ∷ (i64_const ∷ ref_null func ∷ table_set 0 ∷ []) ∷ (i32_const ∷ ref_null func ∷ table_set 1 ∷ []) ∷ [])
set_refused = refl

set_in_dead : Leaves to_nothing (unreachable ∷ table_set 0 ∷ []) [] true
set_in_dead = refl

-- ---- `table.grow`, `table.size` and `table.fill`

grows : Leaves to_nothing (ref_null func ∷ i32_const ∷ table_grow 0 ∷ ref_null func ∷ i64_const ∷ table_grow 1 ∷ []) (Known I64 ∷ Known I32 ∷ []) false
grows = refl

grow_refused : AllRefused to_nothing ((table_grow 0 ∷ []) ∷ (i32_const ∷ table_grow 0 ∷ []) ∷ (i32_const ∷ ref_null func ∷ table_grow 0 ∷ []) ∷ (ref_null func ∷ i64_const ∷ table_grow 0 ∷ []) ∷ (ref_null extern ∷ i32_const ∷ table_grow 0 ∷ []) ∷ (ref_null func ∷ i64_const ∷ table_grow 4 ∷ []) ∷ [])
grow_refused = refl

sizes : Leaves to_nothing (table_size 0 ∷ table_size 1 ∷ []) (Known I64 ∷ Known I32 ∷ []) false
sizes = refl

fills : Leaves to_nothing (i32_const ∷ ref_func 0 ∷ i32_const ∷ table_fill 0 ∷ i64_const ∷ ref_null func ∷ i64_const ∷ table_fill 1 ∷ []) [] false
fills = refl

fill_refused : AllRefused to_nothing ((ref_null func ∷ i32_const ∷ table_fill 0 ∷ []) ∷ (i64_const ∷ ref_null func ∷ i32_const ∷ table_fill 1 ∷ []) ∷ (i32_const ∷ ref_null func ∷ i64_const ∷ table_fill 1 ∷ []) ∷ (i32_const ∷ i32_const ∷ ref_null func ∷ table_fill 0 ∷ []) ∷ (i32_const ∷ ref_null extern ∷ i32_const ∷ table_fill 0 ∷ []) ∷ [])
fill_refused = refl

sized_in_dead : Leaves to_nothing (unreachable ∷ table_fill 0 ∷ table_grow 1 ∷ table_size 0 ∷ []) (Known I32 ∷ Known I64 ∷ []) true
sized_in_dead = refl

-- ---- there is no eighth table, and no sixth segment, also in dead code

no_table : AllRefused to_nothing ((i32_const ∷ table_get 7 ∷ []) ∷ (unreachable ∷ table_get 7 ∷ []) ∷ (unreachable ∷ table_set 7 ∷ []) ∷ (unreachable ∷ table_grow 7 ∷ []) ∷ (table_size 7 ∷ []) ∷ (unreachable ∷ table_fill 7 ∷ []) ∷ (unreachable ∷ table_init 0 7 ∷ []) ∷ (unreachable ∷ table_copy 0 7 ∷ []) ∷ (unreachable ∷ table_copy 7 0 ∷ []) ∷ (unreachable ∷ call_indirect 0 7 ∷ []) ∷ (unreachable ∷ return_call_indirect 0 7 ∷ []) ∷ [])
no_table = refl

no_segment : AllRefused to_nothing ((elem_drop 5 ∷ []) ∷ (unreachable ∷ elem_drop 5 ∷ []) ∷ (i32_const ∷ i32_const ∷ i32_const ∷ table_init 5 0 ∷ []) ∷ (unreachable ∷ table_init 5 0 ∷ []) ∷ [])
no_segment = refl

-- ---- `table.init` and `table.copy`

inits : Leaves to_nothing (i64_const ∷ i32_const ∷ i32_const ∷ i32_const ∷ table_init 0 0 ∷ elem_drop 0 ∷ []) (Known I64 ∷ []) false
inits = refl

init_refused : AllRefused to_nothing ((i32_const ∷ i32_const ∷ table_init 0 0 ∷ []) ∷ (i64_const ∷ i32_const ∷ i32_const ∷ table_init 0 0 ∷ []) ∷ (i32_const ∷ i32_const ∷ i64_const ∷ table_init 0 1 ∷ []) ∷ (i64_const ∷ i32_const ∷ i64_const ∷ table_init 0 1 ∷ []) ∷ [])
init_refused = refl

-- the segment's type is that of the table's elements, or below it
segment_below : map (premise cx) (table_init 0 0 ∷ table_init 1 0 ∷ table_init 3 0 ∷ table_init 2 2 ∷ table_init 3 3 ∷ table_init 1 4 ∷ table_init 4 5 ∷ []) ≡ true ∷ true ∷ true ∷ true ∷ true ∷ true ∷ true ∷ []
segment_below = refl

-- another one, one above, one with null where the table has none, and one that isn't shared
segment_not_below : NoneHolds (table_init 2 0 ∷ table_init 0 2 ∷ table_init 0 3 ∷ table_init 1 3 ∷ table_init 0 4 ∷ table_init 3 4 ∷ table_init 0 5 ∷ [])
segment_not_below = refl

segment_in_dead : AllRefused to_nothing ((unreachable ∷ table_init 2 0 ∷ []) ∷ (unreachable ∷ table_init 0 4 ∷ []) ∷ [])
segment_in_dead = refl

copies : Leaves to_nothing (i64_const ∷ i32_const ∷ i32_const ∷ table_copy 1 0 ∷ i32_const ∷ i64_const ∷ i32_const ∷ table_copy 0 1 ∷ []) [] false
copies = refl

-- the places turned, and a length as wide as one of them
copies_turned : AllRefused to_nothing ((i32_const ∷ i64_const ∷ i32_const ∷ table_copy 1 0 ∷ []) ∷ (i64_const ∷ i32_const ∷ i64_const ∷ table_copy 1 0 ∷ []) ∷ (i64_const ∷ i32_const ∷ i32_const ∷ table_copy 0 1 ∷ []) ∷ (i32_const ∷ i64_const ∷ i64_const ∷ table_copy 0 1 ∷ []) ∷ (i64_const ∷ i64_const ∷ i32_const ∷ table_copy 1 1 ∷ []) ∷ [])
copies_turned = refl

-- the elements read are those written, or below them
copy_below : map (premise cx) (table_copy 0 3 ∷ table_copy 1 4 ∷ table_copy 0 4 ∷ table_copy 2 2 ∷ table_copy 5 6 ∷ table_copy 6 5 ∷ []) ≡ true ∷ true ∷ true ∷ true ∷ true ∷ true ∷ []
copy_below = refl

copy_not_below : NoneHolds (table_copy 3 0 ∷ table_copy 4 1 ∷ table_copy 4 0 ∷ table_copy 2 0 ∷ table_copy 0 2 ∷ table_copy 5 0 ∷ table_copy 0 5 ∷ table_copy 3 4 ∷ [])
copy_not_below = refl

copy_in_dead : AllRefused to_nothing ((unreachable ∷ table_copy 3 0 ∷ []) ∷ (unreachable ∷ table_copy 4 1 ∷ []) ∷ [])
copy_in_dead = refl

-- ---- `call_indirect`

-- the place first, then the parameters; what lies below them stays
indirect_takes : Leaves to_nothing (i64_const ∷ i32_const ∷ i64_const ∷ i32_const ∷ call_indirect 1 0 ∷ []) (Known F32 ∷ Known I64 ∷ []) false
indirect_takes = refl

indirect_in_64 : Leaves to_nothing (i32_const ∷ i64_const ∷ i64_const ∷ call_indirect 1 1 ∷ []) (Known F32 ∷ []) false
indirect_in_64 = refl

indirect_gives : Leaves to_nothing (i32_const ∷ call_indirect 4 0 ∷ []) (Known I64 ∷ Known I32 ∷ []) false
indirect_gives = refl

-- without the place, with it below the parameters, with one of the other width, and without a parameter
indirect_refused : AllRefused to_nothing ((i32_const ∷ i64_const ∷ call_indirect 1 0 ∷ []) ∷ (i32_const ∷ i32_const ∷ i64_const ∷ call_indirect 1 0 ∷ []) ∷ (i32_const ∷ i64_const ∷ i64_const ∷ call_indirect 1 0 ∷ []) ∷ (i32_const ∷ i64_const ∷ i32_const ∷ call_indirect 1 1 ∷ []) ∷ (i64_const ∷ i32_const ∷ call_indirect 1 0 ∷ []) ∷ (call_indirect 0 0 ∷ []) ∷ [])
indirect_refused = refl

-- each table of functions, and no other one
tables_of_functions : map (premise cx) (call_indirect 1 0 ∷ call_indirect 1 1 ∷ call_indirect 1 2 ∷ call_indirect 1 3 ∷ call_indirect 1 4 ∷ []) ≡ true ∷ true ∷ false ∷ true ∷ true ∷ []
tables_of_functions = refl

tails_of_functions : map (premise cx) (return_call_indirect 0 0 ∷ return_call_indirect 0 1 ∷ return_call_indirect 0 2 ∷ return_call_indirect 0 3 ∷ return_call_indirect 0 4 ∷ []) ≡ true ∷ true ∷ false ∷ true ∷ true ∷ []
tails_of_functions = refl

-- there is no seventh type
no_type : AllRefused to_nothing ((i32_const ∷ call_indirect 6 0 ∷ []) ∷ (unreachable ∷ call_indirect 6 0 ∷ []) ∷ (unreachable ∷ return_call_indirect 6 0 ∷ []) ∷ (unreachable ∷ call_ref 6 ∷ []) ∷ (unreachable ∷ return_call_ref 6 ∷ []) ∷ [])
no_type = refl

indirect_in_dead : Leaves to_nothing (unreachable ∷ call_indirect 1 0 ∷ []) (Known F32 ∷ []) true
indirect_in_dead = refl

indirect_of_other_known : AllRefused to_nothing ((unreachable ∷ i64_const ∷ call_indirect 1 0 ∷ []) ∷ (unreachable ∷ i32_const ∷ i32_const ∷ call_indirect 1 0 ∷ []) ∷ (unreachable ∷ call_indirect 1 2 ∷ []) ∷ [])
indirect_of_other_known = refl

-- ---- `call_ref`

-- null of the type, and a function of it
ref_takes : Leaves to_nothing (i64_const ∷ i32_const ∷ i64_const ∷ null_of 1 ∷ call_ref 1 ∷ i32_const ∷ i64_const ∷ ref_func 0 ∷ call_ref 1 ∷ []) (Known F32 ∷ Known F32 ∷ Known I64 ∷ []) false
ref_takes = refl

ref_of_none : Leaves to_nothing (ref_null (Abstract false NoFunc) ∷ call_ref 4 ∷ []) (Known I64 ∷ Known I32 ∷ []) false
ref_of_none = refl

-- without the reference, with it below the parameters, with one to any function, to one of another type,
-- and to what is no function
ref_refused : AllRefused to_nothing ((i32_const ∷ i64_const ∷ call_ref 1 ∷ []) ∷ (null_of 1 ∷ i32_const ∷ i64_const ∷ call_ref 1 ∷ []) ∷ (i32_const ∷ i64_const ∷ ref_null func ∷ call_ref 1 ∷ []) ∷ (i32_const ∷ i64_const ∷ null_of 0 ∷ call_ref 1 ∷ []) ∷ (i32_const ∷ i64_const ∷ ref_func 1 ∷ call_ref 1 ∷ []) ∷ (i32_const ∷ i64_const ∷ ref_null extern ∷ call_ref 1 ∷ []) ∷ (i64_const ∷ null_of 1 ∷ call_ref 1 ∷ []) ∷ (call_ref 0 ∷ []) ∷ [])
ref_refused = refl

ref_in_dead : Leaves to_nothing (unreachable ∷ call_ref 1 ∷ []) (Known F32 ∷ []) true
ref_in_dead = refl

ref_of_other_known : AllRefused to_nothing ((unreachable ∷ i64_const ∷ call_ref 1 ∷ []) ∷ (unreachable ∷ null_of 0 ∷ call_ref 1 ∷ []) ∷ [])
ref_of_other_known = refl

-- ---- tail calls: the callee's results are those of the body, also in dead code

tail_takes : Leaves (Val F32) (i64_const ∷ i32_const ∷ i64_const ∷ i32_const ∷ return_call_indirect 1 0 ∷ []) [] true
tail_takes = refl

tail_ref_takes : Leaves (Val F32) (i64_const ∷ i32_const ∷ i64_const ∷ null_of 1 ∷ return_call_ref 1 ∷ []) [] true
tail_ref_takes = refl

tail_gives : Done (Val I32) (i32_const ∷ return_call_indirect 2 0 ∷ end ∷ []) (Known I32 ∷ []) × Done to_i32_and_i64 (null_of 4 ∷ return_call_ref 4 ∷ end ∷ []) (Known I64 ∷ Known I32 ∷ [])
tail_gives = (refl, refl)

-- results of another type, fewer, and more
tail_gives_other : AllRefused (Val I32) ((i32_const ∷ return_call_indirect 3 0 ∷ []) ∷ (i32_const ∷ return_call_indirect 0 0 ∷ []) ∷ (i32_const ∷ return_call_indirect 4 0 ∷ []) ∷ (unreachable ∷ return_call_indirect 3 0 ∷ []) ∷ (null_of 3 ∷ return_call_ref 3 ∷ []) ∷ (null_of 0 ∷ return_call_ref 0 ∷ []) ∷ (null_of 4 ∷ return_call_ref 4 ∷ []) ∷ (unreachable ∷ return_call_ref 3 ∷ []) ∷ [])
tail_gives_other = refl

-- inside a block the body's results count, and not the block's
from_block : Done (Val I32) (block (Val I64) ∷ i32_const ∷ return_call_indirect 2 0 ∷ end ∷ drops ∷ block (Val I64) ∷ null_of 2 ∷ return_call_ref 2 ∷ end ∷ drops ∷ i32_const ∷ end ∷ []) (Known I32 ∷ [])
from_block = refl

by_block : AllRefused (Val I32) ((block (Val I64) ∷ i32_const ∷ return_call_indirect 3 0 ∷ []) ∷ (block (Val I64) ∷ null_of 3 ∷ return_call_ref 3 ∷ []) ∷ [])
by_block = refl

tail_refused : AllRefused (Val F32) ((i32_const ∷ i64_const ∷ return_call_indirect 1 0 ∷ []) ∷ (i32_const ∷ i32_const ∷ i64_const ∷ return_call_indirect 1 0 ∷ []) ∷ (i32_const ∷ i64_const ∷ i64_const ∷ return_call_indirect 1 0 ∷ []) ∷ (i32_const ∷ i64_const ∷ return_call_ref 1 ∷ []) ∷ (i32_const ∷ i64_const ∷ ref_null func ∷ return_call_ref 1 ∷ []) ∷ [])
tail_refused = refl

-- ---- the proposals that each needs; `call_indirect` needs none

closed : AllRefusedUnder (under (every - reference_types) false) to_nothing ((unreachable ∷ table_get 0 ∷ []) ∷ (table_size 0 ∷ []) ∷ []) × AllRefusedUnder (under (every - bulk_memory) false) to_nothing ((unreachable ∷ table_copy 0 0 ∷ []) ∷ (elem_drop 0 ∷ []) ∷ []) × AllRefusedUnder (under (every - tail_call) false) to_nothing ((unreachable ∷ return_call_indirect 0 0 ∷ []) ∷ []) × AllRefusedUnder (under (every - function_references) false) to_nothing ((unreachable ∷ call_ref 0 ∷ []) ∷ (unreachable ∷ return_call_ref 0 ∷ []) ∷ [])
closed = (refl, refl, refl, refl)

no_proposal : DoneUnder (under 0 false) (Val F32) (i32_const ∷ i64_const ∷ i32_const ∷ call_indirect 1 0 ∷ end ∷ []) (Known F32 ∷ [])
no_proposal = refl

-- ---- a shared function accesses shared tables alone, and calls functions of shared types alone

abbrev on_tables : ℕ → List Op
on_tables i = table_get i ∷ table_set i ∷ table_grow i ∷ table_size i ∷ table_fill i ∷ table_init 4 i ∷ table_copy i i ∷ []

shared_table : map (premise in_shared) (on_tables 5) ≡ true ∷ true ∷ true ∷ true ∷ true ∷ true ∷ true ∷ []
shared_table = refl

unshared_table : map (premise in_shared) (on_tables 6) ≡ false ∷ false ∷ false ∷ false ∷ false ∷ false ∷ false ∷ []
unshared_table = refl

-- to and from one that isn't shared
copy_of_shared : map (premise in_shared) (table_copy 5 6 ∷ table_copy 6 5 ∷ call_indirect 5 0 ∷ return_call_indirect 5 0 ∷ []) ≡ false ∷ false ∷ false ∷ false ∷ []
copy_of_shared = refl

-- another function accesses both
each_table : map (premise cx) (on_tables 5) ≡ map (premise cx) (on_tables 6)
each_table = refl

all_tables : map (premise cx) (on_tables 6) ≡ true ∷ true ∷ true ∷ true ∷ true ∷ true ∷ true ∷ []
all_tables = refl

calls_of_shared : map (premise in_shared) (call_ref 5 ∷ call_ref 0 ∷ return_call_ref 5 ∷ return_call_ref 0 ∷ []) ≡ true ∷ false ∷ true ∷ false ∷ []
calls_of_shared = refl

all_calls : map (premise cx) (call_ref 5 ∷ call_ref 0 ∷ call_indirect 5 0 ∷ return_call_ref 5 ∷ return_call_ref 0 ∷ return_call_indirect 5 0 ∷ []) ≡ true ∷ true ∷ true ∷ true ∷ true ∷ true ∷ []
all_calls = refl

shared_body : DoneUnder in_shared (FuncType 5) (unreachable ∷ call_ref 5 ∷ table_size 5 ∷ table_get 5 ∷ drops ∷ end ∷ []) []
shared_body = refl
