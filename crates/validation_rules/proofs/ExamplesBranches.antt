-- Small bodies of the table's branches, blocks and `select`, also in dead code, computed. What is
-- expected is what the standard's rules say of them.
use Rattle.std.proofs.Common.{◌≡◌, ◌&&◌, ℕ, ◌+◌, Bool, true, false, List, [], ◌∷◌, Some, None, refl, ap}
use Rattle.validate_resources.specs.Lists.{Declared, context_of}
use Rattle.validate_resources.specs.Named.{nothing_declared}
use Rattle.validate_types.specs.Features.{multi_value, floats, reference_types}
use Rattle.validate_types.specs.Gates.{is_open}
use Rattle.validate_types.specs.declared.gate.Gate.TheVariants.{ReferenceTypes}
use Rattle.validate_visit.specs.declared.op.Op.{Op}
use Rattle.validate_visit.specs.declared.op.Op.TheVariants.{Control}
use Rattle.validate_visit.specs.declared.op.ControlOp.TheVariants.{Select, TypedSelectMulti}
use Rattle.validation_rules.specs.Context.{SubType, ValType, I32, I64, F32, F64, BlockType, Empty, Val, FuncType, Context}
use Rattle.validation_rules.specs.Fits.{MaybeType, Bottom, Known}
use Rattle.validation_rules.specs.Rows.{Block, If, Else, Loop}
use Rattle.validation_rules.specs.Static.{Frame, open_state, step, step_in}
use Rattle.validation_rules.specs.Operators.{never_row, row_operator, operator}
use Rattle.validation_rules.proofs.Refusals.{IsRefusedAtLast}
use Rattle.validation_rules.proofs.ExampleWords.{func_type, shared_func_type, to_nothing, within, unreachable}
use Rattle.validation_rules.proofs.ExampleWords.{block, loop, an_if, an_else, end, br, br_if, br_table, a_return}
use Rattle.validation_rules.proofs.ExampleWords.{drops, typed_select, i32_const, i64_const, i32_eqz, i32_add}
use Rattle.validation_rules.proofs.ExampleWords.{a_br_table, frame, DoneUnder, OpenUnder, LeavesUnder}

-- ---- a module of three types, and a function without locals

abbrev types : List SubType
types = func_type [] [] ∷ shared_func_type (I32 ∷ []) (I64 ∷ []) ∷ shared_func_type (I64 ∷ []) (I64 ∷ []) ∷ []

abbrev declared : Declared
declared = record nothing_declared { types = types }

abbrev i32_to_i64 : BlockType
i32_to_i64 = FuncType 1

abbrev i64_to_i64 : BlockType
i64_to_i64 = FuncType 2

-- with these proposals on
abbrev under : ℕ → Bool → Context
under bits shared = within declared bits shared

abbrev cx : Context
cx = under (multi_value + reference_types) false

-- ---- operators

abbrev select : Op
select = Control Select

abbrev typed_select_multi : List ValType → Op
typed_select_multi ts = Control (TypedSelectMulti (record { ref_ptr = (0, 0); now = ts }))

-- ---- outcomes

-- the row of the last operator doesn't hold, and those of all before it do
abbrev RefusedUnder : Context → BlockType → List Op → Type 0
RefusedUnder c ty ops = IsRefusedAtLast c ty ops

abbrev Refused : BlockType → List Op → Type 0
Refused ty ops = RefusedUnder cx ty ops

-- accepted up to the outermost `end`, with these types left, the top first
abbrev Done : BlockType → List Op → List MaybeType → Type 0
Done ty ops left = DoneUnder cx ty ops left

abbrev Open : BlockType → List Op → List Frame → Type 0
Open ty ops frames = OpenUnder cx ty ops frames

-- in the outermost frame of a body without results
abbrev Leaves : List Op → List MaybeType → Bool → Type 0
Leaves ops own dead = LeavesUnder cx to_nothing ops own dead

-- ---- `unreachable` and `select`

-- of nothing known nothing is known
select_of_unknowns : Leaves (unreachable ∷ select ∷ []) (Bottom ∷ []) true
select_of_unknowns = refl

-- and what comes of it fits everything, a test too
select_is_anything : Leaves (unreachable ∷ select ∷ i32_eqz ∷ []) (Known I32 ∷ []) true
select_is_anything = refl

-- one known operand gives its type
select_of_one_known : Leaves (unreachable ∷ i64_const ∷ i32_const ∷ select ∷ []) (Known I64 ∷ []) true
select_of_one_known = refl

-- also where it is the other one
select_of_one_below : step cx (operator cx select) (open_state (frame Block to_nothing (Known I32 ∷ Bottom ∷ Known I64 ∷ []) true ∷ [])) ≡ Some (open_state (frame Block to_nothing (Known I64 ∷ []) true ∷ []))
select_of_one_below = refl

-- two known ones agree in dead code too
select_different_dead : Refused to_nothing (unreachable ∷ i32_const ∷ i64_const ∷ i32_const ∷ select ∷ [])
select_different_dead = refl

-- and so does the test
select_test_dead : Refused to_nothing (unreachable ∷ i64_const ∷ select ∷ [])
select_test_dead = refl

-- two of one type, and a test
select_of_two : Leaves (i32_const ∷ i32_const ∷ i32_const ∷ select ∷ []) (Known I32 ∷ []) false
select_of_two = refl

-- of another type than the test, and what lies below stays
select_above : Leaves (i32_const ∷ i64_const ∷ i64_const ∷ i32_const ∷ select ∷ []) (Known I64 ∷ Known I32 ∷ []) false
select_above = refl

-- of different types, either way round
select_different : Refused to_nothing (i32_const ∷ i64_const ∷ i32_const ∷ select ∷ [])
select_different = refl

select_different_turned : Refused to_nothing (i64_const ∷ i32_const ∷ i32_const ∷ select ∷ [])
select_different_turned = refl

-- the test is an i32
select_test : Refused to_nothing (i64_const ∷ i64_const ∷ i64_const ∷ select ∷ [])
select_test = refl

-- one operand under the test, and none
select_of_one : Refused to_nothing (i32_const ∷ i32_const ∷ select ∷ [])
select_of_one = refl

select_of_none : Refused to_nothing (i32_const ∷ select ∷ [])
select_of_none = refl

-- ---- `select` with its type

-- two of its type, and a test
typed_select_of_two : Leaves (i64_const ∷ i64_const ∷ i32_const ∷ typed_select I64 ∷ []) (Known I64 ∷ []) false
typed_select_of_two = refl

-- the type is known, whatever is found
typed_select_of_unknowns : Leaves (unreachable ∷ typed_select I64 ∷ []) (Known I64 ∷ []) true
typed_select_of_unknowns = refl

-- an i32 in place of either
typed_select_other_below : Refused to_nothing (i32_const ∷ i64_const ∷ i32_const ∷ typed_select I64 ∷ [])
typed_select_other_below = refl

typed_select_other_above : Refused to_nothing (i64_const ∷ i32_const ∷ i32_const ∷ typed_select I64 ∷ [])
typed_select_other_above = refl

-- one operand under the test
typed_select_of_one : Refused to_nothing (i64_const ∷ i32_const ∷ typed_select I64 ∷ [])
typed_select_of_one = refl

-- the test is an i32, whatever the type
typed_select_test : Refused to_nothing (i64_const ∷ i64_const ∷ i64_const ∷ typed_select I64 ∷ [])
typed_select_test = refl

-- it needs `reference_types`
typed_select_closed : RefusedUnder (under multi_value false) to_nothing (i64_const ∷ i64_const ∷ i32_const ∷ typed_select I64 ∷ [])
typed_select_closed = refl

-- and `select` without a type doesn't
select_open : OpenUnder (under 0 false) Empty (i64_const ∷ i64_const ∷ i32_const ∷ select ∷ []) (frame Block Empty (Known I64 ∷ []) false ∷ [])
select_open = refl

-- its type passes the check of types: a float needs `floats`
typed_select_no_floats : Refused to_nothing (unreachable ∷ typed_select F64 ∷ [])
typed_select_no_floats = refl

typed_select_floats : OpenUnder (under (reference_types + floats) false) Empty (unreachable ∷ typed_select F64 ∷ []) (frame Block Empty (Known F64 ∷ []) true ∷ [])
typed_select_floats = refl

-- of a list of types it never holds, however many they are
typed_select_multi_refused : (c : Context) (ts : List ValType) (fs : List Frame) (left : List MaybeType) → step_in c (operator c (typed_select_multi ts)) fs left ≡ None
typed_select_multi_refused c ts [] left = refl
typed_select_multi_refused c ts (f ∷ fs) left =
    ap (λ b. step_in c (row_operator (record never_row { premise = b })) (f ∷ fs) left) (never (is_open c.features ReferenceTypes))
  where
    never : (b : Bool) → (b && false) ≡ false
    never true = refl
    never false = refl

-- ---- labels

-- counted from the innermost: two blocks of different results, and the body without any
abbrev in_blocks : List Op → List Op
in_blocks ops = block (Val I64) ∷ block (Val I32) ∷ ops

abbrev blocks_open : List MaybeType → Bool → List Frame
blocks_open own dead = frame Block (Val I32) own dead ∷ frame Block (Val I64) [] false ∷ frame Block to_nothing [] false ∷ []

-- the inner block's result
to_inner : Open to_nothing (in_blocks (i32_const ∷ br 0 ∷ [])) (blocks_open [] true)
to_inner = refl

to_inner_other : Refused to_nothing (in_blocks (i64_const ∷ br 0 ∷ []))
to_inner_other = refl

-- the outer block's
to_outer : Open to_nothing (in_blocks (i64_const ∷ br 1 ∷ [])) (blocks_open [] true)
to_outer = refl

to_outer_other : Refused to_nothing (in_blocks (i32_const ∷ br 1 ∷ []))
to_outer_other = refl

-- the body's own label is the last
to_body : Open to_nothing (in_blocks (br 2 ∷ [])) (blocks_open [] true)
to_body = refl

-- and there is none behind it
to_no_label : Refused to_nothing (in_blocks (unreachable ∷ br 3 ∷ []))
to_no_label = refl

-- with fewer operands than the label wants, though the frame outside has one
to_inner_without : Refused to_nothing (i32_const ∷ block (Val I32) ∷ br 0 ∷ [])
to_inner_without = refl

-- to a loop with its parameters, of a loop from i32 to i64
to_loop : Open to_nothing (i32_const ∷ loop i32_to_i64 ∷ br 0 ∷ []) (frame Loop i32_to_i64 [] true ∷ frame Block to_nothing [] false ∷ [])
to_loop = refl

to_loop_by_results : Refused to_nothing (i32_const ∷ loop i32_to_i64 ∷ drops ∷ i64_const ∷ br 0 ∷ [])
to_loop_by_results = refl

-- but the loop's end gives its results
loop_gives_results : Done (Val I64) (i32_const ∷ loop i32_to_i64 ∷ drops ∷ i64_const ∷ end ∷ end ∷ []) (Known I64 ∷ [])
loop_gives_results = refl

-- ---- `br_if`

-- it takes its test, and gives back what the label wants
br_if_keeps : Open (Val I64) (i32_const ∷ i64_const ∷ i32_const ∷ br_if 0 ∷ []) (frame Block (Val I64) (Known I64 ∷ Known I32 ∷ []) false ∷ [])
br_if_keeps = refl

-- the test lies on top
br_if_test_below : Refused (Val I64) (i32_const ∷ i64_const ∷ br_if 0 ∷ [])
br_if_test_below = refl

-- in dead code what it gives is known
br_if_dead : Open (Val I64) (unreachable ∷ br_if 0 ∷ []) (frame Block (Val I64) (Known I64 ∷ []) true ∷ [])
br_if_dead = refl

-- a label that isn't there
br_if_no_label : Refused to_nothing (i32_const ∷ br_if 1 ∷ [])
br_if_no_label = refl

-- around a loop, as long as the test says
br_if_to_loop : Done to_nothing (i32_const ∷ loop i32_to_i64 ∷ i32_const ∷ br_if 0 ∷ drops ∷ i64_const ∷ end ∷ drops ∷ end ∷ []) []
br_if_to_loop = refl

-- ---- `br_table`

-- targets of the same types, one of them a loop's parameters
table_of_two : Open (Val I64) (i64_const ∷ loop i64_to_i64 ∷ i32_const ∷ br_table (0 ∷ 1 ∷ 0 ∷ []) 1 ∷ []) (frame Loop i64_to_i64 [] true ∷ frame Block (Val I64) [] false ∷ [])
table_of_two = refl

-- no targets, and a default
table_of_default : Leaves (i32_const ∷ br_table [] 0 ∷ []) [] true
table_of_default = refl

-- a default that isn't there
table_no_default : Refused to_nothing (i32_const ∷ br_table [] 1 ∷ [])
table_no_default = refl

-- each target exists, also where all types are unknown
table_no_target : Refused to_nothing (unreachable ∷ br_table (0 ∷ 1 ∷ []) 0 ∷ [])
table_no_target = refl

-- without its test
table_without_test : Refused to_nothing (br_table (0 ∷ []) 0 ∷ [])
table_without_test = refl

-- with another one
table_test : Refused to_nothing (i64_const ∷ br_table (0 ∷ []) 0 ∷ [])
table_test = refl

-- of different types, in dead code: what is known has to fit each
table_of_known : Refused to_nothing (in_blocks (unreachable ∷ i32_const ∷ i32_const ∷ br_table (1 ∷ []) 0 ∷ []))
table_of_known = refl

-- of different counts, though all is unknown
table_of_fewer : Refused to_nothing (in_blocks (unreachable ∷ br_table (2 ∷ []) 0 ∷ []))
table_of_fewer = refl

table_of_more : Refused to_nothing (in_blocks (unreachable ∷ br_table (0 ∷ []) 2 ∷ []))
table_of_more = refl

-- an incomplete table, also in dead code
table_incomplete : Refused to_nothing (i32_const ∷ a_br_table (0 ∷ []) false 0 ∷ [])
table_incomplete = refl

table_incomplete_dead : Refused to_nothing (unreachable ∷ a_br_table [] false 0 ∷ [])
table_incomplete_dead = refl

-- ---- `return`

-- out of a block of other results: with the body's, and not the block's
return_from_block : Done (Val I32) (block (Val I64) ∷ i32_const ∷ a_return ∷ end ∷ drops ∷ i32_const ∷ end ∷ []) (Known I32 ∷ [])
return_from_block = refl

-- the block's result isn't the body's
return_by_block : Refused (Val I32) (block (Val I64) ∷ i64_const ∷ a_return ∷ [])
return_by_block = refl

-- past two frames, of which one is a loop with parameters
return_from_loop : Open to_nothing (block Empty ∷ i32_const ∷ loop i32_to_i64 ∷ a_return ∷ []) (frame Loop i32_to_i64 [] true ∷ frame Block Empty [] false ∷ frame Block to_nothing [] false ∷ [])
return_from_loop = refl

-- a body without results, at once
return_at_once : Leaves (a_return ∷ []) [] true
return_at_once = refl

-- ---- `if`

-- with `else`, parameters and results, the test above the parameters
if_else : Done (Val I64) (i32_const ∷ i32_const ∷ an_if i32_to_i64 ∷ drops ∷ i64_const ∷ an_else ∷ drops ∷ i64_const ∷ end ∷ end ∷ []) (Known I64 ∷ [])
if_else = refl

-- what it opens has the parameters
if_opens : Open to_nothing (i64_const ∷ i32_const ∷ an_if i64_to_i64 ∷ []) (frame If i64_to_i64 (Known I64 ∷ []) false ∷ frame Block to_nothing [] false ∷ [])
if_opens = refl

-- the test below them
if_test_below : Refused to_nothing (i32_const ∷ i64_const ∷ an_if i64_to_i64 ∷ [])
if_test_below = refl

-- the test alone
if_without_params : Refused to_nothing (i32_const ∷ an_if i32_to_i64 ∷ [])
if_without_params = refl

-- without `else`, from i32 to i64: its `end` is refused, and nothing before it
if_no_else : Refused to_nothing (i32_const ∷ i32_const ∷ an_if i32_to_i64 ∷ drops ∷ i64_const ∷ end ∷ [])
if_no_else = refl

if_no_else_before : Open to_nothing (i32_const ∷ i32_const ∷ an_if i32_to_i64 ∷ drops ∷ i64_const ∷ []) (frame If i32_to_i64 (Known I64 ∷ []) false ∷ frame Block to_nothing [] false ∷ [])
if_no_else_before = refl

-- from i64 to i64 it is accepted
if_of_same : Done (Val I64) (i64_const ∷ i32_const ∷ an_if i64_to_i64 ∷ end ∷ end ∷ []) (Known I64 ∷ [])
if_of_same = refl

-- `else` outside an `if`: in the body, and in a loop
else_in_body : Refused to_nothing (an_else ∷ [])
else_in_body = refl

else_in_loop : Refused to_nothing (loop Empty ∷ an_else ∷ [])
else_in_loop = refl

-- the second part is live and has the parameters, whatever became of the first
else_after_dead : Open to_nothing (i32_const ∷ i32_const ∷ an_if i32_to_i64 ∷ unreachable ∷ an_else ∷ []) (frame Else i32_to_i64 (Known I32 ∷ []) false ∷ frame Block to_nothing [] false ∷ [])
else_after_dead = refl

-- a branch to an `if`, from either part, carries its results
br_to_if : Done (Val I64) (i32_const ∷ i32_const ∷ an_if i32_to_i64 ∷ i64_const ∷ br 0 ∷ an_else ∷ i64_const ∷ br 0 ∷ end ∷ end ∷ []) (Known I64 ∷ [])
br_to_if = refl

-- ---- block types

-- in dead code a block, a loop and an `if` are live
live_in_dead : Open to_nothing (unreachable ∷ block Empty ∷ []) (frame Block Empty [] false ∷ frame Block to_nothing [] true ∷ [])
live_in_dead = refl

add_in_live : Refused to_nothing (unreachable ∷ block (Val I32) ∷ i32_add ∷ [])
add_in_live = refl

loop_in_dead : Open to_nothing (unreachable ∷ loop i32_to_i64 ∷ []) (frame Loop i32_to_i64 (Known I32 ∷ []) false ∷ frame Block to_nothing [] true ∷ [])
loop_in_dead = refl

if_in_dead : Open to_nothing (unreachable ∷ an_if i32_to_i64 ∷ []) (frame If i32_to_i64 (Known I32 ∷ []) false ∷ frame Block to_nothing [] true ∷ [])
if_in_dead = refl

-- a type that isn't there, a float without `floats`, and a function type without `multi_value`
block_unknown_type : Refused to_nothing (unreachable ∷ block (FuncType 3) ∷ [])
block_unknown_type = refl

loop_unknown_type : Refused to_nothing (unreachable ∷ loop (FuncType 3) ∷ [])
loop_unknown_type = refl

if_unknown_type : Refused to_nothing (unreachable ∷ an_if (FuncType 3) ∷ [])
if_unknown_type = refl

block_no_floats : Refused to_nothing (block (Val F32) ∷ [])
block_no_floats = refl

loop_no_floats : Refused to_nothing (loop (Val F32) ∷ [])
loop_no_floats = refl

if_no_floats : Refused to_nothing (i32_const ∷ an_if (Val F32) ∷ [])
if_no_floats = refl

block_closed : RefusedUnder (under reference_types false) Empty (block to_nothing ∷ [])
block_closed = refl

loop_closed : RefusedUnder (under reference_types false) Empty (loop to_nothing ∷ [])
loop_closed = refl

if_closed : RefusedUnder (under reference_types false) Empty (i32_const ∷ an_if to_nothing ∷ [])
if_closed = refl

-- a shared function names shared types alone
block_not_shared : RefusedUnder (under multi_value true) Empty (block to_nothing ∷ [])
block_not_shared = refl

loop_not_shared : RefusedUnder (under multi_value true) Empty (loop to_nothing ∷ [])
loop_not_shared = refl

if_not_shared : RefusedUnder (under multi_value true) Empty (i32_const ∷ an_if to_nothing ∷ [])
if_not_shared = refl

loop_shared : OpenUnder (under multi_value true) Empty (i32_const ∷ loop i32_to_i64 ∷ []) (frame Loop i32_to_i64 (Known I32 ∷ []) false ∷ frame Block Empty [] false ∷ [])
loop_shared = refl

-- ---- a module whose check writes f64 for f32: the type in its canonical form is what counts

abbrev rewritten : ValType → ValType
rewritten F32 = F64
rewritten t = t

abbrev writing : Context
writing = record cx { of_module = record (context_of declared) { canonical_type = λ f t. Some (rewritten t) } }

typed_select_written : OpenUnder writing to_nothing (unreachable ∷ typed_select F32 ∷ []) (frame Block to_nothing (Known F64 ∷ []) true ∷ [])
typed_select_written = refl

-- the operands too: an f64 for f32
typed_select_wants_written : OpenUnder writing to_nothing (unreachable ∷ typed_select F64 ∷ i32_const ∷ typed_select F32 ∷ []) (frame Block to_nothing (Known F64 ∷ []) true ∷ [])
typed_select_wants_written = refl

block_written : OpenUnder writing to_nothing (block (Val F32) ∷ []) (frame Block (Val F64) [] false ∷ frame Block to_nothing [] false ∷ [])
block_written = refl

loop_written : OpenUnder writing to_nothing (loop (Val F32) ∷ []) (frame Loop (Val F64) [] false ∷ frame Block to_nothing [] false ∷ [])
loop_written = refl

if_written : OpenUnder writing to_nothing (i32_const ∷ an_if (Val F32) ∷ []) (frame If (Val F64) [] false ∷ frame Block to_nothing [] false ∷ [])
if_written = refl
