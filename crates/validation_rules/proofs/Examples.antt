-- Small bodies, computed: good ones are accepted and bad ones refused. What is expected is what the
-- standard's rules say of them.
use Rattle.std.proofs.Common.{◌≡◌, ℕ, pos, Bool, true, false, List, [], ◌∷◌, Option, Some, None, refl, slice_get}
use Rattle.validate_resources.specs.Context.{is_same_number_or_vector}
use Rattle.validate_resources.specs.Lists.{Declared, context_of}
use Rattle.validate_resources.specs.Named.{nothing_declared}
use Rattle.validate_visit.specs.declared.numbers.IntegerType.TheVariants.{I32 as IntegerI32, I64 as IntegerI64}
use Rattle.validate_visit.specs.declared.numeric.IntegerBinaryOp.TheVariants.{Add}
use Rattle.validate_visit.specs.declared.op.Op.{Op}
use Rattle.validate_visit.specs.declared.op.Op.TheVariants.{Control, Numeric}
use Rattle.validate_visit.specs.declared.op.ControlOp.TheVariants.{Nop, LocalTee}
use Rattle.validate_visit.specs.declared.op.NumericOp.TheVariants.{IntegerBinary, I32Const}
use Rattle.validation_rules.specs.Context.{Signature, SubType, ValType, I32, I64, BlockType, Empty, Val, FuncType, Context}
use Rattle.validation_rules.specs.Fits.{MaybeType, Bottom, Known}
use Rattle.validation_rules.specs.Rows.{Block, Else, Loop, TryTable, LegacyCatch, LegacyCatchAll, Operator}
use Rattle.validation_rules.specs.Static.{Frame, State, open_state, state_before, start, frame_count, operand_count, operands_found}
use Rattle.validation_rules.specs.Pops.{frame_after_pops}
use Rattle.validation_rules.specs.Operators.{operators}
use Rattle.validation_rules.proofs.Refusals.{IsRefusedAtLast}
use Rattle.validation_rules.proofs.ExampleWords.{func_type, to_nothing, every, unreachable, block, loop, an_if}
use Rattle.validation_rules.proofs.ExampleWords.{an_else, end, br, br_if, br_table, a_return, drops, local_get}
use Rattle.validation_rules.proofs.ExampleWords.{local_set, i32_const, i64_const, i32_eqz, i32_add, catch}
use Rattle.validation_rules.proofs.ExampleWords.{try_table, throw, legacy_try, legacy_catch, legacy_catch_all}
use Rattle.validation_rules.proofs.ExampleWords.{delegate, rethrow, frame, after_all, DoneUnder, OpenUnder}

-- ---- a module of five types and three tags, and a function with two locals of which the first is set at entry

abbrev signature : List ValType → List ValType → Signature
signature params results = record { params = params; results = results }

abbrev types : List SubType
types =
    func_type [] []
    ∷ func_type (I32 ∷ []) []
    ∷ func_type (I32 ∷ []) (I32 ∷ [])
    ∷ func_type (I32 ∷ I64 ∷ []) (I64 ∷ I32 ∷ [])
    ∷ func_type (I32 ∷ I64 ∷ []) []
    ∷ []

-- exceptions carry an i32, nothing, or an i32 and an i64
abbrev declared : Declared
declared = record nothing_declared { types = types; tags = 1 ∷ 0 ∷ 4 ∷ [] }

-- from i32 to nothing, from i32 to i32, and two in and out
abbrev takes_one : BlockType
takes_one = FuncType 1

abbrev one_to_one : BlockType
one_to_one = FuncType 2

abbrev two_to_two : BlockType
two_to_two = FuncType 3

-- with these proposals on
abbrev under : ℕ → Context
under bits = record { of_module = context_of declared; features = record { 0 = bits }; shared = false; locals = I32 ∷ I64 ∷ []; set_at_entry = true ∷ false ∷ [] }

abbrev cx : Context
cx = under every

-- ---- operators

abbrev i64_add : Op
i64_add = Numeric (IntegerBinary IntegerI64 Add)

abbrev local_tee : ℕ → Op
local_tee i = Control (LocalTee i)

abbrev nop : Op
nop = Control Nop

-- ---- outcomes

-- the row of the last operator doesn't hold, and those of all before it do
abbrev Refused : BlockType → List Op → Type 0
Refused ty ops = IsRefusedAtLast cx ty ops

abbrev Done : BlockType → List Op → List MaybeType → Type 0
Done ty ops left = DoneUnder cx ty ops left

-- accepted so far, with these frames open
abbrev Open : BlockType → List Op → List Frame → Type 0
Open ty ops frames = OpenUnder cx ty ops frames

-- ---- operators of the table

-- the body of a function from i32 to i32 that adds, place by place
abbrev adding : List Operator
adding = operators cx (local_get 0 ∷ Numeric (I32Const (pos 1)) ∷ Numeric (IntegerBinary IntegerI32 Add) ∷ end ∷ [])

abbrev body_frame : List MaybeType → Frame
body_frame own = frame Block one_to_one own false

abbrev standing : List MaybeType → Option State
standing own = Some (record { frames = body_frame own ∷ []; left = [] })

adding_0 : state_before cx adding (start one_to_one) 0 ≡ standing []
adding_0 = refl

adding_1 : state_before cx adding (start one_to_one) 1 ≡ standing (Known I32 ∷ [])
adding_1 = refl

adding_2 : state_before cx adding (start one_to_one) 2 ≡ standing (Known I32 ∷ Known I32 ∷ [])
adding_2 = refl

adding_3 : state_before cx adding (start one_to_one) 3 ≡ standing (Known I32 ∷ [])
adding_3 = refl

adding_4 : state_before cx adding (start one_to_one) 4 ≡ Some (record { frames = []; left = Known I32 ∷ [] })
adding_4 = refl

-- there is no place behind the last
adding_5 : state_before cx adding (start one_to_one) 5 ≡ None
adding_5 = refl

-- operands and frames, counted
abbrev heights_of : Option State → Option (ℕ × ℕ)
heights_of None = None
heights_of (Some s) = Some (operand_count s, frame_count s)

heights_0 : heights_of (state_before cx adding (start one_to_one) 0) ≡ Some (0, 1)
heights_0 = refl

heights_1 : heights_of (state_before cx adding (start one_to_one) 1) ≡ Some (1, 1)
heights_1 = refl

heights_2 : heights_of (state_before cx adding (start one_to_one) 2) ≡ Some (2, 1)
heights_2 = refl

heights_3 : heights_of (state_before cx adding (start one_to_one) 3) ≡ Some (1, 1)
heights_3 = refl

heights_4 : heights_of (state_before cx adding (start one_to_one) 4) ≡ Some (1, 0)
heights_4 = refl

-- nothing to add
add_at_once : Refused to_nothing (i32_add ∷ [])
add_at_once = refl

-- one operand short
add_one : Refused to_nothing (i32_const ∷ i32_add ∷ [])
add_one = refl

-- one operand of another type, on top and below it
add_wrong_top : Refused to_nothing (i32_const ∷ i64_const ∷ i32_add ∷ [])
add_wrong_top = refl

add_wrong_below : Refused to_nothing (i64_const ∷ i32_const ∷ i32_add ∷ [])
add_wrong_below = refl

-- the rows of the two operators before it hold
add_wrong_before : Open to_nothing (i32_const ∷ i64_const ∷ []) (frame Block to_nothing (Known I64 ∷ Known I32 ∷ []) false ∷ [])
add_wrong_before = refl

-- operands below those that are expected stay
add_above : Open to_nothing (i64_const ∷ i32_const ∷ i32_const ∷ i32_add ∷ []) (frame Block to_nothing (Known I32 ∷ Known I64 ∷ []) false ∷ [])
add_above = refl

test_gives_i32 : Open to_nothing (i32_const ∷ i32_eqz ∷ []) (frame Block to_nothing (Known I32 ∷ []) false ∷ [])
test_gives_i32 = refl

drop_at_once : Refused to_nothing (drops ∷ [])
drop_at_once = refl

drop_any : Open to_nothing (i64_const ∷ i32_const ∷ drops ∷ []) (frame Block to_nothing (Known I64 ∷ []) false ∷ [])
drop_any = refl

nop_leaves : Open to_nothing (i32_const ∷ nop ∷ []) (frame Block to_nothing (Known I32 ∷ []) false ∷ [])
nop_leaves = refl

-- `end` asks for the results and for nothing else
end_of_nothing : Done to_nothing (end ∷ []) []
end_of_nothing = refl

end_with_more : Refused to_nothing (i32_const ∷ end ∷ [])
end_with_more = refl

end_without : Refused one_to_one (end ∷ [])
end_without = refl

end_with_two : Refused one_to_one (i32_const ∷ i32_const ∷ end ∷ [])
end_with_two = refl

end_of_other : Refused one_to_one (i64_const ∷ end ∷ [])
end_of_other = refl

end_of_one : Done (Val I64) (i64_const ∷ end ∷ []) (Known I64 ∷ [])
end_of_one = refl

-- two results, the last on top
end_of_two : Done two_to_two (i64_const ∷ i32_const ∷ end ∷ []) (Known I32 ∷ Known I64 ∷ [])
end_of_two = refl

end_of_two_turned : Refused two_to_two (i32_const ∷ i64_const ∷ end ∷ [])
end_of_two_turned = refl

-- nothing follows the outermost `end`
after_end : Refused to_nothing (end ∷ nop ∷ [])
after_end = refl

end_twice : Refused to_nothing (end ∷ end ∷ [])
end_twice = refl

-- ---- locals

get_missing : Refused to_nothing (local_get 2 ∷ [])
get_missing = refl

set_missing : Refused to_nothing (i32_const ∷ local_set 2 ∷ [])
set_missing = refl

tee_missing : Refused to_nothing (i32_const ∷ local_tee 2 ∷ [])
tee_missing = refl

get_set_at_entry : Open to_nothing (local_get 0 ∷ []) (frame Block to_nothing (Known I32 ∷ []) false ∷ [])
get_set_at_entry = refl

get_unset : Refused to_nothing (local_get 1 ∷ [])
get_unset = refl

-- it is set where `local.set` or `local.tee` has set it, and joins the frame's list once
set_then_get : after_all cx to_nothing (i64_const ∷ local_set 1 ∷ local_get 1 ∷ []) ≡ Some (record { frames = record (frame Block to_nothing (Known I64 ∷ []) false) { first_set = 1 ∷ [] } ∷ []; left = [] })
set_then_get = refl

tee_then_get : after_all cx to_nothing (i64_const ∷ local_tee 1 ∷ local_get 1 ∷ []) ≡ Some (record { frames = record (frame Block to_nothing (Known I64 ∷ Known I64 ∷ []) false) { first_set = 1 ∷ [] } ∷ []; left = [] })
tee_then_get = refl

set_twice : after_all cx to_nothing (i64_const ∷ local_tee 1 ∷ local_set 1 ∷ []) ≡ Some (record { frames = record (frame Block to_nothing [] false) { first_set = 1 ∷ [] } ∷ []; left = [] })
set_twice = refl

-- one that was set at entry joins no list
set_again : Open to_nothing (i32_const ∷ local_set 0 ∷ []) (frame Block to_nothing [] false ∷ [])
set_again = refl

set_wrong : Refused to_nothing (i32_const ∷ local_set 1 ∷ [])
set_wrong = refl

set_nothing : Refused to_nothing (local_set 0 ∷ [])
set_nothing = refl

-- ---- blocks

block_gives : Done (Val I32) (block (Val I32) ∷ i32_const ∷ end ∷ end ∷ []) (Known I32 ∷ [])
block_gives = refl

values_remain : Refused to_nothing (block Empty ∷ i32_const ∷ end ∷ [])
values_remain = refl

-- operands below a block aren't its own
below_block : Refused to_nothing (i32_const ∷ block Empty ∷ i32_eqz ∷ [])
below_block = refl

drop_below_block : Refused to_nothing (i32_const ∷ block Empty ∷ drops ∷ [])
drop_below_block = refl

-- but its parameters are, and they leave the frame outside it
block_takes : Open to_nothing (i32_const ∷ block takes_one ∷ []) (frame Block takes_one (Known I32 ∷ []) false ∷ frame Block to_nothing [] false ∷ [])
block_takes = refl

block_takes_two : Open to_nothing (i32_const ∷ i64_const ∷ block two_to_two ∷ []) (frame Block two_to_two (Known I64 ∷ Known I32 ∷ []) false ∷ frame Block to_nothing [] false ∷ [])
block_takes_two = refl

block_wants : Refused to_nothing (block takes_one ∷ [])
block_wants = refl

-- a local that a block has set is unset where the block ends, and still set in a block inside
set_in_block : Refused to_nothing (block Empty ∷ i64_const ∷ local_set 1 ∷ end ∷ local_get 1 ∷ [])
set_in_block = refl

set_inside_block : Open to_nothing (block Empty ∷ i64_const ∷ local_set 1 ∷ local_get 1 ∷ drops ∷ end ∷ []) (frame Block to_nothing [] false ∷ [])
set_inside_block = refl

set_outside_block : after_all cx to_nothing (i64_const ∷ local_set 1 ∷ block Empty ∷ local_get 1 ∷ []) ≡ Some (record { frames = frame Block Empty (Known I64 ∷ []) false ∷ record (frame Block to_nothing [] false) { first_set = 1 ∷ [] } ∷ []; left = [] })
set_outside_block = refl

-- ---- dead code

-- the frame's operands go, and anything is found below those that come
dead_add : Open to_nothing (unreachable ∷ i32_add ∷ []) (frame Block to_nothing (Known I32 ∷ []) true ∷ [])
dead_add = refl

operands_go : Open to_nothing (i64_const ∷ unreachable ∷ []) (frame Block to_nothing [] true ∷ [])
operands_go = refl

operands_gone : Open to_nothing (i64_const ∷ unreachable ∷ i32_add ∷ []) (frame Block to_nothing (Known I32 ∷ []) true ∷ [])
operands_gone = refl

-- own operands are found first, and they count
dead_one_own : Open to_nothing (unreachable ∷ i32_const ∷ i32_add ∷ []) (frame Block to_nothing (Known I32 ∷ []) true ∷ [])
dead_one_own = refl

dead_wrong_own : Refused to_nothing (unreachable ∷ i64_const ∷ i32_add ∷ [])
dead_wrong_own = refl

dead_drop : Open to_nothing (unreachable ∷ drops ∷ drops ∷ []) (frame Block to_nothing [] true ∷ [])
dead_drop = refl

dead_end : Done one_to_one (unreachable ∷ end ∷ []) (Known I32 ∷ [])
dead_end = refl

dead_end_of_two : Done two_to_two (unreachable ∷ i32_const ∷ end ∷ []) (Known I32 ∷ Known I64 ∷ [])
dead_end_of_two = refl

dead_end_of_other : Refused one_to_one (unreachable ∷ i64_const ∷ end ∷ [])
dead_end_of_other = refl

dead_end_with_more : Refused one_to_one (unreachable ∷ i32_const ∷ i32_const ∷ end ∷ [])
dead_end_with_more = refl

-- what lies below the frame is never found, and stays
dead_below : Open to_nothing (i32_const ∷ block (Val I64) ∷ unreachable ∷ i64_add ∷ []) (frame Block (Val I64) (Known I64 ∷ []) true ∷ frame Block to_nothing (Known I32 ∷ []) false ∷ [])
dead_below = refl

-- after the block the code is live again
live_again : Refused to_nothing (block Empty ∷ unreachable ∷ end ∷ i32_eqz ∷ [])
live_again = refl

-- a block opened in dead code is live
live_block : Refused to_nothing (unreachable ∷ block Empty ∷ i32_eqz ∷ [])
live_block = refl

live_block_takes : Open to_nothing (unreachable ∷ block takes_one ∷ []) (frame Block takes_one (Known I32 ∷ []) false ∷ frame Block to_nothing [] true ∷ [])
live_block_takes = refl

-- `local.get` asks that the local is set, also in dead code
dead_get_unset : Refused to_nothing (unreachable ∷ local_get 1 ∷ [])
dead_get_unset = refl

dead_set_in_block : Refused to_nothing (block Empty ∷ unreachable ∷ local_set 1 ∷ local_get 1 ∷ drops ∷ end ∷ local_get 1 ∷ [])
dead_set_in_block = refl

dead_set_inside : Open to_nothing (block Empty ∷ unreachable ∷ local_set 1 ∷ local_get 1 ∷ drops ∷ end ∷ []) (frame Block to_nothing [] false ∷ [])
dead_set_inside = refl

-- what pops find, one by one: own operands, then anything in a dead frame, nothing in a live one
abbrev dead_frame : Frame
dead_frame = frame Block Empty (Known I32 ∷ []) true

pops_in_dead : frame_after_pops cx (I32 ∷ I64 ∷ I64 ∷ []) dead_frame ≡ Some (frame Block Empty [] true)
pops_in_dead = refl

pops_in_live : frame_after_pops cx (I32 ∷ I64 ∷ []) (frame Block Empty (Known I32 ∷ []) false) ≡ None
pops_in_live = refl

pops_none : frame_after_pops cx [] dead_frame ≡ Some dead_frame
pops_none = refl

found_in_dead : operands_found 3 dead_frame ≡ Bottom ∷ Bottom ∷ Known I32 ∷ []
found_in_dead = refl

found_in_live : operands_found 3 (frame Block Empty (Known I32 ∷ []) false) ≡ Known I32 ∷ []
found_in_live = refl

-- ---- branches

branch_out : Done (Val I32) (i32_const ∷ br 0 ∷ end ∷ []) (Known I32 ∷ [])
branch_out = refl

branch_without : Refused (Val I32) (br 0 ∷ [])
branch_without = refl

-- a branch takes no more than the label's types, and the rest goes
branch_above : Done (Val I32) (i64_const ∷ i32_const ∷ br 0 ∷ end ∷ []) (Known I32 ∷ [])
branch_above = refl

branch_at_once : Open to_nothing (br 0 ∷ []) (frame Block to_nothing [] true ∷ [])
branch_at_once = refl

no_label : Refused to_nothing (br 1 ∷ [])
no_label = refl

no_label_in_dead : Refused to_nothing (unreachable ∷ br 1 ∷ [])
no_label_in_dead = refl

-- back to a loop with its parameters, not with its results
loops : Done to_nothing (i32_const ∷ loop takes_one ∷ br 0 ∷ end ∷ end ∷ []) []
loops = refl

loops_without : Refused to_nothing (i32_const ∷ loop takes_one ∷ drops ∷ br 0 ∷ [])
loops_without = refl

loops_without_results : Open to_nothing (loop (Val I32) ∷ br 0 ∷ []) (frame Loop (Val I32) [] true ∷ frame Block to_nothing [] false ∷ [])
loops_without_results = refl

loop_gives : Done (Val I32) (loop (Val I32) ∷ i32_const ∷ end ∷ end ∷ []) (Known I32 ∷ [])
loop_gives = refl

-- over a frame, out of it
branch_over : Done (Val I32) (block Empty ∷ i32_const ∷ br 1 ∷ end ∷ i32_const ∷ end ∷ []) (Known I32 ∷ [])
branch_over = refl

branch_if : Open (Val I32) (i32_const ∷ i32_const ∷ br_if 0 ∷ []) (frame Block (Val I32) (Known I32 ∷ []) false ∷ [])
branch_if = refl

branch_if_without_test : Refused (Val I32) (i32_const ∷ br_if 0 ∷ [])
branch_if_without_test = refl

returns_from_inside : Done (Val I32) (block Empty ∷ loop Empty ∷ i32_const ∷ a_return ∷ end ∷ end ∷ i32_const ∷ end ∷ []) (Known I32 ∷ [])
returns_from_inside = refl

returns_other : Refused (Val I32) (block Empty ∷ i64_const ∷ a_return ∷ [])
returns_other = refl

-- every label of a table wants what the default wants
table_counts : Refused to_nothing (block (Val I32) ∷ block Empty ∷ i32_const ∷ i32_const ∷ br_table (0 ∷ []) 1 ∷ [])
table_counts = refl

table_types : Refused to_nothing (block (Val I64) ∷ block (Val I32) ∷ i32_const ∷ i32_const ∷ br_table (1 ∷ []) 0 ∷ [])
table_types = refl

table_alike : Open to_nothing (block (Val I32) ∷ block (Val I32) ∷ i32_const ∷ i32_const ∷ br_table (1 ∷ 0 ∷ []) 0 ∷ []) (frame Block (Val I32) [] true ∷ frame Block (Val I32) [] false ∷ frame Block to_nothing [] false ∷ [])
table_alike = refl

table_no_label : Refused to_nothing (i32_const ∷ br_table (7 ∷ []) 0 ∷ [])
table_no_label = refl

-- in dead code labels of different types pass, where what is found is unknown
table_dead : Open to_nothing (block (Val I64) ∷ block (Val I32) ∷ unreachable ∷ br_table (1 ∷ []) 0 ∷ []) (frame Block (Val I32) [] true ∷ frame Block (Val I64) [] false ∷ frame Block to_nothing [] false ∷ [])
table_dead = refl

-- ---- `if`

if_with_else : Done (Val I32) (i32_const ∷ an_if (Val I32) ∷ i32_const ∷ an_else ∷ i32_const ∷ i32_eqz ∷ end ∷ end ∷ []) (Known I32 ∷ [])
if_with_else = refl

if_without_else : Refused to_nothing (i32_const ∷ an_if (Val I32) ∷ i32_const ∷ end ∷ [])
if_without_else = refl

-- also where the part is dead
if_without_else_dead : Refused to_nothing (i32_const ∷ an_if (Val I32) ∷ unreachable ∷ end ∷ [])
if_without_else_dead = refl

-- its parameters are its results
if_balanced : Done (Val I32) (i32_const ∷ i32_const ∷ an_if one_to_one ∷ i32_eqz ∷ end ∷ end ∷ []) (Known I32 ∷ [])
if_balanced = refl

if_without_test : Refused to_nothing (an_if Empty ∷ [])
if_without_test = refl

-- the second part has the parameters again
else_has_params : Open to_nothing (i32_const ∷ i32_const ∷ an_if one_to_one ∷ an_else ∷ []) (frame Else one_to_one (Known I32 ∷ []) false ∷ frame Block to_nothing [] false ∷ [])
else_has_params = refl

-- and is live
else_is_live : Open to_nothing (i32_const ∷ an_if (Val I32) ∷ unreachable ∷ an_else ∷ []) (frame Else (Val I32) [] false ∷ frame Block to_nothing [] false ∷ [])
else_is_live = refl

-- the first part has to give the results
else_without : Refused to_nothing (i32_const ∷ an_if (Val I32) ∷ an_else ∷ [])
else_without = refl

else_alone : Refused to_nothing (block Empty ∷ an_else ∷ [])
else_alone = refl

else_twice : Refused to_nothing (i32_const ∷ an_if Empty ∷ an_else ∷ an_else ∷ [])
else_twice = refl

-- a local that the first part has set isn't set in the second
set_in_part : Refused to_nothing (i32_const ∷ an_if Empty ∷ i64_const ∷ local_set 1 ∷ an_else ∷ local_get 1 ∷ [])
set_in_part = refl

if_ends : Open to_nothing (i32_const ∷ an_if Empty ∷ end ∷ []) (frame Block to_nothing [] false ∷ [])
if_ends = refl

-- none of these operators needs a proposal
without_proposals : DoneUnder (under 0) (Val I32) (nop ∷ local_get 0 ∷ local_tee 0 ∷ local_set 0 ∷ block Empty ∷ loop (Val I64) ∷ i32_const ∷ br_if 1 ∷ i32_const ∷ br_table [] 1 ∷ end ∷ drops ∷ end ∷ i32_const ∷ an_if Empty ∷ br 0 ∷ an_else ∷ unreachable ∷ end ∷ i32_const ∷ a_return ∷ end ∷ []) (Known I32 ∷ [])
without_proposals = refl

-- ---- exceptions

-- a clause's label is counted outside its own frame
clause_outside : Done to_nothing (block (Val I32) ∷ try_table Empty (catch 0 0 ∷ []) ∷ end ∷ i32_const ∷ end ∷ drops ∷ end ∷ []) []
clause_outside = refl

clause_too_far : Refused to_nothing (block (Val I32) ∷ try_table Empty (catch 0 1 ∷ []) ∷ [])
clause_too_far = refl

clause_no_label : Refused to_nothing (try_table Empty (catch 1 1 ∷ []) ∷ [])
clause_no_label = refl

-- each clause counts
second_clause : Refused to_nothing (block (Val I32) ∷ try_table Empty (catch 0 0 ∷ catch 0 1 ∷ []) ∷ [])
second_clause = refl

-- to a loop it carries the parameters
clause_to_loop : Open to_nothing (i32_const ∷ loop takes_one ∷ try_table Empty (catch 0 0 ∷ []) ∷ []) (frame TryTable Empty [] false ∷ frame Loop takes_one (Known I32 ∷ []) false ∷ frame Block to_nothing [] false ∷ [])
clause_to_loop = refl

throw_wants : Refused to_nothing (throw 0 ∷ [])
throw_wants = refl

throw_ends : Open to_nothing (i32_const ∷ throw 0 ∷ []) (frame Block to_nothing [] true ∷ [])
throw_ends = refl

-- a part starts with the tag's parameters
legacy : Done (Val I32) (legacy_try (Val I32) ∷ i32_const ∷ legacy_catch 0 ∷ end ∷ end ∷ []) (Known I32 ∷ [])
legacy = refl

catch_begins : Open to_nothing (legacy_try Empty ∷ legacy_catch 2 ∷ []) (frame LegacyCatch Empty (Known I64 ∷ Known I32 ∷ []) false ∷ frame Block to_nothing [] false ∷ [])
catch_begins = refl

catch_all_begins : Open to_nothing (legacy_try Empty ∷ legacy_catch 1 ∷ legacy_catch_all ∷ []) (frame LegacyCatchAll Empty [] false ∷ frame Block to_nothing [] false ∷ [])
catch_all_begins = refl

-- each part has to give the results
catch_without : Refused to_nothing (legacy_try (Val I32) ∷ legacy_catch 1 ∷ [])
catch_without = refl

catch_with_more : Refused to_nothing (legacy_try Empty ∷ i32_const ∷ legacy_catch 1 ∷ [])
catch_with_more = refl

catch_alone : Refused to_nothing (block Empty ∷ legacy_catch 1 ∷ [])
catch_alone = refl

catch_after_all : Refused to_nothing (legacy_try Empty ∷ legacy_catch_all ∷ legacy_catch 1 ∷ [])
catch_after_all = refl

catch_all_twice : Refused to_nothing (legacy_try Empty ∷ legacy_catch_all ∷ legacy_catch_all ∷ [])
catch_all_twice = refl

set_in_try : Refused to_nothing (legacy_try Empty ∷ i64_const ∷ local_set 1 ∷ legacy_catch 1 ∷ local_get 1 ∷ [])
set_in_try = refl

-- `delegate` closes the body of a `try`, and gives the results
delegates : Done (Val I32) (legacy_try (Val I32) ∷ i32_const ∷ delegate 0 ∷ end ∷ []) (Known I32 ∷ [])
delegates = refl

delegate_without : Refused to_nothing (legacy_try (Val I32) ∷ delegate 0 ∷ [])
delegate_without = refl

delegate_alone : Refused to_nothing (block Empty ∷ delegate 0 ∷ [])
delegate_alone = refl

delegate_after_catch : Refused to_nothing (legacy_try Empty ∷ legacy_catch 1 ∷ delegate 0 ∷ [])
delegate_after_catch = refl

delegate_no_label : Refused to_nothing (legacy_try Empty ∷ delegate 1 ∷ [])
delegate_no_label = refl

set_in_delegated : Refused to_nothing (legacy_try Empty ∷ i64_const ∷ local_set 1 ∷ delegate 0 ∷ local_get 1 ∷ [])
set_in_delegated = refl

-- `rethrow` names a part that caught
rethrows : Open to_nothing (legacy_try Empty ∷ legacy_catch 1 ∷ rethrow 0 ∷ []) (frame LegacyCatch Empty [] true ∷ frame Block to_nothing [] false ∷ [])
rethrows = refl

rethrow_outside : Refused to_nothing (legacy_try Empty ∷ rethrow 0 ∷ [])
rethrow_outside = refl

-- ---- an order in which i32 lies below i64: which way each rule asks it

abbrev tilted : ValType → ValType → Bool
tilted I32 I64 = true
tilted t u = is_same_number_or_vector t u

-- two types of functions, and two tags
abbrev tilted_context : Context
tilted_context = record {
  of_module = record { type_at = slice_get (func_type (I32 ∷ []) (I64 ∷ []) ∷ func_type (I64 ∷ []) (I32 ∷ []) ∷ []); type_of_id = λ i. None; type_index_of = λ i. None; type_id_of = λ i. None; is_referenced = λ i. false; has_exact_type = λ i. false; table_at = λ i. None; memory_at = λ i. None; global_at = λ i. None; tag_at = slice_get (signature (I32 ∷ []) [] ∷ signature (I64 ∷ []) [] ∷ []); element_at = λ i. None; data_count = None; below = tilted; is_shared = λ r. false; top_type = λ h. h; canonical_type = λ f t. None; canonical_ref = λ r. None; canonical_heap = λ h. None };
  features = record { 0 = every };
  shared = false;
  locals = [];
  set_at_entry = [];
}

-- what is found lies below what is expected, and what is pushed is the row's type
found_below : DoneUnder tilted_context (Val I64) (i32_const ∷ i64_const ∷ i64_add ∷ end ∷ []) (Known I64 ∷ [])
found_below = refl

found_above : IsRefusedAtLast tilted_context (Val I32) (i64_const ∷ i32_eqz ∷ [])
found_above = refl

-- results lie below those of the frame, which gives its own
result_below : DoneUnder tilted_context (Val I64) (i32_const ∷ end ∷ []) (Known I64 ∷ [])
result_below = refl

result_above : IsRefusedAtLast tilted_context (Val I32) (i64_const ∷ end ∷ [])
result_above = refl

-- the parameters of an `if` without `else` lie below its results
if_below : DoneUnder tilted_context (Val I64) (i32_const ∷ i32_const ∷ an_if (FuncType 0) ∷ end ∷ end ∷ []) (Known I64 ∷ [])
if_below = refl

if_above : IsRefusedAtLast tilted_context (Val I32) (i64_const ∷ i32_const ∷ an_if (FuncType 1) ∷ drops ∷ i32_const ∷ end ∷ [])
if_above = refl

-- what a clause carries lies below the types of its label
clause_below : after_all tilted_context (Val I64) (try_table Empty (catch 0 0 ∷ []) ∷ []) ≡ Some (open_state (frame TryTable Empty [] false ∷ frame Block (Val I64) [] false ∷ []))
clause_below = refl

clause_above : IsRefusedAtLast tilted_context (Val I32) (try_table Empty (catch 1 0 ∷ []) ∷ [])
clause_above = refl
