-- Small bodies of the table's calls and operators on globals, and their rows, computed. What is expected
-- is what the standard's rules say of them, and for shared functions and globals the proposal
-- shared-everything-threads.
use Rattle.std.proofs.Common.{◌≡◌, ◌-◌, ℕ, Bool, true, false, List, [], ◌∷◌, map, Some, refl}
use Rattle.validate_resources.specs.Lists.{Declared}
use Rattle.validate_resources.specs.Named.{nothing_declared}
use Rattle.validate_resources.specs.declared.lists.FuncDecl.{FuncDecl}
use Rattle.validate_types.specs.Features.{tail_call}
use Rattle.validate_types.specs.declared.types.GlobalType.{GlobalType}
use Rattle.validate_visit.specs.declared.op.ControlOp.TheVariants.{GlobalGet, GlobalSet}
use Rattle.validate_visit.specs.declared.op.Op.{Op}
use Rattle.validate_visit.specs.declared.op.Op.TheVariants.{Control}
use Rattle.validation_rules.specs.Context.{SubType, ValType, I32, I64, F32, BlockType, Empty, Val, FuncType, Context}
use Rattle.validation_rules.specs.Fits.{MaybeType, Known}
use Rattle.validation_rules.specs.Rows.{Head, Block, Loop, body_head}
use Rattle.validation_rules.specs.Static.{Frame, open_state}
use Rattle.validation_rules.specs.Operators.{row_operator, plain_row, operator}
use Rattle.validation_rules.proofs.Refusals.{IsRefusedAtLast}
use Rattle.validation_rules.proofs.ExampleWords.{func_type, shared_func_type, to_nothing, every, within}
use Rattle.validation_rules.proofs.ExampleWords.{unreachable, block, loop, end, call, return_call, drops}
use Rattle.validation_rules.proofs.ExampleWords.{i32_const, i64_const, frame, after_all, DoneUnder, LeavesUnder}
use Rattle.validation_rules.proofs.ExampleWords.{AllRefusedUnder}

-- ---- a module of six types, seven functions and three globals: function i has type i, and the last one
-- has type 2

abbrev types : List SubType
types = func_type [] [] ∷ func_type (I32 ∷ I64 ∷ []) (F32 ∷ []) ∷ func_type [] (I32 ∷ []) ∷ func_type [] (I64 ∷ []) ∷ func_type [] (I32 ∷ I64 ∷ []) ∷ shared_func_type [] [] ∷ []

abbrev functions : List FuncDecl
functions = map (λ i. record { type_index = i; referenced = false; exact = false }) (0 ∷ 1 ∷ 2 ∷ 3 ∷ 4 ∷ 5 ∷ 2 ∷ [])

abbrev a_global : ValType → Bool → Bool → GlobalType
a_global t mutable shared = record { content_type = t; mutable = mutable; shared = shared }

abbrev globals : List GlobalType
globals = a_global I32 false false ∷ a_global I64 true false ∷ a_global F32 true true ∷ []

abbrev declared : Declared
declared = record nothing_declared { types = types; functions = functions; globals = globals }

-- with these proposals on
abbrev under : ℕ → Bool → Context
under bits shared = within declared bits shared

abbrev cx : Context
cx = under every false

-- in a shared function
abbrev in_shared : Context
in_shared = under every true

abbrev to_i32_and_i64 : BlockType
to_i32_and_i64 = FuncType 4

-- ---- operators

abbrev global_get : ℕ → Op
global_get i = Control (GlobalGet i)

abbrev global_set : ℕ → Op
global_set i = Control (GlobalSet i)

-- ---- outcomes

abbrev Refused : BlockType → List Op → Type 0
Refused ty ops = IsRefusedAtLast cx ty ops

abbrev AllRefused : BlockType → List (List Op) → Type 0
AllRefused ty bodies = AllRefusedUnder cx ty bodies

abbrev Done : BlockType → List Op → List MaybeType → Type 0
Done ty ops left = DoneUnder cx ty ops left

-- accepted so far, with these frames open
abbrev Open : BlockType → List Op → List Frame → Type 0
Open ty ops frames = after_all cx ty ops ≡ Some (open_state frames)

-- with these operands in the outermost frame, the top first
abbrev Leaves : BlockType → List Op → List MaybeType → Bool → Type 0
Leaves ty ops own dead = LeavesUnder cx ty ops own dead

-- each row's premise in a body of this type
abbrev premises : Context → BlockType → List Op → List Bool
premises c ty ops = map (λ op. ((operator c op).row (body_head ty ∷ [])).premise) ops

-- ---- rows: what each operator wants and pushes, and nothing else

call_of_two : operator cx (call 1) ≡ row_operator (plain_row (I32 ∷ I64 ∷ []) (F32 ∷ []))
call_of_two = refl

call_of_none : operator cx (call 4) ≡ row_operator (plain_row [] (I32 ∷ I64 ∷ []))
call_of_none = refl

get_of_each : map (operator cx) (global_get 0 ∷ global_get 1 ∷ global_get 2 ∷ []) ≡ map (λ t. row_operator (plain_row [] (t ∷ []))) (I32 ∷ I64 ∷ F32 ∷ [])
get_of_each = refl

set_of_mutable : map (operator cx) (global_set 1 ∷ global_set 2 ∷ []) ≡ map (λ t. row_operator (plain_row (t ∷ []) [])) (I64 ∷ F32 ∷ [])
set_of_mutable = refl

-- a tail call pushes nothing: its results go to the outermost label, whatever it took
abbrev inside : List Head
inside = record { kind = Loop; block_type = Empty } ∷ record { kind = Block; block_type = Val I64 } ∷ body_head (Val F32) ∷ []

tail_call_of_two : (operator cx (return_call 1)).row inside ≡ record (plain_row (I32 ∷ I64 ∷ []) []) { targets = record { depth = 2; carried = λ found. F32 ∷ [] } ∷ []; ends_live = true }
tail_call_of_two = refl

-- ---- `call`

-- the operands go, in the order of the parameters, and what lies below them stays
call_takes : Leaves to_nothing (i64_const ∷ i32_const ∷ i64_const ∷ call 1 ∷ []) (Known F32 ∷ Known I64 ∷ []) false
call_takes = refl

-- with one operand, or none
call_without : AllRefused to_nothing ((i64_const ∷ call 1 ∷ []) ∷ (i32_const ∷ call 1 ∷ []) ∷ (call 1 ∷ []) ∷ [])
call_without = refl

-- another type below, and on top, and both
call_of_other : AllRefused to_nothing ((i64_const ∷ i64_const ∷ call 1 ∷ []) ∷ (i32_const ∷ i32_const ∷ call 1 ∷ []) ∷ (i64_const ∷ i32_const ∷ call 1 ∷ []) ∷ [])
call_of_other = refl

-- the results, the last on top
call_gives : Leaves to_nothing (call 4 ∷ []) (Known I64 ∷ Known I32 ∷ []) false
call_gives = refl

call_gives_params : Done (Val F32) (call 4 ∷ call 1 ∷ end ∷ []) (Known F32 ∷ [])
call_gives_params = refl

-- the seventh function has the third type
call_by_its_type : Leaves to_nothing (call 6 ∷ []) (Known I32 ∷ []) false
call_by_its_type = refl

-- there is no eighth, also in dead code
call_unknown : AllRefused to_nothing ((call 7 ∷ []) ∷ (unreachable ∷ call 7 ∷ []) ∷ (return_call 7 ∷ []) ∷ (unreachable ∷ return_call 7 ∷ []) ∷ [])
call_unknown = refl

-- in dead code, with what is known and what isn't
call_in_dead : Leaves to_nothing (unreachable ∷ call 1 ∷ []) (Known F32 ∷ []) true
call_in_dead = refl

call_of_known : Leaves to_nothing (unreachable ∷ i64_const ∷ call 1 ∷ []) (Known F32 ∷ []) true
call_of_known = refl

call_of_other_known : Refused to_nothing (unreachable ∷ i32_const ∷ call 1 ∷ [])
call_of_other_known = refl

-- ---- `return_call`

-- the parameters, as `call`; what lies below them goes too
tail_call_takes : Leaves (Val F32) (i64_const ∷ i32_const ∷ i64_const ∷ return_call 1 ∷ []) [] true
tail_call_takes = refl

tail_call_refused : AllRefused (Val F32) ((i64_const ∷ i32_const ∷ return_call 1 ∷ []) ∷ (i64_const ∷ return_call 1 ∷ []) ∷ (return_call 1 ∷ []) ∷ (i32_const ∷ i32_const ∷ return_call 1 ∷ []) ∷ (unreachable ∷ i32_const ∷ return_call 1 ∷ []) ∷ [])
tail_call_refused = refl

-- it gives the body's results, whatever its operands
tail_call_gives : Done (Val F32) (i32_const ∷ i64_const ∷ return_call 1 ∷ end ∷ []) (Known F32 ∷ [])
tail_call_gives = refl

tail_call_gives_two : Done to_i32_and_i64 (return_call 4 ∷ end ∷ []) (Known I64 ∷ Known I32 ∷ [])
tail_call_gives_two = refl

-- results of another type, fewer, and more; also in dead code, and where operands would make up for them
gives_other : AllRefused (Val I32) ((return_call 3 ∷ []) ∷ (i32_const ∷ return_call 3 ∷ []) ∷ (unreachable ∷ return_call 3 ∷ []) ∷ [])
gives_other = refl

gives_fewer : AllRefused to_i32_and_i64 ((return_call 2 ∷ []) ∷ (return_call 3 ∷ []) ∷ (return_call 0 ∷ []) ∷ (i32_const ∷ return_call 3 ∷ []) ∷ (unreachable ∷ return_call 3 ∷ []) ∷ [])
gives_fewer = refl

gives_more : AllRefused (Val I32) ((return_call 4 ∷ []) ∷ (unreachable ∷ return_call 4 ∷ []) ∷ []) × Refused (Val I64) (return_call 4 ∷ [])
gives_more = (refl, refl)

gives_for_none : Refused to_nothing (return_call 2 ∷ [])
gives_for_none = refl

-- inside a block the body's results count, and not the block's
from_block : Done (Val I32) (block (Val I64) ∷ return_call 2 ∷ end ∷ drops ∷ i32_const ∷ end ∷ []) (Known I32 ∷ [])
from_block = refl

by_block : AllRefused (Val I32) ((block (Val I64) ∷ return_call 3 ∷ []) ∷ (block (Val I64) ∷ loop Empty ∷ return_call 3 ∷ []) ∷ [])
by_block = refl

-- of two blocks and a loop too
from_loop : Open (Val I32) (block (Val I64) ∷ block (Val F32) ∷ loop Empty ∷ return_call 2 ∷ []) (frame Loop Empty [] true ∷ frame Block (Val F32) [] false ∷ frame Block (Val I64) [] false ∷ frame Block (Val I32) [] false ∷ [])
from_loop = refl

-- what follows it is dead: it may want what isn't there
dead_behind : Leaves to_nothing (return_call 0 ∷ call 1 ∷ []) (Known F32 ∷ []) true
dead_behind = refl

-- it needs `tail_call` alone, and `call` needs nothing
tail_call_closed : AllRefusedUnder (under (every - tail_call) false) to_nothing ((return_call 0 ∷ []) ∷ (unreachable ∷ return_call 0 ∷ []) ∷ [])
tail_call_closed = refl

tail_call_open : DoneUnder (under tail_call false) (Val F32) (i32_const ∷ i64_const ∷ return_call 1 ∷ end ∷ []) (Known F32 ∷ [])
tail_call_open = refl

no_proposal : DoneUnder (under 0 false) (Val I64) (call 0 ∷ call 4 ∷ global_set 1 ∷ drops ∷ global_get 1 ∷ end ∷ []) (Known I64 ∷ [])
no_proposal = refl

-- ---- globals

gets : Leaves to_nothing (global_get 0 ∷ global_get 1 ∷ global_get 2 ∷ []) (Known F32 ∷ Known I64 ∷ Known I32 ∷ []) false
gets = refl

sets : Leaves to_nothing (i32_const ∷ i64_const ∷ global_set 1 ∷ global_get 2 ∷ global_set 2 ∷ []) (Known I32 ∷ []) false
sets = refl

-- with an operand of another type, and without one
set_of_other : AllRefused to_nothing ((i32_const ∷ global_set 1 ∷ []) ∷ (i64_const ∷ global_set 2 ∷ []) ∷ (global_set 1 ∷ []) ∷ (unreachable ∷ i32_const ∷ global_set 1 ∷ []) ∷ [])
set_of_other = refl

-- an immutable one, also in dead code
set_of_immutable : AllRefused to_nothing ((i32_const ∷ global_set 0 ∷ []) ∷ (unreachable ∷ global_set 0 ∷ []) ∷ [])
set_of_immutable = refl

-- there is no fourth
global_unknown : AllRefused to_nothing ((global_get 3 ∷ []) ∷ (i32_const ∷ global_set 3 ∷ []) ∷ (unreachable ∷ global_get 3 ∷ []) ∷ (unreachable ∷ global_set 3 ∷ []) ∷ [])
global_unknown = refl

globals_in_dead : Leaves to_nothing (unreachable ∷ global_set 1 ∷ global_get 1 ∷ []) (Known I64 ∷ []) true
globals_in_dead = refl

-- ---- a shared function names shared globals and functions alone

abbrev on_globals : List Op
on_globals = global_get 0 ∷ global_get 1 ∷ global_get 2 ∷ global_set 1 ∷ global_set 2 ∷ []

abbrev on_functions : List Op
on_functions = call 0 ∷ call 1 ∷ call 5 ∷ return_call 0 ∷ return_call 5 ∷ []

shared_globals : premises in_shared (FuncType 5) on_globals ≡ false ∷ false ∷ true ∷ false ∷ true ∷ []
shared_globals = refl

shared_functions : premises in_shared (FuncType 5) on_functions ≡ false ∷ false ∷ true ∷ false ∷ true ∷ []
shared_functions = refl

-- another one names all
all_globals : premises cx to_nothing on_globals ≡ map (λ op. true) on_globals
all_globals = refl

all_functions : premises cx to_nothing on_functions ≡ map (λ op. true) on_functions
all_functions = refl

shared_body : DoneUnder in_shared (FuncType 5) (call 5 ∷ global_get 2 ∷ global_set 2 ∷ return_call 5 ∷ end ∷ []) []
shared_body = refl

shared_bodies : AllRefusedUnder in_shared (FuncType 5) ((call 0 ∷ []) ∷ (return_call 0 ∷ []) ∷ (global_get 1 ∷ []) ∷ (i64_const ∷ global_set 1 ∷ []) ∷ [])
shared_bodies = refl
