-- The table's operators on continuations, and small bodies of them, computed: what each row wants, gives and
-- carries to the labels of its handlers, and what each of its premises refuses. What is expected is what the
-- proposal "Stack Switching" says of them; that a shared function names shared continuations alone is that of
-- shared-everything threads.
use Rattle.std.proofs.Common.{◌≡◌, ◌-◌, ℕ, Bool, true, false, List, [], ◌∷◌, map, Option, Some, None, refl}
use Rattle.validate_resources.specs.Lists.{Declared, context_of}
use Rattle.validate_resources.specs.Named.{nothing_declared}
use Rattle.validate_types.specs.Features.{stack_switching}
use Rattle.validate_types.specs.Refs.{reference}
use Rattle.validate_types.specs.declared.heap.AbstractHeapType.TheVariants.{Func as FuncHeap, NoFunc as NoFuncHeap, Any as AnyHeap, Eq as EqHeap, I31 as I31Heap, Exn as ExnHeap, NoExn as NoExnHeap, Cont as ContHeap, NoCont as NoContHeap}
use Rattle.validate_types.specs.declared.heap.HeapType.TheVariants.{Abstract}
use Rattle.validate_types.specs.declared.heap.UnpackedIndex.TheVariants.{Module}
use Rattle.validate_types.specs.declared.types.CompositeInnerType.TheVariants.{Cont}
use Rattle.validate_visit.specs.declared.op.ContinuationOp.TheVariants.{ContNew, ContBind, Suspend, ResumeThrow, ResumeThrowRef, Switch}
use Rattle.validate_visit.specs.declared.op.Op.{Op}
use Rattle.validate_visit.specs.declared.op.Op.TheVariants.{Reference, Continuation}
use Rattle.validate_visit.specs.declared.op.ReferenceOp.TheVariants.{RefFunc}
use Rattle.validate_visit.specs.declared.resume.Handle.{Handle}
use Rattle.validate_visit.specs.declared.resume.Handle.TheVariants.{OnLabel, OnSwitch}
use Rattle.validation_rules.specs.Context.{SubType, ValType, I32, I64, F32, F64, Ref, BlockType, Empty, Val, FuncType, Context}
use Rattle.validation_rules.specs.Fits.{MaybeType, Bottom, UnknownRef, Known}
use Rattle.validation_rules.specs.Rows.{Block, Loop, Head, Target, Row, body_head}
use Rattle.validation_rules.specs.Static.{State, open_state, step, state_before, start}
use Rattle.validation_rules.specs.Operators.{plain_row, row_operator, operator, operators}
use Rattle.validation_rules.proofs.Refusals.{IsRefusedAtLast}
use Rattle.validation_rules.proofs.ExampleWords.{null, id, null_to, to, an_open_type, of_functions}
use Rattle.validation_rules.proofs.ExampleWords.{of_continuations, every, within, unreachable, block, loop, end}
use Rattle.validation_rules.proofs.ExampleWords.{drops, null_of, resume, block_head, frame, premise_in}

-- ---- a module of function types, of the types of their continuations, and of tags

abbrev any : ValType
any = null (Abstract false AnyHeap)

abbrev eq : ValType
eq = null (Abstract false EqHeap)

abbrev i31 : ValType
i31 = null (Abstract false I31Heap)

abbrev exnref : ValType
exnref = null (Abstract false ExnHeap)

abbrev contref : ValType
contref = null (Abstract false ContHeap)

abbrev open_func_type : List ValType → List ValType → SubType
open_func_type params results = an_open_type None false (of_functions params results)

abbrev cont : ℕ → SubType
cont i = an_open_type None false (of_continuations i)

-- behind each of the first function types stands that of its continuations; 6 is below 2 and 7 below 3; 30, 31,
-- 68 and 69 are shared; 34 to 44 say what labels take; 45 to 66 are of switches
abbrev types : List SubType
types =
    open_func_type [] []
    ∷ cont 0
    ∷ open_func_type (I32 ∷ I64 ∷ []) (F32 ∷ [])
    ∷ cont 2
    ∷ open_func_type (I64 ∷ []) (F32 ∷ [])
    ∷ cont 4
    ∷ an_open_type (Some (id 2)) false (of_functions (I32 ∷ I64 ∷ []) (F32 ∷ []))
    ∷ an_open_type (Some (id 3)) false (of_continuations 6)
    ∷ open_func_type [] (F32 ∷ [])
    ∷ cont 8
    ∷ open_func_type (I32 ∷ []) (F32 ∷ [])
    ∷ cont 10
    ∷ open_func_type (I64 ∷ []) (F64 ∷ [])
    ∷ cont 12
    ∷ open_func_type (eq ∷ []) (eq ∷ [])
    ∷ cont 14
    ∷ open_func_type (i31 ∷ []) (any ∷ [])
    ∷ cont 16
    ∷ open_func_type (any ∷ []) (any ∷ [])
    ∷ cont 18
    ∷ open_func_type (i31 ∷ []) (i31 ∷ [])
    ∷ cont 20
    ∷ open_func_type (I32 ∷ eq ∷ []) (eq ∷ [])
    ∷ cont 22
    ∷ open_func_type [] (eq ∷ [])
    ∷ cont 24
    ∷ open_func_type [] (any ∷ [])
    ∷ cont 26
    ∷ open_func_type [] (i31 ∷ [])
    ∷ cont 28
    ∷ an_open_type None true (of_functions [] [])
    ∷ an_open_type None true (of_continuations 30)
    ∷ open_func_type (I32 ∷ []) (I64 ∷ [])
    ∷ open_func_type (I32 ∷ []) []
    ∷ open_func_type [] (I32 ∷ to 5 ∷ [])
    ∷ open_func_type [] (I32 ∷ null_to 5 ∷ [])
    ∷ open_func_type [] (I64 ∷ to 5 ∷ [])
    ∷ open_func_type [] (to 5 ∷ I32 ∷ [])
    ∷ open_func_type [] (I32 ∷ I32 ∷ to 5 ∷ [])
    ∷ open_func_type [] (I32 ∷ to 3 ∷ [])
    ∷ open_func_type [] (I32 ∷ to 4 ∷ [])
    ∷ open_func_type [] (I32 ∷ contref ∷ [])
    ∷ open_func_type [] (eq ∷ to 15 ∷ [])
    ∷ open_func_type [] (any ∷ to 15 ∷ [])
    ∷ open_func_type [] (i31 ∷ to 15 ∷ [])
    ∷ open_func_type (F64 ∷ []) []
    ∷ cont 45
    ∷ open_func_type (I32 ∷ null_to 46 ∷ []) []
    ∷ cont 47
    ∷ open_func_type (I32 ∷ to 46 ∷ []) []
    ∷ cont 49
    ∷ open_func_type (null_to 25 ∷ []) (eq ∷ [])
    ∷ cont 51
    ∷ open_func_type (null_to 25 ∷ []) (i31 ∷ [])
    ∷ cont 53
    ∷ open_func_type (null_to 25 ∷ []) (any ∷ [])
    ∷ cont 55
    ∷ open_func_type (null_to 27 ∷ []) (eq ∷ [])
    ∷ cont 57
    ∷ open_func_type (null_to 29 ∷ []) (eq ∷ [])
    ∷ cont 59
    ∷ open_func_type (null_to 46 ∷ I32 ∷ []) []
    ∷ cont 61
    ∷ open_func_type (null_to 45 ∷ []) []
    ∷ cont 63
    ∷ open_func_type (contref ∷ []) []
    ∷ cont 65
    ∷ open_func_type (F32 ∷ F64 ∷ []) []
    ∷ an_open_type None true (of_functions (null_to 31 ∷ []) [])
    ∷ an_open_type None true (of_continuations 68)
    ∷ open_func_type (I32 ∷ I32 ∷ I64 ∷ []) (F32 ∷ [])
    ∷ cont 70
    ∷ open_func_type (I64 ∷ []) []
    ∷ cont 72
    ∷ open_func_type (null_to 1 ∷ []) []
    ∷ []

-- of tag 0 nothing is carried, and nothing given back; 1 carries an i32 and gives an i64 back; 2 and 9 give
-- nothing back; 3, 5, 6 and 7 carry nothing
abbrev declared : Declared
declared = record nothing_declared { types = types; functions = record { type_index = 0; referenced = true; exact = false } ∷ []; tags = 0 ∷ 32 ∷ 33 ∷ 8 ∷ 14 ∷ 24 ∷ 26 ∷ 28 ∷ 10 ∷ 67 ∷ [] }

-- with these proposals on
abbrev under : ℕ → Bool → Context
under bits shared = within declared bits shared

abbrev cx : Context
cx = under every false

-- ---- operators

abbrev cont_new : ℕ → Op
cont_new i = Continuation (ContNew i)

abbrev cont_bind : ℕ → ℕ → Op
cont_bind i j = Continuation (ContBind i j)

abbrev suspend : ℕ → Op
suspend tag = Continuation (Suspend tag)

abbrev resume_throw : ℕ → ℕ → List Handle → Op
resume_throw i tag handlers = Continuation (ResumeThrow i tag (record { handlers = record { ref_ptr = (0, 0); now = handlers } }))

abbrev resume_throw_ref : ℕ → List Handle → Op
resume_throw_ref i handlers = Continuation (ResumeThrowRef i (record { handlers = record { ref_ptr = (0, 0); now = handlers } }))

abbrev switch : ℕ → ℕ → Op
switch i tag = Continuation (Switch i tag)

abbrev on : ℕ → ℕ → Handle
on tag label = OnLabel tag label

abbrev on_switch : ℕ → Handle
on_switch tag = OnSwitch tag

-- ---- outcomes

-- two blocks in a body
abbrev labels : List Head
labels = block_head (FuncType 34) ∷ block_head (FuncType 35) ∷ body_head (Val (null_to 9)) ∷ []

abbrev row_under : ℕ → Op → Row
row_under bits op = (operator (under bits false) op).row labels

-- With the proposal alone, the operator wants and pushes exactly these types, and does nothing else.
abbrev Says : Op → List ValType → List ValType → Type 0
Says op expected pushed = operator (under stack_switching false) op ≡ row_operator (plain_row expected pushed)

-- and carries these to labels
abbrev Handles : Op → List ValType → List ValType → List Target → Type 0
Handles op expected pushed targets = row_under stack_switching op ≡ record (plain_row expected pushed) { targets = targets }

abbrev a_target : ℕ → List ValType → Target
a_target depth types = record { depth = depth; carried = λ found. types }

-- where the premise holds, of these operators
abbrev held : List Op → List Bool
held ops = map (premise_in cx labels) ops

abbrev held_in_shared : List Op → List Bool
held_in_shared ops = map (premise_in (under every true) labels) ops

-- of a `resume`, in a block of each of these types
abbrev held_in : Op → List BlockType → List Bool
held_in op bts = map (λ bt. premise_in cx (block_head bt ∷ body_head Empty ∷ []) op) bts

-- the state after the operator over these operands of the body's frame, the top first
abbrev after_over : Bool → Op → List MaybeType → Option State
after_over dead op own = step cx (operator cx op) (open_state (frame Block Empty own dead ∷ []))

-- over each of these lists alone it holds, and leaves these
abbrev EachLeaves : Bool → Op → List (List MaybeType) → List MaybeType → Type 0
EachLeaves dead op operands left = map (after_over dead op) operands ≡ map (λ own. Some (open_state (frame Block Empty left dead ∷ []))) operands

abbrev NoneGoes : Bool → Op → List (List MaybeType) → Type 0
NoneGoes dead op operands = map (after_over dead op) operands ≡ map (λ own. None) operands

-- known operands
abbrev known : List ValType → List MaybeType
known types = map (λ t. Known t) types

abbrev Refused : List Op → Type 0
Refused ops = IsRefusedAtLast cx Empty ops

-- accepted up to the outermost `end`
abbrev Done : List Op → ℕ → Type 0
Done ops n = state_before cx (operators cx ops) (start Empty) n ≡ Some (record { frames = []; left = [] })

-- ---- rows, with the proposal alone

cont_new_says : Says (cont_new 1) (null_to 0 ∷ []) (to 1 ∷ []) × Says (cont_new 3) (null_to 2 ∷ []) (to 3 ∷ []) × Says (cont_new 7) (null_to 6 ∷ []) (to 7 ∷ [])
cont_new_says = (refl, refl, refl)

-- of none, the first, and all of its parameters
cont_bind_says : Says (cont_bind 3 3) (null_to 3 ∷ []) (to 3 ∷ []) × Says (cont_bind 3 5) (I32 ∷ null_to 3 ∷ []) (to 5 ∷ []) × Says (cont_bind 3 9) (I32 ∷ I64 ∷ null_to 3 ∷ []) (to 9 ∷ [])
cont_bind_says = (refl, refl, refl)

suspend_says : Says (suspend 0) [] [] × Says (suspend 1) (I32 ∷ []) (I64 ∷ []) × Says (suspend 3) [] (F32 ∷ []) × Says (suspend 9) (F32 ∷ F64 ∷ []) []
suspend_says = (refl, refl, refl, refl)

resume_says : Says (resume 1 []) (null_to 1 ∷ []) [] × Says (resume 3 []) (I32 ∷ I64 ∷ null_to 3 ∷ []) (F32 ∷ [])
resume_says = (refl, refl)

resume_throw_says : Says (resume_throw 3 2 []) (I32 ∷ null_to 3 ∷ []) (F32 ∷ []) × Says (resume_throw 3 9 []) (F32 ∷ F64 ∷ null_to 3 ∷ []) (F32 ∷ []) × Says (resume_throw 1 0 []) (null_to 1 ∷ []) []
resume_throw_says = (refl, refl, refl)

resume_throw_ref_says : Says (resume_throw_ref 3 []) (exnref ∷ null_to 3 ∷ []) (F32 ∷ [])
resume_throw_ref_says = refl

switch_says : Says (switch 48 0) (I32 ∷ null_to 48 ∷ []) (F64 ∷ []) × Says (switch 52 5) (null_to 52 ∷ []) []
switch_says = (refl, refl)

-- each handler carries the parameters of its tag and the continuation; one that switches carries nothing
abbrev handlers : List Handle
handlers = on 1 1 ∷ on_switch 3 ∷ on 1 0 ∷ on 0 2 ∷ []

abbrev targets : List Target
targets = a_target 1 (I32 ∷ null_to 5 ∷ []) ∷ a_target 0 (I32 ∷ to 5 ∷ []) ∷ a_target 2 (null_to 9 ∷ []) ∷ []

resume_handles : Handles (resume 3 handlers) (I32 ∷ I64 ∷ null_to 3 ∷ []) (F32 ∷ []) targets
resume_handles = refl

resume_throw_handles : Handles (resume_throw 3 2 handlers) (I32 ∷ null_to 3 ∷ []) (F32 ∷ []) targets
resume_throw_handles = refl

resume_throw_ref_handles : Handles (resume_throw_ref 3 handlers) (exnref ∷ null_to 3 ∷ []) (F32 ∷ []) targets
resume_throw_ref_handles = refl

only_switches : Handles (resume 3 (on_switch 3 ∷ [])) (I32 ∷ I64 ∷ null_to 3 ∷ []) (F32 ∷ []) []
only_switches = refl

-- ---- the gate

abbrev of_proposal : List Op
of_proposal =
    cont_new 1 ∷ cont_bind 3 5 ∷ suspend 0 ∷ resume 3 handlers ∷ resume_throw 3 2 handlers ∷ resume_throw_ref 3 handlers ∷ switch 48 0 ∷ []

with_gate : map (λ op. (row_under stack_switching op).premise) of_proposal ≡ map (λ op. true) of_proposal
with_gate = refl

without_gate : map (λ op. (row_under (every - stack_switching) op).premise) of_proposal ≡ map (λ op. false) of_proposal
without_gate = refl

-- ---- what is named: a type of continuations, and a tag

-- types out of range, and types of functions
no_continuation_type : held (cont_new 75 ∷ cont_new 2 ∷ cont_bind 75 5 ∷ cont_bind 3 75 ∷ cont_bind 2 5 ∷ cont_bind 3 4 ∷ resume 75 [] ∷ resume 0 [] ∷ resume_throw 75 2 [] ∷ resume_throw 2 2 [] ∷ resume_throw_ref 75 [] ∷ resume_throw_ref 2 [] ∷ switch 75 0 ∷ switch 47 0 ∷ []) ≡ false ∷ false ∷ false ∷ false ∷ false ∷ false ∷ false ∷ false ∷ false ∷ false ∷ false ∷ false ∷ false ∷ false ∷ []
no_continuation_type = refl

no_tag : held (suspend 10 ∷ resume 3 (on 10 0 ∷ []) ∷ resume 3 (on_switch 10 ∷ []) ∷ resume_throw 3 10 [] ∷ resume_throw_ref 3 (on 10 0 ∷ []) ∷ switch 48 10 ∷ []) ≡ false ∷ false ∷ false ∷ false ∷ false ∷ false ∷ []
no_tag = refl

-- a shared function names shared ones alone, of tags any
unshared_types : held_in_shared (cont_new 1 ∷ cont_bind 1 1 ∷ cont_bind 1 31 ∷ cont_bind 31 1 ∷ resume 1 [] ∷ resume_throw 1 2 [] ∷ resume_throw_ref 1 [] ∷ switch 48 0 ∷ []) ≡ false ∷ false ∷ false ∷ false ∷ false ∷ false ∷ false ∷ false ∷ []
unshared_types = refl

shared_types : held_in_shared (cont_new 31 ∷ cont_bind 31 31 ∷ suspend 0 ∷ resume 31 (on_switch 0 ∷ []) ∷ resume_throw 31 2 [] ∷ resume_throw_ref 31 [] ∷ switch 69 0 ∷ []) ≡ true ∷ true ∷ true ∷ true ∷ true ∷ true ∷ true ∷ []
shared_types = refl

shared_in_unshared : held (cont_new 31 ∷ cont_bind 31 31 ∷ cont_bind 31 1 ∷ resume 31 [] ∷ switch 69 0 ∷ []) ≡ true ∷ true ∷ true ∷ true ∷ true ∷ []
shared_in_unshared = refl

-- the function type of a continuation is looked up by its id: not by its index, and not where ids name nothing
abbrev without_ids : Context
without_ids = record cx { of_module = record (context_of declared) { type_of_id = λ i. None } }

by_id : map (premise_in without_ids labels) (cont_new 3 ∷ cont_bind 3 3 ∷ resume 3 [] ∷ switch 48 0 ∷ []) ≡ true ∷ false ∷ false ∷ false ∷ []
by_id = refl

abbrev by_index : Context
by_index = record cx { of_module = context_of (record declared { types = open_func_type [] [] ∷ an_open_type None false (Cont (record { 0 = Module 0 })) ∷ [] }) }

not_by_index : map (premise_in by_index []) (cont_bind 1 1 ∷ resume 1 [] ∷ []) ≡ false ∷ false ∷ []
not_by_index = refl

-- ---- `cont.new`

-- of null, of a function of the type, and of one below it; what lies below remains
makes_new : EachLeaves false (cont_new 3) (map (λ t. Known t ∷ Known F64 ∷ []) (null_to 2 ∷ to 2 ∷ null_to 6 ∷ to 6 ∷ null (Abstract false NoFuncHeap) ∷ [])) (Known (to 3) ∷ Known F64 ∷ [])
makes_new = refl

no_new : NoneGoes false (cont_new 3) ([] ∷ map (λ t. Known t ∷ []) (null_to 0 ∷ null_to 4 ∷ null_to 3 ∷ null (Abstract false FuncHeap) ∷ null (Abstract false NoContHeap) ∷ I32 ∷ []))
no_new = refl

-- a function of the type above isn't one of this
not_above : NoneGoes false (cont_new 7) ((Known (null_to 2) ∷ []) ∷ (Known (to 2) ∷ []) ∷ []) × EachLeaves false (cont_new 7) ((Known (to 6) ∷ []) ∷ []) (Known (to 7) ∷ [])
not_above = (refl, refl)

new_in_dead : EachLeaves true (cont_new 3) ([] ∷ (Bottom ∷ []) ∷ (UnknownRef None ∷ []) ∷ (Known (to 2) ∷ []) ∷ []) (Known (to 3) ∷ [])
new_in_dead = refl

no_new_in_dead : NoneGoes true (cont_new 3) ((Known I32 ∷ []) ∷ (Known (to 4) ∷ []) ∷ []) × NoneGoes true (cont_new 2) ([] ∷ [])
no_new_in_dead = (refl, refl)

-- ---- `cont.bind`

-- too many parameters are left, those of the other end, other results, more results and fewer
bind_refused : held (cont_bind 3 71 ∷ cont_bind 9 5 ∷ cont_bind 3 11 ∷ cont_bind 3 13 ∷ cont_bind 3 73 ∷ cont_bind 73 5 ∷ cont_bind 1 9 ∷ cont_bind 5 3 ∷ []) ≡ false ∷ false ∷ false ∷ false ∷ false ∷ false ∷ false ∷ false ∷ []
bind_refused = refl

-- what is left takes no less, and gives no more
bind_below : held (cont_bind 23 15 ∷ cont_bind 23 17 ∷ cont_bind 23 19 ∷ cont_bind 23 21 ∷ cont_bind 15 17 ∷ cont_bind 17 15 ∷ []) ≡ true ∷ true ∷ false ∷ false ∷ true ∷ false ∷ []
bind_below = refl

bind_results : held (cont_bind 15 25 ∷ cont_bind 15 27 ∷ cont_bind 15 29 ∷ cont_bind 7 5 ∷ cont_bind 7 3 ∷ cont_bind 3 7 ∷ []) ≡ true ∷ true ∷ false ∷ true ∷ true ∷ true ∷ []
bind_results = refl

binds : EachLeaves false (cont_bind 3 5) (map (λ t. Known t ∷ Known I32 ∷ Known F64 ∷ []) (null_to 3 ∷ to 3 ∷ to 7 ∷ null (Abstract false NoContHeap) ∷ [])) (Known (to 5) ∷ Known F64 ∷ [])
binds = refl

binds_below : EachLeaves false (cont_bind 15 25) (map (λ t. Known (to 15) ∷ Known t ∷ []) (eq ∷ i31 ∷ [])) (Known (to 25) ∷ [])
binds_below = refl

no_bind : NoneGoes false (cont_bind 3 5) ([] ∷ known (to 3 ∷ []) ∷ known (I32 ∷ to 3 ∷ []) ∷ known (to 3 ∷ I64 ∷ []) ∷ known (to 5 ∷ I32 ∷ []) ∷ known (contref ∷ I32 ∷ []) ∷ known (to 2 ∷ I32 ∷ []) ∷ []) × NoneGoes false (cont_bind 15 25) (known (to 15 ∷ any ∷ []) ∷ [])
no_bind = (refl, refl)

-- the last of the bound ones lies on top
bound_in_order : EachLeaves false (cont_bind 3 9) (known (to 3 ∷ I64 ∷ I32 ∷ []) ∷ []) (Known (to 9) ∷ []) × NoneGoes false (cont_bind 3 9) (known (to 3 ∷ I32 ∷ I64 ∷ []) ∷ [])
bound_in_order = (refl, refl)

bind_in_dead : EachLeaves true (cont_bind 3 5) ([] ∷ known (to 3 ∷ []) ∷ (Bottom ∷ Known I32 ∷ []) ∷ []) (Known (to 5) ∷ []) × NoneGoes true (cont_bind 3 5) (known (to 5 ∷ []) ∷ (Bottom ∷ Known I64 ∷ []) ∷ [])
bind_in_dead = (refl, refl)

-- ---- `suspend`

suspends : EachLeaves false (suspend 1) (known (I32 ∷ F64 ∷ []) ∷ []) (known (I64 ∷ F64 ∷ [])) × EachLeaves false (suspend 0) (known (F64 ∷ []) ∷ []) (known (F64 ∷ [])) × EachLeaves false (suspend 4) (known (i31 ∷ []) ∷ known (eq ∷ []) ∷ []) (known (eq ∷ []))
suspends = (refl, refl, refl)

no_suspend : NoneGoes false (suspend 1) ([] ∷ known (I64 ∷ []) ∷ []) × NoneGoes false (suspend 9) (known (F64 ∷ []) ∷ known (F32 ∷ F64 ∷ []) ∷ []) × NoneGoes false (suspend 4) (known (any ∷ []) ∷ [])
no_suspend = (refl, refl, refl)

suspends_in_dead : EachLeaves true (suspend 1) ([] ∷ (Bottom ∷ []) ∷ known (I32 ∷ []) ∷ []) (known (I64 ∷ [])) × NoneGoes true (suspend 1) (known (I64 ∷ []) ∷ []) × NoneGoes true (suspend 10) ([] ∷ [])
suspends_in_dead = (refl, refl, refl)

-- ---- what is resumed

resumes : EachLeaves false (resume 3 []) (map (λ t. known (t ∷ I64 ∷ I32 ∷ F64 ∷ [])) (null_to 3 ∷ to 3 ∷ to 7 ∷ null (Abstract false NoContHeap) ∷ [])) (known (F32 ∷ F64 ∷ []))
resumes = refl

no_resume : NoneGoes false (resume 3 []) ([] ∷ known (to 3 ∷ []) ∷ known (to 3 ∷ I64 ∷ []) ∷ known (to 3 ∷ I32 ∷ I64 ∷ []) ∷ known (I64 ∷ I32 ∷ to 3 ∷ []) ∷ known (to 5 ∷ I64 ∷ I32 ∷ []) ∷ known (contref ∷ I64 ∷ I32 ∷ []) ∷ known (to 2 ∷ I64 ∷ I32 ∷ []) ∷ [])
no_resume = refl

resumes_below : EachLeaves false (resume 15 []) (known (to 15 ∷ i31 ∷ []) ∷ []) (known (eq ∷ [])) × NoneGoes false (resume 15 []) (known (to 15 ∷ any ∷ []) ∷ [])
resumes_below = (refl, refl)

resumes_in_dead : EachLeaves true (resume 3 []) ([] ∷ known (to 3 ∷ []) ∷ known (to 3 ∷ I64 ∷ []) ∷ (Bottom ∷ Known I64 ∷ Known I32 ∷ []) ∷ []) (known (F32 ∷ [])) × NoneGoes true (resume 3 []) (known (to 5 ∷ []) ∷ known (to 3 ∷ I32 ∷ []) ∷ [])
resumes_in_dead = (refl, refl)

-- with an exception: of a tag that carries two, and of one that gives something back
resumes_with : EachLeaves false (resume_throw 3 9 []) (known (null_to 3 ∷ F64 ∷ F32 ∷ I32 ∷ []) ∷ []) (known (F32 ∷ I32 ∷ [])) × NoneGoes false (resume_throw 3 9 []) (known (to 3 ∷ F32 ∷ F64 ∷ []) ∷ known (to 3 ∷ I64 ∷ I32 ∷ []) ∷ known (to 3 ∷ []) ∷ known (to 5 ∷ F64 ∷ F32 ∷ []) ∷ [])
resumes_with = (refl, refl)

gives_back : held (resume_throw 3 1 [] ∷ resume_throw 3 3 [] ∷ resume_throw 3 4 [] ∷ resume_throw 1 1 [] ∷ []) ≡ false ∷ false ∷ false ∷ false ∷ []
gives_back = refl

-- and by a reference, null or not, to an exception
resumes_with_ref : EachLeaves false (resume_throw_ref 3 []) (map (λ t. known (to 3 ∷ t ∷ [])) (exnref ∷ Ref (reference false (Abstract false ExnHeap)) ∷ null (Abstract false NoExnHeap) ∷ [])) (known (F32 ∷ [])) × NoneGoes false (resume_throw_ref 3 []) (known (to 3 ∷ []) ∷ known (to 3 ∷ any ∷ []) ∷ known (exnref ∷ to 3 ∷ []) ∷ known (to 3 ∷ I64 ∷ I32 ∷ []) ∷ [])
resumes_with_ref = (refl, refl)

throws_in_dead : EachLeaves true (resume_throw 3 9 []) ([] ∷ known (to 3 ∷ F64 ∷ []) ∷ []) (known (F32 ∷ [])) × EachLeaves true (resume_throw_ref 3 []) ([] ∷ known (to 3 ∷ []) ∷ (Bottom ∷ UnknownRef (Some ExnHeap) ∷ []) ∷ []) (known (F32 ∷ [])) × NoneGoes true (resume_throw_ref 3 []) ((Bottom ∷ UnknownRef (Some AnyHeap) ∷ []) ∷ [])
throws_in_dead = (refl, refl, refl)

-- ---- handlers to labels

-- Those that take: what tag 1 carries and the continuation, without null and with it; then one type short,
-- another first type, the other way round, one type more, another continuation, a function, any continuation,
-- another last type, and nothing.
abbrev taken : List BlockType
taken =
    FuncType 34 ∷ FuncType 35 ∷ Val (to 5) ∷ FuncType 36 ∷ FuncType 37 ∷ FuncType 38 ∷ FuncType 39 ∷ FuncType 40 ∷ FuncType 41 ∷ Val I32 ∷ Empty ∷ []

abbrev only_right : List Bool
only_right = true ∷ true ∷ false ∷ false ∷ false ∷ false ∷ false ∷ false ∷ false ∷ false ∷ false ∷ []

to_each_label : held_in (resume 3 (on 1 0 ∷ [])) taken ≡ only_right
to_each_label = refl

thrown_to_each : held_in (resume_throw 3 2 (on 1 0 ∷ [])) taken ≡ only_right
thrown_to_each = refl

ref_to_each : held_in (resume_throw_ref 3 (on 1 0 ∷ [])) taken ≡ only_right
ref_to_each = refl

-- a tag that carries nothing, and gives nothing back
nothing_to_each : held_in (resume 3 (on 0 0 ∷ [])) (Val (to 9) ∷ Val (null_to 9) ∷ Val (to 1) ∷ Val (to 5) ∷ Val (to 3) ∷ Empty ∷ []) ≡ true ∷ true ∷ false ∷ false ∷ false ∷ false ∷ []
nothing_to_each = refl

-- the last type is a continuation: no number, no function, and not any continuation
no_continuation_last : held_in (resume 1 (on 0 0 ∷ [])) (Val (to 1) ∷ Val I32 ∷ Val (to 0) ∷ Val (null (Abstract false FuncHeap)) ∷ Val contref ∷ []) ≡ true ∷ false ∷ false ∷ false ∷ false ∷ []
no_continuation_last = refl

-- what is carried lies below what the label takes
carried_below : held_in (resume 25 (on 4 0 ∷ [])) (FuncType 42 ∷ FuncType 43 ∷ FuncType 44 ∷ Val (to 15) ∷ []) ≡ true ∷ true ∷ false ∷ false ∷ []
carried_below = refl

-- The label's continuation takes no more than the tag gives back, and gives no less than what is resumed: that
-- of [] -> [eq] with tag 5, of [] -> [eq].
continued_below : held_in (resume 25 (on 5 0 ∷ [])) (Val (to 15) ∷ Val (to 17) ∷ Val (to 19) ∷ Val (to 21) ∷ Val (to 25) ∷ Val (to 23) ∷ []) ≡ true ∷ true ∷ false ∷ false ∷ false ∷ false ∷ []
continued_below = refl

-- by what the tag gives back, and not by what it carries or what is resumed takes
given_back : held_in (resume 15 (on 6 0 ∷ [])) (Val (to 19) ∷ Val (to 15) ∷ Val (to 17) ∷ Val (to 21) ∷ Val (to 27) ∷ []) ≡ true ∷ true ∷ true ∷ false ∷ false ∷ []
given_back = refl

-- a label out of range, and each label in range
label_at : map (λ d. premise_in cx labels (resume 3 (on 1 d ∷ []))) (0 ∷ 1 ∷ 2 ∷ 3 ∷ []) ≡ true ∷ true ∷ false ∷ false ∷ []
label_at = refl

-- to a loop the parameters are carried
to_loop : premise_in cx (record { kind = Loop; block_type = FuncType 74 } ∷ []) (resume 1 (on 0 0 ∷ [])) ≡ true
to_loop = refl

not_its_results : premise_in cx (record { kind = Loop; block_type = Val (to 1) } ∷ []) (resume 1 (on 0 0 ∷ [])) ≡ false
not_its_results = refl

-- in a block of a type that takes what it doesn't give
not_its_params : premise_in cx (block_head (FuncType 74) ∷ []) (resume 1 (on 0 0 ∷ [])) ≡ false
not_its_params = refl

-- each handler is tested
each_handler : held (resume 3 (on 1 0 ∷ on 1 2 ∷ []) ∷ resume 3 (on 1 2 ∷ on 1 0 ∷ []) ∷ resume 3 (on_switch 3 ∷ on 1 2 ∷ []) ∷ resume 3 (on 1 0 ∷ on_switch 0 ∷ []) ∷ resume 3 (on_switch 0 ∷ on 1 0 ∷ []) ∷ resume 3 (on 1 0 ∷ on 1 1 ∷ on 0 0 ∷ []) ∷ resume 3 (on 1 0 ∷ on 1 0 ∷ []) ∷ []) ≡ false ∷ false ∷ false ∷ false ∷ false ∷ false ∷ true ∷ []
each_handler = refl

-- also in dead code
tested_in_dead : NoneGoes true (resume 3 (on 1 0 ∷ [])) ([] ∷ []) × NoneGoes true (resume 3 (on 1 1 ∷ [])) ([] ∷ []) × NoneGoes true (resume 3 (on_switch 0 ∷ [])) ([] ∷ [])
tested_in_dead = (refl, refl, refl)

-- ---- handlers that switch

-- by a tag that carries nothing, and gives what is resumed gives
switched_by : map (λ tag. premise_in cx labels (resume 3 (on_switch tag ∷ []))) (0 ∷ 1 ∷ 2 ∷ 3 ∷ 4 ∷ 5 ∷ 8 ∷ 9 ∷ []) ≡ false ∷ false ∷ false ∷ true ∷ false ∷ false ∷ false ∷ false ∷ []
switched_by = refl

-- exactly that
switched_exactly : map (λ tag. premise_in cx labels (resume 25 (on_switch tag ∷ []))) (5 ∷ 6 ∷ 7 ∷ 4 ∷ 0 ∷ []) ≡ true ∷ false ∷ false ∷ false ∷ false ∷ []
switched_exactly = refl

thrown_switching : held (resume_throw 3 2 (on_switch 3 ∷ []) ∷ resume_throw 3 2 (on_switch 0 ∷ []) ∷ resume_throw_ref 3 (on_switch 3 ∷ []) ∷ resume_throw_ref 3 (on_switch 8 ∷ []) ∷ []) ≡ true ∷ false ∷ true ∷ false ∷ []
thrown_switching = refl

-- ---- `switch`

-- a tag that carries something, and one that gives something else back
switch_tags : map (λ tag. premise_in cx labels (switch 48 tag)) (0 ∷ 2 ∷ 1 ∷ 3 ∷ 9 ∷ 5 ∷ []) ≡ true ∷ false ∷ false ∷ false ∷ false ∷ false ∷ []
switch_tags = refl

-- The tag gives eq back: what is left gives no more, and what is switched to no less.
switch_results : map (λ i. premise_in cx labels (switch i 5)) (52 ∷ 54 ∷ 56 ∷ 58 ∷ 60 ∷ 48 ∷ []) ≡ true ∷ true ∷ false ∷ true ∷ false ∷ false ∷ []
switch_results = refl

-- The last parameter is a continuation, with null or without: not a number, a function, or any continuation; nor
-- is there none, or one before the last.
switch_last : map (λ i. premise_in cx labels (switch i 0)) (48 ∷ 50 ∷ 62 ∷ 64 ∷ 66 ∷ 1 ∷ 46 ∷ []) ≡ true ∷ true ∷ false ∷ false ∷ false ∷ false ∷ false ∷ []
switch_last = refl

switches : EachLeaves false (switch 48 0) (map (λ t. known (t ∷ I32 ∷ F32 ∷ [])) (null_to 48 ∷ to 48 ∷ null (Abstract false NoContHeap) ∷ [])) (known (F64 ∷ F32 ∷ []))
switches = refl

no_switch : NoneGoes false (switch 48 0) ([] ∷ known (to 48 ∷ []) ∷ known (to 48 ∷ I64 ∷ []) ∷ known (I32 ∷ to 48 ∷ []) ∷ known (to 46 ∷ I32 ∷ []) ∷ known (to 48 ∷ to 46 ∷ I32 ∷ []) ∷ known (contref ∷ I32 ∷ []) ∷ [])
no_switch = refl

switches_in_dead : EachLeaves true (switch 48 0) ([] ∷ known (to 48 ∷ []) ∷ known (to 48 ∷ I32 ∷ []) ∷ []) (known (F64 ∷ [])) × NoneGoes true (switch 48 0) (known (to 46 ∷ []) ∷ known (to 48 ∷ I64 ∷ []) ∷ []) × NoneGoes true (switch 48 2) ([] ∷ [])
switches_in_dead = (refl, refl, refl)

-- ---- bodies

-- a suspension leaves the block with the continuation, the end of what is resumed with nothing
resumes_in_block : Done (block (Val (null_to 1)) ∷ Reference (RefFunc 0) ∷ cont_new 1 ∷ resume 1 (on 0 0 ∷ []) ∷ null_of 1 ∷ end ∷ drops ∷ end ∷ []) 8
resumes_in_block = refl

resumes_in_loop : Done (null_of 1 ∷ loop (FuncType 74) ∷ resume 1 (on 0 0 ∷ on_switch 0 ∷ []) ∷ end ∷ end ∷ []) 5
resumes_in_loop = refl

-- behind `unreachable` operands are found, and what is given is known
dead_body : Done (unreachable ∷ cont_new 3 ∷ cont_bind 3 5 ∷ drops ∷ suspend 1 ∷ drops ∷ resume 3 (on_switch 3 ∷ []) ∷ drops ∷ resume_throw 3 9 [] ∷ drops ∷ resume_throw_ref 3 [] ∷ drops ∷ switch 48 0 ∷ drops ∷ end ∷ []) 15
dead_body = refl

dead_refused : Refused (unreachable ∷ cont_new 3 ∷ resume 5 [] ∷ []) × Refused (unreachable ∷ suspend 1 ∷ suspend 1 ∷ []) × Refused (unreachable ∷ cont_bind 3 5 ∷ cont_bind 3 5 ∷ []) × Refused (unreachable ∷ resume 3 [] ∷ resume 1 [] ∷ []) × Refused (unreachable ∷ switch 48 0 ∷ switch 48 0 ∷ [])
dead_refused = (refl, refl, refl, refl, refl)

-- the body's own label takes nothing
to_body : Refused (null_of 1 ∷ resume 1 (on 0 0 ∷ []) ∷ [])
to_body = refl

-- what a block would give is nothing that `resume` gives
gives_no_continuation : Refused (block (Val (null_to 1)) ∷ null_of 1 ∷ resume 1 (on 0 0 ∷ []) ∷ end ∷ [])
gives_no_continuation = refl
