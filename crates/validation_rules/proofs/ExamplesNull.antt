-- Small bodies of the table's operators on references, and of branches that look whether one is null, and
-- their rows, computed. What is expected is what the standard's rules say of them.
use Rattle.std.proofs.Common.{◌≡◌, ◌-◌, ◌+◌, ℕ, Bool, true, false, List, [], ◌∷◌, map, Some, None, refl}
use Rattle.validate_resources.specs.Lists.{Declared}
use Rattle.validate_resources.specs.Named.{nothing_declared}
use Rattle.validate_resources.specs.declared.lists.FuncDecl.{FuncDecl}
use Rattle.validate_types.specs.Features.{reference_types, function_references, gc, shared_everything_threads}
use Rattle.validate_types.specs.declared.heap.AbstractHeapType.TheVariants.{Func, Any}
use Rattle.validate_types.specs.declared.heap.HeapType.TheVariants.{Abstract}
use Rattle.validate_visit.specs.declared.op.Op.{Op}
use Rattle.validate_visit.specs.declared.op.Op.TheVariants.{Reference}
use Rattle.validate_visit.specs.declared.op.ReferenceOp.TheVariants.{RefIsNull, RefAsNonNull}
use Rattle.validation_rules.specs.Context.{SubType, ValType, I32, I64, BlockType, Empty, Val, FuncType, Context}
use Rattle.validation_rules.specs.Fits.{MaybeType, UnknownRef, Known}
use Rattle.validation_rules.specs.Rows.{Head, Block, Loop, body_head, expected_count}
use Rattle.validation_rules.specs.Static.{open_state}
use Rattle.validation_rules.specs.Operators.{row_operator, plain_row, operator}
use Rattle.validation_rules.proofs.ExampleWords.{null, no_null, func, extern, concrete, func_type, to_nothing}
use Rattle.validation_rules.proofs.ExampleWords.{every, within, unreachable, block, loop, end, drops, i32_const}
use Rattle.validation_rules.proofs.ExampleWords.{i64_const, i32_eqz, ref_null, null_of, ref_func, br_on_null}
use Rattle.validation_rules.proofs.ExampleWords.{br_on_non_null, frame, after_all, DoneUnder, LeavesUnder}
use Rattle.validation_rules.proofs.ExampleWords.{AllRefusedUnder, premise_in}

-- ---- a module of eight function types, and of functions 0 and 2 of type 0, and 1 of type 3; `ref.func` may
-- not refer to function 2

abbrev types : List SubType
types = func_type [] [] ∷ func_type (I32 ∷ []) (I64 ∷ []) ∷ func_type [] (I32 ∷ null func ∷ []) ∷ func_type [] (I32 ∷ []) ∷ func_type [] (null func ∷ I32 ∷ []) ∷ func_type [] (I32 ∷ no_null func ∷ []) ∷ func_type (I64 ∷ null func ∷ []) (I32 ∷ []) ∷ func_type [] (null func ∷ null func ∷ []) ∷ []

abbrev functions : List FuncDecl
functions = record { type_index = 0; referenced = true; exact = false } ∷ record { type_index = 3; referenced = true; exact = false } ∷ record { type_index = 0; referenced = false; exact = false } ∷ []

abbrev declared : Declared
declared = record nothing_declared { types = types; functions = functions }

-- with these proposals on
abbrev under : ℕ → Context
under bits = within declared bits false

abbrev cx : Context
cx = under every

abbrev to_i32_and_funcref : BlockType
to_i32_and_funcref = FuncType 2

abbrev to_funcref_and_i32 : BlockType
to_funcref_and_i32 = FuncType 4

-- its reference without null
abbrev to_i32_and_func : BlockType
to_i32_and_func = FuncType 5

abbrev to_two_funcrefs : BlockType
to_two_funcrefs = FuncType 7

-- ---- operators

abbrev is_null : Op
is_null = Reference RefIsNull

abbrev as_non_null : Op
as_non_null = Reference RefAsNonNull

-- ---- outcomes

-- each of these bodies alone is refused, at its last operator
abbrev AllRefused : BlockType → List (List Op) → Type 0
AllRefused ty bodies = AllRefusedUnder cx ty bodies

-- accepted up to the outermost `end`, with these types left, the top first
abbrev Done : BlockType → List Op → List MaybeType → Type 0
Done ty ops left = DoneUnder cx ty ops left

-- accepted so far, with these operands in the body's frame, the top first
abbrev Leaves : List Op → List MaybeType → Bool → Type 0
Leaves ops own dead = LeavesUnder cx to_nothing ops own dead

-- in a block of this type, that the body begins with
abbrev InBlock : BlockType → List Op → List MaybeType → Bool → Type 0
InBlock bt ops own dead =
    after_all cx to_nothing (block bt ∷ ops) ≡ Some (open_state (frame Block bt own dead ∷ frame Block to_nothing [] false ∷ []))

-- each of these alone, in such a block
abbrev AllRefusedInBlock : BlockType → List (List Op) → Type 0
AllRefusedInBlock bt bodies = AllRefused to_nothing (map (λ ops. block bt ∷ ops) bodies)

abbrev premise : Context → Op → Bool
premise c op = premise_in c (body_head to_nothing ∷ []) op

-- the labels that the operator may branch to, with what it carries there from these operands
abbrev carried : List Head → Op → List ValType → List (ℕ × List ValType)
carried hs op found = map (λ t. (t.depth, t.carried found)) ((operator cx op).row hs).targets

-- ---- `ref.null`

null_of_func : operator (under reference_types) (ref_null func) ≡ row_operator (plain_row [] (null func ∷ []))
null_of_func = refl

-- the index of the module becomes the id
null_of_a_type : Leaves (null_of 3 ∷ ref_null extern ∷ []) (Known (null extern) ∷ Known (null (concrete 3)) ∷ []) false
null_of_a_type = refl

-- there is no ninth type, also in dead code
null_of_unknown : AllRefused to_nothing ((null_of 8 ∷ []) ∷ (unreachable ∷ null_of 8 ∷ []) ∷ (null_of 1048576 ∷ []) ∷ [])
null_of_unknown = refl

-- null is no function of a type, and no other reference
null_given : AllRefused (Val (no_null func)) ((ref_null func ∷ end ∷ []) ∷ (null_of 0 ∷ end ∷ []) ∷ []) × AllRefused (Val (null func)) ((ref_null extern ∷ end ∷ []) ∷ []) × Done (Val (null func)) (null_of 0 ∷ end ∷ []) (Known (null func) ∷ [])
null_given = (refl, refl, refl)

-- it needs the proposal of references, and that of its type
abbrev nulls : List Op
nulls = ref_null func ∷ ref_null extern ∷ null_of 0 ∷ ref_null (Abstract false Any) ∷ ref_null (Abstract true Func) ∷ []

nulls_by_proposal : map (λ (bits : ℕ). map (premise (under bits)) nulls) (reference_types ∷ (reference_types + function_references) ∷ (reference_types + gc) ∷ (reference_types + shared_everything_threads) ∷ []) ≡ (true ∷ true ∷ false ∷ false ∷ false ∷ []) ∷ (true ∷ true ∷ true ∷ false ∷ false ∷ []) ∷ (true ∷ true ∷ true ∷ true ∷ false ∷ []) ∷ (true ∷ true ∷ false ∷ false ∷ true ∷ []) ∷ []
nulls_by_proposal = refl

nulls_closed : map (premise (under (every - reference_types))) nulls ≡ false ∷ false ∷ false ∷ false ∷ false ∷ []
nulls_closed = refl

-- ---- `ref.func`

-- a reference without null, to the type of the function and not that of its index
func_of_each : map (operator (under reference_types)) (ref_func 0 ∷ ref_func 1 ∷ []) ≡ map (λ i. row_operator (plain_row [] (no_null (concrete i) ∷ []))) (0 ∷ 3 ∷ [])
func_of_each = refl

func_given : Done (Val (no_null func)) (ref_func 1 ∷ end ∷ []) (Known (no_null func) ∷ [])
func_given = refl

-- function 2 may not be referred to, and there is no function 3, also in dead code
func_refused : AllRefused to_nothing ((ref_func 2 ∷ []) ∷ (unreachable ∷ ref_func 2 ∷ []) ∷ (ref_func 3 ∷ []) ∷ (unreachable ∷ ref_func 3 ∷ []) ∷ [])
func_refused = refl

-- ---- `ref.is_null`

tests_null : Leaves (i64_const ∷ ref_null func ∷ is_null ∷ ref_func 0 ∷ is_null ∷ null_of 1 ∷ is_null ∷ []) (Known I32 ∷ Known I32 ∷ Known I32 ∷ Known I64 ∷ []) false
tests_null = refl

-- a number, and nothing
tests_no_reference : AllRefused to_nothing ((i32_const ∷ is_null ∷ []) ∷ (i64_const ∷ is_null ∷ []) ∷ (is_null ∷ []) ∷ (unreachable ∷ i32_const ∷ is_null ∷ []) ∷ [])
tests_no_reference = refl

tests_in_dead : Leaves (unreachable ∷ is_null ∷ []) (Known I32 ∷ []) true
tests_in_dead = refl

tests_unknown : Leaves (unreachable ∷ as_non_null ∷ is_null ∷ []) (Known I32 ∷ []) true
tests_unknown = refl

-- ---- `ref.as_non_null`

-- to the same type
loses_null : Leaves (i64_const ∷ ref_null func ∷ as_non_null ∷ null_of 1 ∷ as_non_null ∷ ref_func 1 ∷ as_non_null ∷ []) (Known (no_null (concrete 3)) ∷ Known (no_null (concrete 1)) ∷ Known (no_null func) ∷ Known I64 ∷ []) false
loses_null = refl

loses_no_null : AllRefused to_nothing ((i32_const ∷ as_non_null ∷ []) ∷ (as_non_null ∷ []) ∷ (unreachable ∷ i32_const ∷ as_non_null ∷ []) ∷ [])
loses_no_null = refl

given_without_null : Done (Val (no_null func)) (ref_null func ∷ as_non_null ∷ end ∷ []) (Known (no_null func) ∷ []) × AllRefused (Val (no_null (concrete 0))) ((ref_null func ∷ as_non_null ∷ end ∷ []) ∷ [])
given_without_null = (refl, refl)

-- in dead code some reference, which is no number, and any reference without null
loses_unknown : Leaves (unreachable ∷ as_non_null ∷ []) (UnknownRef None ∷ []) true × Leaves (unreachable ∷ as_non_null ∷ as_non_null ∷ []) (UnknownRef None ∷ []) true
loses_unknown = (refl, refl)

unknown_is_no_number : AllRefused to_nothing ((unreachable ∷ as_non_null ∷ i32_eqz ∷ []) ∷ []) × AllRefused (Val I32) ((unreachable ∷ as_non_null ∷ end ∷ []) ∷ [])
unknown_is_no_number = (refl, refl)

unknown_given : Done (Val (no_null func)) (unreachable ∷ as_non_null ∷ end ∷ []) (Known (no_null func) ∷ []) × Done (Val (no_null (concrete 1))) (unreachable ∷ as_non_null ∷ end ∷ []) (Known (no_null (concrete 1)) ∷ [])
unknown_given = (refl, refl)

-- what is known is kept
loses_known : Leaves (unreachable ∷ ref_null func ∷ as_non_null ∷ []) (Known (no_null func) ∷ []) true
loses_known = refl

-- ---- `br_on_null`

-- where it isn't null, the label's types stay, and the reference above them without null
stays_above : InBlock (Val I32) (i64_const ∷ i32_const ∷ ref_null func ∷ br_on_null 0 ∷ []) (Known (no_null func) ∷ Known I32 ∷ Known I64 ∷ []) false
stays_above = refl

-- the types below are those of the label, whatever was found there
stays_as_label : InBlock (Val (null func)) (ref_func 0 ∷ null_of 1 ∷ br_on_null 0 ∷ []) (Known (no_null (concrete 1)) ∷ Known (null func) ∷ []) false
stays_as_label = refl

stays_alone : InBlock Empty (i32_const ∷ ref_func 1 ∷ br_on_null 0 ∷ []) (Known (no_null (concrete 3)) ∷ Known I32 ∷ []) false
stays_alone = refl

-- where it is null, the types below it are carried, to the label of that index
abbrev outer : List Head
outer = record { kind = Block; block_type = Val I64 } ∷ record { kind = Loop; block_type = FuncType 1 } ∷ record { kind = Block; block_type = to_i32_and_funcref } ∷ body_head to_nothing ∷ []

null_carries : map (λ d. carried outer (br_on_null d) (I32 ∷ no_null (concrete 0) ∷ null extern ∷ [])) (1 ∷ 2 ∷ 3 ∷ []) ≡ ((1, I32 ∷ []) ∷ []) ∷ ((2, I32 ∷ no_null (concrete 0) ∷ []) ∷ []) ∷ ((3, []) ∷ []) ∷ []
null_carries = refl

-- it takes one operand more
null_takes : map (λ d. expected_count ((operator cx (br_on_null d)).row outer).type) (0 ∷ 1 ∷ 2 ∷ 3 ∷ []) ≡ 2 ∷ 2 ∷ 3 ∷ 1 ∷ []
null_takes = refl

-- a body whose results it may give
null_leaves : Done (Val I32) (i32_const ∷ ref_null func ∷ br_on_null 0 ∷ drops ∷ end ∷ []) (Known I32 ∷ [])
null_leaves = refl

-- of a loop the parameters
null_to_loop : after_all cx to_nothing (i32_const ∷ loop (FuncType 1) ∷ ref_null func ∷ br_on_null 0 ∷ []) ≡ Some (open_state (frame Loop (FuncType 1) (Known (no_null func) ∷ Known I32 ∷ []) false ∷ frame Block to_nothing [] false ∷ []))
null_to_loop = refl

-- without the reference, and with a number for it
null_of_none : AllRefusedInBlock Empty ((br_on_null 0 ∷ []) ∷ (i32_const ∷ br_on_null 0 ∷ []) ∷ (unreachable ∷ i32_const ∷ br_on_null 0 ∷ []) ∷ [])
null_of_none = refl

-- without the operands below it, with them above it, with others, and with one that the label's isn't above
null_over_other : AllRefusedInBlock (Val I32) ((ref_null func ∷ br_on_null 0 ∷ []) ∷ (ref_null func ∷ i32_const ∷ br_on_null 0 ∷ []) ∷ (i64_const ∷ ref_null func ∷ br_on_null 0 ∷ []) ∷ (unreachable ∷ i64_const ∷ ref_null func ∷ br_on_null 0 ∷ []) ∷ []) × AllRefusedInBlock (Val (null (concrete 0))) ((ref_null func ∷ ref_null func ∷ br_on_null 0 ∷ []) ∷ [])
null_over_other = (refl, refl)

null_over_two : InBlock to_i32_and_funcref (i32_const ∷ ref_null func ∷ ref_null extern ∷ br_on_null 0 ∷ []) (Known (no_null extern) ∷ Known (null func) ∷ Known I32 ∷ []) false × AllRefusedInBlock to_i32_and_funcref ((ref_null func ∷ i32_const ∷ ref_null extern ∷ br_on_null 0 ∷ []) ∷ (ref_null func ∷ ref_null extern ∷ br_on_null 0 ∷ []) ∷ [])
null_over_two = (refl, refl)

-- the body's label is 0, and there is no other one
null_to_unknown : AllRefused to_nothing ((ref_null func ∷ br_on_null 1 ∷ []) ∷ (unreachable ∷ br_on_null 1 ∷ []) ∷ []) × Leaves (ref_null func ∷ br_on_null 0 ∷ []) (Known (no_null func) ∷ []) false
null_to_unknown = (refl, refl)

-- in dead code the label's types and some reference, which is no number
null_in_dead : InBlock (Val I32) (unreachable ∷ br_on_null 0 ∷ []) (UnknownRef None ∷ Known I32 ∷ []) true
null_in_dead = refl

null_of_known : InBlock (Val I32) (unreachable ∷ ref_null func ∷ br_on_null 0 ∷ []) (Known (no_null func) ∷ Known I32 ∷ []) true × AllRefusedInBlock (Val I32) ((unreachable ∷ br_on_null 0 ∷ i32_eqz ∷ []) ∷ [])
null_of_known = (refl, refl)

-- ---- `br_on_non_null`

-- a block of a reference: where it is null, nothing is left of it
gone_where_null : InBlock (Val (null func)) (ref_null func ∷ br_on_non_null 0 ∷ []) [] false
gone_where_null = refl

null_behind : Done (Val (null func)) (block (Val (null func)) ∷ ref_null func ∷ br_on_non_null 0 ∷ ref_null func ∷ end ∷ end ∷ []) (Known (null func) ∷ [])
null_behind = refl

none_behind : AllRefusedInBlock (Val (null func)) ((ref_null func ∷ br_on_non_null 0 ∷ end ∷ []) ∷ [])
none_behind = refl

-- a label's reference without null takes one that may be null too
to_non_null : Done (Val (no_null func)) (block (Val (no_null func)) ∷ ref_null func ∷ br_on_non_null 0 ∷ unreachable ∷ end ∷ end ∷ []) (Known (no_null func) ∷ [])
to_non_null = refl

-- one that lies below it
to_above : InBlock (Val (no_null func)) (null_of 1 ∷ br_on_non_null 0 ∷ ref_func 0 ∷ br_on_non_null 0 ∷ []) [] false
to_above = refl

-- the types before the last stay
stays_below : InBlock to_i32_and_funcref (i64_const ∷ i32_const ∷ ref_null func ∷ br_on_non_null 0 ∷ []) (Known I32 ∷ Known I64 ∷ []) false × InBlock to_i32_and_func (i32_const ∷ ref_null func ∷ br_on_non_null 0 ∷ []) (Known I32 ∷ []) false
stays_below = (refl, refl)

-- where it isn't null, all are carried, and the last without its null
non_null_carries : map (λ found. carried outer (br_on_non_null 2) found) ((I32 ∷ null func ∷ []) ∷ (I32 ∷ null (concrete 0) ∷ []) ∷ (I32 ∷ no_null func ∷ []) ∷ []) ≡ ((2, I32 ∷ no_null func ∷ []) ∷ []) ∷ ((2, I32 ∷ no_null (concrete 0) ∷ []) ∷ []) ∷ ((2, I32 ∷ no_null func ∷ []) ∷ []) ∷ []
non_null_carries = refl

-- those below it keep theirs
null_below_carried : carried (record { kind = Block; block_type = to_two_funcrefs } ∷ []) (br_on_non_null 0) (null func ∷ null func ∷ []) ≡ (0, null func ∷ no_null func ∷ []) ∷ [] × InBlock to_two_funcrefs (ref_null func ∷ ref_null func ∷ br_on_non_null 0 ∷ []) (Known (null func) ∷ []) false
null_below_carried = (refl, refl)

-- it wants the label's types, the last with null, and pushes those before it
non_null_wants : map (λ bt. record ((operator (under function_references) (br_on_non_null 0)).row (record { kind = Block; block_type = bt } ∷ [])) { targets = [] }) (to_i32_and_funcref ∷ to_i32_and_func ∷ Val (no_null (concrete 0)) ∷ []) ≡ plain_row (I32 ∷ null func ∷ []) (I32 ∷ []) ∷ plain_row (I32 ∷ null func ∷ []) (I32 ∷ []) ∷ plain_row (null (concrete 0) ∷ []) [] ∷ []
non_null_wants = refl

-- of a loop the parameters
non_null_to_loop : after_all cx to_nothing (i64_const ∷ ref_null func ∷ loop (FuncType 6) ∷ br_on_non_null 0 ∷ []) ≡ Some (open_state (frame Loop (FuncType 6) (Known I64 ∷ []) false ∷ frame Block to_nothing [] false ∷ []))
non_null_to_loop = refl

-- a label without types, one whose last is a number, and one that isn't there; also in dead code
non_null_to_none : AllRefusedInBlock Empty ((ref_null func ∷ br_on_non_null 0 ∷ []) ∷ (unreachable ∷ br_on_non_null 0 ∷ []) ∷ (unreachable ∷ br_on_non_null 1 ∷ []) ∷ (unreachable ∷ br_on_non_null 2 ∷ []) ∷ [])
non_null_to_none = refl

non_null_to_number : AllRefusedInBlock (Val I32) ((i32_const ∷ br_on_non_null 0 ∷ []) ∷ (i32_const ∷ ref_null func ∷ br_on_non_null 0 ∷ []) ∷ (unreachable ∷ br_on_non_null 0 ∷ []) ∷ []) × AllRefusedInBlock to_funcref_and_i32 ((ref_null func ∷ i32_const ∷ br_on_non_null 0 ∷ []) ∷ (i32_const ∷ ref_null func ∷ br_on_non_null 0 ∷ []) ∷ (unreachable ∷ br_on_non_null 0 ∷ []) ∷ [])
non_null_to_number = (refl, refl)

-- without the reference, with a number for it, and with another one
non_null_of_other : AllRefusedInBlock (Val (null func)) ((br_on_non_null 0 ∷ []) ∷ (i32_const ∷ br_on_non_null 0 ∷ []) ∷ (ref_null extern ∷ br_on_non_null 0 ∷ []) ∷ (unreachable ∷ ref_null extern ∷ br_on_non_null 0 ∷ []) ∷ []) × AllRefusedInBlock (Val (null (concrete 0))) ((ref_null func ∷ br_on_non_null 0 ∷ []) ∷ (null_of 1 ∷ br_on_non_null 0 ∷ []) ∷ [])
non_null_of_other = (refl, refl)

-- without the operands below it, with them above it, and with others
non_null_over_other : AllRefusedInBlock to_i32_and_funcref ((ref_null func ∷ br_on_non_null 0 ∷ []) ∷ (ref_null func ∷ i32_const ∷ br_on_non_null 0 ∷ []) ∷ (i64_const ∷ ref_null func ∷ br_on_non_null 0 ∷ []) ∷ (unreachable ∷ i64_const ∷ ref_null func ∷ br_on_non_null 0 ∷ []) ∷ [])
non_null_over_other = refl

-- in dead code the label's types but the last
non_null_in_dead : InBlock to_i32_and_funcref (unreachable ∷ br_on_non_null 0 ∷ []) (Known I32 ∷ []) true × InBlock to_i32_and_funcref (unreachable ∷ as_non_null ∷ br_on_non_null 0 ∷ []) (Known I32 ∷ []) true
non_null_in_dead = (refl, refl)

-- neither branch ends the live part, so that what follows finds no operands that aren't there
live_behind : AllRefusedInBlock (Val I32) ((i32_const ∷ ref_null func ∷ br_on_null 0 ∷ drops ∷ drops ∷ end ∷ []) ∷ []) × AllRefusedInBlock to_i32_and_funcref ((i32_const ∷ ref_null func ∷ br_on_non_null 0 ∷ end ∷ []) ∷ [])
live_behind = (refl, refl)

-- ---- the proposals that each needs

abbrev on_references : List Op
on_references = ref_null func ∷ is_null ∷ ref_func 0 ∷ as_non_null ∷ br_on_null 0 ∷ []

by_references : map (premise (under reference_types)) on_references ≡ true ∷ true ∷ true ∷ false ∷ false ∷ []
by_references = refl

by_function_references : map (premise (under function_references)) on_references ≡ false ∷ false ∷ false ∷ true ∷ true ∷ []
by_function_references = refl

without_references : map (premise (under (every - reference_types))) on_references ≡ false ∷ false ∷ false ∷ true ∷ true ∷ []
without_references = refl

without_function_references : map (premise (under (every - function_references))) on_references ≡ true ∷ true ∷ true ∷ false ∷ false ∷ []
without_function_references = refl

-- to a label of a reference
abbrev non_null_premise : ℕ → Bool
non_null_premise bits = ((operator (under bits) (br_on_non_null 0)).row (record { kind = Block; block_type = Val (null func) } ∷ [])).premise

non_null_by_proposal : map non_null_premise (function_references ∷ reference_types ∷ (every - function_references) ∷ (every - reference_types) ∷ []) ≡ true ∷ false ∷ false ∷ true ∷ []
non_null_by_proposal = refl
