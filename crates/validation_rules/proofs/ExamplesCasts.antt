-- The table's operators that look below an abstract type, casts, and branches by a cast, computed: what
-- each wants, pushes and carries, and what each of its premises refuses. What is expected is what the
-- standard's rules say of them, and for shared types the proposal shared-everything-threads.
use Rattle.std.proofs.Common.{◌≡◌, ◌-◌, ◌+◌, ℕ, Bool, true, false, List, [], ◌∷◌, map, Option, Some, None, refl}
use Rattle.validate_resources.specs.Lists.{Declared}
use Rattle.validate_resources.specs.Named.{nothing_declared}
use Rattle.validate_types.specs.Features.{reference_types, function_references, gc, shared_everything_threads, exceptions}
use Rattle.validate_types.specs.Refs.{reference}
use Rattle.validate_types.specs.declared.heap.AbstractHeapType.TheVariants.{Func, NoFunc, Extern, NoExtern, Any, Eq as EqHeap, I31, Struct as StructHeap, Array as ArrayHeap, None as NoneHeap, Exn, NoExn, Cont, NoCont}
use Rattle.validate_types.specs.declared.heap.HeapType.{HeapType}
use Rattle.validate_types.specs.declared.refs.RefType.{RefType}
use Rattle.validate_types.specs.declared.types.CompositeInnerType.TheVariants.{Struct as StructInner, Array as ArrayInner}
use Rattle.validate_types.specs.declared.types.StorageType.TheVariants.{I8}
use Rattle.validate_visit.specs.declared.numbers.Sign.TheVariants.{Signed, Unsigned}
use Rattle.validate_visit.specs.declared.op.Op.{Op}
use Rattle.validate_visit.specs.declared.op.Op.TheVariants.{Reference}
use Rattle.validate_visit.specs.declared.op.ReferenceOp.TheVariants.{RefEq, RefTestNonNull, RefTestNullable, RefCastNonNull, RefCastNullable, BrOnCast, BrOnCastFail, RefI31, I31Get, AnyConvertExtern, ExternConvertAny}
use Rattle.validation_rules.specs.Context.{SubType, ValType, I32, I64, F32, BlockType, Empty, Val, FuncType, Context}
use Rattle.validation_rules.specs.Fits.{MaybeType, Bottom, UnknownRef, Known}
use Rattle.validation_rules.specs.Rows.{Head, Loop, body_head}
use Rattle.validation_rules.specs.Static.{State, open_state, step}
use Rattle.validation_rules.specs.Operators.{row_operator, plain_row, operator}
use Rattle.validation_rules.proofs.ExampleWords.{null, no_null, abstract, shared, id, concrete, named}
use Rattle.validation_rules.proofs.ExampleWords.{an_open_type, of_functions, every, within, block_head, premise_in}

-- ---- a module of functions, structs and arrays

abbrev to_types : List ValType → SubType
to_types results = an_open_type None false (of_functions [] results)

-- 1 is a struct, 2 one below it, 3 a shared one, 4 an array; the functions are what blocks give
abbrev types : List SubType
types =
    to_types []
    ∷ an_open_type None false (StructInner [])
    ∷ an_open_type (Some (id 1)) false (StructInner [])
    ∷ an_open_type None true (StructInner [])
    ∷ an_open_type None false (ArrayInner (record { 0 = record { element_type = I8; mutable = true } }))
    ∷ to_types (I32 ∷ null (abstract Any) ∷ [])
    ∷ to_types (I64 ∷ I32 ∷ no_null (abstract EqHeap) ∷ [])
    ∷ to_types (null (abstract Any) ∷ I32 ∷ [])
    ∷ []

abbrev declared : Declared
declared = record nothing_declared { types = types }

-- with these proposals on
abbrev under : ℕ → Context
under bits = within declared bits false

abbrev cx : Context
cx = under every

-- ---- operators

abbrev ref_eq : Op
ref_eq = Reference RefEq

abbrev ref_i31 : Op
ref_i31 = Reference RefI31

abbrev i31_get_s : Op
i31_get_s = Reference (I31Get Signed)

abbrev i31_get_u : Op
i31_get_u = Reference (I31Get Unsigned)

abbrev any_convert_extern : Op
any_convert_extern = Reference AnyConvertExtern

abbrev extern_convert_any : Op
extern_convert_any = Reference ExternConvertAny

abbrev ref_test : HeapType → Op
ref_test h = Reference (RefTestNonNull h)

abbrev ref_test_null : HeapType → Op
ref_test_null h = Reference (RefTestNullable h)

abbrev ref_cast : HeapType → Op
ref_cast h = Reference (RefCastNonNull h)

abbrev ref_cast_null : HeapType → Op
ref_cast_null h = Reference (RefCastNullable h)

-- to this label, from the one type to the other
abbrev br_on_cast : ℕ → RefType → RefType → Op
br_on_cast d from to = Reference (BrOnCast (record { relative_depth = d; from_ref_type = from; to_ref_type = to }))

abbrev br_on_cast_fail : ℕ → RefType → RefType → Op
br_on_cast_fail d from to = Reference (BrOnCastFail (record { relative_depth = d; from_ref_type = from; to_ref_type = to }))

-- ---- outcomes

abbrev state_in : BlockType → List MaybeType → Bool → State
state_in ty own dead = open_state (record { head = body_head ty; operands = own; dead = dead; first_set = [] } ∷ [])

abbrev state : List MaybeType → Bool → State
state own dead = state_in Empty own dead

-- the state after the operator over these operands, the top first
abbrev live_after : Op × List ValType → Option State
live_after p = step cx (operator cx p.0) (state (map Known p.1) false)

abbrev dead_after : Op × List MaybeType → Option State
dead_after p = step cx (operator cx p.0) (state p.1 true)

abbrev Goes : Op → List ValType → List ValType → Type 0
Goes op own left = live_after (op, own) ≡ Some (state (map Known left) false)

abbrev GoesInDead : Op → List MaybeType → List MaybeType → Type 0
GoesInDead op own left = dead_after (op, own) ≡ Some (state left true)

-- the operator over each of these, for each the same
abbrev EachGives : Op → List ValType → List ValType → Type 0
EachGives op found given = map (λ t. live_after (op, t ∷ F32 ∷ [])) found ≡ map (λ t. Some (state (Known t ∷ Known F32 ∷ []) false)) given

abbrev EachDeadGives : Op → List MaybeType → List MaybeType → Type 0
EachDeadGives op found given = map (λ x. dead_after (op, x ∷ [])) found ≡ map (λ x. Some (state (x ∷ []) true)) given

-- each of these alone is refused
abbrev NoneGoes : List (Op × List ValType) → Type 0
NoneGoes steps = map live_after steps ≡ map (λ p. None) steps

abbrev NoneGoesInDead : List (Op × List MaybeType) → Type 0
NoneGoesInDead steps = map dead_after steps ≡ map (λ p. None) steps

abbrev premises : Context → List Head → List Op → List Bool
premises c hs ops = map (λ op. premise_in c hs op) ops

-- With `gc` and these proposals alone, the operator wants and pushes exactly these types, and does nothing
-- else; with all but `gc` its row doesn't hold.
abbrev Says : Op → List ValType → List ValType → ℕ → Type 0
Says op expected pushed others =
    (operator (under (others + gc)) op ≡ row_operator (plain_row expected pushed)) × (premises (under (every - gc)) [] (op ∷ []) ≡ false ∷ [])

-- ---- `ref.i31` and `i31.get`

makes_i31 : Says ref_i31 (I32 ∷ []) (no_null (abstract I31) ∷ []) 0
makes_i31 = (refl, refl)

i31_refused : NoneGoes ((ref_i31, []) ∷ (ref_i31, I64 ∷ []) ∷ (i31_get_s, []) ∷ (i31_get_s, I32 ∷ []) ∷ (i31_get_u, null (abstract EqHeap) ∷ []) ∷ (i31_get_u, null (abstract Any) ∷ []) ∷ (i31_get_s, null (concrete 1) ∷ []) ∷ (i31_get_s, null (abstract StructHeap) ∷ []) ∷ (i31_get_s, null (shared EqHeap) ∷ []) ∷ [])
i31_refused = refl

abbrev integers : List ValType
integers = null (abstract I31) ∷ no_null (abstract I31) ∷ null (shared I31) ∷ no_null (shared I31) ∷ null (abstract NoneHeap) ∷ null (shared NoneHeap) ∷ []

reads_i31 : EachGives i31_get_s integers (map (λ t. I32) integers) × EachGives i31_get_u integers (map (λ t. I32) integers)
reads_i31 = (refl, refl)

abbrev unknown_integers : List MaybeType
unknown_integers = Bottom ∷ UnknownRef None ∷ UnknownRef (Some I31) ∷ UnknownRef (Some NoneHeap) ∷ Known (null (shared I31)) ∷ []

reads_in_dead : GoesInDead i31_get_s [] (Known I32 ∷ []) × EachDeadGives i31_get_u unknown_integers (map (λ x. Known I32) unknown_integers)
reads_in_dead = (refl, refl)

not_integers : NoneGoesInDead (map (λ x. (i31_get_s, x ∷ [])) (UnknownRef (Some EqHeap) ∷ UnknownRef (Some Any) ∷ UnknownRef (Some StructHeap) ∷ UnknownRef (Some Func) ∷ Known I32 ∷ Known (null (abstract EqHeap)) ∷ []))
not_integers = refl

-- ---- `ref.eq`

abbrev comparable : List ValType
comparable = null (abstract EqHeap) ∷ no_null (abstract EqHeap) ∷ null (abstract I31) ∷ null (abstract StructHeap) ∷ no_null (abstract ArrayHeap) ∷ null (abstract NoneHeap) ∷ null (concrete 1) ∷ no_null (concrete 4) ∷ []

abbrev shared_comparable : List ValType
shared_comparable = null (shared EqHeap) ∷ no_null (shared I31) ∷ null (shared NoneHeap) ∷ null (concrete 3) ∷ []

abbrev not_comparable : List ValType
not_comparable = null (abstract Any) ∷ null (abstract Func) ∷ null (abstract Extern) ∷ null (concrete 0) ∷ null (shared Any) ∷ null (shared Func) ∷ I32 ∷ null (concrete 8) ∷ []

-- either above the other
abbrev compares : ValType → ValType → Option State × Option State
compares t u = (live_after (ref_eq, t ∷ u ∷ F32 ∷ []), live_after (ref_eq, u ∷ t ∷ F32 ∷ []))

abbrev compared : Option State × Option State
compared = let s = state (Known I32 ∷ Known F32 ∷ []) false in (Some s, Some s)

compares_each : map (compares (no_null (concrete 2))) comparable ≡ map (λ t. compared) comparable
compares_each = refl

compares_shared : map (compares (null (shared StructHeap))) shared_comparable ≡ map (λ t. compared) shared_comparable
compares_shared = refl

-- of different sharedness
not_together : map (compares (null (abstract EqHeap))) shared_comparable ≡ map (λ t. (None, None)) shared_comparable
not_together = refl

compares_no_other : map (compares (null (abstract EqHeap))) not_comparable ≡ map (λ t. (None, None)) not_comparable
compares_no_other = refl

one_alone : NoneGoes ((ref_eq, []) ∷ (ref_eq, null (abstract EqHeap) ∷ []) ∷ [])
one_alone = refl

-- what isn't known has any sharedness
abbrev comparable_in_dead : List (List MaybeType)
comparable_in_dead = [] ∷ (Known (null (shared EqHeap)) ∷ []) ∷ (UnknownRef None ∷ Known (null (shared EqHeap)) ∷ []) ∷ (UnknownRef (Some EqHeap) ∷ UnknownRef (Some I31) ∷ []) ∷ (UnknownRef (Some ArrayHeap) ∷ Known (null (abstract I31)) ∷ []) ∷ (Known (null (shared I31)) ∷ Bottom ∷ []) ∷ []

compares_in_dead : map (λ xs. dead_after (ref_eq, xs)) comparable_in_dead ≡ map (λ xs. Some (state (Known I32 ∷ []) true)) comparable_in_dead
compares_in_dead = refl

not_compared_in_dead : NoneGoesInDead (map (λ xs. (ref_eq, xs)) ((UnknownRef (Some Any) ∷ []) ∷ (UnknownRef None ∷ UnknownRef (Some Any) ∷ []) ∷ (UnknownRef (Some Extern) ∷ []) ∷ (Known I32 ∷ []) ∷ (Known (null (abstract EqHeap)) ∷ Known (null (shared EqHeap)) ∷ []) ∷ (Bottom ∷ Known (null (abstract Any)) ∷ []) ∷ []))
not_compared_in_dead = refl

-- ---- conversions: null and sharedness stay as they are

converts_extern : EachGives any_convert_extern (null (abstract Extern) ∷ no_null (abstract Extern) ∷ null (shared Extern) ∷ no_null (shared Extern) ∷ null (abstract NoExtern) ∷ no_null (shared NoExtern) ∷ []) (null (abstract Any) ∷ no_null (abstract Any) ∷ null (shared Any) ∷ no_null (shared Any) ∷ null (abstract Any) ∷ no_null (shared Any) ∷ [])
converts_extern = refl

converts_any : EachGives extern_convert_any (null (abstract Any) ∷ no_null (abstract Any) ∷ null (shared Any) ∷ no_null (shared I31) ∷ null (concrete 1) ∷ no_null (concrete 3) ∷ no_null (abstract EqHeap) ∷ []) (null (abstract Extern) ∷ no_null (abstract Extern) ∷ null (shared Extern) ∷ no_null (shared Extern) ∷ null (abstract Extern) ∷ no_null (shared Extern) ∷ no_null (abstract Extern) ∷ [])
converts_any = refl

not_converted : NoneGoes ((any_convert_extern, []) ∷ (any_convert_extern, null (abstract Any) ∷ []) ∷ (any_convert_extern, null (abstract Func) ∷ []) ∷ (any_convert_extern, I32 ∷ []) ∷ (extern_convert_any, []) ∷ (extern_convert_any, null (abstract Extern) ∷ []) ∷ (extern_convert_any, null (concrete 0) ∷ []) ∷ (extern_convert_any, I32 ∷ []) ∷ [])
not_converted = refl

-- of what isn't known, a reference of which the abstract type is
converts_in_dead : GoesInDead any_convert_extern [] (UnknownRef (Some Any) ∷ []) × EachDeadGives any_convert_extern (Bottom ∷ UnknownRef None ∷ UnknownRef (Some Extern) ∷ UnknownRef (Some NoExtern) ∷ Known (no_null (shared Extern)) ∷ []) (UnknownRef (Some Any) ∷ UnknownRef (Some Any) ∷ UnknownRef (Some Any) ∷ UnknownRef (Some Any) ∷ Known (no_null (shared Any)) ∷ [])
converts_in_dead = (refl, refl)

converts_back_in_dead : GoesInDead extern_convert_any [] (UnknownRef (Some Extern) ∷ []) × EachDeadGives extern_convert_any (Bottom ∷ UnknownRef None ∷ UnknownRef (Some Any) ∷ UnknownRef (Some I31) ∷ Known (null (abstract I31)) ∷ []) (UnknownRef (Some Extern) ∷ UnknownRef (Some Extern) ∷ UnknownRef (Some Extern) ∷ UnknownRef (Some Extern) ∷ Known (null (abstract Extern)) ∷ [])
converts_back_in_dead = (refl, refl)

not_converted_in_dead : NoneGoesInDead ((any_convert_extern, UnknownRef (Some Any) ∷ []) ∷ (any_convert_extern, UnknownRef (Some Func) ∷ []) ∷ (any_convert_extern, Known I32 ∷ []) ∷ (extern_convert_any, UnknownRef (Some Extern) ∷ []) ∷ (extern_convert_any, UnknownRef (Some NoFunc) ∷ []) ∷ [])
not_converted_in_dead = refl

looking_closed : premises (under (every - gc)) [] (ref_eq ∷ i31_get_s ∷ i31_get_u ∷ any_convert_extern ∷ extern_convert_any ∷ []) ≡ false ∷ false ∷ false ∷ false ∷ false ∷ []
looking_closed = refl

looking_open : premises (under gc) [] (ref_eq ∷ i31_get_s ∷ i31_get_u ∷ any_convert_extern ∷ extern_convert_any ∷ []) ≡ true ∷ true ∷ true ∷ true ∷ true ∷ []
looking_open = refl

-- ---- tests and casts: of any reference of the hierarchy, or null

tests_abstract : Says (ref_test (abstract I31)) (null (abstract Any) ∷ []) (I32 ∷ []) reference_types × Says (ref_test_null (abstract NoneHeap)) (null (abstract Any) ∷ []) (I32 ∷ []) reference_types × Says (ref_test_null (abstract Func)) (null (abstract Func) ∷ []) (I32 ∷ []) reference_types
tests_abstract = ((refl, refl), (refl, refl), (refl, refl))

tests_named : Says (ref_test (named 1)) (null (abstract Any) ∷ []) (I32 ∷ []) reference_types × Says (ref_test (named 0)) (null (abstract Func) ∷ []) (I32 ∷ []) reference_types × Says (ref_test (named 3)) (null (shared Any) ∷ []) (I32 ∷ []) reference_types
tests_named = ((refl, refl), (refl, refl), (refl, refl))

casts_abstract : Says (ref_cast (abstract I31)) (null (abstract Any) ∷ []) (no_null (abstract I31) ∷ []) reference_types × Says (ref_cast_null (abstract I31)) (null (abstract Any) ∷ []) (null (abstract I31) ∷ []) reference_types × Says (ref_cast_null (abstract NoExtern)) (null (abstract Extern) ∷ []) (null (abstract NoExtern) ∷ []) reference_types
casts_abstract = ((refl, refl), (refl, refl), (refl, refl))

-- the index of the module becomes the id
casts_named : Says (ref_cast (named 4)) (null (abstract Any) ∷ []) (no_null (concrete 4) ∷ []) reference_types × Says (ref_cast_null (named 3)) (null (shared Any) ∷ []) (null (concrete 3) ∷ []) reference_types × Says (ref_cast_null (named 0)) (null (abstract Func) ∷ []) (null (concrete 0) ∷ []) reference_types
casts_named = ((refl, refl), (refl, refl), (refl, refl))

casts_shared : Says (ref_cast (shared I31)) (null (shared Any) ∷ []) (no_null (shared I31) ∷ []) (reference_types + shared_everything_threads)
casts_shared = (refl, refl)

-- also to a type above the operand's
casts : Goes (ref_cast (named 2)) (null (concrete 1) ∷ F32 ∷ []) (no_null (concrete 2) ∷ F32 ∷ []) × Goes (ref_cast_null (abstract EqHeap)) (no_null (concrete 2) ∷ []) (null (abstract EqHeap) ∷ []) × Goes (ref_test (named 1)) (null (abstract I31) ∷ F32 ∷ []) (I32 ∷ F32 ∷ [])
casts = (refl, refl, refl)

-- of another hierarchy, of other sharedness, of a number, and of nothing
cast_refused : NoneGoes ((ref_cast (named 1), null (abstract Func) ∷ []) ∷ (ref_cast (named 1), null (shared Any) ∷ []) ∷ (ref_cast (named 3), null (abstract Any) ∷ []) ∷ (ref_cast (abstract I31), null (abstract Extern) ∷ []) ∷ (ref_cast_null (abstract Any), I32 ∷ []) ∷ (ref_cast (named 1), []) ∷ (ref_test (named 0), null (abstract Any) ∷ []) ∷ (ref_test_null (named 1), null (concrete 3) ∷ []) ∷ (ref_test (named 1), []) ∷ [])
cast_refused = refl

cast_in_dead : GoesInDead (ref_cast (named 1)) [] (Known (no_null (concrete 1)) ∷ []) × GoesInDead (ref_test_null (named 1)) (UnknownRef None ∷ []) (Known I32 ∷ []) × GoesInDead (ref_cast_null (named 1)) (UnknownRef (Some I31) ∷ []) (Known (null (concrete 1)) ∷ [])
cast_in_dead = (refl, refl, refl)

-- each by whether it may be null
abbrev to_each : HeapType → List Op
to_each h = ref_test h ∷ ref_test_null h ∷ ref_cast h ∷ ref_cast_null h ∷ []

abbrev each_false : List Bool
each_false = false ∷ false ∷ false ∷ false ∷ []

abbrev each_true : List Bool
each_true = true ∷ true ∷ true ∷ true ∷ []

-- no cast leads to a continuation, and none to a type that isn't there
no_continuation : map (λ h. premises cx [] (to_each h)) (abstract Cont ∷ abstract NoCont ∷ shared Cont ∷ shared NoCont ∷ named 8 ∷ []) ≡ each_false ∷ each_false ∷ each_false ∷ each_false ∷ each_false ∷ []
no_continuation = refl

to_each_hierarchy : map (λ h. premises cx [] (to_each h)) (abstract Func ∷ abstract Extern ∷ abstract Any ∷ abstract Exn ∷ abstract NoExn ∷ shared Any ∷ named 0 ∷ named 3 ∷ named 4 ∷ []) ≡ each_true ∷ each_true ∷ each_true ∷ each_true ∷ each_true ∷ each_true ∷ each_true ∷ each_true ∷ each_true ∷ []
to_each_hierarchy = refl

-- the gates of the types: a function without null is of the references to functions
by_gate : premises (under (gc + reference_types)) [] (ref_cast (abstract Func) ∷ ref_cast_null (abstract Func) ∷ ref_cast (abstract Exn) ∷ ref_cast (shared Any) ∷ ref_cast (named 0) ∷ []) ≡ false ∷ true ∷ false ∷ false ∷ true ∷ []
by_gate = refl

by_other_gates : premises (under (gc + reference_types + function_references + exceptions + shared_everything_threads)) [] (ref_cast (abstract Func) ∷ ref_cast (abstract Exn) ∷ ref_cast (shared Any) ∷ []) ≡ true ∷ true ∷ true ∷ []
by_other_gates = refl

without_references : premises (under (every - reference_types)) [] (to_each (abstract Any)) ≡ each_false
without_references = refl

-- ---- branches by a cast

-- labels 0 to 4: an i32 and any reference; no type; i64, i32 and one that can be compared; a number last;
-- that of a loop, which has none
abbrev outer : List Head
outer = block_head (FuncType 5) ∷ block_head Empty ∷ block_head (FuncType 6) ∷ block_head (FuncType 7) ∷ record { kind = Loop; block_type = Val (null (abstract Any)) } ∷ body_head (Val (null (abstract Extern))) ∷ []

-- under these two proposals alone
abbrev casting : Context
casting = under (reference_types + gc)

-- the labels that the operator may branch to, with what it carries there from these operands
abbrev carried_from : Op → List ValType → List (ℕ × List ValType)
carried_from op found = map (λ t. (t.depth, t.carried found)) ((operator casting op).row outer).targets

-- what it wants and pushes, and what it carries of these operands, the last on top
abbrev Branches : Op → List ValType → List ValType → ℕ → List ValType → List ValType → Type 0
Branches op expected pushed d found carried =
    (record ((operator casting op).row outer) { targets = [] } ≡ plain_row expected pushed) × (carried_from op found ≡ (d, carried) ∷ []) × (premises (under (every - gc)) outer (op ∷ []) ≡ false ∷ [])

abbrev any : Bool → RefType
any nullable = reference nullable (abstract Any)

abbrev i31 : Bool → RefType
i31 nullable = reference nullable (abstract I31)

abbrev eq : Bool → RefType
eq nullable = reference nullable (abstract EqHeap)

-- to a type without null: what is left may be null, where the operand may
on_cast : Branches (br_on_cast 0 (any true) (i31 false)) (I32 ∷ null (abstract Any) ∷ []) (I32 ∷ null (abstract Any) ∷ []) 0 (I32 ∷ null (abstract EqHeap) ∷ []) (I32 ∷ no_null (abstract I31) ∷ [])
on_cast = (refl, refl, refl)

-- to one with null: what is left is never null
on_cast_null : Branches (br_on_cast 0 (any true) (i31 true)) (I32 ∷ null (abstract Any) ∷ []) (I32 ∷ no_null (abstract Any) ∷ []) 0 (I32 ∷ null (abstract Any) ∷ []) (I32 ∷ null (abstract I31) ∷ [])
on_cast_null = (refl, refl, refl)

on_cast_without : Branches (br_on_cast 2 (any false) (i31 false)) (I64 ∷ I32 ∷ no_null (abstract Any) ∷ []) (I64 ∷ I32 ∷ no_null (abstract Any) ∷ []) 2 (I64 ∷ I32 ∷ no_null (abstract Any) ∷ []) (I64 ∷ I32 ∷ no_null (abstract I31) ∷ [])
on_cast_without = (refl, refl, refl)

-- where it fails, what is left is carried
on_fail : Branches (br_on_cast_fail 0 (any true) (i31 false)) (I32 ∷ null (abstract Any) ∷ []) (I32 ∷ no_null (abstract I31) ∷ []) 0 (I32 ∷ null (abstract EqHeap) ∷ []) (I32 ∷ null (abstract Any) ∷ [])
on_fail = (refl, refl, refl)

on_fail_null : Branches (br_on_cast_fail 2 (eq true) (i31 true)) (I64 ∷ I32 ∷ null (abstract EqHeap) ∷ []) (I64 ∷ I32 ∷ null (abstract I31) ∷ []) 2 (I64 ∷ I32 ∷ null (abstract EqHeap) ∷ []) (I64 ∷ I32 ∷ no_null (abstract EqHeap) ∷ [])
on_fail_null = (refl, refl, refl)

-- the indices of the module become ids
on_cast_named : Branches (br_on_cast 0 (reference true (named 1)) (reference false (named 2))) (I32 ∷ null (concrete 1) ∷ []) (I32 ∷ null (concrete 1) ∷ []) 0 (I32 ∷ null (concrete 1) ∷ []) (I32 ∷ no_null (concrete 2) ∷ [])
on_cast_named = (refl, refl, refl)

on_fail_named : Branches (br_on_cast_fail 0 (reference true (named 1)) (reference true (named 2))) (I32 ∷ null (concrete 1) ∷ []) (I32 ∷ null (concrete 2) ∷ []) 0 (I32 ∷ null (concrete 1) ∷ []) (I32 ∷ no_null (concrete 1) ∷ [])
on_fail_named = (refl, refl, refl)

-- what is carried lies below the last of the label's types: it is what is cast, or what is left
carried_below : premises cx outer (br_on_cast 2 (any true) (i31 false) ∷ br_on_cast 2 (any true) (i31 true) ∷ br_on_cast 2 (any true) (any false) ∷ br_on_cast_fail 2 (eq true) (i31 true) ∷ br_on_cast_fail 2 (eq true) (i31 false) ∷ br_on_cast_fail 2 (any true) (i31 true) ∷ br_on_cast_fail 2 (eq false) (i31 false) ∷ []) ≡ true ∷ false ∷ false ∷ true ∷ false ∷ false ∷ true ∷ []
carried_below = refl

abbrev to_others : List Op
to_others = br_on_cast 0 (any true) (any true) ∷ br_on_cast 0 (i31 true) (i31 false) ∷ br_on_cast 0 (i31 true) (any true) ∷ br_on_cast 0 (any false) (i31 true) ∷ br_on_cast 0 (i31 true) (reference false (abstract StructHeap)) ∷ br_on_cast 0 (reference true (named 2)) (reference true (named 1)) ∷ br_on_cast_fail 0 (i31 true) (any true) ∷ br_on_cast_fail 0 (any false) (i31 true) ∷ []

-- the type that it is cast to lies below that of the operand, in null too
cast_below : premises casting outer to_others ≡ true ∷ true ∷ false ∷ false ∷ false ∷ false ∷ false ∷ false ∷ []
cast_below = refl

-- where references can be exact, it may be any type of the hierarchy, of the same sharedness
cast_beside : premises cx outer to_others ≡ true ∷ true ∷ true ∷ true ∷ true ∷ true ∷ true ∷ true ∷ []
cast_beside = refl

cast_to_other_hierarchy : premises cx outer (br_on_cast_fail 0 (any true) (reference true (abstract Func)) ∷ br_on_cast_fail 0 (any true) (reference true (shared Any)) ∷ br_on_cast_fail 0 (any true) (reference true (named 3)) ∷ br_on_cast_fail 0 (any true) (reference true (named 0)) ∷ []) ≡ false ∷ false ∷ false ∷ false ∷ []
cast_to_other_hierarchy = refl

-- each of these alone: to a label without types, to one whose last type is a number, and to one that isn't there
abbrev from_any_at : ℕ → List Op
from_any_at d = br_on_cast d (any true) (i31 false) ∷ br_on_cast_fail d (any true) (i31 false) ∷ []

labels : map (λ d. premises cx outer (from_any_at d)) (0 ∷ 1 ∷ 2 ∷ 3 ∷ 4 ∷ 5 ∷ 6 ∷ []) ≡ (true ∷ true ∷ []) ∷ (false ∷ false ∷ []) ∷ (true ∷ false ∷ []) ∷ (false ∷ false ∷ []) ∷ (false ∷ false ∷ []) ∷ (false ∷ false ∷ []) ∷ (false ∷ false ∷ []) ∷ []
labels = refl

-- to the body's results
to_results : premises cx outer (br_on_cast 5 (reference true (abstract Extern)) (reference true (abstract NoExtern)) ∷ br_on_cast 5 (reference true (shared Extern)) (reference true (shared NoExtern)) ∷ []) ≡ true ∷ false ∷ []
to_results = refl

-- no cast leads to a continuation, whatever the label
to_continuation : premises cx (block_head (Val (null (abstract Cont))) ∷ []) (br_on_cast 0 (reference true (abstract Cont)) (reference true (abstract NoCont)) ∷ br_on_cast_fail 0 (reference true (abstract Cont)) (reference true (abstract Cont)) ∷ []) ≡ false ∷ false ∷ []
to_continuation = refl

to_exception : premises cx (block_head (Val (null (abstract Exn))) ∷ []) (br_on_cast 0 (reference true (abstract Exn)) (reference true (abstract NoExn)) ∷ br_on_cast_fail 0 (reference true (abstract Exn)) (reference true (abstract Exn)) ∷ []) ≡ true ∷ true ∷ []
to_exception = refl

-- both types are known, and their gates open
unknown_types : premises cx outer (br_on_cast 0 (reference true (named 8)) (i31 false) ∷ br_on_cast 0 (any true) (reference true (named 8)) ∷ br_on_cast_fail 0 (reference true (named 8)) (reference true (named 8)) ∷ []) ≡ false ∷ false ∷ false ∷ []
unknown_types = refl

closed_types : premises (under (every - shared_everything_threads)) (block_head (Val (null (shared Any))) ∷ []) (br_on_cast 0 (reference true (shared Any)) (reference false (shared I31)) ∷ []) ≡ false ∷ [] × premises cx (block_head (Val (null (shared Any))) ∷ []) (br_on_cast 0 (reference true (shared Any)) (reference false (shared I31)) ∷ []) ≡ true ∷ [] × premises (under (every - reference_types)) outer (from_any_at 0) ≡ false ∷ false ∷ []
closed_types = (refl, refl, refl)

-- ---- branches by a cast, over operands

-- the state after it in a body that gives an i32 and any reference
abbrev branch_after : Op → List MaybeType → Bool → Option State
branch_after op own dead = step cx (operator cx op) (state_in (FuncType 5) own dead)

-- a reference below the operand's type becomes what is left; what lies below the label's types stays
falls_through : branch_after (br_on_cast 0 (any true) (i31 true)) (Known (null (concrete 1)) ∷ Known I32 ∷ Known F32 ∷ []) false ≡ Some (state_in (FuncType 5) (Known (no_null (abstract Any)) ∷ Known I32 ∷ Known F32 ∷ []) false)
falls_through = refl

falls_through_cast : branch_after (br_on_cast_fail 0 (any true) (i31 true)) (Known (null (concrete 1)) ∷ Known I32 ∷ []) false ≡ Some (state_in (FuncType 5) (Known (null (abstract I31)) ∷ Known I32 ∷ []) false)
falls_through_cast = refl

abbrev both_after : List MaybeType → Bool → List (Option State)
both_after own dead = map (λ op. branch_after op own dead) (br_on_cast 0 (eq true) (i31 true) ∷ br_on_cast_fail 0 (eq true) (i31 true) ∷ [])

-- without a reference, with one above, with a number, and over another type
branch_refused : map (λ own. both_after own false) ((Known I32 ∷ []) ∷ (Known (null (abstract Any)) ∷ Known I32 ∷ []) ∷ (Known I32 ∷ Known I32 ∷ []) ∷ (Known (null (abstract EqHeap)) ∷ Known I64 ∷ []) ∷ (Known (null (abstract EqHeap)) ∷ []) ∷ (Known (null (shared EqHeap)) ∷ Known I32 ∷ []) ∷ []) ≡ map (λ n. None ∷ None ∷ []) (Empty ∷ Empty ∷ Empty ∷ Empty ∷ Empty ∷ Empty ∷ [])
branch_refused = refl

branch_in_dead : map (λ own. both_after own true) ([] ∷ (UnknownRef None ∷ []) ∷ (UnknownRef (Some StructHeap) ∷ Known I32 ∷ []) ∷ []) ≡ map (λ n. Some (state_in (FuncType 5) (Known (no_null (abstract EqHeap)) ∷ Known I32 ∷ []) true) ∷ Some (state_in (FuncType 5) (Known (null (abstract I31)) ∷ Known I32 ∷ []) true) ∷ []) (Empty ∷ Empty ∷ Empty ∷ [])
branch_in_dead = refl

branch_of_other_known : map (λ own. both_after own true) ((UnknownRef (Some Any) ∷ []) ∷ (Known I32 ∷ []) ∷ (Bottom ∷ Known I64 ∷ []) ∷ []) ≡ map (λ n. None ∷ None ∷ []) (Empty ∷ Empty ∷ Empty ∷ [])
branch_of_other_known = refl
