-- The table's operators on exceptions and those of the legacy exceptions, and small bodies of them,
-- computed. What is expected is what the standard's rules say of them, and those of the legacy proposal.
use Rattle.std.proofs.Common.{◌≡◌, ◌-◌, ◌+◌, ℕ, Bool, true, false, List, [], ◌∷◌, ◌++◌, map, Option, Some, None, refl, is_some}
use Rattle.validate_resources.specs.Lists.{Declared, context_of}
use Rattle.validate_resources.specs.Named.{nothing_declared}
use Rattle.validate_types.specs.Features.{multi_value, exceptions, legacy_exceptions}
use Rattle.validate_types.specs.Refs.{reference}
use Rattle.validate_types.specs.declared.heap.AbstractHeapType.TheVariants.{Func as FuncHeap, Any as AnyHeap, Eq as EqHeap, I31 as I31Heap, Exn as ExnHeap, NoExn as NoExnHeap}
use Rattle.validate_types.specs.declared.heap.HeapType.TheVariants.{Abstract}
use Rattle.validate_visit.specs.declared.catch.Catch.{Catch}
use Rattle.validate_visit.specs.declared.catch.Catch.TheVariants.{OneRef, All, AllRef}
use Rattle.validate_visit.specs.declared.op.Op.{Op}
use Rattle.validation_rules.specs.Context.{SubType, ValType, I32, I64, F32, F64, Ref, BlockType, Empty, Val, FuncType, Context}
use Rattle.validation_rules.specs.Fits.{MaybeType, Bottom, UnknownRef, Known}
use Rattle.validation_rules.specs.Rows.{FrameKind, Block, TryTable, LegacyTry, LegacyCatch, LegacyCatchAll, Head, Opens, BeginsCatch, Delegates, Clause, body_head}
use Rattle.validation_rules.specs.Static.{Frame, State, open_state, step, state_before, start, frame_count, operand_count}
use Rattle.validation_rules.specs.Operators.{plain_row, ending_row, row_operator, delimiter_operator, operator, operators}
use Rattle.validation_rules.proofs.Refusals.{IsRefusedAtLast}
use Rattle.validation_rules.proofs.ExampleWords.{null, no_null, abstract, func_type, shared_func_type, every}
use Rattle.validation_rules.proofs.ExampleWords.{unreachable, block, loop, an_if, an_else, end, br, drops}
use Rattle.validation_rules.proofs.ExampleWords.{local_get, local_set, i32_const, i64_const, i32_add, ref_null}
use Rattle.validation_rules.proofs.ExampleWords.{catch, try_table, throw, throw_ref, legacy_try, legacy_catch}
use Rattle.validation_rules.proofs.ExampleWords.{legacy_catch_all, delegate, rethrow, frame, after_all, DoneUnder}
use Rattle.validation_rules.proofs.ExampleWords.{OpenUnder, LeavesUnder, AllRefusedUnder}

-- ---- a module of function types and tags, and a function with two locals of which the first is set at entry

abbrev exnref : ValType
exnref = null (abstract ExnHeap)

-- what exceptions carry, and from 4 on what blocks take and give; 10 is shared
abbrev types : List SubType
types =
    func_type [] []
    ∷ func_type (I32 ∷ []) []
    ∷ func_type (I32 ∷ I64 ∷ []) []
    ∷ func_type (null (abstract EqHeap) ∷ []) []
    ∷ func_type [] (I32 ∷ no_null (abstract ExnHeap) ∷ [])
    ∷ func_type [] (I32 ∷ exnref ∷ [])
    ∷ func_type [] (exnref ∷ I32 ∷ [])
    ∷ func_type (I32 ∷ []) (I64 ∷ [])
    ∷ func_type [] (I32 ∷ I64 ∷ [])
    ∷ func_type [] (I64 ∷ I32 ∷ [])
    ∷ shared_func_type (I32 ∷ []) (I32 ∷ [])
    ∷ []

-- exceptions with tags 0 to 3 carry an i32, nothing, an i32 and an i64, and a reference; tag 4 gives an i32
-- and an i64 back
abbrev declared : Declared
declared = record nothing_declared { types = types; tags = 1 ∷ 0 ∷ 2 ∷ 3 ∷ 8 ∷ [] }

-- with these proposals on
abbrev under : ℕ → Bool → Context
under bits shared = record { of_module = context_of declared; features = record { 0 = bits }; shared = shared; locals = I32 ∷ I64 ∷ []; set_at_entry = true ∷ false ∷ [] }

abbrev cx : Context
cx = under every false

-- in a shared function
abbrev in_shared : Context
in_shared = under every true

-- of a module whose check writes f64 for f32
abbrev rewritten : ValType → ValType
rewritten F32 = F64
rewritten t = t

abbrev writing : Context
writing = record cx { of_module = record (context_of declared) { canonical_type = λ f t. Some (rewritten t) } }

abbrev i32_to_i64 : BlockType
i32_to_i64 = FuncType 7

-- ---- operators

-- clauses of these kinds: with this tag, to this label
abbrev catch_ref : ℕ → ℕ → Catch
catch_ref tag label = OneRef tag label

abbrev catch_all : ℕ → Catch
catch_all label = All label

abbrev catch_all_ref : ℕ → Catch
catch_all_ref label = AllRef label

-- ---- outcomes

abbrev AllRefused : BlockType → List (List Op) → Type 0
AllRefused ty bodies = AllRefusedUnder cx ty bodies

abbrev Refused : BlockType → List Op → Type 0
Refused ty ops = IsRefusedAtLast cx ty ops

-- accepted up to the outermost `end`, with these types left, the top first
abbrev Done : BlockType → List Op → List MaybeType → Type 0
Done ty ops left = DoneUnder cx ty ops left

abbrev Open : BlockType → List Op → List Frame → Type 0
Open ty ops frames = OpenUnder cx ty ops frames

-- in the body's frame
abbrev Leaves : BlockType → List Op → List MaybeType → Bool → Type 0
Leaves ty ops own dead = LeavesUnder cx ty ops own dead

-- in a frame of this kind and type, in a body without results
abbrev InFrame : List Op → FrameKind → BlockType → List MaybeType → Bool → Type 0
InFrame ops kind bt own dead = Open Empty ops (frame kind bt own dead ∷ frame Block Empty [] false ∷ [])

-- the state after the operator over these operands of the body's frame, the top first
abbrev after_over : Bool → Op → List MaybeType → Option State
after_over dead op own = step cx (operator cx op) (open_state (frame Block Empty own dead ∷ []))

-- each of these alone is accepted, and ends the live part
abbrev EachEnds : Bool → Op → List (List MaybeType) → Type 0
EachEnds dead op operands = map (after_over dead op) operands ≡ map (λ own. Some (open_state (frame Block Empty [] true ∷ []))) operands

abbrev NoneGoes : Bool → Op → List (List MaybeType) → Type 0
NoneGoes dead op operands = map (after_over dead op) operands ≡ map (λ own. None) operands

-- in a `catch` part in the body
abbrev caught_in_body : List Head
caught_in_body = record { kind = LegacyCatch; block_type = Val I64 } ∷ body_head (Val F32) ∷ []

-- the premises of the operators there
abbrev premises : Context → List Op → List Bool
premises c ops = map (λ op. ((operator c op).row caught_in_body).premise) ops

abbrev a_clause : ℕ → List ValType → Clause
a_clause depth types = record { depth = depth; types = types }

-- ---- rows, each with its proposal alone

-- what each clause carries to its label
try_table_says : operator (under exceptions false) (try_table Empty (catch 2 0 ∷ catch_ref 2 1 ∷ catch_all 2 ∷ catch_all_ref 3 ∷ catch_ref 1 4 ∷ [])) ≡ record { form = Opens (record { kind = TryTable; block_type = Empty }); row = λ hs. record (plain_row [] []) { clauses = a_clause 0 (I32 ∷ I64 ∷ []) ∷ a_clause 1 (I32 ∷ I64 ∷ no_null (abstract ExnHeap) ∷ []) ∷ a_clause 2 [] ∷ a_clause 3 (no_null (abstract ExnHeap) ∷ []) ∷ a_clause 4 (no_null (abstract ExnHeap) ∷ []) ∷ [] } }
try_table_says = refl

try_table_takes : operator (under (exceptions + multi_value) false) (try_table i32_to_i64 []) ≡ record { form = Opens (record { kind = TryTable; block_type = i32_to_i64 }); row = λ hs. plain_row (I32 ∷ []) [] }
try_table_takes = refl

throw_says : map (operator (under exceptions false)) (throw 0 ∷ throw 1 ∷ throw 2 ∷ throw_ref ∷ []) ≡ map (λ types. row_operator (ending_row types)) ((I32 ∷ []) ∷ [] ∷ (I32 ∷ I64 ∷ []) ∷ (exnref ∷ []) ∷ [])
throw_says = refl

try_says : operator (under legacy_exceptions false) (legacy_try (Val I32)) ≡ record { form = Opens (record { kind = LegacyTry; block_type = Val I32 }); row = λ hs. plain_row [] [] }
try_says = refl

catch_says : map (operator (under legacy_exceptions false)) (legacy_catch 0 ∷ legacy_catch 1 ∷ legacy_catch 2 ∷ legacy_catch_all ∷ []) ≡ map delimiter_operator (BeginsCatch false (I32 ∷ []) ∷ BeginsCatch false [] ∷ BeginsCatch false (I32 ∷ I64 ∷ []) ∷ BeginsCatch true [] ∷ [])
catch_says = refl

delegate_says : ((operator (under legacy_exceptions false) (delegate 0)).form ≡ Delegates) × ((operator (under legacy_exceptions false) (delegate 0)).row caught_in_body ≡ plain_row [] [])
delegate_says = (refl, refl)

rethrow_says : (operator (under legacy_exceptions false) (rethrow 0)).row caught_in_body ≡ ending_row []
rethrow_says = refl

-- ---- gates

abbrev of_proposal : List Op
of_proposal = try_table Empty [] ∷ try_table Empty (catch_all 0 ∷ []) ∷ throw 1 ∷ throw_ref ∷ []

abbrev of_legacy : List Op
of_legacy = legacy_try Empty ∷ legacy_catch 1 ∷ legacy_catch_all ∷ delegate 0 ∷ rethrow 0 ∷ []

abbrev all_premises : Bool → List Op → List Bool
all_premises b ops = map (λ op. b) ops

by_exceptions : premises (under exceptions false) (of_proposal ++ of_legacy) ≡ all_premises true of_proposal ++ all_premises false of_legacy
by_exceptions = refl

by_legacy : premises (under legacy_exceptions false) (of_proposal ++ of_legacy) ≡ all_premises false of_proposal ++ all_premises true of_legacy
by_legacy = refl

without_exceptions : premises (under (every - exceptions) false) (of_proposal ++ of_legacy) ≡ all_premises false of_proposal ++ all_premises true of_legacy
without_exceptions = refl

without_legacy : premises (under (every - legacy_exceptions) false) (of_proposal ++ of_legacy) ≡ all_premises true of_proposal ++ all_premises false of_legacy
without_legacy = refl

-- ---- clauses of `try_table`

-- the types that labels take: none, one, two, and those with a reference to an exception last or first
abbrev labels : List BlockType
labels = Empty ∷ Val I32 ∷ Val I64 ∷ FuncType 8 ∷ FuncType 9 ∷ FuncType 4 ∷ FuncType 5 ∷ FuncType 6 ∷ Val (no_null (abstract ExnHeap)) ∷ Val exnref ∷ Val (null (abstract AnyHeap)) ∷ []

-- a `try_table` with these clauses holds, in a block of this type
abbrev catches_in : List Catch → BlockType → Bool
catches_in clauses bt = is_some (step cx (operator cx (try_table Empty clauses)) (open_state (frame Block bt [] false ∷ frame Block Empty [] false ∷ [])))

-- to which of these labels
abbrev catches_to : List Catch → List Bool
catches_to clauses = map (catches_in clauses) labels

-- what the exception carries, type by type and in number
i32_to_each : catches_to (catch 0 0 ∷ []) ≡ false ∷ true ∷ false ∷ false ∷ false ∷ false ∷ false ∷ false ∷ false ∷ false ∷ false ∷ []
i32_to_each = refl

two_to_each : catches_to (catch 2 0 ∷ []) ≡ false ∷ false ∷ false ∷ true ∷ false ∷ false ∷ false ∷ false ∷ false ∷ false ∷ false ∷ []
two_to_each = refl

nothing_to_each : catches_to (catch 1 0 ∷ []) ≡ true ∷ false ∷ false ∷ false ∷ false ∷ false ∷ false ∷ false ∷ false ∷ false ∷ false ∷ []
nothing_to_each = refl

-- and above it a reference, which has no null: to a label that takes null too
i32_and_ref_to_each : catches_to (catch_ref 0 0 ∷ []) ≡ false ∷ false ∷ false ∷ false ∷ false ∷ true ∷ true ∷ false ∷ false ∷ false ∷ false ∷ []
i32_and_ref_to_each = refl

ref_to_each : catches_to (catch_ref 1 0 ∷ []) ≡ false ∷ false ∷ false ∷ false ∷ false ∷ false ∷ false ∷ false ∷ true ∷ true ∷ false ∷ []
ref_to_each = refl

-- of any exception: nothing, or the reference alone
all_to_each : catches_to (catch_all 0 ∷ []) ≡ true ∷ false ∷ false ∷ false ∷ false ∷ false ∷ false ∷ false ∷ false ∷ false ∷ false ∷ []
all_to_each = refl

all_ref_to_each : catches_to (catch_all_ref 0 ∷ []) ≡ false ∷ false ∷ false ∷ false ∷ false ∷ false ∷ false ∷ false ∷ true ∷ true ∷ false ∷ []
all_ref_to_each = refl

-- below the type of the label, not above it
carried_below : map (catches_in (catch 3 0 ∷ [])) (Val (null (abstract EqHeap)) ∷ Val (null (abstract AnyHeap)) ∷ Val (null (abstract I31Heap)) ∷ Val (no_null (abstract EqHeap)) ∷ Val (no_null (abstract AnyHeap)) ∷ Val exnref ∷ []) ≡ true ∷ true ∷ false ∷ false ∷ false ∷ false ∷ []
carried_below = refl

-- a tag that isn't there, and one that gives something back, also beside a clause that fits
abbrev of_no_exception : List (List Catch)
of_no_exception = (catch 5 0 ∷ []) ∷ (catch_ref 5 0 ∷ []) ∷ (catch 4 0 ∷ []) ∷ (catch_ref 4 0 ∷ []) ∷ (catch 0 0 ∷ catch 5 0 ∷ []) ∷ (catch 4 0 ∷ catch 0 0 ∷ []) ∷ []

no_tag : map catches_to of_no_exception ≡ map (λ clauses. map (λ bt. false) labels) of_no_exception
no_tag = refl

-- each clause counts, and the same may stand twice
each_clause : map (λ clauses. catches_in clauses (Val I32)) ((catch 0 0 ∷ catch_all 1 ∷ []) ∷ (catch 0 0 ∷ catch_all 0 ∷ []) ∷ (catch_all 0 ∷ catch 0 0 ∷ []) ∷ (catch 0 1 ∷ catch 0 0 ∷ []) ∷ (catch 0 0 ∷ catch 0 0 ∷ []) ∷ []) ≡ true ∷ false ∷ false ∷ false ∷ true ∷ []
each_clause = refl

-- a label that isn't there, for each clause, and in dead code too
no_label : AllRefused Empty ((try_table Empty (catch 1 1 ∷ []) ∷ []) ∷ (try_table Empty (catch_ref 1 1 ∷ []) ∷ []) ∷ (try_table Empty (catch_all 1 ∷ []) ∷ []) ∷ (try_table Empty (catch_all_ref 1 ∷ []) ∷ []) ∷ (unreachable ∷ try_table Empty (catch_all 1 ∷ []) ∷ []) ∷ [])
no_label = refl

-- the label is the block's, though the clause stands in the `try_table`; with the body's, which takes nothing,
-- it is refused
to_block : Done Empty (block (Val I32) ∷ try_table Empty (catch 0 0 ∷ []) ∷ end ∷ i32_const ∷ end ∷ drops ∷ end ∷ []) []
to_block = refl

to_body : Refused Empty (block (Val I32) ∷ try_table Empty (catch 0 1 ∷ []) ∷ [])
to_body = refl

-- its own results are nothing to a clause
not_to_itself : InFrame (try_table (Val I64) (catch_all 0 ∷ []) ∷ []) TryTable (Val I64) [] false × Refused Empty (try_table (Val I32) (catch 0 0 ∷ []) ∷ [])
not_to_itself = (refl, refl)

-- to a loop it carries the parameters, to a `try_table`, a part of an `if` and those of a `try` the results
to_frames : AllRefused Empty ((unreachable ∷ loop (FuncType 1) ∷ try_table Empty (catch_all 0 ∷ []) ∷ []) ∷ (loop (Val I32) ∷ try_table Empty (catch 0 0 ∷ []) ∷ []) ∷ (unreachable ∷ try_table i32_to_i64 [] ∷ try_table Empty (catch 0 0 ∷ []) ∷ []) ∷ (unreachable ∷ an_if i32_to_i64 ∷ try_table Empty (catch 0 0 ∷ []) ∷ []) ∷ (unreachable ∷ legacy_try i32_to_i64 ∷ try_table Empty (catch 0 0 ∷ []) ∷ []) ∷ (unreachable ∷ legacy_try i32_to_i64 ∷ unreachable ∷ legacy_catch 1 ∷ try_table Empty (catch 0 0 ∷ []) ∷ []) ∷ (unreachable ∷ legacy_try i32_to_i64 ∷ unreachable ∷ legacy_catch_all ∷ try_table Empty (catch 0 0 ∷ []) ∷ []) ∷ [])
to_frames = refl

to_loop : Done Empty (i32_const ∷ loop (FuncType 1) ∷ try_table Empty (catch 0 0 ∷ catch_all 1 ∷ []) ∷ throw 1 ∷ end ∷ drops ∷ end ∷ end ∷ []) []
to_loop = refl

-- ---- `try_table` itself

-- it takes its parameters, also in dead code, and what it opens is live
opens_with_params : Open Empty (i64_const ∷ i32_const ∷ try_table i32_to_i64 [] ∷ []) (frame TryTable i32_to_i64 (Known I32 ∷ []) false ∷ frame Block Empty (Known I64 ∷ []) false ∷ [])
opens_with_params = refl

opens_in_dead : Open Empty (unreachable ∷ try_table i32_to_i64 (catch_all 0 ∷ []) ∷ []) (frame TryTable i32_to_i64 (Known I32 ∷ []) false ∷ frame Block Empty [] true ∷ [])
opens_in_dead = refl

try_table_refused : AllRefused Empty ((try_table i32_to_i64 [] ∷ []) ∷ (i64_const ∷ try_table i32_to_i64 [] ∷ []) ∷ (unreachable ∷ i64_const ∷ try_table i32_to_i64 [] ∷ []) ∷ [])
try_table_refused = refl

-- its end gives its results, and so does a branch to it
gives_results : Done (Val I64) (i32_const ∷ try_table i32_to_i64 [] ∷ drops ∷ i64_const ∷ br 0 ∷ end ∷ end ∷ []) (Known I64 ∷ [])
gives_results = refl

results_refused : AllRefused Empty ((try_table (Val I64) [] ∷ i32_const ∷ end ∷ []) ∷ (try_table Empty [] ∷ i32_const ∷ end ∷ []) ∷ (try_table (Val I64) [] ∷ br 0 ∷ []) ∷ [])
results_refused = refl

-- the block types of `try_table` and `try` are checked, and kept in canonical form
abbrev openers : BlockType → List (List Op)
openers bt = (unreachable ∷ try_table bt [] ∷ []) ∷ (unreachable ∷ legacy_try bt ∷ []) ∷ []

unknown_type : AllRefused Empty (openers (FuncType 11))
unknown_type = refl

no_floats : AllRefusedUnder (under (exceptions + legacy_exceptions) false) Empty (openers (Val F32))
no_floats = refl

no_multi_value : AllRefusedUnder (under (every - multi_value) false) Empty (openers (FuncType 0))
no_multi_value = refl

not_shared : AllRefusedUnder in_shared Empty (openers (FuncType 0))
not_shared = refl

shared_types : OpenUnder in_shared Empty (i32_const ∷ try_table (FuncType 10) [] ∷ []) (frame TryTable (FuncType 10) (Known I32 ∷ []) false ∷ frame Block Empty [] false ∷ []) × OpenUnder in_shared Empty (i32_const ∷ legacy_try (FuncType 10) ∷ []) (frame LegacyTry (FuncType 10) (Known I32 ∷ []) false ∷ frame Block Empty [] false ∷ [])
shared_types = (refl, refl)

written_types : OpenUnder writing Empty (try_table (Val F32) (catch_all 0 ∷ []) ∷ []) (frame TryTable (Val F64) [] false ∷ frame Block Empty [] false ∷ []) × OpenUnder writing Empty (legacy_try (Val F32) ∷ []) (frame LegacyTry (Val F64) [] false ∷ frame Block Empty [] false ∷ [])
written_types = (refl, refl)

-- a shared function names any tag
tags_in_shared : premises in_shared (throw 0 ∷ try_table Empty (catch 0 0 ∷ []) ∷ legacy_catch 0 ∷ []) ≡ true ∷ true ∷ true ∷ []
tags_in_shared = refl

-- ---- `throw`

-- it takes what the exception carries, and the rest goes
throws : Leaves Empty (i64_const ∷ i32_const ∷ i64_const ∷ throw 2 ∷ []) [] true × Leaves Empty (i32_const ∷ throw 1 ∷ []) [] true × Leaves Empty (ref_null (abstract I31Heap) ∷ throw 3 ∷ []) [] true
throws = (refl, refl, refl)

-- after it anything is found, and the results too
after_throw : Done (Val I64) (i32_const ∷ throw 0 ∷ i32_add ∷ drops ∷ end ∷ []) (Known I64 ∷ [])
after_throw = refl

-- without what it carries, with another type, the other way round, and with that below the frame
throw_refused : AllRefused Empty ((throw 0 ∷ []) ∷ (i64_const ∷ throw 0 ∷ []) ∷ (i64_const ∷ i32_const ∷ throw 2 ∷ []) ∷ (i64_const ∷ throw 2 ∷ []) ∷ (ref_null (abstract AnyHeap) ∷ throw 3 ∷ []) ∷ (i32_const ∷ block Empty ∷ throw 0 ∷ []) ∷ [])
throw_refused = refl

-- of a tag that isn't there, and of one that gives something back, in dead code too
throw_of_no_tag : AllRefused Empty ((throw 5 ∷ []) ∷ (unreachable ∷ throw 5 ∷ []) ∷ (throw 4 ∷ []) ∷ (unreachable ∷ throw 4 ∷ []) ∷ [])
throw_of_no_tag = refl

throws_in_dead : EachEnds true (throw 2) ([] ∷ (Known I64 ∷ []) ∷ (Bottom ∷ Known I32 ∷ Known F32 ∷ []) ∷ [])
throws_in_dead = refl

throw_of_other_known : NoneGoes true (throw 2) ((Known I32 ∷ []) ∷ (Known I64 ∷ Known I64 ∷ []) ∷ (UnknownRef None ∷ []) ∷ [])
throw_of_other_known = refl

-- ---- `throw_ref`

-- of a reference to an exception, null or not, and of any below
throws_refs : EachEnds false throw_ref (map (λ t. Known t ∷ Known F32 ∷ []) (exnref ∷ no_null (abstract ExnHeap) ∷ null (abstract NoExnHeap) ∷ no_null (abstract NoExnHeap) ∷ []))
throws_refs = refl

throw_ref_refused : NoneGoes false throw_ref ([] ∷ map (λ t. Known t ∷ []) (I32 ∷ null (abstract AnyHeap) ∷ null (abstract FuncHeap) ∷ Ref (reference true (Abstract true ExnHeap)) ∷ []))
throw_ref_refused = refl

throws_refs_in_dead : EachEnds true throw_ref ([] ∷ map (λ x. x ∷ []) (Bottom ∷ UnknownRef None ∷ UnknownRef (Some ExnHeap) ∷ UnknownRef (Some NoExnHeap) ∷ Known exnref ∷ []))
throws_refs_in_dead = refl

throw_ref_of_other_known : NoneGoes true throw_ref (map (λ x. x ∷ []) (UnknownRef (Some AnyHeap) ∷ Known I32 ∷ Known (null (abstract AnyHeap)) ∷ []))
throw_ref_of_other_known = refl

-- what a clause carries may be thrown again
throws_caught : Done Empty (block (Val exnref) ∷ try_table Empty (catch_all_ref 0 ∷ []) ∷ throw 1 ∷ end ∷ ref_null (abstract ExnHeap) ∷ end ∷ throw_ref ∷ end ∷ []) []
throws_caught = refl

-- ---- a legacy `try` and its parts

-- operands and frames after each operator
abbrev heights_after : List Op → List (Option (ℕ × ℕ))
heights_after ops = map (λ n. heights (state_before cx (operators cx ops) (start Empty) n)) (1 ∷ 2 ∷ 3 ∷ 4 ∷ 5 ∷ [])
  where
    heights : Option State → Option (ℕ × ℕ)
    heights None = None
    heights (Some s) = Some (operand_count s, frame_count s)

catch_heights : heights_after (legacy_try Empty ∷ legacy_catch 0 ∷ drops ∷ end ∷ end ∷ []) ≡ map (λ h. Some h) ((0, 2) ∷ (1, 2) ∷ (0, 2) ∷ (0, 1) ∷ (0, 0) ∷ [])
catch_heights = refl

-- it takes its parameters, and no part but the first has them
try_opens : InFrame (i32_const ∷ legacy_try i32_to_i64 ∷ []) LegacyTry i32_to_i64 (Known I32 ∷ []) false
try_opens = refl

catch_opens : InFrame (i32_const ∷ legacy_try i32_to_i64 ∷ drops ∷ i64_const ∷ legacy_catch 1 ∷ []) LegacyCatch i32_to_i64 [] false
catch_opens = refl

catch_all_opens : InFrame (i32_const ∷ legacy_try i32_to_i64 ∷ drops ∷ i64_const ∷ legacy_catch_all ∷ []) LegacyCatchAll i32_to_i64 [] false
catch_all_opens = refl

-- what the exception carries, the last on top
catch_opens_with : InFrame (legacy_try Empty ∷ legacy_catch 0 ∷ drops ∷ legacy_catch 2 ∷ []) LegacyCatch Empty (Known I64 ∷ Known I32 ∷ []) false
catch_opens_with = refl

try_refused : AllRefused Empty ((legacy_try i32_to_i64 ∷ []) ∷ (i64_const ∷ legacy_try i32_to_i64 ∷ []) ∷ [])
try_refused = refl

-- of a tag that isn't there, and of one that gives something back, in dead code too
catch_of_no_tag : AllRefused Empty ((legacy_try Empty ∷ legacy_catch 5 ∷ []) ∷ (legacy_try Empty ∷ legacy_catch 4 ∷ []) ∷ (legacy_try Empty ∷ unreachable ∷ legacy_catch 5 ∷ []) ∷ (legacy_try Empty ∷ unreachable ∷ legacy_catch 4 ∷ []) ∷ [])
catch_of_no_tag = refl

-- each part gives the results, and a branch to it carries them
each_part_gives : Done (Val I64) (i32_const ∷ legacy_try i32_to_i64 ∷ drops ∷ i64_const ∷ legacy_catch 0 ∷ drops ∷ i64_const ∷ legacy_catch 2 ∷ local_set 1 ∷ drops ∷ i64_const ∷ legacy_catch_all ∷ i64_const ∷ end ∷ end ∷ []) (Known I64 ∷ [])
each_part_gives = refl

-- the beginning of each part
abbrev each_part : List (List Op)
each_part = (i32_const ∷ legacy_try i32_to_i64 ∷ drops ∷ []) ∷ (unreachable ∷ legacy_try i32_to_i64 ∷ unreachable ∷ legacy_catch 1 ∷ []) ∷ (unreachable ∷ legacy_try i32_to_i64 ∷ unreachable ∷ legacy_catch_all ∷ []) ∷ []

branches_from_parts : map (λ ops. is_some (after_all cx Empty (ops ++ i64_const ∷ br 0 ∷ []))) each_part ≡ true ∷ true ∷ true ∷ []
branches_from_parts = refl

branches_with_params : AllRefused Empty (map (λ ops. ops ++ i32_const ∷ br 0 ∷ []) each_part)
branches_with_params = refl

parts_refused : AllRefused Empty ((legacy_try (Val I64) ∷ i32_const ∷ legacy_catch 0 ∷ []) ∷ (legacy_try (Val I64) ∷ legacy_catch_all ∷ []) ∷ (legacy_try (Val I64) ∷ i64_const ∷ legacy_catch 0 ∷ end ∷ []) ∷ (legacy_try (Val I64) ∷ i64_const ∷ legacy_catch 0 ∷ i64_const ∷ legacy_catch_all ∷ []) ∷ (legacy_try (Val I64) ∷ i64_const ∷ legacy_catch_all ∷ end ∷ []) ∷ (legacy_try (Val I64) ∷ end ∷ []) ∷ (legacy_try (Val I64) ∷ delegate 0 ∷ []) ∷ (legacy_try Empty ∷ i32_const ∷ delegate 0 ∷ []) ∷ [])
parts_refused = refl

-- nothing lies below a part that is dead
dead_parts : Done (Val I64) (legacy_try (Val I64) ∷ unreachable ∷ legacy_catch 1 ∷ throw 1 ∷ legacy_catch_all ∷ unreachable ∷ end ∷ end ∷ []) (Known I64 ∷ [])
dead_parts = refl

dead_try : Done (Val I64) (legacy_try (Val I64) ∷ unreachable ∷ end ∷ end ∷ []) (Known I64 ∷ []) × Done (Val I64) (legacy_try (Val I64) ∷ unreachable ∷ delegate 0 ∷ end ∷ []) (Known I64 ∷ [])
dead_try = (refl, refl)

-- and the part after it is live
live_parts : AllRefused Empty ((legacy_try Empty ∷ unreachable ∷ legacy_catch 1 ∷ i32_add ∷ []) ∷ (legacy_try Empty ∷ unreachable ∷ legacy_catch_all ∷ i32_add ∷ []) ∷ (legacy_try Empty ∷ unreachable ∷ delegate 0 ∷ i32_add ∷ []) ∷ (unreachable ∷ legacy_try Empty ∷ i32_add ∷ []) ∷ [])
live_parts = refl

-- the order of parts: none follows `catch_all`, and none stands but in a `try`
abbrev begin_part : List Op
begin_part = legacy_catch 1 ∷ legacy_catch_all ∷ delegate 0 ∷ []

abbrev each_after : List Op → List Op → List (List Op)
each_after ops parts = map (λ op. ops ++ op ∷ []) parts

parts_in_order : AllRefused Empty (each_after (legacy_try Empty ∷ legacy_catch_all ∷ []) begin_part ++ each_after (legacy_try Empty ∷ legacy_catch 1 ∷ []) (delegate 0 ∷ []))
parts_in_order = refl

parts_alone : AllRefused Empty (each_after [] begin_part ++ each_after (block Empty ∷ []) begin_part ++ each_after (loop Empty ∷ []) begin_part ++ each_after (try_table Empty [] ∷ []) begin_part ++ each_after (i32_const ∷ an_if Empty ∷ []) begin_part ++ each_after (i32_const ∷ an_if Empty ∷ an_else ∷ []) begin_part ++ each_after (legacy_try Empty ∷ block Empty ∷ []) begin_part)
parts_alone = refl

no_else_in_try : AllRefused Empty ((legacy_try Empty ∷ an_else ∷ []) ∷ (legacy_try Empty ∷ legacy_catch 1 ∷ an_else ∷ []) ∷ [])
no_else_in_try = refl

-- ---- `delegate`: its label is counted outside the `try` that it closes, and may take any types

delegates : Done (Val I64) (legacy_try (Val I32) ∷ i32_const ∷ delegate 0 ∷ drops ∷ i64_const ∷ end ∷ []) (Known I64 ∷ [])
delegates = refl

delegates_outward : Done Empty (block (Val I64) ∷ legacy_try Empty ∷ delegate 1 ∷ i64_const ∷ end ∷ drops ∷ end ∷ []) []
delegates_outward = refl

delegate_too_far : AllRefused Empty ((legacy_try Empty ∷ delegate 1 ∷ []) ∷ (block Empty ∷ legacy_try Empty ∷ delegate 2 ∷ []) ∷ (legacy_try Empty ∷ unreachable ∷ delegate 1 ∷ []) ∷ [])
delegate_too_far = refl

-- ---- `rethrow`: its label is that of a part that caught

rethrows : InFrame (legacy_try Empty ∷ legacy_catch 0 ∷ rethrow 0 ∷ []) LegacyCatch Empty [] true × InFrame (legacy_try Empty ∷ legacy_catch_all ∷ i64_const ∷ rethrow 0 ∷ []) LegacyCatchAll Empty [] true
rethrows = (refl, refl)

-- from inside other frames
rethrows_outer : Done Empty (legacy_try Empty ∷ legacy_catch 1 ∷ block Empty ∷ legacy_try Empty ∷ rethrow 2 ∷ end ∷ end ∷ end ∷ end ∷ []) []
rethrows_outer = refl

abbrev caught_and : List Op → List Op
caught_and ops = legacy_try Empty ∷ legacy_catch 1 ∷ ops

rethrow_refused : AllRefused Empty ((rethrow 0 ∷ []) ∷ (block Empty ∷ rethrow 0 ∷ []) ∷ (legacy_try Empty ∷ rethrow 0 ∷ []) ∷ (try_table Empty (catch_all 0 ∷ []) ∷ rethrow 0 ∷ []) ∷ (loop Empty ∷ rethrow 0 ∷ []) ∷ caught_and (block Empty ∷ rethrow 0 ∷ []) ∷ caught_and (legacy_try Empty ∷ rethrow 0 ∷ []) ∷ caught_and (rethrow 1 ∷ []) ∷ caught_and (rethrow 2 ∷ []) ∷ caught_and (end ∷ rethrow 0 ∷ []) ∷ [])
rethrow_refused = refl

rethrow_in_dead : AllRefused Empty ((unreachable ∷ rethrow 0 ∷ []) ∷ (legacy_try Empty ∷ unreachable ∷ rethrow 0 ∷ []) ∷ caught_and (unreachable ∷ rethrow 1 ∷ []) ∷ [])
rethrow_in_dead = refl

-- ---- locals: those first set in a part are unset where the part ends

-- it sets the local in the first part, and reads it after these
abbrev set_and : List Op → List Op
set_and ops = legacy_try Empty ∷ i64_const ∷ local_set 1 ∷ ops ++ local_get 1 ∷ []

set_in_try : AllRefused Empty (map set_and ((legacy_catch 1 ∷ []) ∷ (legacy_catch_all ∷ []) ∷ (delegate 0 ∷ []) ∷ (end ∷ []) ∷ []))
set_in_try = refl

set_in_catch : AllRefused Empty (map (λ ops. legacy_try Empty ∷ legacy_catch 1 ∷ i64_const ∷ local_set 1 ∷ ops ++ local_get 1 ∷ []) ((legacy_catch 1 ∷ []) ∷ (legacy_catch_all ∷ []) ∷ (end ∷ []) ∷ []))
set_in_catch = refl

set_in_others : AllRefused Empty ((legacy_try Empty ∷ legacy_catch_all ∷ i64_const ∷ local_set 1 ∷ end ∷ local_get 1 ∷ []) ∷ (try_table Empty [] ∷ i64_const ∷ local_set 1 ∷ end ∷ local_get 1 ∷ []) ∷ (legacy_try Empty ∷ unreachable ∷ local_set 1 ∷ legacy_catch 0 ∷ local_get 1 ∷ []) ∷ [])
set_in_others = refl

-- what was set before the `try` stays set
set_before : Done Empty (i64_const ∷ local_set 1 ∷ legacy_try Empty ∷ local_get 1 ∷ drops ∷ legacy_catch 1 ∷ local_get 1 ∷ drops ∷ legacy_catch_all ∷ local_get 1 ∷ drops ∷ end ∷ try_table Empty [] ∷ local_get 1 ∷ drops ∷ end ∷ end ∷ []) []
set_before = refl
