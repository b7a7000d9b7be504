-- Runs of small bodies with branches by a cast and operators that look below an abstract type: what a
-- machine may do there, with which types, and where it is stuck.
use Rattle.std.proofs.Common.{◌≡◌, ◌+◌, true, false, List, [], ◌∷◌, drop, refl, sym, subst}
use Rattle.validate_resources.specs.Lists.{Declared, context_of}
use Rattle.validate_resources.specs.Lawful.{lawful_lists}
use Rattle.validate_resources.specs.Named.{nothing_declared}
use Rattle.validate_types.specs.Features.{multi_value, reference_types, gc, shared_everything_threads}
use Rattle.validate_types.specs.Refs.{reference}
use Rattle.validate_types.specs.declared.heap.AbstractHeapType.TheVariants.{Any, Eq as EqHeap, I31, Extern}
use Rattle.validate_types.specs.declared.types.CompositeInnerType.TheVariants.{Struct as StructInner}
use Rattle.validate_visit.specs.declared.op.Op.{Op}
use Rattle.validate_visit.specs.declared.op.Op.TheVariants.{Reference}
use Rattle.validate_visit.specs.declared.op.ReferenceOp.TheVariants.{RefEq, BrOnCast, BrOnCastFail, AnyConvertExtern}
use Rattle.validation_rules.specs.Casts.{with_last}
use Rattle.validation_rules.specs.Context.{SubType, ValType, I32, I64, BlockType, FuncType, Context}
use Rattle.validation_rules.specs.Rows.{Ends, Target, Operator}
use Rattle.validation_rules.specs.Operators.{operators, operator, plain_row, row_operator}
use Rattle.validation_rules.proofs.Steps.{some_injective}
use Rattle.validation_rules.proofs.ExampleWords.{null, no_null, abstract, shared, concrete, a_type, of_functions}
use Rattle.validation_rules.proofs.ExampleWords.{to_nothing, within, block, end, drops, i32_const, ref_null}
use Rattle.type_safety.specs.Machine.{Label, At, LabelAccepts, Demand, configuration, IsNotStuck, Step}
use Rattle.type_safety.proofs.Outcomes.{holding, by_going_on, by_jumping}
use Rattle.type_safety.specs.Theorem.{IsTypeSafe}
use Rattle.type_safety.proofs.Bodies.{body_safety}
use Rattle.type_safety.proofs.ExampleWords.{block_label, outermost, only, demands_operands, none_there, opens_nothing, is_no_value}

-- ---- a function from nothing to nothing, a type of an i32 and any reference, and a struct

abbrev gives : List ValType → SubType
gives results = a_type false (of_functions [] results)

abbrev declared : Declared
declared = record nothing_declared { types = gives [] ∷ gives (I32 ∷ null (abstract Any) ∷ []) ∷ a_type false (StructInner []) ∷ [] }

abbrev cx : Context
cx = within declared (multi_value + reference_types + gc + shared_everything_threads) false

abbrev to_i32_and_any : BlockType
to_i32_and_any = FuncType 1

-- from any reference to an i31, both perhaps null
abbrev br_on_cast : Op
br_on_cast = Reference (BrOnCast (record { relative_depth = 0; from_ref_type = reference true (abstract Any); to_ref_type = reference true (abstract I31) }))

abbrev br_on_cast_fail : Op
br_on_cast_fail = Reference (BrOnCastFail (record { relative_depth = 0; from_ref_type = reference true (abstract Any); to_ref_type = reference true (abstract I31) }))

abbrev in_body : List ValType → List Label
in_body own = outermost to_nothing own ∷ []

abbrev in_block : List ValType → List Label
in_block own = block_label 0 to_i32_and_any own ∷ in_body []

-- ---- out of a block of an i32 and any reference

-- a branch in such a block
abbrev ops_with : Op → List Op
ops_with branch = block to_i32_and_any ∷ i32_const ∷ ref_null (abstract Any) ∷ branch ∷ end ∷ drops ∷ drops ∷ end ∷ []

abbrev casting : List Operator
casting = operators cx (ops_with br_on_cast)

abbrev failing : List Operator
failing = operators cx (ops_with br_on_cast_fail)

-- what is carried in the place of the last
abbrev carrying : ValType → Target
carrying t = record { depth = 0; carried = with_last t }

abbrev Accepts : Target → Type 0
Accepts t = LabelAccepts cx (drop t.depth (in_block (null (abstract Any) ∷ I32 ∷ []))) (t.carried (I32 ∷ null (abstract Any) ∷ []))

at_cast : Demand cx casting (configuration 3 (block_label 0 to_i32_and_any (null (abstract Any) ∷ I32 ∷ [])) (in_body []) [] (operator cx br_on_cast))
at_cast = record {
  row = holding _ refl refl;
  targets = only (λ t. Accepts t) (carrying (null (abstract I31))) (refl, (refl, tt));
  clauses = λ j c e. absurd (none_there j e);
  no_else = λ h e. absurd (opens_nothing h e refl);
}

-- it is an i31, or null: behind the block, with it
leaves : Step cx casting (At 3 (in_block (null (abstract Any) ∷ I32 ∷ [])) []) (At 5 (in_body (null (abstract I31) ∷ I32 ∷ [])) [])
leaves = (
  operator cx br_on_cast,
  refl,
  at_cast,
  by_jumping 0 _ refl refl (record { label = block_label 0 to_i32_and_any (null (abstract Any) ∷ I32 ∷ []); outer = in_body []; is = refl; types = I32 ∷ null (abstract I31) ∷ []; below = (refl, (refl, tt)); arrives = (4, (Ends, (0, refl), refl), refl) }),
)

-- with any type below it
leaves_below : Step cx casting (At 3 (in_block (null (abstract Any) ∷ I32 ∷ [])) []) (At 5 (in_body (no_null (abstract I31) ∷ I32 ∷ [])) [])
leaves_below = (
  operator cx br_on_cast,
  refl,
  at_cast,
  by_jumping 0 _ refl refl (record { label = block_label 0 to_i32_and_any (null (abstract Any) ∷ I32 ∷ []); outer = in_body []; is = refl; types = I32 ∷ no_null (abstract I31) ∷ []; below = (refl, (refl, tt)); arrives = (4, (Ends, (0, refl), refl), refl) }),
)

-- it isn't: on, and it isn't null
stays : Step cx casting (At 3 (in_block (null (abstract Any) ∷ I32 ∷ [])) []) (At 4 (in_block (no_null (abstract Any) ∷ I32 ∷ [])) [])
stays = (
  operator cx br_on_cast,
  refl,
  at_cast,
  by_going_on (I32 ∷ no_null (abstract Any) ∷ []) (I32 ∷ no_null (abstract Any) ∷ []) refl refl refl (refl, (refl, tt)) refl,
)

stays_below : Step cx casting (At 3 (in_block (null (abstract Any) ∷ I32 ∷ [])) []) (At 4 (in_block (no_null (concrete 2) ∷ I32 ∷ [])) [])
stays_below = (
  operator cx br_on_cast,
  refl,
  at_cast,
  by_going_on (I32 ∷ no_null (abstract Any) ∷ []) (I32 ∷ no_null (concrete 2) ∷ []) refl refl refl (refl, (refl, tt)) refl,
)

at_fail : Demand cx failing (configuration 3 (block_label 0 to_i32_and_any (null (abstract Any) ∷ I32 ∷ [])) (in_body []) [] (operator cx br_on_cast_fail))
at_fail = record {
  row = holding _ refl refl;
  targets = only (λ t. Accepts t) (carrying (no_null (abstract Any))) (refl, (refl, tt));
  clauses = λ j c e. absurd (none_there j e);
  no_else = λ h e. absurd (opens_nothing h e refl);
}

-- the cast fails: behind the block, with what isn't null
fails : Step cx failing (At 3 (in_block (null (abstract Any) ∷ I32 ∷ [])) []) (At 5 (in_body (no_null (concrete 2) ∷ I32 ∷ [])) [])
fails = (
  operator cx br_on_cast_fail,
  refl,
  at_fail,
  by_jumping 0 _ refl refl (record { label = block_label 0 to_i32_and_any (null (abstract Any) ∷ I32 ∷ []); outer = in_body []; is = refl; types = I32 ∷ no_null (concrete 2) ∷ []; below = (refl, (refl, tt)); arrives = (4, (Ends, (0, refl), refl), refl) }),
)

-- it doesn't: on, with an i31 or null
passes : Step cx failing (At 3 (in_block (null (abstract Any) ∷ I32 ∷ [])) []) (At 4 (in_block (null (abstract I31) ∷ I32 ∷ [])) [])
passes = (
  operator cx br_on_cast_fail,
  refl,
  at_fail,
  by_going_on (I32 ∷ null (abstract I31) ∷ []) (I32 ∷ null (abstract I31) ∷ []) refl refl refl (refl, (refl, tt)) refl,
)

-- with a number in the reference's place a run is stuck there
stuck_at_number : IsNotStuck cx casting (At 3 (in_block (I32 ∷ I32 ∷ [])) []) → ⊥
stuck_at_number d =
    let e : operator cx br_on_cast ≡ d.0 = some_injective _ _ d.1 in
    let d' = subst (λ op. Demand cx casting (configuration 3 (block_label 0 to_i32_and_any (I32 ∷ I32 ∷ [])) (in_body []) [] op)) (sym e) d.2 in
    is_no_value d'.row.1

-- and with a reference of another hierarchy
stuck_at_extern : IsNotStuck cx casting (At 3 (in_block (null (abstract Extern) ∷ I32 ∷ [])) []) → ⊥
stuck_at_extern d =
    let e : operator cx br_on_cast ≡ d.0 = some_injective _ _ d.1 in
    let d' = subst (λ op. Demand cx casting (configuration 3 (block_label 0 to_i32_and_any (null (abstract Extern) ∷ I32 ∷ [])) (in_body []) [] op)) (sym e) d.2 in
    is_no_value d'.row.1

-- and with another type below it
stuck_over_other : IsNotStuck cx failing (At 3 (in_block (null (abstract Any) ∷ I64 ∷ [])) []) → ⊥
stuck_over_other d =
    let e : operator cx br_on_cast_fail ≡ d.0 = some_injective _ _ d.1 in
    let d' = subst (λ op. Demand cx failing (configuration 3 (block_label 0 to_i32_and_any (null (abstract Any) ∷ I64 ∷ [])) (in_body []) [] op)) (sym e) d.2 in
    is_no_value d'.row.1

casting_safe : IsTypeSafe cx casting to_nothing
casting_safe = body_safety (context_of declared) (lawful_lists declared refl) cx (ops_with br_on_cast) to_nothing refl ([], refl)

failing_safe : IsTypeSafe cx failing to_nothing
failing_safe = body_safety (context_of declared) (lawful_lists declared refl) cx (ops_with br_on_cast_fail) to_nothing refl ([], refl)

-- ---- a branch by a cast whose row is wrong: what it carries isn't of the label's type

abbrev wrong : Operator
wrong = row_operator (record (plain_row (I32 ∷ null (abstract Any) ∷ []) (I32 ∷ null (abstract Any) ∷ [])) { targets = carrying (null (abstract Extern)) ∷ [] })

stuck_at_wrong : IsNotStuck cx (wrong ∷ []) (At 0 (in_block (null (abstract Any) ∷ I32 ∷ [])) []) → ⊥
stuck_at_wrong d =
    let e : wrong ≡ d.0 = some_injective _ _ d.1 in
    let d' = subst (λ op. Demand cx (wrong ∷ []) (configuration 0 (block_label 0 to_i32_and_any (null (abstract Any) ∷ I32 ∷ [])) (in_body []) [] op)) (sym e) d.2 in
    let a = (d'.targets 0 (carrying (null (abstract Extern))) refl).1.0 in
    absurd cc

-- ---- references compared, and one converted_operand

abbrev looking_ops : List Op
looking_ops = ref_null (abstract EqHeap) ∷ ref_null (abstract I31) ∷ Reference RefEq ∷ drops ∷ ref_null (shared Extern) ∷ Reference AnyConvertExtern ∷ drops ∷ end ∷ []

abbrev looking : List Operator
looking = operators cx looking_ops

compares : Step cx looking (At 2 (in_body (no_null (concrete 2) ∷ null (abstract EqHeap) ∷ [])) []) (At 3 (in_body (I32 ∷ [])) [])
compares = (
  operator cx (Reference RefEq),
  refl,
  demands_operands (holding _ refl refl) refl refl refl,
  by_going_on (I32 ∷ []) (I32 ∷ []) refl refl refl (refl, tt) refl,
)

-- of different sharedness they can't be
stuck_at_shared : IsNotStuck cx looking (At 2 (in_body (null (shared EqHeap) ∷ null (abstract EqHeap) ∷ [])) []) → ⊥
stuck_at_shared d =
    let e : operator cx (Reference RefEq) ≡ d.0 = some_injective _ _ d.1 in
    let d' = subst (λ op. Demand cx looking (configuration 2 (block_label 0 to_nothing (null (shared EqHeap) ∷ null (abstract EqHeap) ∷ [])) [] [] op)) (sym e) d.2 in
    is_no_value d'.row.1

-- without null and shared it stays so
converts : Step cx looking (At 5 (in_body (no_null (shared Extern) ∷ [])) []) (At 6 (in_body (no_null (shared Any) ∷ [])) [])
converts = (
  operator cx (Reference AnyConvertExtern),
  refl,
  demands_operands (holding _ refl refl) refl refl refl,
  by_going_on (no_null (shared Any) ∷ []) (no_null (shared Any) ∷ []) refl refl refl (refl, tt) refl,
)

looking_safe : IsTypeSafe cx looking to_nothing
looking_safe = body_safety (context_of declared) (lawful_lists declared refl) cx looking_ops to_nothing refl ([], refl)
