-- Runs of small bodies with branches that look whether a reference is null: what is carried where it is,
-- and what where it isn't.
use Rattle.std.proofs.Common.{◌≡◌, ◌+◌, true, false, List, [], ◌∷◌, drop, refl, sym, subst}
use Rattle.validate_resources.specs.Lists.{Declared, context_of}
use Rattle.validate_resources.specs.Lawful.{lawful_lists}
use Rattle.validate_resources.specs.Named.{nothing_declared}
use Rattle.validate_types.specs.Features.{multi_value, reference_types, function_references}
use Rattle.validate_types.specs.declared.heap.HeapType.TheVariants.{Concrete}
use Rattle.validate_types.specs.declared.heap.UnpackedIndex.TheVariants.{Module}
use Rattle.validate_visit.specs.declared.op.ControlOp.TheVariants.{CallRef}
use Rattle.validate_visit.specs.declared.op.Op.{Op}
use Rattle.validate_visit.specs.declared.op.Op.TheVariants.{Control, Reference}
use Rattle.validate_visit.specs.declared.op.ReferenceOp.TheVariants.{RefFunc, RefIsNull, RefAsNonNull}
use Rattle.validation_rules.specs.Branches.{target}
use Rattle.validation_rules.specs.Context.{ValType, I32, I64, BlockType, Val, FuncType, Context}
use Rattle.validation_rules.specs.References.{last_without_null}
use Rattle.validation_rules.specs.Rows.{Ends, Target, Operator}
use Rattle.validation_rules.specs.Operators.{operators, operator}
use Rattle.validation_rules.proofs.Steps.{some_injective}
use Rattle.validation_rules.proofs.ExampleWords.{null, no_null, func, concrete, func_type, to_nothing, within}
use Rattle.validation_rules.proofs.ExampleWords.{block, end, drops, i32_const, ref_null, br_on_null}
use Rattle.validation_rules.proofs.ExampleWords.{br_on_non_null}
use Rattle.type_safety.specs.Machine.{Label, label_heads, At, LabelAccepts, Demand, configuration, IsNotStuck, Step}
use Rattle.type_safety.proofs.Outcomes.{holding, by_going_on, by_jumping}
use Rattle.type_safety.specs.Theorem.{IsTypeSafe}
use Rattle.type_safety.proofs.Bodies.{body_safety}
use Rattle.type_safety.proofs.ExampleWords.{block_label, outermost, only, demands_operands, none_there, opens_nothing, is_no_value}

-- ---- a function from nothing to nothing, and a type of an i32 and a function

abbrev declared : Declared
declared = record nothing_declared { types = func_type [] [] ∷ func_type [] (I32 ∷ no_null func ∷ []) ∷ []; functions = record { type_index = 0; referenced = true; exact = false } ∷ [] }

abbrev cx : Context
cx = within declared (multi_value + reference_types + function_references) false

abbrev to_i32_and_func : BlockType
to_i32_and_func = FuncType 1

abbrev in_body : List ValType → List Label
in_body own = outermost to_nothing own ∷ []

-- ---- out of a block with an i32, where a reference above it is null

abbrev testing_ops : List Op
testing_ops = block (Val I32) ∷ i32_const ∷ ref_null func ∷ br_on_null 0 ∷ drops ∷ end ∷ drops ∷ end ∷ []

abbrev testing : List Operator
testing = operators cx testing_ops

abbrev in_block : List ValType → List Label
in_block own = block_label 0 (Val I32) own ∷ in_body []

-- over the i32 a reference, null or not: the i32 alone is carried
at_null : Demand cx testing (configuration 3 (block_label 0 (Val I32) (null func ∷ I32 ∷ [])) (in_body []) [] (operator cx (br_on_null 0)))
at_null = record {
  row = holding _ refl refl;
  targets = only (λ (t : Target). LabelAccepts cx (drop t.depth (in_block (null func ∷ I32 ∷ []))) (t.carried (I32 ∷ null func ∷ []))) (target cx (label_heads (in_block [])) 0) (refl, tt);
  clauses = λ j c e. absurd (none_there j e);
  no_else = λ h e. absurd (opens_nothing h e refl);
}

-- it is null: behind the block, with the i32
leaves : Step cx testing (At 3 (in_block (null func ∷ I32 ∷ [])) []) (At 6 (in_body (I32 ∷ [])) [])
leaves = (
  operator cx (br_on_null 0),
  refl,
  at_null,
  by_jumping 0 _ refl refl (record { label = block_label 0 (Val I32) (null func ∷ I32 ∷ []); outer = in_body []; is = refl; types = I32 ∷ []; below = (refl, tt); arrives = (5, (Ends, (0, refl), refl), refl) }),
)

-- it isn't: on, with the reference above the i32, now without null
stays : Step cx testing (At 3 (in_block (null func ∷ I32 ∷ [])) []) (At 4 (in_block (no_null func ∷ I32 ∷ [])) [])
stays = (
  operator cx (br_on_null 0),
  refl,
  at_null,
  by_going_on (I32 ∷ no_null func ∷ []) (I32 ∷ no_null func ∷ []) refl refl refl (refl, (refl, tt)) refl,
)

-- or of a type below it
stays_below : Step cx testing (At 3 (in_block (null func ∷ I32 ∷ [])) []) (At 4 (in_block (no_null (concrete 0) ∷ I32 ∷ [])) [])
stays_below = (
  operator cx (br_on_null 0),
  refl,
  at_null,
  by_going_on (I32 ∷ no_null func ∷ []) (I32 ∷ no_null (concrete 0) ∷ []) refl refl refl (refl, (refl, tt)) refl,
)

-- with a number in its place a run is stuck there
stuck_at_number : IsNotStuck cx testing (At 3 (in_block (I32 ∷ I32 ∷ [])) []) → ⊥
stuck_at_number d =
    let e : operator cx (br_on_null 0) ≡ d.0 = some_injective _ _ d.1 in
    let d' = subst (λ op. Demand cx testing (configuration 3 (block_label 0 (Val I32) (I32 ∷ I32 ∷ [])) (in_body []) [] op)) (sym e) d.2 in
    is_no_value d'.row.1

-- and with another type below it
stuck_over_other : IsNotStuck cx testing (At 3 (in_block (null func ∷ I64 ∷ [])) []) → ⊥
stuck_over_other d =
    let e : operator cx (br_on_null 0) ≡ d.0 = some_injective _ _ d.1 in
    let d' = subst (λ op. Demand cx testing (configuration 3 (block_label 0 (Val I32) (null func ∷ I64 ∷ [])) (in_body []) [] op)) (sym e) d.2 in
    is_no_value d'.row.1

testing_safe : IsTypeSafe cx testing to_nothing
testing_safe = body_safety (context_of declared) (lawful_lists declared refl) cx testing_ops to_nothing refl ([], refl)

-- ---- out of a block of an i32 and a function, where a reference is no null

abbrev giving_ops : List Op
giving_ops =
    block to_i32_and_func ∷ i32_const ∷ ref_null func ∷ br_on_non_null 0 ∷ Reference (RefFunc 0) ∷ end ∷ drops ∷ drops ∷ end ∷ []

abbrev giving : List Operator
giving = operators cx giving_ops

abbrev in_giving : List ValType → List Label
in_giving own = block_label 0 to_i32_and_func own ∷ in_body []

-- both are carried, and what the block gives is never null
at_non_null : Demand cx giving (configuration 3 (block_label 0 to_i32_and_func (null func ∷ I32 ∷ [])) (in_body []) [] (operator cx (br_on_non_null 0)))
at_non_null = record {
  row = holding _ refl refl;
  targets = only (λ (t : Target). LabelAccepts cx (drop t.depth (in_giving (null func ∷ I32 ∷ []))) (t.carried (I32 ∷ null func ∷ []))) (record { depth = 0; carried = last_without_null }) (refl, (refl, tt));
  clauses = λ j c e. absurd (none_there j e);
  no_else = λ h e. absurd (opens_nothing h e refl);
}

-- it isn't null: behind the block, with the i32 and the reference without null
gives : Step cx giving (At 3 (in_giving (null func ∷ I32 ∷ [])) []) (At 6 (in_body (no_null func ∷ I32 ∷ [])) [])
gives = (
  operator cx (br_on_non_null 0),
  refl,
  at_non_null,
  by_jumping 0 _ refl refl (record { label = block_label 0 to_i32_and_func (null func ∷ I32 ∷ []); outer = in_body []; is = refl; types = I32 ∷ no_null func ∷ []; below = (refl, (refl, tt)); arrives = (5, (Ends, (0, refl), refl), refl) }),
)

-- it is: on, with the i32 alone
goes : Step cx giving (At 3 (in_giving (null func ∷ I32 ∷ [])) []) (At 4 (in_giving (I32 ∷ [])) [])
goes = (
  operator cx (br_on_non_null 0),
  refl,
  at_non_null,
  by_going_on (I32 ∷ []) (I32 ∷ []) refl refl refl (refl, tt) refl,
)

-- without the i32 a run is stuck there
stuck_alone : IsNotStuck cx giving (At 3 (in_giving (null func ∷ [])) []) → ⊥
stuck_alone d =
    let e : operator cx (br_on_non_null 0) ≡ d.0 = some_injective _ _ d.1 in
    let d' = subst (λ op. Demand cx giving (configuration 3 (block_label 0 to_i32_and_func (null func ∷ [])) (in_body []) [] op)) (sym e) d.2 in
    is_no_value d'.row.1

giving_safe : IsTypeSafe cx giving to_nothing
giving_safe = body_safety (context_of declared) (lawful_lists declared refl) cx giving_ops to_nothing refl ([], refl)

-- ---- a reference that is tested, loses its null, and is called

abbrev calling_ops : List Op
calling_ops =
    ref_null func ∷ Reference RefIsNull ∷ drops ∷ ref_null (Concrete (Module 0)) ∷ Reference RefAsNonNull ∷ Control (CallRef 0) ∷ end ∷ []

abbrev calling : List Operator
calling = operators cx calling_ops

tests : Step cx calling (At 1 (in_body (null func ∷ [])) []) (At 2 (in_body (I32 ∷ [])) [])
tests = (
  operator cx (Reference RefIsNull),
  refl,
  demands_operands (holding _ refl refl) refl refl refl,
  by_going_on (I32 ∷ []) (I32 ∷ []) refl refl refl (refl, tt) refl,
)

loses : Step cx calling (At 4 (in_body (null (concrete 0) ∷ [])) []) (At 5 (in_body (no_null (concrete 0) ∷ [])) [])
loses = (
  operator cx (Reference RefAsNonNull),
  refl,
  demands_operands (holding _ refl refl) refl refl refl,
  by_going_on (no_null (concrete 0) ∷ []) (no_null (concrete 0) ∷ []) refl refl refl (refl, tt) refl,
)

-- the call takes the reference
calls : Step cx calling (At 5 (in_body (no_null (concrete 0) ∷ [])) []) (At 6 (in_body []) [])
calls = (
  operator cx (Control (CallRef 0)),
  refl,
  demands_operands (holding _ refl refl) refl refl refl,
  by_going_on [] [] refl refl refl tt refl,
)

calling_safe : IsTypeSafe cx calling to_nothing
calling_safe = body_safety (context_of declared) (lawful_lists declared refl) cx calling_ops to_nothing refl ([], refl)
