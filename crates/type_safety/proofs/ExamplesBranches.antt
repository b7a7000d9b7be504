-- Runs of small bodies of the table's branches: where each label of a row leads, and what is carried there.
use Rattle.std.proofs.Common.{◌≡◌, ℕ, ◌+◌, zero, suc, false, List, [], ◌∷◌, drop, Some, refl, subst, slice_get}
use Rattle.validate_resources.specs.Lists.{Declared, context_of}
use Rattle.validate_resources.specs.Lawful.{lawful_lists}
use Rattle.validate_resources.specs.Named.{nothing_declared}
use Rattle.validate_types.specs.Features.{multi_value, reference_types}
use Rattle.validate_visit.specs.declared.op.Op.{Op}
use Rattle.validate_visit.specs.declared.op.Op.TheVariants.{Control}
use Rattle.validate_visit.specs.declared.op.ControlOp.TheVariants.{Select}
use Rattle.validation_rules.specs.Branches.{target}
use Rattle.validation_rules.specs.Context.{SubType, ValType, I32, I64, BlockType, Empty, Val, FuncType, Context}
use Rattle.validation_rules.specs.Rows.{Block, Loop, Ends, Target, Operator}
use Rattle.validation_rules.specs.Operators.{operators, operator}
use Rattle.validation_rules.proofs.Steps.{some_injective}
use Rattle.validation_rules.proofs.ExampleWords.{func_type, to_nothing, within, unreachable, block, loop, an_if}
use Rattle.validation_rules.proofs.ExampleWords.{an_else, end, br_if, br_table, a_return, drops, typed_select}
use Rattle.validation_rules.proofs.ExampleWords.{i32_const, i64_const}
use Rattle.type_safety.specs.Machine.{Label, label_heads, At, Returned, LabelAccepts, Demand, configuration, Step}
use Rattle.type_safety.proofs.Outcomes.{holding, by_going_on, by_jumping}
use Rattle.type_safety.specs.Theorem.{IsTypeSafe}
use Rattle.type_safety.proofs.Bodies.{body_safety}
use Rattle.type_safety.proofs.ExampleWords.{label, outermost, only, demands_operands, none_there, opens_nothing}

abbrev types : List SubType
types = func_type [] [] ∷ func_type (I32 ∷ []) (I64 ∷ []) ∷ []

abbrev declared : Declared
declared = record nothing_declared { types = types }

abbrev i32_to_i64 : BlockType
i32_to_i64 = FuncType 1

abbrev cx : Context
cx = within declared (multi_value + reference_types) false

-- what holds of each of two of a list
each_of_two : {A : Type 0} (P : A → Type 0) (x y : A) → P x → P y → (j : ℕ) (z : A) → slice_get (x ∷ y ∷ []) j ≡ Some z → P z
each_of_two P x y p q zero z e = subst P (some_injective x z e) p
each_of_two P x y p q (suc zero) z e = subst P (some_injective y z e) q
each_of_two P x y p q (suc (suc j)) z e = absurd cc

-- ---- a loop from i32 to i64 that goes around as long as its test says

abbrev looping_ops : List Op
looping_ops =
    i32_const ∷ loop i32_to_i64 ∷ i32_const ∷ br_if 0 ∷ drops ∷ i64_const ∷ end ∷ drops ∷ end ∷ []

abbrev looping : List Operator
looping = operators cx looping_ops

abbrev in_loop : List ValType → List Label
in_loop own = label 1 Loop i32_to_i64 own ∷ outermost to_nothing [] ∷ []

-- at `br_if`: the parameter, and the test above it
at_test : Demand cx looping (configuration 3 (label 1 Loop i32_to_i64 (I32 ∷ I32 ∷ [])) (outermost to_nothing [] ∷ []) [] (operator cx (br_if 0)))
at_test = record {
  row = holding _ refl refl;
  targets = only (λ (t : Target). LabelAccepts cx (drop t.depth (in_loop (I32 ∷ I32 ∷ []))) (t.carried (I32 ∷ I32 ∷ []))) (target cx (label_heads (in_loop [])) 0) (refl, tt);
  clauses = λ j c e. absurd (none_there j e);
  no_else = λ h e. absurd (opens_nothing h e refl);
}

-- back behind the opener, with the parameter alone
around : Step cx looping (At 3 (in_loop (I32 ∷ I32 ∷ [])) []) (At 2 (in_loop (I32 ∷ [])) [])
around = (
  operator cx (br_if 0),
  refl,
  at_test,
  by_jumping 0 _ refl refl (record { label = label 1 Loop i32_to_i64 (I32 ∷ I32 ∷ []); outer = outermost to_nothing [] ∷ []; is = refl; types = I32 ∷ []; below = (refl, tt); arrives = refl }),
)

-- or on, with the parameter
goes_on : Step cx looping (At 3 (in_loop (I32 ∷ I32 ∷ [])) []) (At 4 (in_loop (I32 ∷ [])) [])
goes_on = (operator cx (br_if 0), refl, at_test, by_going_on (I32 ∷ []) (I32 ∷ []) refl refl refl (refl, tt) refl)

looping_safe : IsTypeSafe cx looping to_nothing
looping_safe = body_safety (context_of declared) (lawful_lists declared refl) cx looping_ops to_nothing refl ([], refl)

-- ---- a table of a target and a default, out of the outer of two blocks and out of the inner one

abbrev choosing_ops : List Op
choosing_ops =
    block (Val I64) ∷ block (Val I64) ∷ i64_const ∷ i32_const ∷ br_table (1 ∷ []) 0 ∷ end ∷ drops ∷ i64_const ∷ end ∷ drops ∷ end ∷ []

abbrev choosing : List Operator
choosing = operators cx choosing_ops

abbrev outer_block : List ValType → List Label
outer_block own = label 0 Block (Val I64) own ∷ outermost to_nothing [] ∷ []

abbrev in_blocks : List ValType → List Label
in_blocks own = label 1 Block (Val I64) own ∷ outer_block []

at_table : Demand cx choosing (configuration 4 (label 1 Block (Val I64) (I32 ∷ I64 ∷ [])) (outer_block []) [] (operator cx (br_table (1 ∷ []) 0)))
at_table = record {
  row = holding _ refl refl;
  targets = each_of_two (λ (t : Target). LabelAccepts cx (drop t.depth (in_blocks (I32 ∷ I64 ∷ []))) (t.carried (I64 ∷ I32 ∷ []))) (target cx (label_heads (in_blocks [])) 0) (target cx (label_heads (in_blocks [])) 1) (refl, tt) (refl, tt);
  clauses = λ j c e. absurd (none_there j e);
  no_else = λ h e. absurd (opens_nothing h e refl);
}

by_default : Step cx choosing (At 4 (in_blocks (I32 ∷ I64 ∷ [])) []) (At 6 (outer_block (I64 ∷ [])) [])
by_default = (
  operator cx (br_table (1 ∷ []) 0),
  refl,
  at_table,
  by_jumping 0 _ refl refl (record { label = label 1 Block (Val I64) (I32 ∷ I64 ∷ []); outer = outer_block []; is = refl; types = I64 ∷ []; below = (refl, tt); arrives = (5, (Ends, (0, refl), refl), refl) }),
)

by_target : Step cx choosing (At 4 (in_blocks (I32 ∷ I64 ∷ [])) []) (At 9 (outermost to_nothing (I64 ∷ []) ∷ []) [])
by_target = (
  operator cx (br_table (1 ∷ []) 0),
  refl,
  at_table,
  by_jumping 1 _ refl refl (record { label = label 0 Block (Val I64) []; outer = outermost to_nothing [] ∷ []; is = refl; types = I64 ∷ []; below = (refl, tt); arrives = (8, (Ends, (0, refl), refl), refl) }),
)

choosing_safe : IsTypeSafe cx choosing to_nothing
choosing_safe = body_safety (context_of declared) (lawful_lists declared refl) cx choosing_ops to_nothing refl ([], refl)

-- ---- out of a block of other results

abbrev returning_ops : List Op
returning_ops =
    block (Val I64) ∷ i64_const ∷ i32_const ∷ a_return ∷ end ∷ drops ∷ i32_const ∷ end ∷ []

abbrev returning : List Operator
returning = operators cx returning_ops

returns : Step cx returning (At 3 (label 0 Block (Val I64) (I32 ∷ I64 ∷ []) ∷ outermost (Val I32) [] ∷ []) []) (Returned (I32 ∷ []))
returns = (
  operator cx (a_return),
  refl,
  record {
    row = holding _ refl refl;
    targets = only (λ (t : Target). LabelAccepts cx (drop t.depth (label 0 Block (Val I64) (I32 ∷ I64 ∷ []) ∷ outermost (Val I32) [] ∷ [])) (t.carried (I32 ∷ []))) (target cx (label_heads (label 0 Block (Val I64) [] ∷ outermost (Val I32) [] ∷ [])) 1) (refl, tt);
    clauses = λ j c e. absurd (none_there j e);
    no_else = λ h e. absurd (opens_nothing h e refl);
  },
  by_jumping 0 _ refl refl (record { label = outermost (Val I32) []; outer = []; is = refl; types = I32 ∷ []; below = (refl, tt); arrives = refl }),
)

-- ---- `select` takes its test and two operands, and leaves what lies below

selects : Step cx (operators cx (Control Select ∷ [])) (At 0 (outermost to_nothing (I32 ∷ I64 ∷ I64 ∷ I32 ∷ []) ∷ []) []) (At 1 (outermost to_nothing (I64 ∷ I32 ∷ []) ∷ []) [])
selects = (
  operator cx (Control Select),
  refl,
  demands_operands (holding _ refl refl) refl refl refl,
  by_going_on (I64 ∷ []) (I64 ∷ []) refl refl refl (refl, tt) refl,
)

-- ---- a body of both ways out of an `if`, and of dead code

abbrev mixing_ops : List Op
mixing_ops =
    i32_const ∷ an_if Empty ∷ a_return ∷ end ∷ i32_const ∷ an_if (Val I64) ∷ unreachable ∷ Control Select ∷ an_else ∷ i64_const ∷ i64_const ∷ i32_const ∷ typed_select I64 ∷ end ∷ drops ∷ end ∷ []

mixing_safe : IsTypeSafe cx (operators cx mixing_ops) to_nothing
mixing_safe = body_safety (context_of declared) (lawful_lists declared refl) cx mixing_ops to_nothing refl ([], refl)
