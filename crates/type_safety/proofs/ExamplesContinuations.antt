-- Runs of small bodies of the table's operators on continuations: one that resumes, and goes on with the results
-- or to the label of a handler; one that is itself suspended, or switches; and where a run is stuck.
use Rattle.std.proofs.Common.{ℕ, false, List, [], ◌∷◌, drop, refl}
use Rattle.validate_resources.specs.Lists.{Declared, context_of}
use Rattle.validate_resources.specs.Lawful.{lawful_lists}
use Rattle.validate_resources.specs.Named.{nothing_declared}
use Rattle.validate_visit.specs.declared.op.ContinuationOp.TheVariants.{ContNew, ContBind, Suspend, Switch}
use Rattle.validate_visit.specs.declared.op.Op.{Op}
use Rattle.validate_visit.specs.declared.op.Op.TheVariants.{Continuation}
use Rattle.validate_visit.specs.declared.resume.Handle.TheVariants.{OnLabel, OnSwitch}
use Rattle.validation_rules.specs.Context.{SubType, ValType, I32, I64, F32, BlockType, Empty, Val, FuncType, Context}
use Rattle.validation_rules.specs.Rows.{Ends, Target, Operator}
use Rattle.validation_rules.specs.Operators.{operators, operator}
use Rattle.validation_rules.proofs.ExampleWords.{null_to, to, a_type, func_type, of_continuations, every, within}
use Rattle.validation_rules.proofs.ExampleWords.{block, end, drops, i32_const, null_of, resume}
use Rattle.type_safety.specs.Machine.{Label, At, LeftBySuspension, LabelAccepts, Demand, configuration, IsNotStuck, Step}
use Rattle.type_safety.specs.Machine.Outcome.{suspends}
use Rattle.type_safety.proofs.Outcomes.{holding, by_going_on, by_jumping}
use Rattle.type_safety.specs.Theorem.{IsTypeSafe}
use Rattle.type_safety.proofs.Bodies.{body_safety}
use Rattle.type_safety.proofs.ExampleWords.{block_label, outermost, only, the_demand, demands_operands, none_there, opens_nothing, is_no_value}

-- ---- continuations that take an i32 and give an f32; tag 0 carries an i32, and gives an i64 back

abbrev cont : ℕ → SubType
cont i = a_type false (of_continuations i)

-- 1, 3, 5 and 8 are the types of the continuations of those before; 4 ends with a continuation that is switched to
abbrev types : List SubType
types =
    func_type (I32 ∷ []) (F32 ∷ [])
    ∷ cont 0
    ∷ func_type (I64 ∷ []) (F32 ∷ [])
    ∷ cont 2
    ∷ func_type (I32 ∷ null_to 1 ∷ []) (F32 ∷ [])
    ∷ cont 4
    ∷ func_type (I32 ∷ []) (I64 ∷ [])
    ∷ func_type [] (F32 ∷ [])
    ∷ cont 7
    ∷ func_type [] (I32 ∷ null_to 3 ∷ [])
    ∷ []

abbrev declared : Declared
declared = record nothing_declared { types = types; tags = 6 ∷ 7 ∷ [] }

-- all proposals are on
abbrev cx : Context
cx = within declared every false

abbrev i32_and_cont : BlockType
i32_and_cont = FuncType 9

-- ---- resumed, with a handler to the block around it and one that switches

abbrev resuming_op : Op
resuming_op = resume 1 (OnSwitch 1 ∷ OnLabel 0 0 ∷ [])

abbrev resuming_ops : List Op
resuming_ops =
    block i32_and_cont ∷ i32_const ∷ null_of 1 ∷ resuming_op ∷ drops ∷ i32_const ∷ null_of 3 ∷ end ∷ drops ∷ drops ∷ end ∷ []

abbrev resuming : List Operator
resuming = operators cx resuming_ops

abbrev in_block : List ValType → List Label
in_block own = block_label 0 i32_and_cont own ∷ outermost Empty [] ∷ []

-- what the tag carries, and the continuation above it
abbrev a_target : Target
a_target = record { depth = 0; carried = λ found. I32 ∷ null_to 3 ∷ [] }

at_resume : Demand cx resuming (configuration 3 (block_label 0 i32_and_cont (to 1 ∷ I32 ∷ [])) (outermost Empty [] ∷ []) [] (operator cx resuming_op))
at_resume = record {
  row = holding _ refl refl;
  targets = only (λ (t : Target). LabelAccepts cx (drop t.depth (in_block (to 1 ∷ I32 ∷ []))) (t.carried (I32 ∷ to 1 ∷ []))) a_target (refl, (refl, tt));
  clauses = λ j c e. absurd (none_there j e);
  no_else = λ h e. absurd (opens_nothing h e refl);
}

-- to its end: on with the results
goes_on : Step cx resuming (At 3 (in_block (to 1 ∷ I32 ∷ [])) []) (At 4 (in_block (F32 ∷ [])) [])
goes_on = (operator cx resuming_op, refl, at_resume, by_going_on (F32 ∷ []) (F32 ∷ []) refl refl refl (refl, tt) refl)

-- suspended: behind the block's `end`, with what the tag carries, and with the continuation, which isn't null
handled : Step cx resuming (At 3 (in_block (to 1 ∷ I32 ∷ [])) []) (At 8 (outermost Empty (to 3 ∷ I32 ∷ []) ∷ []) [])
handled = (
  operator cx resuming_op,
  refl,
  at_resume,
  by_jumping 0 a_target refl refl
      (record { label = block_label 0 i32_and_cont (to 1 ∷ I32 ∷ []); outer = outermost Empty [] ∷ []; is = refl; types = I32 ∷ to 3 ∷ []; below = (refl, (refl, tt)); arrives = (7, (Ends, (0, refl), refl), refl) }),
)

resuming_safe : IsTypeSafe cx resuming Empty
resuming_safe = body_safety (context_of declared) (lawful_lists declared refl) cx resuming_ops Empty refl ([], refl)

-- ---- bound, and then switched; and suspended

abbrev switching_ops : List Op
switching_ops =
    i32_const ∷ null_of 5 ∷ Continuation (Switch 5 1) ∷ null_of 1 ∷ Continuation (ContBind 1 8) ∷ drops ∷ i32_const ∷ Continuation (Suspend 0) ∷ drops ∷ end ∷ []

abbrev switching : List Operator
switching = operators cx switching_ops

-- switched back to, it goes on with what the other one takes
switched : Step cx switching (At 2 (outermost Empty (null_to 5 ∷ I32 ∷ []) ∷ []) []) (At 3 (outermost Empty (I32 ∷ []) ∷ []) [])
switched = (
  operator cx (Continuation (Switch 5 1)),
  refl,
  demands_operands (holding _ refl refl) refl refl refl,
  by_going_on (I32 ∷ []) (I32 ∷ []) refl refl refl (refl, tt) refl,
)

bound : Step cx switching (At 4 (outermost Empty (null_to 1 ∷ I32 ∷ []) ∷ []) []) (At 5 (outermost Empty (to 8 ∷ []) ∷ []) [])
bound = (
  operator cx (Continuation (ContBind 1 8)),
  refl,
  demands_operands (holding _ refl refl) refl refl refl,
  by_going_on (to 8 ∷ []) (to 8 ∷ []) refl refl refl (refl, tt) refl,
)

at_suspend : Demand cx switching (configuration 7 (outermost Empty (I32 ∷ [])) [] [] (operator cx (Continuation (Suspend 0))))
at_suspend = demands_operands (holding _ refl refl) refl refl refl

-- the body is left, or resumed with what is given back
leaves : Step cx switching (At 7 (outermost Empty (I32 ∷ []) ∷ []) []) LeftBySuspension
leaves = (operator cx (Continuation (Suspend 0)), refl, at_suspend, suspends refl)

resumed : Step cx switching (At 7 (outermost Empty (I32 ∷ []) ∷ []) []) (At 8 (outermost Empty (I64 ∷ []) ∷ []) [])
resumed = (operator cx (Continuation (Suspend 0)), refl, at_suspend, by_going_on (I64 ∷ []) (I64 ∷ []) refl refl refl (refl, tt) refl)

switching_safe : IsTypeSafe cx switching Empty
switching_safe = body_safety (context_of declared) (lawful_lists declared refl) cx switching_ops Empty refl ([], refl)

-- ---- where a run is stuck

-- without what the continuation takes
stuck_at_resume : IsNotStuck cx (operators cx (resume 1 [] ∷ [])) (At 0 (outermost Empty (to 1 ∷ []) ∷ []) []) → ⊥
stuck_at_resume d =
    is_no_value (the_demand cx _ 0 (outermost Empty (to 1 ∷ [])) [] [] (operator cx (resume 1 [])) refl d).row.1

-- over a continuation of another type
stuck_at_other : IsNotStuck cx (operators cx (resume 1 [] ∷ [])) (At 0 (outermost Empty (to 3 ∷ I32 ∷ []) ∷ []) []) → ⊥
stuck_at_other d =
    is_no_value (the_demand cx _ 0 (outermost Empty (to 3 ∷ I32 ∷ [])) [] [] (operator cx (resume 1 [])) refl d).row.1

-- over a function in its place
stuck_at_new : IsNotStuck cx (operators cx (Continuation (ContNew 1) ∷ [])) (At 0 (outermost Empty (to 2 ∷ []) ∷ []) []) → ⊥
stuck_at_new d =
    is_no_value (the_demand cx _ 0 (outermost Empty (to 2 ∷ [])) [] [] (operator cx (Continuation (ContNew 1))) refl d).row.1

-- with a handler whose label has no place for the continuation
stuck_at_handler : IsNotStuck cx (operators cx (resume 1 (OnLabel 0 0 ∷ []) ∷ [])) (At 0 (block_label 0 (Val I32) (to 1 ∷ I32 ∷ []) ∷ outermost Empty [] ∷ []) []) → ⊥
stuck_at_handler d =
    is_no_value (the_demand cx _ 0 (block_label 0 (Val I32) (to 1 ∷ I32 ∷ [])) (outermost Empty [] ∷ []) [] (operator cx (resume 1 (OnLabel 0 0 ∷ []))) refl d).row.1
