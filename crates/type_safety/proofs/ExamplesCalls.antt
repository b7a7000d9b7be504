-- Runs of small bodies that call functions and access globals: what a tail call gives is what the body
-- returns.
use Rattle.std.proofs.Common.{◌≡◌, ◌+◌, true, false, List, [], ◌∷◌, drop, refl, sym, subst}
use Rattle.validate_resources.specs.Lists.{Declared, context_of}
use Rattle.validate_resources.specs.Lawful.{lawful_lists}
use Rattle.validate_resources.specs.Named.{nothing_declared}
use Rattle.validate_types.specs.Features.{floats, tail_call}
use Rattle.validate_visit.specs.declared.op.ControlOp.TheVariants.{GlobalGet, GlobalSet}
use Rattle.validate_visit.specs.declared.op.Op.{Op}
use Rattle.validate_visit.specs.declared.op.Op.TheVariants.{Control}
use Rattle.validation_rules.specs.Context.{ValType, I32, I64, F32, Empty, Val, Context}
use Rattle.validation_rules.specs.Fits.{Known}
use Rattle.validation_rules.specs.Rows.{Target, Operator}
use Rattle.validation_rules.specs.Operators.{operators, operator}
use Rattle.validation_rules.proofs.Steps.{some_injective}
use Rattle.validation_rules.proofs.ExampleWords.{func_type, within, block, an_if, end, call, return_call, drops}
use Rattle.validation_rules.proofs.ExampleWords.{i32_const}
use Rattle.type_safety.specs.Machine.{Label, At, Returned, LabelAccepts, Demand, configuration, IsNotStuck, Step}
use Rattle.type_safety.proofs.Outcomes.{holding, by_going_on, by_jumping}
use Rattle.type_safety.specs.Theorem.{IsTypeSafe}
use Rattle.type_safety.proofs.Bodies.{body_safety}
use Rattle.type_safety.proofs.ExampleWords.{block_label, outermost, only, demands_operands, none_there, opens_nothing, is_no_value}

-- ---- functions 0 from i32 to i64, and 1 to both; a global i32, and one i64 that can be written

abbrev declared : Declared
declared = record nothing_declared { types = func_type [] (I32 ∷ I64 ∷ []) ∷ func_type (I32 ∷ []) (I64 ∷ []) ∷ []; functions = record { type_index = 1; referenced = false; exact = false } ∷ record { type_index = 0; referenced = false; exact = false } ∷ []; globals = record { content_type = I32; mutable = false; shared = false } ∷ record { content_type = I64; mutable = true; shared = false } ∷ [] }

abbrev cx : Context
cx = within declared (floats + tail_call) false

-- ---- a tail call out of a block of other results

abbrev leaving_ops : List Op
leaving_ops =
    block (Val F32) ∷ Control (GlobalGet 0) ∷ Control (GlobalGet 0) ∷ return_call 0 ∷ end ∷ drops ∷ i32_const ∷ call 0 ∷ end ∷ []

abbrev leaving : List Operator
leaving = operators cx leaving_ops

abbrev in_body : List Label
in_body = outermost (Val I64) [] ∷ []

abbrev in_block : List ValType → Label
in_block own = block_label 0 (Val F32) own

-- at the call, over two i32: its label is the outermost, and it carries an i64 there
at_tail_call : Demand cx leaving (configuration 3 (in_block (I32 ∷ I32 ∷ [])) in_body [] (operator cx (return_call 0)))
at_tail_call = record {
  row = holding _ refl refl;
  targets = only (λ (t : Target). LabelAccepts cx (drop t.depth (in_block (I32 ∷ I32 ∷ []) ∷ in_body)) (t.carried (I32 ∷ []))) (record { depth = 1; carried = λ found. I64 ∷ [] }) (refl, tt);
  clauses = λ j c e. absurd (none_there j e);
  no_else = λ h e. absurd (opens_nothing h e refl);
}

-- the body returns the function's result: neither its operand nor the block's result
leaves : Step cx leaving (At 3 (in_block (I32 ∷ I32 ∷ []) ∷ in_body) []) (Returned (I64 ∷ []))
leaves = (
  operator cx (return_call 0),
  refl,
  at_tail_call,
  by_jumping 0 _ refl refl (record { label = block_label 0 (Val I64) []; outer = []; is = refl; types = I64 ∷ []; below = (refl, tt); arrives = refl }),
)

-- without its operand a run is stuck there
stuck_at_tail_call : IsNotStuck cx leaving (At 3 (in_block [] ∷ in_body) []) → ⊥
stuck_at_tail_call d =
    let e : operator cx (return_call 0) ≡ d.0 = some_injective _ _ d.1 in
    let d' = subst (λ op. Demand cx leaving (configuration 3 (in_block []) in_body [] op)) (sym e) d.2 in
    is_no_value d'.row.1

leaving_safe : IsTypeSafe cx leaving (Val I64)
leaving_safe = body_safety (context_of declared) (lawful_lists declared refl) cx leaving_ops (Val I64) refl (Known I64 ∷ [], refl)

-- ---- a call gives its results, the last on top, and a global takes that one

abbrev calling_ops : List Op
calling_ops =
    call 1 ∷ Control (GlobalSet 1) ∷ an_if Empty ∷ Control (GlobalGet 0) ∷ return_call 0 ∷ end ∷ Control (GlobalGet 0) ∷ call 0 ∷ end ∷ []

abbrev calling : List Operator
calling = operators cx calling_ops

calls : Step cx calling (At 0 in_body []) (At 1 (block_label 0 (Val I64) (I64 ∷ I32 ∷ []) ∷ []) [])
calls = (
  operator cx (call 1),
  refl,
  demands_operands (holding _ refl refl) refl refl refl,
  by_going_on (I32 ∷ I64 ∷ []) (I32 ∷ I64 ∷ []) refl refl refl (refl, (refl, tt)) refl,
)

sets : Step cx calling (At 1 (block_label 0 (Val I64) (I64 ∷ I32 ∷ []) ∷ []) []) (At 2 (block_label 0 (Val I64) (I32 ∷ []) ∷ []) [])
sets = (
  operator cx (Control (GlobalSet 1)),
  refl,
  demands_operands (holding _ refl refl) refl refl refl,
  by_going_on [] [] refl refl refl tt refl,
)

calling_safe : IsTypeSafe cx calling (Val I64)
calling_safe = body_safety (context_of declared) (lawful_lists declared refl) cx calling_ops (Val I64) refl (Known I64 ∷ [], refl)
