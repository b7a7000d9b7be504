-- Runs of small bodies of the table's operators on exceptions: thrown, caught by a clause or by a part of a
-- legacy `try`, and thrown again; and where a run is stuck.
use Rattle.std.proofs.Common.{◌≡◌, ℕ, zero, suc, false, true, List, [], ◌∷◌, drop, refl, ap, ◌∙◌}
use Rattle.validate_resources.specs.Lists.{Declared, context_of}
use Rattle.validate_resources.specs.Lawful.{lawful_lists}
use Rattle.validate_resources.specs.Named.{nothing_declared}
use Rattle.validate_types.specs.declared.heap.AbstractHeapType.TheVariants.{Any, Exn, NoExn}
use Rattle.validate_types.specs.declared.heap.HeapType.TheVariants.{Abstract}
use Rattle.validate_visit.specs.declared.catch.Catch.TheVariants.{OneRef, All, AllRef}
use Rattle.validate_visit.specs.declared.op.Op.{Op}
use Rattle.validation_rules.specs.Context.{SubType, ValType, I32, BlockType, Empty, Val, FuncType, Context}
use Rattle.validation_rules.specs.Rows.{FrameKind, Block, TryTable, LegacyTry, LegacyCatch, LegacyCatchAll, is_try, Ends, Clause, Operator}
use Rattle.validation_rules.specs.Operators.{operators, operator}
use Rattle.validation_rules.proofs.ExampleWords.{null, no_null, abstract, func_type, every, within, unreachable}
use Rattle.validation_rules.proofs.ExampleWords.{block, end, drops, i32_const, ref_null, try_table, throw}
use Rattle.validation_rules.proofs.ExampleWords.{throw_ref, legacy_try, legacy_catch, legacy_catch_all, delegate}
use Rattle.validation_rules.proofs.ExampleWords.{rethrow}
use Rattle.type_safety.specs.Machine.{Label, Machine, At, Returned, LeftByException, LabelAccepts, Demand, configuration, IsNotStuck, GoesOn, CatchesLegacy, Step, initial_machine}
use Rattle.type_safety.specs.Machine.Outcome.{raises}
use Rattle.type_safety.proofs.Outcomes.{holding, by_entering, by_catching, by_catching_legacy}
use Rattle.type_safety.specs.Theorem.{IsTypeSafe}
use Rattle.type_safety.proofs.Bodies.{body_safety}
use Rattle.type_safety.proofs.ExampleWords.{label, outermost, only, opens_no_if, the_demand, demands_operands, none_there, is_no_value}

-- ---- exceptions that carry an i32, or nothing

abbrev types : List SubType
types = func_type [] [] ∷ func_type [] (I32 ∷ no_null (abstract Exn) ∷ []) ∷ func_type (I32 ∷ []) [] ∷ []

abbrev declared : Declared
declared = record nothing_declared { types = types; tags = 2 ∷ 0 ∷ [] }

-- all proposals are on
abbrev cx : Context
cx = within declared every false

abbrev to_i32_and_exn : BlockType
to_i32_and_exn = FuncType 1

-- ---- caught by a clause with its reference, and thrown again

abbrev catching_ops : List Op
catching_ops =
    block to_i32_and_exn ∷ try_table Empty (OneRef 0 0 ∷ []) ∷ i32_const ∷ throw 0 ∷ end ∷ unreachable ∷ end ∷ throw_ref ∷ end ∷ []

abbrev catching : List Operator
catching = operators cx catching_ops

abbrev in_block : List Label
in_block = label 0 Block to_i32_and_exn [] ∷ outermost Empty [] ∷ []

abbrev in_try : List ValType → List Label
in_try own = label 1 TryTable Empty own ∷ in_block

-- what was carried, and the reference above it
abbrev a_clause : Clause
a_clause = record { depth = 0; types = I32 ∷ no_null (abstract Exn) ∷ [] }

demand_try : Demand cx catching (configuration 1 (label 0 Block to_i32_and_exn []) (outermost Empty [] ∷ []) [] (operator cx (try_table Empty (OneRef 0 0 ∷ []))))
demand_try = record {
  row = holding _ refl refl;
  targets = λ j t e. absurd (none_there j e);
  clauses = only (λ (c : Clause). LabelAccepts cx (drop c.depth in_block) c.types) a_clause (refl, (refl, tt));
  no_else = λ h e i. absurd (opens_no_if _ h e refl i);
}

into_try : Step cx catching (At 1 in_block []) (At 2 (in_try []) [])
into_try = (
  operator cx (try_table Empty (OneRef 0 0 ∷ [])),
  refl,
  demand_try,
  by_entering (record { kind = TryTable; block_type = Empty }) [] refl tt refl,
)

-- `throw` takes what the exception carries; the clause's label is the block, and the place is behind its `end`
caught : Step cx catching (At 3 (in_try (I32 ∷ [])) []) (At 7 (outermost Empty (no_null (abstract Exn) ∷ I32 ∷ []) ∷ []) [])
caught = (
  operator cx (throw 0),
  refl,
  demands_operands (holding _ refl refl) refl refl refl,
  by_catching 0 (label 1 TryTable Empty (I32 ∷ [])) in_block (operator cx (try_table Empty (OneRef 0 0 ∷ []))) 0 a_clause refl refl refl refl
      (record { label = label 0 Block to_i32_and_exn []; outer = outermost Empty [] ∷ []; is = refl; types = I32 ∷ no_null (abstract Exn) ∷ []; below = (refl, (refl, tt)); arrives = (6, (Ends, (0, refl), refl), refl) }),
)

-- with any reference below
caught_below : Step cx catching (At 3 (in_try (I32 ∷ [])) []) (At 7 (outermost Empty (no_null (abstract NoExn) ∷ I32 ∷ []) ∷ []) [])
caught_below = (
  operator cx (throw 0),
  refl,
  demands_operands (holding _ refl refl) refl refl refl,
  by_catching 0 (label 1 TryTable Empty (I32 ∷ [])) in_block (operator cx (try_table Empty (OneRef 0 0 ∷ []))) 0 a_clause refl refl refl refl
      (record { label = label 0 Block to_i32_and_exn []; outer = outermost Empty [] ∷ []; is = refl; types = I32 ∷ no_null (abstract NoExn) ∷ []; below = (refl, (refl, tt)); arrives = (6, (Ends, (0, refl), refl), refl) }),
)

-- nothing catches it there
throws_again : Step cx catching (At 7 (outermost Empty (no_null (abstract Exn) ∷ I32 ∷ []) ∷ []) []) LeftByException
throws_again = (
  operator cx throw_ref,
  refl,
  demands_operands (holding _ refl refl) refl refl refl,
  raises refl,
)

catching_safe : IsTypeSafe cx catching Empty
catching_safe = body_safety (context_of declared) (lawful_lists declared refl) cx catching_ops Empty refl ([], refl)

-- an operator that throws never goes on
never_goes_on : (next : Machine) → GoesOn cx catching (configuration 3 (label 1 TryTable Empty (I32 ∷ [])) in_block [] (operator cx (throw 0))) next → ⊥
never_goes_on next g = let e = g.live in absurd cc

reference_never_goes_on : (next : Machine) → GoesOn cx catching (configuration 7 (outermost Empty (no_null (abstract Exn) ∷ I32 ∷ [])) [] [] (operator cx throw_ref)) next → ⊥
reference_never_goes_on next g = let e = g.live in absurd cc

-- ---- caught by either of two clauses, of which one leaves the body

abbrev leaving_ops : List Op
leaving_ops =
    block (Val (null (abstract Exn))) ∷ try_table Empty (All 1 ∷ AllRef 0 ∷ []) ∷ throw 1 ∷ end ∷ ref_null (Abstract false Exn) ∷ end ∷ drops ∷ end ∷ []

abbrev leaving : List Operator
leaving = operators cx leaving_ops

abbrev in_leaving : List Label
in_leaving = label 0 Block (Val (null (abstract Exn))) [] ∷ outermost Empty [] ∷ []

-- to the body's own label
leaves : Step cx leaving (At 2 (label 1 TryTable Empty [] ∷ in_leaving) []) (Returned [])
leaves = (
  operator cx (throw 1),
  refl,
  demands_operands (holding _ refl refl) refl refl refl,
  by_catching 0 (label 1 TryTable Empty []) in_leaving (operator cx (try_table Empty (All 1 ∷ AllRef 0 ∷ []))) 0 (record { depth = 1; types = [] }) refl refl refl refl
      (record { label = outermost Empty []; outer = []; is = refl; types = []; below = tt; arrives = refl }),
)

-- or behind the block, with the reference alone
caught_by_second : Step cx leaving (At 2 (label 1 TryTable Empty [] ∷ in_leaving) []) (At 6 (outermost Empty (no_null (abstract Exn) ∷ []) ∷ []) [])
caught_by_second = (
  operator cx (throw 1),
  refl,
  demands_operands (holding _ refl refl) refl refl refl,
  by_catching 0 (label 1 TryTable Empty []) in_leaving (operator cx (try_table Empty (All 1 ∷ AllRef 0 ∷ []))) 1 (record { depth = 0; types = no_null (abstract Exn) ∷ [] }) refl refl refl refl
      (record { label = label 0 Block (Val (null (abstract Exn))) []; outer = outermost Empty [] ∷ []; is = refl; types = no_null (abstract Exn) ∷ []; below = (refl, tt); arrives = (5, (Ends, (0, refl), refl), refl) }),
)

leaving_safe : IsTypeSafe cx leaving Empty
leaving_safe = body_safety (context_of declared) (lawful_lists declared refl) cx leaving_ops Empty refl ([], refl)

-- ---- caught by a legacy `catch` or `catch_all`, and thrown again there

abbrev legacy_ops : List Op
legacy_ops =
    legacy_try Empty ∷ i32_const ∷ throw 0 ∷ legacy_catch 0 ∷ rethrow 0 ∷ legacy_catch_all ∷ rethrow 0 ∷ end ∷ end ∷ []

abbrev legacy : List Operator
legacy = operators cx legacy_ops

abbrev in_part : ℕ → FrameKind → List ValType → List Label
in_part began kind own = label began kind Empty own ∷ outermost Empty [] ∷ []

caught_legacy : Step cx legacy (At 2 (in_part 0 LegacyTry (I32 ∷ [])) []) (At 4 (in_part 3 LegacyCatch (I32 ∷ [])) [])
caught_legacy = (
  operator cx (throw 0),
  refl,
  demands_operands (holding _ refl refl) refl refl refl,
  by_catching_legacy 0 (label 0 LegacyTry Empty (I32 ∷ [])) (outermost Empty [] ∷ []) 3 false (I32 ∷ []) (I32 ∷ []) refl refl (0, refl) (refl, tt) refl,
)

caught_by_all : Step cx legacy (At 2 (in_part 0 LegacyTry (I32 ∷ [])) []) (At 6 (in_part 5 LegacyCatchAll []) [])
caught_by_all = (
  operator cx (throw 0),
  refl,
  demands_operands (holding _ refl refl) refl refl refl,
  by_catching_legacy 0 (label 0 LegacyTry Empty (I32 ∷ [])) (outermost Empty [] ∷ []) 5 true [] [] refl refl (1, refl) tt refl,
)

rethrows : Step cx legacy (At 4 (in_part 3 LegacyCatch (I32 ∷ [])) []) LeftByException
rethrows = (
  operator cx (rethrow 0),
  refl,
  demands_operands (holding _ refl refl) refl refl refl,
  raises refl,
)

rethrow_never_goes_on : (next : Machine) → GoesOn cx legacy (configuration 4 (label 3 LegacyCatch Empty (I32 ∷ [])) (outermost Empty [] ∷ []) [] (operator cx (rethrow 0))) next → ⊥
rethrow_never_goes_on next g = let e = g.live in absurd cc

-- no part of the same `try` catches it again
not_in_try : (d : ℕ) (l : Label) (ls : List Label) → drop d (in_part 3 LegacyCatch (I32 ∷ [])) ≡ l ∷ ls → is_try l.head.kind ≡ true → ⊥
not_in_try zero l ls e t =
    let same : label 3 LegacyCatch Empty (I32 ∷ []) ≡ l = cc in
    let clash : false ≡ true = ap (λ (k : Label). is_try k.head.kind) same ∙ t in
    absurd cc
not_in_try (suc zero) l ls e t =
    let same : outermost Empty [] ≡ l = cc in
    let clash : false ≡ true = ap (λ (k : Label). is_try k.head.kind) same ∙ t in
    absurd cc
not_in_try (suc (suc zero)) l ls e t = absurd cc
not_in_try (suc (suc (suc d))) l ls e t = absurd cc

caught_once : (next : Machine) → CatchesLegacy cx legacy (configuration 4 (label 3 LegacyCatch Empty (I32 ∷ [])) (outermost Empty [] ∷ []) [] (operator cx (rethrow 0))) next → ⊥
caught_once next c = not_in_try c.depth c.label c.outer c.is_open c.kind_is_try

legacy_safe : IsTypeSafe cx legacy Empty
legacy_safe = body_safety (context_of declared) (lawful_lists declared refl) cx legacy_ops Empty refl ([], refl)

-- ---- handed to the outer of two: by `delegate`, and by `rethrow` to a clause

abbrev delegating_ops : List Op
delegating_ops =
    legacy_try Empty ∷ legacy_try Empty ∷ throw 1 ∷ delegate 0 ∷ legacy_catch 1 ∷ end ∷ end ∷ []

abbrev delegating : List Operator
delegating = operators cx delegating_ops

delegates : Step cx delegating (At 2 (label 1 LegacyTry Empty [] ∷ in_part 0 LegacyTry []) []) (At 5 (in_part 4 LegacyCatch []) [])
delegates = (
  operator cx (throw 1),
  refl,
  demands_operands (holding _ refl refl) refl refl refl,
  by_catching_legacy 1 (label 0 LegacyTry Empty []) (outermost Empty [] ∷ []) 4 false [] [] refl refl (0, refl) tt refl,
)

delegating_safe : IsTypeSafe cx delegating Empty
delegating_safe = body_safety (context_of declared) (lawful_lists declared refl) cx delegating_ops Empty refl ([], refl)

abbrev rethrowing_ops : List Op
rethrowing_ops =
    try_table Empty (All 0 ∷ []) ∷ legacy_try Empty ∷ throw 1 ∷ legacy_catch 1 ∷ rethrow 0 ∷ end ∷ end ∷ end ∷ []

abbrev rethrowing : List Operator
rethrowing = operators cx rethrowing_ops

rethrows_to_clause : Step cx rethrowing (At 4 (label 3 LegacyCatch Empty [] ∷ label 0 TryTable Empty [] ∷ outermost Empty [] ∷ []) []) (Returned [])
rethrows_to_clause = (
  operator cx (rethrow 0),
  refl,
  demands_operands (holding _ refl refl) refl refl refl,
  by_catching 1 (label 0 TryTable Empty []) (outermost Empty [] ∷ []) (operator cx (try_table Empty (All 0 ∷ []))) 0 (record { depth = 0; types = [] }) refl refl refl refl
      (record { label = outermost Empty []; outer = []; is = refl; types = []; below = tt; arrives = refl }),
)

rethrowing_safe : IsTypeSafe cx rethrowing Empty
rethrowing_safe = body_safety (context_of declared) (lawful_lists declared refl) cx rethrowing_ops Empty refl ([], refl)

-- ---- where a run is stuck

-- without what the exception carries
stuck_at_throw : IsNotStuck cx (operators cx (throw 0 ∷ [])) (initial_machine Empty) → ⊥
stuck_at_throw d =
    is_no_value (the_demand cx _ 0 (outermost Empty []) [] [] (operator cx (throw 0)) refl d).row.1

-- over a reference to something else
stuck_at_reference : IsNotStuck cx (operators cx (throw_ref ∷ [])) (At 0 (outermost Empty (null (abstract Any) ∷ []) ∷ []) []) → ⊥
stuck_at_reference d =
    is_no_value (the_demand cx _ 0 (outermost Empty (null (abstract Any) ∷ [])) [] [] (operator cx throw_ref) refl d).row.1

-- where nothing was caught
stuck_at_rethrow : IsNotStuck cx (operators cx (rethrow 0 ∷ [])) (At 0 (in_part 0 LegacyTry []) []) → ⊥
stuck_at_rethrow d =
    is_no_value (the_demand cx _ 0 (label 0 LegacyTry Empty []) (outermost Empty [] ∷ []) [] (operator cx (rethrow 0)) refl d).row.1

-- with a clause whose label has no place for the reference
stuck_at_clause : IsNotStuck cx (operators cx (try_table Empty (OneRef 0 0 ∷ []) ∷ [])) (At 0 (label 0 Block (Val I32) [] ∷ outermost Empty [] ∷ []) []) → ⊥
stuck_at_clause d =
    let e = ((the_demand cx _ 0 (label 0 Block (Val I32) []) (outermost Empty [] ∷ []) [] (operator cx (try_table Empty (OneRef 0 0 ∷ []))) refl d).clauses 0 a_clause refl).1 in
    e
