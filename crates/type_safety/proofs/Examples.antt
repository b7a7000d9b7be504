-- Runs of small bodies, and a body that gets stuck: the definitions of the machine tried.
use Rattle.std.proofs.Common.{◌≡◌, ℕ, zero, suc, pos, Bool, true, false, List, [], ◌∷◌, length, map, take, drop, Some, None, refl, sym, subst}
use Rattle.validate_resources.specs.Context.{is_same_number_or_vector}
use Rattle.validate_resources.specs.Lists.{Declared, context_of}
use Rattle.validate_resources.specs.Lawful.{lawful_lists}
use Rattle.validate_resources.specs.Named.{nothing_declared}
use Rattle.validate_visit.specs.declared.numbers.IntegerType.TheVariants.{I32 as IntegerI32, I64 as IntegerI64}
use Rattle.validate_visit.specs.declared.numeric.IntegerBinaryOp.TheVariants.{Add}
use Rattle.validate_visit.specs.declared.op.Op.{Op}
use Rattle.validate_visit.specs.declared.op.Op.TheVariants.{Control, Numeric}
use Rattle.validate_visit.specs.declared.op.ControlOp.TheVariants.{Nop}
use Rattle.validate_visit.specs.declared.op.NumericOp.TheVariants.{Eqz, IntegerBinary, I32Const}
use Rattle.validation_rules.specs.Context.{SubType, ValType, I32, I64, BlockType, Empty, Val, FuncType, Context, AllBelow}
use Rattle.validation_rules.specs.Fits.{MaybeType, Bottom, Known}
use Rattle.validation_rules.specs.Static.{Frame}
use Rattle.validation_rules.specs.Rows.{FrameKind, Block, If, Else, Loop, TryTable, LegacyTry, LegacyCatch, Head, params, results, Stays, Opens, BeginsElse, BeginsCatch, Ends, Delegates, Clause, Target, Operator}
use Rattle.validation_rules.specs.Operators.{plain_row, looking_row, row_operator, operators, operator}
use Rattle.validation_rules.specs.Branches.{target}
use Rattle.validation_rules.proofs.Steps.{some_injective}
use Rattle.validation_rules.proofs.ExampleWords.{func_type, to_nothing, every, block, loop, an_if, an_else, end}
use Rattle.validation_rules.proofs.ExampleWords.{br, a_return, drops, local_get, local_set, i32_const, i64_const}
use Rattle.validation_rules.proofs.ExampleWords.{catch, try_table, throw, legacy_try, legacy_catch, delegate}
use Rattle.type_safety.specs.Machine.{Label, label_heads, Machine, At, Returned, Trapped, LeftByException, LeftBySuspension, delimiter, delimiters, LabelAccepts, Demand, configuration, IsNotStuck, Step, Run, initial_machine}
use Rattle.type_safety.specs.Machine.Outcome.{traps, raises, suspends}
use Rattle.type_safety.proofs.Outcomes.{holding, by_going_on, by_entering, by_entering_else, by_skipping, by_jumping, by_closing, by_ending_part, by_catching, by_catching_legacy}
use Rattle.type_safety.specs.Theorem.{LabelsBelow, IsAsValidated, IsTypeSafe}
use Rattle.type_safety.proofs.Bodies.{body_safety}
use Rattle.type_safety.proofs.ExampleWords.{label, outermost, only, opens_no_if, the_demand, demands_operands, none_there, opens_nothing, is_no_value}

abbrev types : List SubType
types = func_type [] [] ∷ func_type (I32 ∷ []) [] ∷ func_type (I32 ∷ []) (I32 ∷ []) ∷ []

-- exceptions carry an i32, or nothing
abbrev declared : Declared
declared = record nothing_declared { types = types; tags = 1 ∷ 0 ∷ [] }

abbrev takes_one : BlockType
takes_one = FuncType 1

abbrev one_to_one : BlockType
one_to_one = FuncType 2

abbrev cx : Context
cx = record { of_module = context_of declared; features = record { 0 = every }; shared = false; locals = I32 ∷ I64 ∷ []; set_at_entry = true ∷ false ∷ [] }

-- ---- operators

abbrev gets_local : Op
gets_local = local_get 1

abbrev sets_local : Op
sets_local = local_set 1

-- with one clause, for exceptions that carry an i32, to the innermost label outside it
abbrev try_catching : BlockType → Op
try_catching bt = try_table bt (catch 0 0 ∷ [])

-- ---- a run of a body of the table, to its return
abbrev adding : List Operator
adding = operators cx (local_get 0 ∷ Numeric (I32Const (pos 1)) ∷ Numeric (IntegerBinary IntegerI32 Add) ∷ end ∷ [])

abbrev adding_at : ℕ → List ValType → Machine
adding_at k own = At k (outermost one_to_one own ∷ []) []

adding_1 : Step cx adding (initial_machine one_to_one) (adding_at 1 (I32 ∷ []))
adding_1 = (
  operator cx (local_get 0),
  refl,
  demands_operands (holding _ refl refl) refl refl refl,
  by_going_on (I32 ∷ []) (I32 ∷ []) refl refl refl (refl, tt) refl,
)

adding_2 : Step cx adding (adding_at 1 (I32 ∷ [])) (adding_at 2 (I32 ∷ I32 ∷ []))
adding_2 = (
  operator cx (Numeric (I32Const (pos 1))),
  refl,
  demands_operands (holding _ refl refl) refl refl refl,
  by_going_on (I32 ∷ []) (I32 ∷ []) refl refl refl (refl, tt) refl,
)

adding_3 : Step cx adding (adding_at 2 (I32 ∷ I32 ∷ [])) (adding_at 3 (I32 ∷ []))
adding_3 = (
  operator cx (Numeric (IntegerBinary IntegerI32 Add)),
  refl,
  demands_operands (holding _ refl refl) refl refl refl,
  by_going_on (I32 ∷ []) (I32 ∷ []) refl refl refl (refl, tt) refl,
)

adding_4 : Step cx adding (adding_at 3 (I32 ∷ [])) (Returned (I32 ∷ []))
adding_4 = (
  operator cx (end),
  refl,
  demands_operands (holding _ refl refl) refl refl refl,
  by_closing (I32 ∷ []) refl (refl, tt) refl,
)

adding_returns : Run cx adding 4 (initial_machine one_to_one) (Returned (I32 ∷ []))
adding_returns = (adding_at 3 (I32 ∷ []), (adding_at 2 (I32 ∷ I32 ∷ []), (adding_at 1 (I32 ∷ []), (initial_machine one_to_one, refl, adding_1), adding_2), adding_3), adding_4)

-- any operator may trap
adding_traps : Step cx adding (initial_machine one_to_one) Trapped
adding_traps = (operator cx (local_get 0), refl, demands_operands (holding _ refl refl) refl refl refl, traps refl)

-- or leave, by an exception that nothing catches, or by a suspension
adding_raises : Step cx adding (initial_machine one_to_one) LeftByException
adding_raises = (operator cx (local_get 0), refl, demands_operands (holding _ refl refl) refl refl refl, raises refl)

adding_suspends : Step cx adding (initial_machine one_to_one) LeftBySuspension
adding_suspends = (operator cx (local_get 0), refl, demands_operands (holding _ refl refl) refl refl refl, suspends refl)

-- no run of it is stuck, however long
adding_safe : IsTypeSafe cx adding one_to_one
adding_safe = body_safety (context_of declared) (lawful_lists declared refl) cx (local_get 0 ∷ Numeric (I32Const (pos 1)) ∷ Numeric (IntegerBinary IntegerI32 Add) ∷ end ∷ []) one_to_one refl (Known I32 ∷ [], refl)

-- ---- bodies that aren't accepted get stuck

-- an operand is missing
stuck_at_once : IsNotStuck cx (operators cx (Numeric (IntegerBinary IntegerI32 Add) ∷ [])) (initial_machine to_nothing) → ⊥
stuck_at_once d =
    let e : operator cx (Numeric (IntegerBinary IntegerI32 Add)) ≡ d.0 = some_injective _ _ d.1 in
    let d' = subst (λ op. Demand cx (operators cx (Numeric (IntegerBinary IntegerI32 Add) ∷ [])) (configuration 0 (outermost to_nothing []) [] [] op)) (sym e) d.2 in
    is_no_value d'.row.1

-- an operand has another type
stuck_on_type : IsNotStuck cx (operators cx (Numeric (Eqz IntegerI32) ∷ [])) (At 0 (outermost to_nothing (I64 ∷ []) ∷ []) []) → ⊥
stuck_on_type d =
    let e : operator cx (Numeric (Eqz IntegerI32)) ≡ d.0 = some_injective _ _ d.1 in
    let d' = subst (λ op. Demand cx (operators cx (Numeric (Eqz IntegerI32) ∷ [])) (configuration 0 (outermost to_nothing (I64 ∷ [])) [] [] op)) (sym e) d.2 in
    is_no_value d'.row.1

-- a local isn't set
stuck_on_local : IsNotStuck cx (operators cx (local_get 1 ∷ [])) (initial_machine to_nothing) → ⊥
stuck_on_local d =
    let e : operator cx (local_get 1) ≡ d.0 = some_injective _ _ d.1 in
    let d' = subst (λ op. Demand cx (operators cx (local_get 1 ∷ [])) (configuration 0 (outermost to_nothing []) [] [] op)) (sym e) d.2 in
    is_no_value d'.row.1

-- once the machine has set it, it is set
reads_local : IsNotStuck cx (operators cx (local_get 1 ∷ [])) (At 0 (outermost to_nothing [] ∷ []) (1 ∷ []))
reads_local = (
  operator cx (local_get 1),
  refl,
  demands_operands (holding _ refl refl) refl refl refl,
)

-- the list has ended, and a label is open
stuck_behind : IsNotStuck cx (operators cx (Control Nop ∷ [])) (At 1 (outermost to_nothing [] ∷ []) []) → ⊥
stuck_behind d = let e = d.1 in absurd cc

-- a label is missing
stuck_on_label : IsNotStuck cx (operators cx (br 3 ∷ [])) (initial_machine to_nothing) → ⊥
stuck_on_label d =
    let e : operator cx (br 3) ≡ d.0 = some_injective _ _ d.1 in
    let d' = subst (λ op. Demand cx (operators cx (br 3 ∷ [])) (configuration 0 (outermost to_nothing []) [] [] op)) (sym e) d.2 in
    is_no_value d'.row.1

-- ---- a run that loops

abbrev looping_ops : List Op
looping_ops = i32_const ∷ loop takes_one ∷ br 0 ∷ end ∷ end ∷ []

abbrev looping : List Operator
looping = operators cx looping_ops

-- in the loop, with its parameter
abbrev in_loop : Machine
in_loop = At 2 (label 1 Loop takes_one (I32 ∷ []) ∷ outermost to_nothing [] ∷ []) []

abbrev before_loop : Machine
before_loop = At 1 (outermost to_nothing (I32 ∷ []) ∷ []) []

to_loop : Step cx looping (initial_machine to_nothing) before_loop
to_loop = (
  operator cx i32_const,
  refl,
  demands_operands (holding _ refl refl) refl refl refl,
  by_going_on (I32 ∷ []) (I32 ∷ []) refl refl refl (refl, tt) refl,
)

into_loop : Step cx looping before_loop in_loop
into_loop = (
  operator cx (loop takes_one),
  refl,
  record { row = holding _ refl refl; targets = λ j t e. absurd (none_there j e); clauses = λ j c e. absurd (none_there j e); no_else = λ h e i. absurd (opens_no_if _ h e refl i) },
  by_entering (record { kind = Loop; block_type = takes_one }) (I32 ∷ []) refl (refl, tt) refl,
)

-- back to where it was
around : Step cx looping in_loop in_loop
around = (
  operator cx (br 0),
  refl,
  record {
    row = holding _ refl refl;
    targets = only (λ (t : Target). LabelAccepts cx (drop t.depth (label 1 Loop takes_one (I32 ∷ []) ∷ outermost to_nothing [] ∷ [])) (t.carried (I32 ∷ []))) (target cx (label_heads (label 1 Loop takes_one (I32 ∷ []) ∷ outermost to_nothing [] ∷ [])) 0) (refl, tt);
    clauses = λ j c e. absurd (none_there j e);
    no_else = λ h e. absurd (opens_nothing h e refl);
  },
  by_jumping 0 _ refl refl (record { label = label 1 Loop takes_one (I32 ∷ []); outer = outermost to_nothing [] ∷ []; is = refl; types = I32 ∷ []; below = (refl, tt); arrives = refl }),
)

-- as often as one likes
loops_for_long : (n : ℕ) → Run cx looping (suc (suc n)) (initial_machine to_nothing) in_loop
loops_for_long zero = (before_loop, (initial_machine to_nothing, refl, to_loop), into_loop)
loops_for_long (suc n) = (in_loop, loops_for_long n, around)

-- and no run of it is stuck
looping_safe : IsTypeSafe cx looping to_nothing
looping_safe = body_safety (context_of declared) (lawful_lists declared refl) cx looping_ops to_nothing refl ([], refl)

-- ---- a run that returns from inside

abbrev returning : List Operator
returning = operators cx (block Empty ∷ i32_const ∷ a_return ∷ end ∷ i32_const ∷ end ∷ [])

abbrev inside : List ValType → List Label
inside own = label 0 Block Empty own ∷ outermost (Val I32) [] ∷ []

returns_from_inside : Step cx returning (At 2 (inside (I32 ∷ [])) []) (Returned (I32 ∷ []))
returns_from_inside = (
  operator cx a_return,
  refl,
  record {
    row = holding _ refl refl;
    targets = only (λ (t : Target). LabelAccepts cx (drop t.depth (inside (I32 ∷ []))) (t.carried (I32 ∷ []))) (target cx (label_heads (inside [])) 1) (refl, tt);
    clauses = λ j c e. absurd (none_there j e);
    no_else = λ h e. absurd (opens_nothing h e refl);
  },
  by_jumping 0 _ refl refl (record { label = outermost (Val I32) []; outer = []; is = refl; types = I32 ∷ []; below = (refl, tt); arrives = refl }),
)

-- ---- a run that throws into a handler

abbrev a_clause : Clause
a_clause = record { depth = 0; types = I32 ∷ [] }

abbrev throwing_ops : List Op
throwing_ops =
    block (Val I32) ∷ try_catching Empty ∷ i32_const ∷ throw 0 ∷ end ∷ i32_const ∷ end ∷ drops ∷ end ∷ []

abbrev throwing : List Operator
throwing = operators cx throwing_ops

abbrev in_block : List Label
in_block = label 0 Block (Val I32) [] ∷ outermost to_nothing [] ∷ []

abbrev in_try : List ValType → Machine
in_try own = At 3 (label 1 TryTable Empty own ∷ in_block) []

into_try : Step cx throwing (At 1 in_block []) (At 2 (label 1 TryTable Empty [] ∷ in_block) [])
into_try = (
  operator cx (try_catching Empty),
  refl,
  record {
    row = holding _ refl refl;
    targets = λ j t e. absurd (none_there j e);
    clauses = only (λ (c : Clause). LabelAccepts cx (drop c.depth in_block) c.types) a_clause (refl, tt);
    no_else = λ h e i. absurd (opens_no_if _ h e refl i);
  },
  by_entering (record { kind = TryTable; block_type = Empty }) [] refl tt refl,
)

-- the clause's label is the block outside the `try_table`, and the place is behind its `end`
caught : Step cx throwing (in_try (I32 ∷ [])) (At 7 (outermost to_nothing (I32 ∷ []) ∷ []) [])
caught = (
  operator cx (throw 0),
  refl,
  demands_operands (holding _ refl refl) refl refl refl,
  by_catching 0 (label 1 TryTable Empty (I32 ∷ [])) in_block (operator cx (try_catching Empty)) 0 a_clause refl refl refl refl
      (record {
        label = label 0 Block (Val I32) [];
        outer = outermost to_nothing [] ∷ [];
        is = refl;
        types = I32 ∷ [];
        below = (refl, tt);
        arrives = (6, (Ends, (0, refl), refl), refl);
      }),
)

-- an exception may be raised at any operator, as by a callee
caught_early : Step cx throwing (At 2 (label 1 TryTable Empty [] ∷ in_block) []) (At 7 (outermost to_nothing (I32 ∷ []) ∷ []) [])
caught_early = (
  operator cx i32_const,
  refl,
  demands_operands (holding _ refl refl) refl refl refl,
  by_catching 0 (label 1 TryTable Empty []) in_block (operator cx (try_catching Empty)) 0 a_clause refl refl refl refl
      (record {
        label = label 0 Block (Val I32) [];
        outer = outermost to_nothing [] ∷ [];
        is = refl;
        types = I32 ∷ [];
        below = (refl, tt);
        arrives = (6, (Ends, (0, refl), refl), refl);
      }),
)

abbrev legacy_ops : List Op
legacy_ops = legacy_try Empty ∷ i32_const ∷ throw 0 ∷ legacy_catch 0 ∷ drops ∷ end ∷ end ∷ []

abbrev legacy : List Operator
legacy = operators cx legacy_ops

-- into the part that `catch` begins, with the tag's parameters
caught_legacy : Step cx legacy (At 2 (label 0 LegacyTry Empty (I32 ∷ []) ∷ outermost to_nothing [] ∷ []) []) (At 4 (label 3 LegacyCatch Empty (I32 ∷ []) ∷ outermost to_nothing [] ∷ []) [])
caught_legacy = (
  operator cx (throw 0),
  refl,
  demands_operands (holding _ refl refl) refl refl refl,
  by_catching_legacy 0 (label 0 LegacyTry Empty (I32 ∷ [])) (outermost to_nothing [] ∷ []) 3 false (I32 ∷ []) (I32 ∷ []) refl refl (0, refl) (refl, tt) refl,
)

throwing_safe : IsTypeSafe cx throwing to_nothing
throwing_safe = body_safety (context_of declared) (lawful_lists declared refl) cx throwing_ops to_nothing refl ([], refl)

legacy_safe : IsTypeSafe cx legacy to_nothing
legacy_safe = body_safety (context_of declared) (lawful_lists declared refl) cx legacy_ops to_nothing refl ([], refl)

-- ---- a run through each part of an `if`

abbrev choosing_ops : List Op
choosing_ops = i32_const ∷ an_if (Val I32) ∷ i32_const ∷ an_else ∷ i32_const ∷ end ∷ end ∷ []

abbrev choosing : List Operator
choosing = operators cx choosing_ops

abbrev at_if : Machine
at_if = At 1 (outermost (Val I32) (I32 ∷ []) ∷ []) []

abbrev in_part : ℕ → ℕ → FrameKind → List ValType → Machine
in_part k began kind own = At k (label began kind (Val I32) own ∷ outermost (Val I32) [] ∷ []) []

demand_if : Demand cx choosing (configuration 1 (outermost (Val I32) (I32 ∷ [])) [] [] (operator cx (an_if (Val I32))))
demand_if = record { row = holding _ refl refl; targets = λ j t e. absurd (none_there j e); clauses = λ j c e. absurd (none_there j e); no_else = λ h e i w. absurd cc }

first_part : Step cx choosing at_if (in_part 2 1 If [])
first_part = (operator cx (an_if (Val I32)), refl, demand_if, by_entering (record { kind = If; block_type = Val I32 }) [] refl tt refl)

second_part : Step cx choosing at_if (in_part 4 3 Else [])
second_part =
    (operator cx (an_if (Val I32)), refl, demand_if, by_entering_else (record { kind = If; block_type = Val I32 }) 3 [] refl refl (0, refl) tt refl)

-- `else` is the end of the first part: on behind the closer, with the results
passes_else : Step cx choosing (in_part 3 1 If (I32 ∷ [])) (At 6 (outermost (Val I32) (I32 ∷ []) ∷ []) [])
passes_else = (
  operator cx an_else,
  refl,
  demands_operands (holding _ refl refl) refl refl refl,
  by_ending_part 5 (I32 ∷ []) refl (Ends, (1, refl), refl) (refl, tt) refl,
)

choosing_safe : IsTypeSafe cx choosing (Val I32)
choosing_safe = body_safety (context_of declared) (lawful_lists declared refl) cx choosing_ops (Val I32) refl (Known I32 ∷ [], refl)

-- without `else`: behind the closer
abbrev skipping : List Operator
skipping = operators cx (i32_const ∷ an_if Empty ∷ end ∷ end ∷ [])

skips : Step cx skipping (At 1 (outermost to_nothing (I32 ∷ []) ∷ []) []) (At 3 (outermost to_nothing [] ∷ []) [])
skips = (
  operator cx (an_if Empty),
  refl,
  record { row = holding _ refl refl; targets = λ j t e. absurd (none_there j e); clauses = λ j c e. absurd (none_there j e); no_else = λ h e i w. nothing_given h e },
  by_skipping (record { kind = If; block_type = Empty }) 2 [] refl refl refl (Ends, (0, refl), refl) tt refl,
)
  where
    nothing_given : (h : Head) → Opens (record { kind = If; block_type = Empty }) ≡ Opens h → AllBelow cx (take (length (params cx h)) (I32 ∷ [])) (results cx h)
    nothing_given h e =
        let d : record { kind = If; block_type = Empty } ≡ h = cc in
        subst (λ (k : Head). AllBelow cx (take (length (params cx k)) (I32 ∷ [])) (results cx k)) d tt

-- the parts and the closer of an `if`, past an inner block
marks_of_if : delimiters (operators cx (i32_const ∷ an_if Empty ∷ block Empty ∷ end ∷ an_else ∷ i32_const ∷ end ∷ end ∷ [])) 1 ≡ delimiter 4 BeginsElse ∷ delimiter 6 Ends ∷ []
marks_of_if = refl

-- those of a `try`, and of one that `delegate` closes
marks_of_try : delimiters (operators cx (legacy_try Empty ∷ legacy_try Empty ∷ legacy_catch 1 ∷ end ∷ legacy_catch 0 ∷ end ∷ end ∷ [])) 0 ≡ delimiter 4 (BeginsCatch false (I32 ∷ [])) ∷ delimiter 5 Ends ∷ []
marks_of_try = refl

marks_of_delegated : delimiters (operators cx (legacy_try Empty ∷ i32_const ∷ delegate 0 ∷ end ∷ [])) 0 ≡ delimiter 2 Delegates ∷ []
marks_of_delegated = refl

-- ---- what a wrong validator would let through gets stuck

-- a branch to a loop that wants the loop's results, not its parameters
abbrev br_by_results : Operator
br_by_results = record { form = Stays; row = λ hs. record (plain_row [] []) { ends_live = true; targets = record { depth = 0; carried = λ ys. ys } ∷ [] } }

stuck_at_loop : IsNotStuck cx (operator cx i32_const ∷ operator cx (loop takes_one) ∷ br_by_results ∷ operator cx end ∷ operator cx end ∷ []) (At 2 (label 1 Loop takes_one [] ∷ outermost to_nothing [] ∷ []) []) → ⊥
stuck_at_loop d = (the_demand cx _ 2 (label 1 Loop takes_one []) (outermost to_nothing [] ∷ []) [] br_by_results refl d).targets 0 _ refl

-- a table of branches that looks at its default alone
abbrev table_by_default : Operator
table_by_default =
    record { form = Stays; row = λ hs. record (plain_row (I32 ∷ []) []) { ends_live = true; targets = target cx hs 0 ∷ target cx hs 1 ∷ [] } }

stuck_at_table : IsNotStuck cx (table_by_default ∷ []) (At 0 (label 0 Block (Val I64) (I32 ∷ []) ∷ outermost to_nothing [] ∷ []) []) → ⊥
stuck_at_table d =
    let e = ((the_demand cx _ 0 (label 0 Block (Val I64) (I32 ∷ [])) (outermost to_nothing [] ∷ []) [] table_by_default refl d).targets 0 _ refl).0 in
    absurd cc

-- an operator that pushes what isn't known over operands that are
abbrev forgets : Operator
forgets = row_operator (looking_row 1 (λ found. Some (Bottom ∷ [])))

not_known : (types : List ValType) → Some (Bottom ∷ []) ≡ Some (map Known types) → ⊥
not_known [] e = absurd cc
not_known (t ∷ types) e = absurd cc

stuck_at_unknown : IsNotStuck cx (forgets ∷ []) (At 0 (outermost to_nothing (I32 ∷ []) ∷ []) []) → ⊥
stuck_at_unknown d =
    let holds = (the_demand cx _ 0 (outermost to_nothing (I32 ∷ [])) [] [] forgets refl d).row in
    not_known holds.0 holds.1

-- an `if` without `else` that has results and no parameters
stuck_at_if : IsNotStuck cx (operators cx (an_if (Val I32) ∷ i32_const ∷ end ∷ end ∷ [])) (At 0 (outermost to_nothing (I32 ∷ []) ∷ []) []) → ⊥
stuck_at_if d = (the_demand cx _ 0 (outermost to_nothing (I32 ∷ [])) [] [] (operator cx (an_if (Val I32))) refl d).no_else _ refl refl refl

-- a clause that names a label inside its own frame
stuck_at_clause : IsNotStuck cx (operators cx (try_catching (Val I32) ∷ [])) (initial_machine to_nothing) → ⊥
stuck_at_clause d = (the_demand cx _ 0 (outermost to_nothing []) [] [] (operator cx (try_catching (Val I32))) refl d).clauses 0 _ refl

-- a run that leaves a block before it has set a local, and reads the local behind the block
abbrev leaving : List Operator
leaving = operators cx (block Empty ∷ br 0 ∷ i64_const ∷ sets_local ∷ end ∷ gets_local ∷ drops ∷ end ∷ [])

leaves : Step cx leaving (At 1 (label 0 Block Empty [] ∷ outermost to_nothing [] ∷ []) []) (At 5 (outermost to_nothing [] ∷ []) [])
leaves = (
  operator cx (br 0),
  refl,
  record {
    row = holding _ refl refl;
    targets = only (λ (t : Target). LabelAccepts cx (drop t.depth (label 0 Block Empty [] ∷ outermost to_nothing [] ∷ [])) (t.carried [])) (target cx (label_heads (label 0 Block Empty [] ∷ outermost to_nothing [] ∷ [])) 0) tt;
    clauses = λ j c e. absurd (none_there j e);
    no_else = λ h e. absurd (opens_nothing h e refl);
  },
  by_jumping 0 _ refl refl (record { label = label 0 Block Empty []; outer = outermost to_nothing [] ∷ []; is = refl; types = []; below = tt; arrives = (4, (Ends, (0, refl), refl), refl) }),
)

stuck_behind_block : IsNotStuck cx leaving (At 5 (outermost to_nothing [] ∷ []) []) → ⊥
stuck_behind_block d =
    is_no_value (the_demand cx leaving 5 (outermost to_nothing []) [] [] (operator cx gets_local) refl d).row.1

-- ---- what isn't type safe

not_safe : IsTypeSafe cx (operators cx (Numeric (IntegerBinary IntegerI32 Add) ∷ [])) to_nothing → ⊥
not_safe safe = stuck_at_once (safe 0 (initial_machine to_nothing) refl).0

-- a return without the result, or with another type
returns_nothing : IsAsValidated cx adding one_to_one (Returned []) → ⊥
returns_nothing s = s

returns_other : IsAsValidated cx adding one_to_one (Returned (I64 ∷ [])) → ⊥
returns_other s = let e = s.0 in absurd cc

abbrev a_frame : List MaybeType → Bool → Frame
a_frame own dead = record { head = record { kind = Block; block_type = to_nothing }; operands = own; dead = dead; first_set = [] }

-- one label for one frame, one operand for one operand, of a type below, and no dead frame
labels_agree : LabelsBelow cx (outermost to_nothing (I32 ∷ []) ∷ []) (a_frame (Known I32 ∷ []) false ∷ [])
labels_agree = (record { head = refl; live = refl; operands = (I32 ∷ [], refl, (refl, tt)) }, tt)

label_missing : LabelsBelow cx [] (a_frame [] false ∷ []) → ⊥
label_missing h = h

frame_is_dead : LabelsBelow cx (outermost to_nothing [] ∷ []) (a_frame [] true ∷ []) → ⊥
frame_is_dead h = let e = h.0.live in absurd cc

operand_missing : LabelsBelow cx (outermost to_nothing [] ∷ []) (a_frame (Known I32 ∷ []) false ∷ []) → ⊥
operand_missing h = no_operand h.0.operands.0 h.0.operands.1 h.0.operands.2
  where
    no_operand : (us : List ValType) → Known I32 ∷ [] ≡ map Known us → AllBelow cx [] us → ⊥
    no_operand [] e b = absurd cc
    no_operand (u ∷ us) e b = b

-- ---- the machine's choices: any type below a stated one

-- an order in which i32 lies below i64
abbrev tilted : ValType → ValType → Bool
tilted I32 I64 = true
tilted t u = is_same_number_or_vector t u

abbrev tilted_context : Context
tilted_context = record {
  of_module = record { type_at = λ i. None; type_of_id = λ i. None; type_index_of = λ i. None; type_id_of = λ i. None; is_referenced = λ i. false; has_exact_type = λ i. false; table_at = λ i. None; memory_at = λ i. None; global_at = λ i. None; tag_at = λ i. None; element_at = λ i. None; data_count = None; below = tilted; is_shared = λ r. false; top_type = λ h. h; canonical_type = λ f t. None; canonical_ref = λ r. None; canonical_heap = λ h. None };
  features = record { 0 = every };
  shared = false;
  locals = [];
  set_at_entry = [];
}

abbrev giving_i64 : List ValType → Label
giving_i64 own = label 0 Block (Val I64) own

-- what is pushed
pushes_below : Step tilted_context (operator tilted_context (i64_const) ∷ []) (At 0 (giving_i64 [] ∷ []) []) (At 1 (giving_i64 (I32 ∷ []) ∷ []) [])
pushes_below = (
  operator tilted_context (i64_const),
  refl,
  demands_operands (holding _ refl refl) refl refl refl,
  by_going_on (I64 ∷ []) (I32 ∷ []) refl refl refl (refl, tt) refl,
)

-- what is expected
takes_below : IsNotStuck tilted_context (operator tilted_context (Numeric (IntegerBinary IntegerI64 Add)) ∷ []) (At 0 (giving_i64 (I32 ∷ I64 ∷ []) ∷ []) [])
takes_below = (
  operator tilted_context (Numeric (IntegerBinary IntegerI64 Add)),
  refl,
  demands_operands (holding _ refl refl) refl refl refl,
)

-- and not what lies above
takes_above : IsNotStuck tilted_context (operator tilted_context (Numeric (Eqz IntegerI32)) ∷ []) (At 0 (giving_i64 (I64 ∷ []) ∷ []) []) → ⊥
takes_above d =
    let e : operator tilted_context (Numeric (Eqz IntegerI32)) ≡ d.0 = some_injective _ _ d.1 in
    let d' = subst (λ op. Demand tilted_context (operator tilted_context (Numeric (Eqz IntegerI32)) ∷ []) (configuration 0 (giving_i64 (I64 ∷ [])) [] [] op)) (sym e) d.2 in
    is_no_value d'.row.1

-- the results of a frame
gives_below : Step tilted_context (operators tilted_context (end ∷ [])) (At 0 (giving_i64 (I64 ∷ []) ∷ []) []) (Returned (I32 ∷ []))
gives_below = (
  operator tilted_context end,
  refl,
  demands_operands (holding _ refl refl) refl refl refl,
  by_closing (I32 ∷ []) refl (refl, tt) refl,
)

-- what a branch carries
carries_below : Step tilted_context (operators tilted_context (br 0 ∷ [])) (At 0 (giving_i64 (I64 ∷ []) ∷ []) []) (Returned (I32 ∷ []))
carries_below = (
  operator tilted_context (br 0),
  refl,
  record {
    row = holding _ refl refl;
    targets = only (λ (t : Target). LabelAccepts tilted_context (drop t.depth (giving_i64 (I64 ∷ []) ∷ [])) (t.carried (I64 ∷ []))) (target tilted_context (label_heads (giving_i64 (I64 ∷ []) ∷ [])) 0) (refl, tt);
    clauses = λ j c e. absurd (none_there j e);
    no_else = λ h e. absurd (opens_nothing h e refl);
  },
  by_jumping 0 _ refl refl (record { label = giving_i64 (I64 ∷ []); outer = []; is = refl; types = I32 ∷ []; below = (refl, tt); arrives = refl }),
)
