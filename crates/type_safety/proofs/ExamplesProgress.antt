-- Progress tried: the state to which each step of the law leads in a small body; a body with a local that
-- isn't valid; and a block that nothing closes.
use Rattle.std.proofs.Common.{◌≡◌, ◌≤◌, ℕ, zero, suc, Bool, true, false, List, [], ◌∷◌, map, drop, Some, refl, sym, ap, arith, ◌∙◌, subst, slice_get}
use Rattle.std.specs.List.{AllByRecursion}
use Rattle.std.specs.Prelude.{IsFalse}
use Rattle.validate_resources.specs.Lists.{Declared, context_of}
use Rattle.validate_resources.specs.Lawful.{lawful_lists}
use Rattle.validate_resources.specs.Named.{nothing_declared}
use Rattle.validate_visit.specs.declared.op.Op.{Op}
use Rattle.validation_rules.specs.Context.{ValType, I32, BlockType, Empty, Val, FuncType, Context, AllBelow}
use Rattle.validation_rules.specs.Fits.{Known}
use Rattle.validation_rules.specs.Rows.{Block, Loop, If, Else, TryTable, LegacyTry, LegacyCatch, LegacyCatchAll, Head, params, results, Form, Opens, BeginsElse, BeginsCatch, Ends, is_instruction, Target, Clause, Operator, catch_kind}
use Rattle.validation_rules.specs.Static.{head_with_kind, start, IsAccepted}
use Rattle.validation_rules.specs.Operators.{operators, operator}
use Rattle.validation_rules.proofs.Below.{known-injective}
use Rattle.validation_rules.proofs.ExampleWords.{func_type, every, within, null, named, local_get, drops, block, loop, an_if, an_else, end, br, br_table, i32_const, catch, try_table, legacy_try, legacy_catch, legacy_catch_all}
use Rattle.validation_rules.proofs.Steps.{some_injective}
use Rattle.type_safety.specs.Machine.{Label, Machine, At, Returned, Trapped, LeftByException, LeftBySuspension, Configuration, configuration, labels_at, labels_with, labels_inside, opened_label, row_at, row_in, operands_taken, pushed_types_at, set_after, machine_after_exit, Delimiter, delimiter, delimiters, is_else, is_closing_form, IsDelimiter, IsCloser, Arrives, Branches, EntersElse, SkipsIf, Step, initial_machine}
use Rattle.type_safety.specs.Counting.{DelimitsBlock}
use Rattle.type_safety.specs.Progress.{machine_at, HasEachStep, EndsOrSteps, HasStep, HasProgress, CanGoOn, CanEnter, CanClose, CanEndPart, CanBranch, CanCatch, CanCatchLegacy}
use Rattle.type_safety.proofs.ExampleWords.{label, outermost}
use Rattle.type_safety.proofs.Progress.{body_progress}

-- exceptions carry an i32
abbrev declared : Declared
declared = record nothing_declared { types = func_type (I32 ∷ []) (I32 ∷ []) ∷ func_type (I32 ∷ []) [] ∷ []; tags = 1 ∷ [] }

abbrev one_to_one : BlockType
one_to_one = FuncType 0

-- one local of this type, which is set
abbrev with_local : ValType → Context
with_local t = record (within declared every false) { locals = t ∷ []; set_at_entry = true ∷ [] }

abbrev cx : Context
cx = with_local I32

-- the label of a body that gives an i32
abbrev body : List ValType → Label
body own = outermost (Val I32) own

-- ---- in words: the state to which a step leads

module _ (code : List Operator) where
  leads_to : (here : Configuration) (next there : Machine) → next ≡ there → Step cx code (machine_at here) next → Step cx code (machine_at here) there
  leads_to here next there is s = subst (Step cx code (machine_at here)) is s

  -- the only delimiter of such a form
  the_place : (is : Form → Bool) (c : ℕ) (ds : List Delimiter) → AllByRecursion (λ (d : Delimiter). is d.form ≡ true → d.place ≡ c) ds → (k : ℕ) (form : Form) (j : ℕ) → slice_get ds j ≡ Some (delimiter k form) → is form ≡ true → k ≡ c
  the_place is c [] h k form j e i = absurd cc
  the_place is c (d ∷ ds) h k form zero e i =
      let same : d ≡ delimiter k form = some_injective _ _ e in
      ap (λ (m : Delimiter). m.place) (sym same) ∙ h.0 (ap (λ (m : Delimiter). is m.form) same ∙ i)
  the_place is c (d ∷ ds) h k form (suc j) e i = the_place is c ds h.1 k form j e i

  the_closer : (b c : ℕ) → AllByRecursion (λ (d : Delimiter). is_closing_form d.form ≡ true → d.place ≡ c) (delimiters code b) → (k : ℕ) → IsCloser code b k → k ≡ c
  the_closer b c only k h = the_place is_closing_form c (delimiters code b) only k h.0 h.1.0 h.1.1 h.2

  goes_on_to : (here : Configuration) (pushed : List ValType) → pushed_types_at cx here ≡ Some (map Known pushed) → IsFalse (row_at here).ends_live → CanGoOn cx code here → Step cx code (machine_at here) (At (suc here.place) (labels_with pushed here) (set_after (row_at here).sets here.set))
  goes_on_to here pushed e live can =
      let s = can live in
      let types = s.1.1 ∙ known-injective s.1.0.pushed pushed (some_injective _ _ (sym s.1.0.pushes ∙ e)) in
      leads_to here s.0 _ (s.1.0.is ∙ ap (λ ts. At (suc here.place) (labels_with ts here) (set_after (row_at here).sets here.set)) types) s.2

  opened : (h k : Head) → Opens h ≡ Opens k → k ≡ h
  opened h k e = cc

  enters_to : (here : Configuration) (h : Head) → here.op.form ≡ Opens h → CanEnter cx code here h → Step cx code (machine_at here) (At (suc here.place) (labels_inside (opened_label here.place h (params cx h)) here) here.set)
  enters_to here h e s =
      let to = λ (k : Head) (ts : List ValType). At (suc here.place) (labels_inside (opened_label here.place k ts) here) here.set in
      leads_to here s.0 _ (s.1.0.is ∙ ap (λ k. to k s.1.0.types) (opened h s.1.0.head (sym e ∙ s.1.0.opens)) ∙ ap (to h) s.1.1) s.2

  -- out of the block where it ends here, and where a part does, with the place c of its closer
  closes_to : (here : Configuration) → CanClose cx code here → Step cx code (machine_at here) (machine_after_exit (suc here.place) (results cx here.label.head) here.outer here.set)
  closes_to here s = leads_to here s.0 _ (s.1.0.is ∙ ap (λ ts. machine_after_exit (suc here.place) ts here.outer here.set) s.1.1) s.2

  ends_part_to : (here : Configuration) (c : ℕ) → AllByRecursion (λ (d : Delimiter). is_closing_form d.form ≡ true → d.place ≡ c) (delimiters code here.label.began) → CanEndPart cx code here → Step cx code (machine_at here) (machine_after_exit (suc c) (results cx here.label.head) here.outer here.set)
  ends_part_to here c only s =
      let x = s.1.0.exits in
      leads_to here s.0 _ (x.2 ∙ ap (λ k. machine_after_exit (suc k) s.1.0.types here.outer here.set) (the_closer here.label.began c only x.0 x.1) ∙ ap (λ ts. machine_after_exit (suc c) ts here.outer here.set) s.1.1) s.2

  -- past an `if`, and into its second part
  skips_to : (here : Configuration) (h : Head) (c : ℕ) → AllByRecursion (λ (d : Delimiter). is_closing_form d.form ≡ true → d.place ≡ c) (delimiters code here.place) → HasStep cx code here (λ next. (o : SkipsIf cx code here next) × (o.types ≡ results cx h)) → Step cx code (machine_at here) (At (suc c) (labels_with (results cx h) here) here.set)
  skips_to here h c only s =
      leads_to here s.0 _ (s.1.0.is ∙ ap (λ k. At (suc k) (labels_with s.1.0.types here) here.set) (the_closer here.place c only s.1.0.closer s.1.0.is_its_closer) ∙ ap (λ ts. At (suc c) (labels_with ts here) here.set) s.1.1) s.2

  enters_else_to : (here : Configuration) (h : Head) (c : ℕ) → here.op.form ≡ Opens h → AllByRecursion (λ (d : Delimiter). is_else d.form ≡ true → d.place ≡ c) (delimiters code here.place) → HasStep cx code here (λ next. (o : EntersElse cx code here next) × (o.types ≡ params cx h)) → Step cx code (machine_at here) (At (suc c) (labels_inside (opened_label c (head_with_kind Else h) (params cx h)) here) here.set)
  enters_else_to here h c e only s =
      let to = λ (j : ℕ) (k : Head) (ts : List ValType). At (suc j) (labels_inside (opened_label j (head_with_kind Else k) ts) here) here.set in
      let m = s.1.0.is_its_else in
      let place = the_place is_else c (delimiters code here.place) only s.1.0.place BeginsElse m.0 m.1 refl in
      leads_to here s.0 _ (s.1.0.is ∙ ap (λ j. to j s.1.0.head s.1.0.types) place ∙ ap (λ k. to c k s.1.0.types) (opened h s.1.0.head (sym e ∙ s.1.0.opens)) ∙ ap (to c h) s.1.1) s.2

  -- to a label: the state to which a branch with the carried types comes
  abbrev BranchesTo : Configuration → Label → List Label → List ValType → Type 0
  BranchesTo here l outer types = (next : Machine) × Arrives cx code l outer here.set types next × Step cx code (machine_at here) next

  arrives_exactly : (here : Configuration) (labels : List Label) (types carried : List ValType) (next : Machine) (b : Branches cx code labels here.set types next) → b.types ≡ carried → (l : Label) (outer : List Label) → labels ≡ l ∷ outer → Arrives cx code l outer here.set carried next
  arrives_exactly here labels types carried next b exact l outer is =
      let same : b.label ∷ b.outer ≡ l ∷ outer = sym b.is ∙ is in
      let first : b.label ≡ l = cc in
      let rest : b.outer ≡ outer = cc in
      subst (λ ts. Arrives cx code l outer here.set ts next) exact
      (subst (λ (o : List Label). Arrives cx code l o here.set b.types next) rest
      (subst (λ (x : Label). Arrives cx code x b.outer here.set b.types next) first b.arrives))

  branches_to : (here : Configuration) (j : ℕ) (t : Target) → slice_get (row_at here).targets j ≡ Some t → (l : Label) (outer : List Label) → drop t.depth (labels_at here) ≡ l ∷ outer → CanBranch cx code here → BranchesTo here l outer (t.carried (operands_taken here))
  branches_to here j t e l outer is can =
      let s = can j t e in
      let target : s.1.0.target ≡ t = some_injective _ _ (sym s.1.0.is_its_target ∙ ap (slice_get (row_at here).targets) s.1.1 ∙ e) in
      (s.0, arrives_exactly here _ _ _ s.0 s.1.0.branches s.1.2 l outer (ap (λ (u : Target). drop u.depth (labels_at here)) target ∙ is), s.2)

  catches_to : (here : Configuration) (d : ℕ) (l : Label) (outer : List Label) → drop d (labels_at here) ≡ l ∷ outer → l.head.kind ≡ TryTable → (opener : Operator) → slice_get code l.began ≡ Some opener → (j : ℕ) (c : Clause) → slice_get (row_in outer opener).clauses j ≡ Some c → (m : Label) (more : List Label) → drop c.depth outer ≡ m ∷ more → CanCatch cx code here → BranchesTo here m more c.types
  catches_to here d l outer is kind opener at j c e m more there can =
      let w = can d l outer is kind in
      let op : w.0 ≡ opener = some_injective _ _ (sym w.1 ∙ at) in
      let s = w.3 j c (ap (λ (o : Operator). slice_get (row_in outer o).clauses j) op ∙ e) in
      let o = s.1.0 in
      let same : o.label ∷ o.outer ≡ l ∷ outer = sym o.is_open ∙ ap (λ i. drop i (labels_at here)) s.1.1 ∙ is in
      let first : o.label ≡ l = cc in
      let rest : o.outer ≡ outer = cc in
      let its : o.opener ≡ opener = some_injective _ _ (sym o.is_its_opener ∙ ap (λ (x : Label). slice_get code x.began) first ∙ at) in
      let clause : o.clause ≡ c =
      some_injective _ _ (sym o.is_its_clause ∙ ap (slice_get (row_in o.outer o.opener).clauses) s.1.2 ∙ ap (λ ls. slice_get (row_in ls o.opener).clauses j) rest ∙ ap (λ x. slice_get (row_in outer x).clauses j) its ∙ e) in
      (s.0, arrives_exactly here _ _ _ s.0 o.branches s.1.3 m more (ap (λ (x : Clause). drop x.depth o.outer) clause ∙ ap (drop c.depth) rest ∙ there), s.2)

  catches_legacy_to : (here : Configuration) (d : ℕ) (l : Label) (outer : List Label) → drop d (labels_at here) ≡ l ∷ outer → l.head.kind ≡ LegacyTry → (c : ℕ) (all : Bool) (types : List ValType) → IsDelimiter code l.began c (BeginsCatch all types) → CanCatchLegacy cx code here → Step cx code (machine_at here) (At (suc c) (opened_label c (head_with_kind (catch_kind all) l.head) types ∷ outer) here.set)
  catches_legacy_to here d l outer is kind c all types m can =
      let s = can d l outer is kind c all types m in
      let o = s.1.0 in
      let same : o.label ∷ o.outer ≡ l ∷ outer = sym o.is_open ∙ ap (λ i. drop i (labels_at here)) s.1.1 ∙ is in
      let first : o.label ≡ l = cc in
      let rest : o.outer ≡ outer = cc in
      let to = λ (k : ℕ) (b : Bool) (x : Label) (ts : List ValType) (ls : List Label). At (suc k) (opened_label k (head_with_kind (catch_kind b) x.head) ts ∷ ls) here.set in
      leads_to here s.0 _
      (o.is
      ∙ ap (λ k. to k o.all o.label o.types o.outer) s.1.2
      ∙ ap (λ b. to c b o.label o.types o.outer) s.1.3
      ∙ ap (λ x. to c all x o.types o.outer) first
      ∙ ap (λ ts. to c all l ts o.outer) s.1.4
      ∙ ap (to c all l types) rest)
      s.2

-- ---- the table: what each step of the law leads to

-- on, with what is pushed
abbrev reads_and_drops : List Op
reads_and_drops = local_get 0 ∷ drops ∷ end ∷ []

goes_on : HasEachStep cx (operators cx reads_and_drops) (configuration 0 (outermost Empty []) [] [] (operator cx (local_get 0))) → Step cx (operators cx reads_and_drops) (initial_machine Empty) (At 1 (outermost Empty (I32 ∷ []) ∷ []) [])
goes_on h = goes_on_to (operators cx reads_and_drops) _ (I32 ∷ []) refl refl h.by_form

-- into a block, out of it at its end, and out of it and back by a branch
abbrev a_block : List Operator
a_block = operators cx (block one_to_one ∷ br 0 ∷ end ∷ end ∷ [])

enters : HasEachStep cx a_block (configuration 0 (body (I32 ∷ [])) [] [] (operator cx (block one_to_one))) → Step cx a_block (At 0 (body (I32 ∷ []) ∷ []) []) (At 1 (label 0 Block one_to_one (I32 ∷ []) ∷ body [] ∷ []) [])
enters h = enters_to a_block _ (record { kind = Block; block_type = one_to_one }) refl h.by_form.0

closes : HasEachStep cx a_block (configuration 2 (label 0 Block one_to_one (I32 ∷ [])) (body [] ∷ []) [] (operator cx end)) → Step cx a_block (At 2 (label 0 Block one_to_one (I32 ∷ []) ∷ body [] ∷ []) []) (At 3 (body (I32 ∷ []) ∷ []) [])
closes h = closes_to a_block _ h.by_form

abbrev in_block : Configuration
in_block = configuration 1 (label 0 Block one_to_one (I32 ∷ [])) (body [] ∷ []) [] (operator cx (br 0))

leaves : HasEachStep cx a_block in_block → Step cx a_block (machine_at in_block) (At 3 (body (I32 ∷ []) ∷ []) [])
leaves h =
    let s = branches_to a_block in_block 0 _ refl _ _ refl h.branches in
    leads_to a_block in_block s.0 _ (s.1.2 ∙ ap (λ k. At (suc k) (body (I32 ∷ []) ∷ []) []) (the_closer a_block 0 2 ((λ i. refl), tt) s.1.0 s.1.1)) s.2

-- out of the body by a branch
abbrev a_return : List Operator
a_return = operators cx (block one_to_one ∷ br 1 ∷ end ∷ end ∷ [])

abbrev at_return : Configuration
at_return = configuration 1 (label 0 Block one_to_one (I32 ∷ [])) (body [] ∷ []) [] (operator cx (br 1))

returns : HasEachStep cx a_return at_return → Step cx a_return (machine_at at_return) (Returned (I32 ∷ []))
returns h = let s = branches_to a_return at_return 0 _ refl _ _ refl h.branches in leads_to a_return at_return s.0 _ s.1 s.2

-- back to the beginning of a loop
abbrev a_loop : List Operator
a_loop = operators cx (loop one_to_one ∷ br 0 ∷ end ∷ end ∷ [])

abbrev in_loop : Configuration
in_loop = configuration 1 (label 0 Loop one_to_one (I32 ∷ [])) (body [] ∷ []) [] (operator cx (br 0))

around : HasEachStep cx a_loop in_loop → Step cx a_loop (machine_at in_loop) (machine_at in_loop)
around h = let s = branches_to a_loop in_loop 0 _ refl _ _ refl h.branches in leads_to a_loop in_loop s.0 _ s.1 s.2

-- an `if` with two parts: into the second one, and out at the end of the first
abbrev two_parts : List Operator
two_parts = operators cx (an_if one_to_one ∷ an_else ∷ end ∷ end ∷ [])

enters_else : HasEachStep cx two_parts (configuration 0 (body (I32 ∷ I32 ∷ [])) [] [] (operator cx (an_if one_to_one))) → Step cx two_parts (At 0 (body (I32 ∷ I32 ∷ []) ∷ []) []) (At 2 (label 1 Else one_to_one (I32 ∷ []) ∷ body [] ∷ []) [])
enters_else h = enters_else_to two_parts _ (record { kind = If; block_type = one_to_one }) 1 refl ((λ i. refl), ((λ i. absurd cc), tt)) (h.by_form.1 refl)

ends_part : HasEachStep cx two_parts (configuration 1 (label 0 If one_to_one (I32 ∷ [])) (body [] ∷ []) [] (operator cx an_else)) → Step cx two_parts (At 1 (label 0 If one_to_one (I32 ∷ []) ∷ body [] ∷ []) []) (At 3 (body (I32 ∷ []) ∷ []) [])
ends_part h = ends_part_to two_parts _ 2 ((λ i. absurd cc), ((λ i. refl), tt)) h.by_form

-- an `if` with one part, and past it
abbrev one_part : List Operator
one_part = operators cx (an_if one_to_one ∷ end ∷ end ∷ [])

skips : HasEachStep cx one_part (configuration 0 (body (I32 ∷ I32 ∷ [])) [] [] (operator cx (an_if one_to_one))) → Step cx one_part (At 0 (body (I32 ∷ I32 ∷ []) ∷ []) []) (At 2 (body (I32 ∷ []) ∷ []) [])
skips h = skips_to one_part _ (record { kind = If; block_type = one_to_one }) 1 ((λ i. refl), tt) (h.by_form.1 refl)

-- to the last label of a row
abbrev a_table : List Operator
a_table = operators cx (block one_to_one ∷ br_table (1 ∷ 0 ∷ []) 1 ∷ end ∷ end ∷ [])

abbrev at_table : Configuration
at_table = configuration 1 (label 0 Block one_to_one (I32 ∷ I32 ∷ [])) (body [] ∷ []) [] (operator cx (br_table (1 ∷ 0 ∷ []) 1))

leaves_by_last : HasEachStep cx a_table at_table → Step cx a_table (machine_at at_table) (At 3 (body (I32 ∷ []) ∷ []) [])
leaves_by_last h =
    let s = branches_to a_table at_table 2 _ refl _ _ refl h.branches in
    leads_to a_table at_table s.0 _ (s.1.2 ∙ ap (λ k. At (suc k) (body (I32 ∷ []) ∷ []) []) (the_closer a_table 0 2 ((λ i. refl), tt) s.1.0 s.1.1)) s.2

-- to the label of a clause, the second one of a `try_table` in which another block is open
abbrev a_clause : List Operator
a_clause = operators cx (block one_to_one ∷ try_table one_to_one (catch 0 1 ∷ catch 0 0 ∷ []) ∷ block one_to_one ∷ end ∷ end ∷ end ∷ end ∷ [])

abbrev in_try_table : Configuration
in_try_table = configuration 3 (label 2 Block one_to_one (I32 ∷ [])) (label 1 TryTable one_to_one [] ∷ label 0 Block one_to_one [] ∷ body [] ∷ []) [] (operator cx end)

catches : HasEachStep cx a_clause in_try_table → Step cx a_clause (machine_at in_try_table) (At 6 (body (I32 ∷ []) ∷ []) [])
catches h =
    let s = catches_to a_clause in_try_table 1 _ _ refl refl _ refl 1 _ refl _ _ refl h.catches in
    leads_to a_clause in_try_table s.0 _ (s.1.2 ∙ ap (λ k. At (suc k) (body (I32 ∷ []) ∷ []) []) (the_closer a_clause 0 5 ((λ i. refl), tt) s.1.0 s.1.1)) s.2

-- into a `catch`, and into a `catch_all` of a `try` in which a block is open
abbrev a_catch : List Operator
a_catch = operators cx (legacy_try one_to_one ∷ block one_to_one ∷ end ∷ legacy_catch 0 ∷ legacy_catch_all ∷ i32_const ∷ end ∷ end ∷ [])

abbrev in_try : Configuration
in_try = configuration 2 (label 1 Block one_to_one (I32 ∷ [])) (label 0 LegacyTry one_to_one [] ∷ body [] ∷ []) [] (operator cx end)

catches_legacy : HasEachStep cx a_catch in_try → Step cx a_catch (machine_at in_try) (At 4 (label 3 LegacyCatch one_to_one (I32 ∷ []) ∷ body [] ∷ []) [])
catches_legacy h = catches_legacy_to a_catch in_try 1 _ _ refl refl 3 false (I32 ∷ []) (0, refl) h.catches_legacy

catches_all : HasEachStep cx a_catch in_try → Step cx a_catch (machine_at in_try) (At 5 (label 4 LegacyCatchAll one_to_one [] ∷ body [] ∷ []) [])
catches_all h = catches_legacy_to a_catch in_try 1 _ _ refl refl 4 true [] (1, refl) h.catches_legacy

-- to each of the ends that any operator may come to
may_end : HasEachStep cx a_block in_block → Step cx a_block (machine_at in_block) Trapped × Step cx a_block (machine_at in_block) LeftByException × Step cx a_block (machine_at in_block) LeftBySuspension
may_end h = (h.traps, h.raises, h.suspends)

-- and nowhere without a label
no_label : EndsOrSteps cx a_block (At 1 [] []) → ⊥
no_label h = h

-- ---- a body that has progress, and one whose rows hold too, but whose local isn't valid: no next state has
-- just its type

has_progress : HasProgress cx (operators cx reads_and_drops) Empty
has_progress =
    body_progress (context_of declared) (lawful_lists declared refl) cx reads_and_drops Empty refl
    (record { locals_valid = (refl, tt); frames = (record { block = tt; operands = tt }, tt); left = tt }) ([], refl)

abbrev astray : ValType
astray = null (named 7)

abbrev cx_astray : Context
cx_astray = with_local astray

accepted_astray : IsAccepted cx_astray (operators cx_astray reads_and_drops) (start Empty)
accepted_astray = ([], refl)

no_progress : HasProgress cx_astray (operators cx_astray reads_and_drops) Empty → ⊥
no_progress h =
    let p = h 0 (initial_machine Empty) refl in
    let e : operator cx_astray (local_get 0) ≡ p.0 = some_injective _ _ p.1 in
    let q = subst (λ op. HasEachStep cx_astray (operators cx_astray reads_and_drops) (configuration 0 (outermost Empty []) [] [] op)) (sym e) p.2 in
    let s = q.by_form refl in
    let pushed : astray ∷ [] ≡ s.1.0.pushed = known-injective (astray ∷ []) s.1.0.pushed (some_injective _ _ s.1.0.pushes) in
    let below = subst (λ ts. AllBelow cx_astray ts ts) (sym pushed) (subst (λ ts. AllBelow cx_astray ts s.1.0.pushed) s.1.1 s.1.0.below) in
    let b = below.0 in
    absurd cc

-- ---- a block that nothing closes: its `else` has no next state

abbrev unclosed : List Operator
unclosed = operators cx (an_if Empty ∷ an_else ∷ [])

never_closed : (c : ℕ) → IsCloser unclosed 0 c → ⊥
never_closed c k =
    let d : c ≡ 0 = the_closer unclosed 0 0 ((λ i. absurd cc), tt) c k in
    let e : c ≡ 1 = the_closer unclosed 0 1 ((λ i. refl), tt) c k in
    absurd cc

leads_nowhere : HasEachStep cx unclosed (configuration 1 (label 0 If Empty []) (outermost Empty [] ∷ []) [] (operator cx an_else)) → ⊥
leads_nowhere h = let s = h.by_form in never_closed s.1.0.exits.0 s.1.0.exits.1

-- ---- counting finds the delimiters of a block, and not the body's own `end`

else_found : DelimitsBlock two_parts 1 BeginsElse
else_found = record { place = 0; opener = operator cx (an_if one_to_one); is_opener = refl; head = record { kind = If; block_type = one_to_one }; opens = refl; is_found = (0, refl) }

end_found : DelimitsBlock two_parts 2 Ends
end_found = record { place = 0; opener = operator cx (an_if one_to_one); is_opener = refl; head = record { kind = If; block_type = one_to_one }; opens = refl; is_found = (1, refl) }

-- no delimiter of what began at place 0 stands at place 3, and no block began later
other_place : (a b : ℕ) → a ≡ b → suc a ≤ b → ⊥
other_place a b e h = omega (arith, e, h)

not_there : (j : ℕ) → slice_get (delimiter 1 BeginsElse ∷ delimiter 2 Ends ∷ []) j ≡ Some (delimiter 3 Ends) → ⊥
not_there zero m = let d : BeginsElse ≡ Ends = ap (λ (x : Delimiter). x.form) (some_injective _ _ m) in absurd cc
not_there (suc zero) m = other_place 2 3 (ap (λ (x : Delimiter). x.place) (some_injective _ _ m)) (omega arith)
not_there (suc (suc j)) m = absurd cc

no_opener : (form : Form) (o : Operator) (h : Head) → is_instruction form ≡ false → form ≡ o.form → o.form ≡ Opens h → ⊥
no_opener form o h i e opens = let d : false ≡ true = sym i ∙ ap is_instruction (e ∙ opens) in absurd cc

form_of : (x o : Operator) → Some x ≡ Some o → x.form ≡ o.form
form_of x o e = ap (λ (y : Operator). y.form) (some_injective x o e)

not_found : (b : ℕ) (o : Operator) (h : Head) → slice_get two_parts b ≡ Some o → o.form ≡ Opens h → IsDelimiter two_parts b 3 Ends → ⊥
not_found zero o h at e m = not_there m.0 m.1
not_found (suc zero) o h at e m = no_opener BeginsElse o h refl (form_of _ o at) e
not_found (suc (suc zero)) o h at e m = no_opener Ends o h refl (form_of _ o at) e
not_found (suc (suc (suc zero))) o h at e m = no_opener Ends o h refl (form_of _ o at) e
not_found (suc (suc (suc (suc b)))) o h at e m = absurd cc

own_end : DelimitsBlock two_parts 3 Ends → ⊥
own_end d = not_found d.place d.opener d.head d.is_opener d.opens d.is_found
