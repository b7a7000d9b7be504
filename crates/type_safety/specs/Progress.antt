-- Progress: which steps can be taken wherever a run of an accepted body stands (WebAssembly core
-- specification, appendix "Type Soundness", Progress). Type safety reads what an operator demands, and no
-- next state. Were some step of the machine one that can never be taken, it would say less without a sign:
-- so each is asked for here.
use Rattle.std.specs.Bool.{MatchBool}
use Rattle.std.specs.Prelude.{◌≡◌, ℕ, Bool, IsFalse, List, [], ◌∷◌, drop, slice_get, Some}
use Rattle.validate_resources.specs.Context.{ModuleContext}
use Rattle.validate_visit.specs.declared.op.Op.{Op}
use Rattle.validation_rules.specs.Context.{ValType, BlockType, Context}
use Rattle.validation_rules.specs.Rows.{Head, params, results, If, TryTable, LegacyTry}
use Rattle.validation_rules.specs.Rows.{Form, Stays, Opens, BeginsElse, BeginsCatch, Ends, Delegates}
use Rattle.validation_rules.specs.Rows.{Operator, Target, Clause}
use Rattle.validation_rules.specs.Static.{start, IsAccepted}
use Rattle.validation_rules.specs.Valid.{IsValidStateIn}
use Rattle.validation_rules.specs.Operators.{operators}
use Rattle.type_safety.specs.Machine.{Label, Machine, At, Returned, Trapped, LeftByException}
use Rattle.type_safety.specs.Machine.{LeftBySuspension, Configuration, configuration, labels_at}
use Rattle.type_safety.specs.Machine.{row_in, row_at, operands_taken}
use Rattle.type_safety.specs.Machine.{delimiters, has_no_else, IsDelimiter}
use Rattle.type_safety.specs.Machine.{GoesOn, Enters, EntersElse, SkipsIf, Jumps, Closes, EndsPart}
use Rattle.type_safety.specs.Machine.{Catches, CatchesLegacy, Step, Run, initial_machine}

-- the machine that stands there
abbrev pub machine_at : Configuration → Machine
machine_at here = At here.place (labels_at here) here.set

module _ (cx : Context) (code : List Operator) where
  -- from there a step can be taken, to a state of which this holds
  abbrev pub HasStep : Configuration → (Machine → Type 0) → Type 0
  HasStep here IsSo = (next : Machine) × IsSo next × Step cx code (machine_at here) next

  -- ---- by the form of the operator

  -- on, with exactly the types that it pushes, unless the code after it is dead
  abbrev pub CanGoOn : Configuration → Type 0
  CanGoOn here =
      IsFalse (row_at here).ends_live →
      HasStep here (λ next. (o : GoesOn cx code here next) × (o.types ≡ o.pushed))

  -- into what it opens, with exactly the parameters
  abbrev pub CanEnter : Configuration → Head → Type 0
  CanEnter here h = HasStep here (λ next. (o : Enters cx code here next) × (o.types ≡ params cx h))

  -- of an `if`, the other way too: into the part after its `else`, with exactly the parameters; where it has
  -- no `else`, to behind its closer, with exactly the results
  abbrev pub CanGoOtherWay : Configuration → Head → Type 0
  CanGoOtherWay here h =
      MatchBool (has_no_else (delimiters code here.place))
      (HasStep here (λ next. (o : SkipsIf cx code here next) × (o.types ≡ results cx h)))
      (HasStep here (λ next. (o : EntersElse cx code here next) × (o.types ≡ params cx h)))

  -- out of the block that it ends, with exactly the results
  abbrev pub CanClose : Configuration → Type 0
  CanClose here =
      HasStep here (λ next. (o : Closes cx code here next) × (o.types ≡ results cx here.label.head))

  -- from the end of the part before it to behind the closer of the block, with exactly the results
  abbrev pub CanEndPart : Configuration → Type 0
  CanEndPart here =
      HasStep here (λ next. (o : EndsPart cx code here next) × (o.types ≡ results cx here.label.head))

  -- what an operator of this form can do
  abbrev pub CanDo : Configuration → Form → Type 0
  CanDo here Stays = CanGoOn here
  CanDo here (Opens h) = CanEnter here h × (h.kind ≡ If → CanGoOtherWay here h)
  CanDo here BeginsElse = CanEndPart here
  CanDo here (BeginsCatch all types) = CanEndPart here
  CanDo here Ends = CanClose here
  CanDo here Delegates = CanClose here

  -- ---- by its row, and by the labels that are open

  -- to each label that the row names, with exactly what the row carries there
  abbrev pub CanBranch : Configuration → Type 0
  CanBranch here =
      (j : ℕ) (t : Target) → slice_get (row_at here).targets j ≡ Some t →
      HasStep here (λ next. (o : Jumps cx code here next) × (o.index ≡ j)
      × (o.branches.types ≡ t.carried (operands_taken here)))

  -- to the label of each clause of an open `try_table`, of which these labels stand outside: with exactly
  -- what the clause carries
  abbrev pub CanCatchBy : Configuration → ℕ → List Label → Operator → Type 0
  CanCatchBy here d outer opener =
      (j : ℕ) (c : Clause) → slice_get (row_in outer opener).clauses j ≡ Some c →
      HasStep here (λ next. (o : Catches cx code here next) × (o.depth ≡ d) × (o.index ≡ j)
      × (o.branches.types ≡ c.types))

  -- so of each open `try_table`; its opener stands where its label began
  abbrev pub CanCatch : Configuration → Type 0
  CanCatch here =
      (d : ℕ) (l : Label) (outer : List Label) → drop d (labels_at here) ≡ l ∷ outer →
      l.head.kind ≡ TryTable →
      (opener : Operator) × (slice_get code l.began ≡ Some opener) × (opener.form ≡ Opens l.head)
      × CanCatchBy here d outer opener

  -- into each `catch` and `catch_all` of each open label in its `try` part, with exactly the types that the
  -- part begins with
  abbrev pub CanCatchLegacy : Configuration → Type 0
  CanCatchLegacy here =
      (d : ℕ) (l : Label) (outer : List Label) → drop d (labels_at here) ≡ l ∷ outer →
      l.head.kind ≡ LegacyTry →
      (c : ℕ) (all : Bool) (types : List ValType) → IsDelimiter code l.began c (BeginsCatch all types) →
      HasStep here (λ next. (o : CatchesLegacy cx code here next) × (o.depth ≡ d) × (o.place ≡ c)
      × (o.all ≡ all) × (o.types ≡ types))

  -- ---- the law

  -- each step that there can be, where the machine stands
  pub record HasEachStep (here : Configuration) : Type 0 where
    pub by_form : CanDo here here.op.form
    pub branches : CanBranch here
    pub catches : CanCatch here
    pub catches_legacy : CanCatchLegacy here
    pub traps : Step cx code (machine_at here) Trapped
    pub raises : Step cx code (machine_at here) LeftByException
    pub suspends : Step cx code (machine_at here) LeftBySuspension

  -- the machine is at an end, or an operator stands at its place, with each step that there can be
  abbrev pub EndsOrSteps : Machine → Type 0
  EndsOrSteps (At k [] set) = ⊥
  EndsOrSteps (At k (l ∷ outer) set) =
      (op : Operator) × (slice_get code k ≡ Some op) × HasEachStep (configuration k l outer set op)
  EndsOrSteps (Returned types) = Unit {0}
  EndsOrSteps Trapped = Unit {0}
  EndsOrSteps LeftByException = Unit {0}
  EndsOrSteps LeftBySuspension = Unit {0}

-- so each state that a run of the body comes to
abbrev pub HasProgress : Context → List Operator → BlockType → Type 0
HasProgress cx code ty = (n : ℕ) (m : Machine) → Run cx code n (initial_machine ty) m → EndsOrSteps cx code m

-- Progress of bodies: in every context over the module, every list of operators whose rows all hold up to
-- the outermost `end` has progress, if the state that it starts in is valid: the types of the locals are, and
-- the block type of the body resolves. "Exactly" needs that: a type lies below itself just where it is valid.
abbrev pub BodyProgress : ModuleContext → Type 0
BodyProgress md =
    (cx : Context) (ops : List Op) (ty : BlockType) →
    cx.of_module ≡ md → IsValidStateIn cx (start ty) → IsAccepted cx (operators cx ops) (start ty) →
    HasProgress cx (operators cx ops) ty
