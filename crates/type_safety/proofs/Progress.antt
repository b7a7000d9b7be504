-- Wherever a run of an accepted body stands, each step that there can be can be taken.
use Rattle.std.proofs.Common.{◌≡◌, ℕ, zero, suc, Bool, true, false, not, ◌&&◌, List, [], ◌∷◌, map, drop, Some, refl, sym, ap, ◌∙◌, subst, slice_get}
use Rattle.std.specs.Bool.{MatchBool}
use Rattle.std.specs.List.{AllByRecursion}
use Rattle.std.specs.Prelude.{if◌then◌else◌}
use Rattle.validate_resources.specs.Context.{ModuleContext, IsLawful, Valid}
use Rattle.validate_visit.specs.declared.op.Op.{Op}
use Rattle.validation_rules.specs.Context.{ValType, BlockType, Context, AllBelow}
use Rattle.validation_rules.specs.Fits.{Known}
use Rattle.validation_rules.specs.Rows.{FrameKind, Block, If, Else, TryTable, LegacyTry, Head, params, results, body_head, is_loop, is_if, is_try, is_try_table, may_catch, catch_kind, Form, Stays, Opens, BeginsElse, BeginsCatch, Ends, Delegates, Target, Clause, Row, Operator, expected_count, is_instruction}
use Rattle.validation_rules.specs.Static.{Frame, State, stack_with, heads, locals_set, operands_found, opened_frame, head_with_kind, open_state, start, step, state_before, IsAccepted, pushed_by_row, pushed_by_delimiter, delimiter_fits}
use Rattle.validation_rules.specs.Operators.{operators}
use Rattle.validation_rules.specs.Valid.{IsValidOperand, IsValidFrame, IsValidStateIn}
use Rattle.validation_rules.proofs.Below.{and_true}
use Rattle.validation_rules.proofs.PushesValid.{HeadIsValid, PushesValid}
use Rattle.validation_rules.proofs.Steps.{pushed_by_form, onto-next, some_injective, guard_some, and_then_given}
use Rattle.validation_rules.proofs.Valid.{all_known, found_valid, params_valid, results_valid, heads_valid, steps_keep_valid}
use Rattle.validation_rules.proofs.ValidBodies.{operator_valid}
use Rattle.type_safety.specs.Machine.{Label, Machine, At, Returned, Trapped, LeftByException, LeftBySuspension, Delimiter, delimiter, delimiters, is_else, has_no_else, IsDelimiter, IsCloser, is_closing_form, is_separator, Configuration, configuration, labels_with, labels_inside, opened_label, label_heads, operands_taken, live_frame, LabelAccepts, Demand, set_after, machine_after_exit, machine_after_restart, Exits, Arrives, Branches, GoesOn, Enters, EntersElse, SkipsIf, Jumps, Closes, EndsPart, Catches, CatchesLegacy, Outcome, Step}
use Rattle.type_safety.specs.Machine.Outcome.{goes_on, enters, enters_else, skips_if, jumps, closes, ends_part, catches, catches_legacy, traps, raises, suspends}
use Rattle.type_safety.specs.Progress.{machine_at, HasStep, CanGoOn, CanEnter, CanGoOtherWay, CanClose, CanEndPart, CanDo, CanBranch, CanCatch, CanCatchBy, CanCatchLegacy, HasEachStep, EndsOrSteps, HasProgress, BodyProgress}
use Rattle.type_safety.proofs.Laws.{HeadAccepts, IsLawfulOperator}
use Rattle.type_safety.proofs.Operators.{body_lawful}
use Rattle.type_safety.proofs.Safety.{Outside, Stack, Keeps, heads_agree, stack_drop, reaches_of_heads, by_row, Place, place_of, inside, exit_opened, demand, run_keeps}

-- ---- valid types lie below themselves

under_valid : {A : Type 0} (P : A → Type 0) (xs ys : List A) → AllByRecursion P (stack_with xs ys) → AllByRecursion P xs × AllByRecursion P ys
under_valid P [] ys h = (tt, h)
under_valid P (x ∷ xs) ys h =
    let r = under_valid P xs (x ∷ ys) (subst (AllByRecursion P) (onto-next x xs ys) h) in
    ((r.1.0, r.0), r.1.1)

module _ (cx : Context) (laws : IsLawful cx.of_module) where
  abbrev AllValid : List ValType → Type 0
  AllValid ts = AllByRecursion (Valid cx.of_module) ts

  below_itself : (ts : List ValType) → AllValid ts → AllBelow cx ts ts
  below_itself [] v = tt
  below_itself (t ∷ ts) v = (laws.reflexive t v.0, below_itself ts v.1)

  lower_valid : (ts us : List ValType) → AllBelow cx ts us → AllValid ts
  lower_valid [] [] b = tt
  lower_valid (t ∷ ts) (u ∷ us) b = ((laws.both_valid t u b.0).0, lower_valid ts us b.1)
  lower_valid [] (u ∷ us) b = elim b [ ]
  lower_valid (t ∷ ts) [] b = elim b [ ]

  known_valid : (ts : List ValType) → AllByRecursion (IsValidOperand cx.of_module) (map Known ts) → AllValid ts
  known_valid [] v = tt
  known_valid (t ∷ ts) v = (v.0, known_valid ts v.1)

  -- the state before each place is valid, where the first one is
  valid_before : (code : List Operator) (s : State) → ((j : ℕ) (op : Operator) → slice_get code j ≡ Some op → PushesValid cx op) → IsValidStateIn cx s → (k : ℕ) (t : State) → state_before cx code s k ≡ Some t → IsValidStateIn cx t
  valid_before code s v h zero t b = subst (IsValidStateIn cx) (some_injective s t b) h
  valid_before [] s v h (suc k) t b = absurd cc
  valid_before (op ∷ code) s v h (suc k) t b =
      let m = and_then_given (step cx op s) (λ u. state_before cx code u k) t b in
      valid_before code m.0 (λ j o e. v (suc j) o e) (steps_keep_valid cx laws op s m.0 (v zero op refl) h m.1) k t m.2

-- ---- delimiters

an_else : (form : Form) → is_else form ≡ true → form ≡ BeginsElse
an_else BeginsElse i = refl
an_else _ i = absurd cc

-- an `else` is among the delimiters unless there is none
else_among : (ds : List Delimiter) → has_no_else ds ≡ false → (c : ℕ) × (j : ℕ) × (slice_get ds j ≡ Some (delimiter c BeginsElse))
else_among [] h = absurd cc
else_among (d ∷ ds) h = by_first d ds (is_else d.form) refl h (else_among ds)
  where
    by_first : (d : Delimiter) (ds : List Delimiter) (b : Bool) → is_else d.form ≡ b → not b && has_no_else ds ≡ false → (has_no_else ds ≡ false → (c : ℕ) × (j : ℕ) × (slice_get ds j ≡ Some (delimiter c BeginsElse))) → (c : ℕ) × (j : ℕ) × (slice_get (d ∷ ds) j ≡ Some (delimiter c BeginsElse))
    by_first d ds true i e later = (d.place, zero, ap (λ form. Some (delimiter d.place form)) (an_else d.form i))
    by_first d ds false i e later = let r = later e in (r.0, suc r.1, r.2)

module _ (cx : Context) (laws : IsLawful cx.of_module) (code : List Operator) (ty : BlockType) where
  -- ---- where a branch comes to

  arrives_by : (b : Bool) (l o : Label) (outer : List Label) (set : List ℕ) (types : List ValType) → (c : ℕ) × IsCloser code l.began c → (next : Machine) × MatchBool b (next ≡ machine_after_restart l (o ∷ outer) set types) (Exits cx code l (o ∷ outer) set types next)
  arrives_by true l o outer set types c = (machine_after_restart l (o ∷ outer) set types, refl)
  arrives_by false l o outer set types c = (machine_after_exit (suc c.0) types (o ∷ outer) set, (c.0, c.1, refl))

  arrives_at : (l : Label) (outer : List Label) (fs : List Frame) (set : List ℕ) (types : List ValType) → Stack cx code ty (l ∷ outer) fs → (next : Machine) × Arrives cx code l outer set types next
  arrives_at l [] fs set types s = (Returned types, refl)
  arrives_at l (o ∷ outer) (f ∷ g ∷ gs) set types s = arrives_by (is_loop l.head.kind) l o outer set types s.0.outside.closer
  arrives_at l (o ∷ outer) [] set types s = elim s [ ]
  arrives_at l (o ∷ outer) (f ∷ []) set types s = elim s.1 [ ]

  -- a branch to labels that accept the types, with exactly these
  branch_to : (labels : List Label) (fs : List Frame) (set : List ℕ) (types : List ValType) → Stack cx code ty labels fs → LabelAccepts cx labels types → (next : Machine) × (b : Branches cx code labels set types next) × (b.types ≡ types)
  branch_to [] fs set types s a = elim a [ ]
  branch_to (l ∷ outer) fs set types s a =
      let w = arrives_at l outer fs set types s in (
        w.0,
        record { label = l; outer = outer; is = refl; types = types; below = below_itself cx laws types (lower_valid cx laws types _ a); arrives = w.1 },
        refl,
      )

module _ (cx : Context) (laws : IsLawful cx.of_module) (code : List Operator) (ty : BlockType) (lawful : (j : ℕ) (op : Operator) → slice_get code j ≡ Some op → IsLawfulOperator cx op) (pushes : (j : ℕ) (op : Operator) → slice_get code j ≡ Some op → PushesValid cx op) (valid : IsValidStateIn cx (start ty)) (accepted : IsAccepted cx code (start ty)) where
  frames_valid : (k : ℕ) (fs : List Frame) → state_before cx code (start ty) k ≡ Some (open_state fs) → AllByRecursion (IsValidFrame cx.of_module cx.shared) fs
  frames_valid k fs b = (valid_before cx laws code (start ty) pushes valid k (open_state fs) b).frames

  module _ (k : ℕ) (l : Label) (ls : List Label) (set : List ℕ) (op : Operator) (p : Place cx laws code ty lawful accepted k l ls set op) where
    abbrev here : Configuration
    here = configuration k l ls set op

    abbrev row : Row
    row = op.row (label_heads (l ∷ ls))

    demand_here : Demand cx code here
    demand_here = demand cx laws code ty lawful accepted k l ls set op p

    by_step : (next : Machine) → Outcome cx code here next → Step cx code (machine_at here) next
    by_step next o = (op, p.is, demand_here, o)

    stack_here : Stack cx code ty (l ∷ ls) (p.s.f ∷ p.s.fs)
    stack_here = (p.s.agree, p.s.stack)

    heads_here : AllByRecursion (HeadIsValid cx) (label_heads (l ∷ ls))
    heads_here = subst (AllByRecursion (HeadIsValid cx)) (sym p.same) (heads_valid cx laws (p.s.f ∷ p.s.fs) (frames_valid k (p.s.f ∷ p.s.fs) p.s.at))

    results_here : AllBelow cx (results cx l.head) (results cx l.head)
    results_here = below_itself cx laws (results cx l.head) (results_valid cx.of_module laws cx.shared l.head.block_type heads_here.0)

    -- ---- by the form

    can_go_on : op.form ≡ Stays → CanGoOn cx code here
    can_go_on e live =
        let d = demand_here.row in
        let g = guard_some _ _ _ (by_row cx row (label_heads (l ∷ ls)) set (live_frame l) op.form _ (ap is_instruction e) d.1) in
        let own = lower_valid cx laws l.operands p.s.agree.operands.0 p.s.agree.operands.2 in
        let found = found_valid cx.of_module (expected_count row.type) (live_frame l) (all_known cx.of_module l.operands own) in
        let v = known_valid cx laws d.0 ((pushes k op p.is).pushed (label_heads (l ∷ ls)) (operands_found (expected_count row.type) (live_frame l)) (map Known d.0) (and_true row.premise _ g.0).0 heads_here found g.1) in
        let next = At (suc k) (labels_with d.0 here) (set_after row.sets set) in
        let o : GoesOn cx code here next = record { stays = e; live = live; pushed = d.0; pushes = d.1; types = d.0; below = below_itself cx laws d.0 v; is = refl } in
        (next, (o, refl), by_step next (goes_on o))

    -- the block type of what it opens resolves
    opened_valid : (h : Head) → op.form ≡ Opens h → HeadIsValid cx h
    opened_valid h e = (frames_valid (suc k) _ (inside cx laws code ty lawful accepted k l ls set op p h e)).0.block

    params_below : (h : Head) → op.form ≡ Opens h → AllBelow cx (params cx h) (params cx h)
    params_below h e = below_itself cx laws (params cx h) (params_valid cx.of_module laws cx.shared h.block_type (opened_valid h e))

    results_below : (h : Head) → op.form ≡ Opens h → AllBelow cx (results cx h) (results cx h)
    results_below h e = below_itself cx laws (results cx h) (results_valid cx.of_module laws cx.shared h.block_type (opened_valid h e))

    can_enter : (h : Head) → op.form ≡ Opens h → CanEnter cx code here h
    can_enter h e =
        let next = At (suc k) (labels_inside (opened_label k h (params cx h)) here) set in
        let o : Enters cx code here next = record { head = h; opens = e; types = params cx h; below = params_below h e; is = refl } in
        (next, (o, refl), by_step next (enters o))

    can_enter_else : (h : Head) → op.form ≡ Opens h → is_if h.kind ≡ true → has_no_else (delimiters code k) ≡ false → HasStep cx code here (λ next. (o : EntersElse cx code here next) × (o.types ≡ params cx h))
    can_enter_else h e i none =
        let c = else_among (delimiters code k) none in
        let next = At (suc c.0) (labels_inside (opened_label c.0 (head_with_kind Else h) (params cx h)) here) set in
        let o : EntersElse cx code here next = record { head = h; opens = e; kind_is_if = i; place = c.0; is_its_else = (c.1, c.2); types = params cx h; below = params_below h e; is = refl } in
        (next, (o, refl), by_step next (enters_else o))

    can_skip : (h : Head) → op.form ≡ Opens h → is_if h.kind ≡ true → has_no_else (delimiters code k) ≡ true → HasStep cx code here (λ next. (o : SkipsIf cx code here next) × (o.types ≡ results cx h))
    can_skip h e i none =
        let c = (exit_opened cx laws code ty lawful accepted k l ls set op p h e).closer in
        let next = At (suc c.0) (labels_with (results cx h) here) set in
        let o : SkipsIf cx code here next = record { head = h; opens = e; kind_is_if = i; no_else = none; closer = c.0; is_its_closer = c.1; types = results cx h; below = results_below h e; is = refl } in
        (next, (o, refl), by_step next (skips_if o))

    goes_other_way : (h : Head) → op.form ≡ Opens h → is_if h.kind ≡ true → (b : Bool) → has_no_else (delimiters code k) ≡ b → MatchBool b (HasStep cx code here (λ next. (o : SkipsIf cx code here next) × (o.types ≡ results cx h))) (HasStep cx code here (λ next. (o : EntersElse cx code here next) × (o.types ≡ params cx h)))
    goes_other_way h e i true none = can_skip h e i none
    goes_other_way h e i false none = can_enter_else h e i none

    can_go_other_way : (h : Head) → op.form ≡ Opens h → h.kind ≡ If → CanGoOtherWay cx code here h
    can_go_other_way h e i = goes_other_way h e (ap is_if i) (has_no_else (delimiters code k)) refl

    can_close : is_closing_form op.form ≡ true → CanClose cx code here
    can_close c =
        let next = machine_after_exit (suc k) (results cx l.head) ls set in
        let o : Closes cx code here next = record { closes = c; types = results cx l.head; below = results_here; is = refl } in
        (next, (o, refl), by_step next (closes o))

    can_end_part : is_separator op.form ≡ true → (c : ℕ) × IsCloser code l.began c → CanEndPart cx code here
    can_end_part s c =
        let next = machine_after_exit (suc c.0) (results cx l.head) ls set in
        let o : EndsPart cx code here next = record { separates = s; types = results cx l.head; below = results_here; exits = (c.0, c.1, refl) } in
        (next, (o, refl), by_step next (ends_part o))

    -- ---- the end of a part: the label isn't the outermost one, whose block has no other part

    part_closes : (fs : List Frame) → Outside cx code ty l.began p.s.f.head fs → (p.s.f.head ≡ body_head ty → ⊥) → (c : ℕ) × IsCloser code l.began c
    part_closes [] x other = absurd (other x)
    part_closes (g ∷ gs) x other = x.closer

    -- what a delimiter's row asks of the kind of the frame
    kind_fits : (form : Form) → op.form ≡ form → is_instruction form ≡ false → delimiter_fits cx form p.s.f ≡ true
    kind_fits form e i =
        let h : pushed_by_form cx row (label_heads (l ∷ ls)) (locals_set (p.s.f ∷ p.s.fs)) p.s.f form ≡ Some p.pushed = subst (λ x. pushed_by_form cx row (label_heads (l ∷ ls)) (locals_set (p.s.f ∷ p.s.fs)) p.s.f x ≡ Some p.pushed) e p.holds in
        let d : pushed_by_delimiter cx row form p.s.f ≡ Some p.pushed = ap (λ (b : Bool). if b then pushed_by_row cx row (label_heads (l ∷ ls)) (locals_set (p.s.f ∷ p.s.fs)) p.s.f else pushed_by_delimiter cx row form p.s.f) (sym i) ∙ h in
        let g = guard_some _ _ _ d in
        (and_true (delimiter_fits cx form p.s.f) _ (and_true row.premise _ g.0).1).0

    -- an `else` follows the first part of an `if` alone, and a `catch` a part of a `try`
    else_has_closer : op.form ≡ BeginsElse → (c : ℕ) × IsCloser code l.began c
    else_has_closer e =
        part_closes p.s.fs p.s.agree.outside (λ x.
        let d : true ≡ false = sym (kind_fits BeginsElse e refl) ∙ ap (λ (h : Head). is_if h.kind) x in
        absurd cc)

    catch_has_closer : (all : Bool) (types : List ValType) → op.form ≡ BeginsCatch all types → (c : ℕ) × IsCloser code l.began c
    catch_has_closer all types e =
        part_closes p.s.fs p.s.agree.outside (λ x.
        let d : true ≡ false = sym (kind_fits (BeginsCatch all types) e refl) ∙ ap (λ (h : Head). may_catch h.kind) x in
        absurd cc)

    can_do : (form : Form) → op.form ≡ form → CanDo cx code here form
    can_do Stays e = can_go_on e
    can_do (Opens h) e = (can_enter h e, λ i. can_go_other_way h e i)
    can_do BeginsElse e = can_end_part (ap is_separator e) (else_has_closer e)
    can_do (BeginsCatch all types) e = can_end_part (ap is_separator e) (catch_has_closer all types e)
    can_do Ends e = can_close (ap is_closing_form e)
    can_do Delegates e = can_close (ap is_closing_form e)

    -- ---- by the row

    no_target : (targets : List Target) (j : ℕ) (t : Target) → targets ≡ [] → slice_get targets j ≡ Some t → ⊥
    no_target targets j t none e = let d : slice_get {X = Target} [] j ≡ Some t = ap (λ ts. slice_get ts j) (sym none) ∙ e in absurd cc

    -- only an operator that stays names a label
    stays : (form : Form) → op.form ≡ form → (j : ℕ) (t : Target) → slice_get row.targets j ≡ Some t → op.form ≡ Stays
    stays Stays e j t g = e
    stays (Opens h) e j t g = absurd (no_target row.targets j t ((lawful k op p.is).opening (label_heads (l ∷ ls)) h e) g)
    stays BeginsElse e j t g = absurd (no_target row.targets j t ((lawful k op p.is).closing (label_heads (l ∷ ls)) (ap is_instruction e)).0 g)
    stays (BeginsCatch all types) e j t g = absurd (no_target row.targets j t ((lawful k op p.is).closing (label_heads (l ∷ ls)) (ap is_instruction e)).0 g)
    stays Ends e j t g = absurd (no_target row.targets j t ((lawful k op p.is).closing (label_heads (l ∷ ls)) (ap is_instruction e)).0 g)
    stays Delegates e j t g = absurd (no_target row.targets j t ((lawful k op p.is).closing (label_heads (l ∷ ls)) (ap is_instruction e)).0 g)

    can_branch : CanBranch cx code here
    can_branch j t e =
        let to = drop t.depth (l ∷ ls) in
        let from = drop t.depth (p.s.f ∷ p.s.fs) in
        let b = branch_to cx laws code ty to from set (t.carried (operands_taken here)) (stack_drop cx code ty t.depth (l ∷ ls) (p.s.f ∷ p.s.fs) stack_here) (demand_here.targets j t e) in
        let o : Jumps cx code here b.0 = record { stays = stays op.form refl j t e; index = j; target = t; is_its_target = e; branches = b.1 } in
        (b.0, (o, refl, b.2), by_step b.0 (jumps o))

    -- ---- by the open labels

    -- the labels from one that is open on
    stack_at : (d : ℕ) (o : Label) (outer : List Label) → drop d (l ∷ ls) ≡ o ∷ outer → Stack cx code ty (o ∷ outer) (drop d (p.s.f ∷ p.s.fs))
    stack_at d o outer is = subst (λ x. Stack cx code ty x (drop d (p.s.f ∷ p.s.fs))) is (stack_drop cx code ty d (l ∷ ls) (p.s.f ∷ p.s.fs) stack_here)

    can_catch_by : (d : ℕ) (o : Label) (outer : List Label) → drop d (l ∷ ls) ≡ o ∷ outer → is_try_table o.head.kind ≡ true → (opener : Operator) → slice_get code o.began ≡ Some opener → (fs : List Frame) → Stack cx code ty outer fs → ((j : ℕ) (c : Clause) → slice_get (opener.row (heads fs)).clauses j ≡ Some c → HeadAccepts cx (drop c.depth (heads fs)) c.types) → CanCatchBy cx code here d outer opener
    can_catch_by d o outer is i opener at fs s accepts j c e =
        let same = heads_agree cx code ty outer fs s in
        let a = accepts j c (subst (λ hs. slice_get (opener.row hs).clauses j ≡ Some c) same e) in
        let r = reaches_of_heads cx code ty c.depth outer c.types (subst (λ hs. HeadAccepts cx (drop c.depth hs) c.types) (sym same) a) in
        let b = branch_to cx laws code ty (drop c.depth outer) (drop c.depth fs) set c.types (stack_drop cx code ty c.depth outer fs s) r in
        let w : Catches cx code here b.0 = record { depth = d; label = o; outer = outer; is_open = is; kind_is_try_table = i; opener = opener; is_its_opener = at; index = j; clause = c; is_its_clause = e; branches = b.1 } in
        (b.0, (w, refl, refl, b.2), by_step b.0 (catches w))

    catch_here : (d : ℕ) (o : Label) (outer : List Label) (fs : List Frame) → drop d (l ∷ ls) ≡ o ∷ outer → Stack cx code ty (o ∷ outer) fs → o.head.kind ≡ TryTable → (opener : Operator) × (slice_get code o.began ≡ Some opener) × (opener.form ≡ Opens o.head) × CanCatchBy cx code here d outer opener
    catch_here d o [] (f ∷ []) is s i = let e : Block ≡ TryTable = sym (ap (λ (h : Head). h.kind) (s.0.head ∙ s.0.outside)) ∙ i in absurd cc
    catch_here d o (u ∷ outer) (f ∷ g ∷ gs) is s i =
        let x = s.0.outside in
        let kind = ap is_try_table i in
        let w = x.opened (ap (λ (h : Head). is_try_table h.kind) (sym s.0.head) ∙ kind) in
        (w.0, w.1, w.2 ∙ ap Opens (sym s.0.head), can_catch_by d o (u ∷ outer) is kind w.0 w.1 (g ∷ gs) s.1 (x.clauses (ap (λ (h : Head). is_try_table h.kind) (sym s.0.head) ∙ kind) w.0 w.1))
    catch_here d o outer [] is s i = elim s [ ]
    catch_here d o [] (f ∷ g ∷ gs) is s i = elim s.1 [ ]
    catch_here d o (u ∷ outer) (f ∷ []) is s i = elim s.1 [ ]

    can_catch : CanCatch cx code here
    can_catch d o outer is i = catch_here d o outer (drop d (p.s.f ∷ p.s.fs)) is (stack_at d o outer is) i

    -- a part that begins has valid types
    begun_valid : (c : ℕ) (h : Head) (kind : FrameKind) (types : List ValType) (fs : List Frame) → state_before cx code (start ty) (suc c) ≡ Some (open_state (opened_frame (head_with_kind kind h) types ∷ fs)) → AllBelow cx types types
    begun_valid c h kind types fs b =
        let v = (frames_valid (suc c) _ b).0.operands in
        below_itself cx laws types (known_valid cx laws types (under_valid (IsValidOperand cx.of_module) (map Known types) [] v).0)

    catch_legacy_here : (d : ℕ) (o : Label) (outer : List Label) (fs : List Frame) → drop d (l ∷ ls) ≡ o ∷ outer → Stack cx code ty (o ∷ outer) fs → o.head.kind ≡ LegacyTry → (c : ℕ) (all : Bool) (types : List ValType) → IsDelimiter code o.began c (BeginsCatch all types) → HasStep cx code here (λ next. (w : CatchesLegacy cx code here next) × (w.depth ≡ d) × (w.place ≡ c) × (w.all ≡ all) × (w.types ≡ types))
    catch_legacy_here d o [] (f ∷ []) is s i c all types m = let e : Block ≡ LegacyTry = sym (ap (λ (h : Head). h.kind) (s.0.head ∙ s.0.outside)) ∙ i in absurd cc
    catch_legacy_here d o (u ∷ outer) (f ∷ g ∷ gs) is s i c all types m =
        let b = s.0.outside.delimiters_follow m.0 (delimiter c (BeginsCatch all types)) m.1 in
        let next = At (suc c) (opened_label c (head_with_kind (catch_kind all) o.head) types ∷ u ∷ outer) set in
        let w : CatchesLegacy cx code here next = record { depth = d; label = o; outer = u ∷ outer; is_open = is; kind_is_try = ap is_try i; place = c; all = all; caught = types; is_its_catch = m; types = types; below = begun_valid c f.head (catch_kind all) types (g ∷ gs) b; is = refl } in
        (next, (w, refl, refl, refl, refl), by_step next (catches_legacy w))
    catch_legacy_here d o outer [] is s i c all types m = elim s [ ]
    catch_legacy_here d o [] (f ∷ g ∷ gs) is s i c all types m = elim s.1 [ ]
    catch_legacy_here d o (u ∷ outer) (f ∷ []) is s i c all types m = elim s.1 [ ]

    can_catch_legacy : CanCatchLegacy cx code here
    can_catch_legacy d o outer is i c all types m = catch_legacy_here d o outer (drop d (p.s.f ∷ p.s.fs)) is (stack_at d o outer is) i c all types m

    has_each_step : HasEachStep cx code here
    has_each_step = record {
      by_form = can_do op.form refl;
      branches = can_branch;
      catches = can_catch;
      catches_legacy = can_catch_legacy;
      traps = by_step Trapped (traps refl);
      raises = by_step LeftByException (raises refl);
      suspends = by_step LeftBySuspension (suspends refl);
    }

  ends_or_steps : (m : Machine) → Keeps cx code ty m → EndsOrSteps cx code m
  ends_or_steps (At k [] set) s = elim s [ ]
  ends_or_steps (At k (l ∷ ls) set) s =
      let o = place_of cx laws code ty lawful accepted k l ls set s in (o.0, o.1.is, has_each_step k l ls set o.0 o.1)
  ends_or_steps _ s = tt

  pub has_progress : HasProgress cx code ty
  has_progress n m r = ends_or_steps m (run_keeps cx laws code ty lawful accepted n m r)

body_pushes : (cx : Context) → IsLawful cx.of_module → AllByRecursion (Valid cx.of_module) cx.locals → (ops : List Op) (j : ℕ) (op : Operator) → slice_get (operators cx ops) j ≡ Some op → PushesValid cx op
body_pushes cx laws locals [] j op e = absurd cc
body_pushes cx laws locals (x ∷ ops) zero op e = subst (PushesValid cx) (some_injective _ _ e) (operator_valid cx laws x locals)
body_pushes cx laws locals (x ∷ ops) (suc j) op e = body_pushes cx laws locals ops j op e

-- for every lawful module
pub body_progress : (md : ModuleContext) → IsLawful md → BodyProgress md
body_progress md laws cx ops ty same valid accepted =
    let l = subst IsLawful (sym same) laws in
    has_progress cx l (operators cx ops) ty (body_lawful cx l ops) (body_pushes cx l valid.locals_valid ops) valid accepted
