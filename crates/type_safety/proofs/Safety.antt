-- No run of an accepted body is stuck: the invariant of runs, and that each outcome keeps it.
use Rattle.std.proofs.Common.{◌≡◌, ℕ, zero, suc, Bool, true, false, ◌||◌, List, [], ◌∷◌, length, map, take, drop, Option, Some, refl, sym, ap, ◌∙◌, subst, slice_get}
use Rattle.std.specs.Bool.{MatchBool}
use Rattle.validate_resources.specs.Context.{IsLawful}
use Rattle.validation_rules.specs.Context.{ValType, BlockType, Context, AllBelow}
use Rattle.validation_rules.specs.Fits.{MaybeType, Known}
use Rattle.validation_rules.specs.Rows.{params, results, body_head, Else, Head, is_loop, is_if, is_try, is_try_table, Form, Stays, Opens, BeginsElse, BeginsCatch, Ends, Delegates, Target, Clause, Row, Operator, catch_kind, expected_count, is_instruction, label_types}
use Rattle.validation_rules.specs.Static.{Frame, stack_with, heads, locals_set, operands_under, pushed_types, pushed_by_row, clauses_fit, operands_after, frame_after, frame_under, head_with_kind, opened_frame, frame_with, open_state, start, state_before, IsAccepted}
use Rattle.type_safety.specs.Machine.{Label, Machine, At, Returned, Trapped, LeftByException, LeftBySuspension, Delimiter, delimiter, delimiters, IsDelimiter, IsCloser, is_closing_form, HasNoElse, configuration, label_heads, live_frame, types_on_top, LabelAccepts, Demand, IsNotStuck, set_after, machine_after_exit, machine_after_restart, Exits, Arrives, Branches, Outcome, Step, Run, initial_machine}
use Rattle.type_safety.specs.Machine.Outcome.{goes_on, enters, enters_else, skips_if, jumps, closes, ends_part, catches, catches_legacy, traps, raises, suspends}
use Rattle.type_safety.specs.Theorem.{OperandsBelow, LabelsBelow, IsAsValidated}
use Rattle.type_safety.proofs.Laws.{HeadAccepts, IsLawfulOperator, TypeSafety}
use Rattle.validation_rules.proofs.Below.{below-trans, below-onto, below_of_fit, known-injective, onto-known}
use Rattle.validation_rules.proofs.Steps.{pushed_by_form, given, after, label_by, some_injective, get_of_drop}
use Rattle.type_safety.proofs.Delimiters.{AfterDelimiter, AfterDelimiterOf, after_delimiter, if_balanced, operator_at, row_at}
use Rattle.type_safety.proofs.Closers.{closer_of}
use Rattle.type_safety.proofs.Operands as operands
use Rattle.type_safety.proofs.Operands.{IsWithin, within_right, set_within, below_top_known, rest_below}

-- operands just put on an empty label, below those of the frame
own_opened : (cx : Context) (us types : List ValType) → AllBelow cx us types → OperandsBelow cx (stack_with us []) (stack_with (map Known types) [])
own_opened cx us types below = (stack_with types [], onto-known types [], below-onto cx us types [] [] below tt)

-- ---- what a label still has before it

module _ (cx : Context) (code : List Operator) (ty : BlockType) where
  -- of a frame with the head h that began at place b, inside the frames fs
  pub record Exit (b : ℕ) (h : Head) (fs : List Frame) : Type 0 where
    pub delimiters_follow : (j : ℕ) (m : Delimiter) → slice_get (delimiters code b) j ≡ Some m → AfterDelimiter cx code (start ty) h fs m
    pub again : is_loop h.kind ≡ true → state_before cx code (start ty) (suc b) ≡ Some (open_state (opened_frame h (params cx h) ∷ fs))
    -- a closer, and the opener of a `try_table`
    pub closer : (c : ℕ) × IsCloser code b c
    pub opened : is_try_table h.kind ≡ true → (op : Operator) × (slice_get code b ≡ Some op) × (op.form ≡ Opens h)
    pub clauses : is_try_table h.kind ≡ true → (opener : Operator) → slice_get code b ≡ Some opener → (j : ℕ) (c : Clause) → slice_get (opener.row (heads fs)).clauses j ≡ Some c → HeadAccepts cx (drop c.depth (heads fs)) c.types

  -- the outermost frame has the body's results
  abbrev pub Outside : ℕ → Head → List Frame → Type 0
  Outside b h [] = h ≡ body_head ty
  Outside b h (f ∷ fs) = Exit b h (f ∷ fs)

  pub record Agree (l : Label) (f : Frame) (fs : List Frame) : Type 0 where
    pub head : l.head ≡ f.head
    pub live : f.dead ≡ false
    pub operands : OperandsBelow cx l.operands f.operands
    pub outside : Outside l.began f.head fs

  abbrev pub Stack : List Label → List Frame → Type 0
  Stack [] [] = Unit {0}
  Stack (l ∷ ls) (f ∷ fs) = Agree l f fs × Stack ls fs
  Stack _ _ = ⊥

  -- the machine stands at place k with these labels, and the validator's state before k is above it
  pub record Standing (k : ℕ) (l : Label) (ls : List Label) (set : List ℕ) : Type 0 where
    pub f : Frame
    pub fs : List Frame
    pub at : state_before cx code (start ty) k ≡ Some (open_state (f ∷ fs))
    pub agree : Agree l f fs
    pub stack : Stack ls fs
    pub within : IsWithin (locals_set (f ∷ fs)) set

  abbrev pub Keeps : Machine → Type 0
  Keeps (At k [] set) = ⊥
  Keeps (At k (l ∷ ls) set) = Standing k l ls set
  Keeps (Returned types) = AllBelow cx types (results cx (body_head ty))
  Keeps Trapped = Unit {0}
  Keeps LeftByException = Unit {0}
  Keeps LeftBySuspension = Unit {0}

  pub heads_agree : (ls : List Label) (fs : List Frame) → Stack ls fs → label_heads ls ≡ heads fs
  heads_agree [] [] s = refl
  heads_agree (l ∷ ls) (f ∷ fs) s =
      ap (λ h. h ∷ label_heads ls) s.0.head ∙ ap (λ hs. f.head ∷ hs) (heads_agree ls fs s.1)
  heads_agree [] (f ∷ fs) s = elim s [ ]
  heads_agree (l ∷ ls) [] s = elim s [ ]

  pub stack_drop : (n : ℕ) (ls : List Label) (fs : List Frame) → Stack ls fs → Stack (drop n ls) (drop n fs)
  stack_drop zero ls fs s = s
  stack_drop (suc n) [] [] s = tt
  stack_drop (suc n) (l ∷ ls) (f ∷ fs) s = stack_drop n ls fs s.1
  stack_drop (suc n) [] (f ∷ fs) s = elim s [ ]
  stack_drop (suc n) (l ∷ ls) [] s = elim s [ ]

  within_drop : (n : ℕ) (fs : List Frame) (set : List ℕ) → IsWithin (locals_set fs) set → IsWithin (locals_set (drop n fs)) set
  within_drop zero fs set w = w
  within_drop (suc n) [] set w = w
  within_drop (suc n) (f ∷ fs) set w = within_drop n fs set (within_right f.first_set (locals_set fs) set w)

  pub reaches_of_heads : (n : ℕ) (ls : List Label) (types : List ValType) → HeadAccepts cx (drop n (label_heads ls)) types → LabelAccepts cx (drop n ls) types
  reaches_of_heads zero [] types h = h
  reaches_of_heads zero (l ∷ ls) types h = h
  reaches_of_heads (suc n) [] types h = h
  reaches_of_heads (suc n) (l ∷ ls) types h = reaches_of_heads n ls types h

  -- what follows a closer
  pub after_closer : (h : Head) (fs : List Frame) (c : ℕ) (form : Form) → is_closing_form form ≡ true → AfterDelimiterOf cx code (start ty) h fs c form → state_before cx code (start ty) (suc c) ≡ Some (given (results cx h) fs)
  after_closer h fs c Ends i a = a
  after_closer h fs c Delegates i a = a
  after_closer h fs c _ i a = absurd cc

  closer_follows : (b c : ℕ) (h : Head) (fs : List Frame) → Exit b h fs → IsCloser code b c → state_before cx code (start ty) (suc c) ≡ Some (given (results cx h) fs)
  closer_follows b c h fs x k = after_closer h fs c k.0 k.2 (x.delimiters_follow k.1.0 (delimiter c k.0) k.1.1)

  -- results given to the next outer label
  gives_out : (k : ℕ) (h : Head) (us : List ValType) (o : Label) (outer : List Label) (g : Frame) (gs : List Frame) (set : List ℕ) → state_before cx code (start ty) k ≡ Some (given (results cx h) (g ∷ gs)) → AllBelow cx us (results cx h) → Stack (o ∷ outer) (g ∷ gs) → IsWithin (locals_set (g ∷ gs)) set → Standing k (record o { operands = stack_with us o.operands }) outer set
  gives_out k h us o outer g gs set b below s w =
      let a = s.0 in
      record {
        f = frame_with (map Known (results cx h)) g;
        fs = gs;
        at = b;
        agree = record {
          head = a.head;
          live = a.live;
          operands = (stack_with (results cx h) a.operands.0, ap (stack_with (map Known (results cx h))) a.operands.1 ∙ onto-known (results cx h) a.operands.0, below-onto cx us (results cx h) o.operands a.operands.0 below a.operands.2);
          outside = a.outside;
        };
        stack = s.1;
        within = w;
      }

  -- a branch
  branch_by : (b : Bool) (l : Label) (us : List ValType) (o : Label) (outer : List Label) (f g : Frame) (gs : List Frame) (set : List ℕ) (next : Machine) → is_loop f.head.kind ≡ b → Agree l f (g ∷ gs) → Stack (o ∷ outer) (g ∷ gs) → IsWithin (locals_set (g ∷ gs)) set → AllBelow cx us (label_by cx b f.head) → MatchBool b (next ≡ machine_after_restart l (o ∷ outer) set us) (Exits cx code l (o ∷ outer) set us next) → Keeps next
  branch_by true l us o outer f g gs set next loop a s w below e =
      subst Keeps (sym e) (record {
        f = opened_frame f.head (params cx f.head);
        fs = g ∷ gs;
        at = a.outside.again loop;
        agree = record { head = a.head; live = refl; operands = own_opened cx us (params cx f.head) below; outside = a.outside };
        stack = s;
        within = w;
      })
  branch_by false l us o outer f g gs set next loop a s w below e =
      subst Keeps (sym e.2) (gives_out (suc e.0) f.head us o outer g gs set (closer_follows l.began e.0 f.head (g ∷ gs) a.outside e.1) below s w)

  branch_to : (l : Label) (outer : List Label) (us : List ValType) (fs : List Frame) (set : List ℕ) (next : Machine) → Stack (l ∷ outer) fs → IsWithin (locals_set fs) set → AllBelow cx us (label_types cx l.head) → Arrives cx code l outer set us next → Keeps next
  branch_to l [] us (f ∷ []) set next s w below e =
      let h : l.head ≡ body_head ty = s.0.head ∙ s.0.outside in
      subst Keeps (sym e) (subst (λ k. AllBelow cx us (label_types cx k)) h below)
  branch_to l (o ∷ outer) us (f ∷ g ∷ gs) set next s w below e =
      let k = ap (λ (h : Head). is_loop h.kind) s.0.head in
      branch_by (is_loop l.head.kind) l us o outer f g gs set next (sym k) s.0 s.1 (within_right f.first_set (locals_set (g ∷ gs)) set w) (subst (λ h. AllBelow cx us (label_by cx (is_loop l.head.kind) h)) s.0.head below) e
  branch_to l outer us [] set next s w below e = elim s [ ]
  branch_to l [] us (f ∷ g ∷ gs) set next s w below e = elim s.1 [ ]
  branch_to l (o ∷ outer) us (f ∷ []) set next s w below e = elim s.1 [ ]

  branches : (labels : List Label) (fs : List Frame) (carried : List ValType) (set : List ℕ) (next : Machine) → IsLawful cx.of_module → Stack labels fs → IsWithin (locals_set fs) set → LabelAccepts cx labels carried → Branches cx code labels set carried next → Keeps next
  branches labels fs carried set next laws s w r b =
      let s' = subst (λ ls. Stack ls fs) b.is s in
      let r' : AllBelow cx carried (label_types cx b.label.head) = subst (λ ls. LabelAccepts cx ls carried) b.is r in
      branch_to b.label b.outer b.types fs set next s' w (below-trans cx laws b.types carried (label_types cx b.label.head) b.below r') b.arrives

after_closing : (cx : Context) (r : Row) (f : Frame) (fs : List Frame) (form : Form) (pushed : List MaybeType) → is_closing_form form ≡ true → after cx r f fs form pushed ≡ given (results cx f.head) fs
after_closing cx r f fs Ends pushed i = refl
after_closing cx r f fs Delegates pushed i = refl
after_closing cx r f fs _ pushed i = absurd cc

pub by_row : (cx : Context) (r : Row) (hs : List Head) (set : List ℕ) (f : Frame) (form : Form) (o : Option (List MaybeType)) → is_instruction form ≡ true → pushed_by_form cx r hs set f form ≡ o → pushed_by_row cx r hs set f ≡ o
by_row cx r hs set f Stays o i p = p
by_row cx r hs set f (Opens h) o i p = p
by_row cx r hs set f _ o i p = absurd cc

drop_none : {A : Type 0} (n : ℕ) → drop {A = A} n [] ≡ []
drop_none zero = refl
drop_none (suc n) = refl

not_both : (b : Bool) → b ≡ true → b ≡ false → ⊥
not_both true h k = cc
not_both false h k = cc

no_loop : (all : Bool) → is_loop (catch_kind all) ≡ false
no_loop true = refl
no_loop false = refl

no_try_table : (all : Bool) → is_try_table (catch_kind all) ≡ false
no_try_table true = refl
no_try_table false = refl

module _ (cx : Context) (laws : IsLawful cx.of_module) (code : List Operator) (ty : BlockType) (lawful : (j : ℕ) (op : Operator) → slice_get code j ≡ Some op → IsLawfulOperator cx op) (accepted : IsAccepted cx code (start ty)) where
  -- the validator's row and the state after it, at the heads of the machine's labels
  pub record Place (k : ℕ) (l : Label) (ls : List Label) (set : List ℕ) (op : Operator) : Type 0 where
    pub s : Standing cx code ty k l ls set
    pub is : slice_get code k ≡ Some op
    pub same : label_heads (l ∷ ls) ≡ heads (s.f ∷ s.fs)
    pub pushed : List MaybeType
    pub holds : pushed_by_form cx (op.row (label_heads (l ∷ ls))) (label_heads (l ∷ ls)) (locals_set (s.f ∷ s.fs)) s.f op.form ≡ Some pushed
    pub next : state_before cx code (start ty) (suc k) ≡ Some (after cx (op.row (label_heads (l ∷ ls))) s.f s.fs op.form pushed)

  pub place_of : (k : ℕ) (l : Label) (ls : List Label) (set : List ℕ) → Standing cx code ty k l ls set → (op : Operator) × Place k l ls set op
  place_of k l ls set s =
      let o = operator_at cx code (start ty) accepted k s.f s.fs s.at in
      let a = row_at cx code (start ty) accepted k o.0 o.1 s.f s.fs o.2 s.at in
      let same = heads_agree cx code ty (l ∷ ls) (s.f ∷ s.fs) (s.agree, s.stack) in
      let st = locals_set (s.f ∷ s.fs) in (
        o.0,
        record {
          s = s;
          is = get_of_drop code k o.0 o.1 o.2;
          same = same;
          pushed = a.pushed;
          holds = subst (λ hs. pushed_by_form cx (o.0.row hs) hs st s.f o.0.form ≡ Some a.pushed) (sym same) a.holds;
          next = subst (λ hs. state_before cx code (start ty) (suc k) ≡ Some (after cx (o.0.row hs) s.f s.fs o.0.form a.pushed)) (sym same) a.next;
        },
      )

  module _ (k : ℕ) (l : Label) (ls : List Label) (set : List ℕ) (op : Operator) (p : Place k l ls set op) where
    passes_here : is_instruction op.form ≡ true → operands.Passes cx (op.row (label_heads (l ∷ ls))) (label_heads (l ∷ ls)) set l p.s.agree.operands.0 p.pushed
    passes_here i =
        operands.passes cx (op.row (label_heads (l ∷ ls))) (label_heads (l ∷ ls)) (locals_set (p.s.f ∷ p.s.fs)) set l p.s.f p.s.agree.operands.0 p.pushed
        ((lawful k op p.is).row (label_heads (l ∷ ls))) p.s.agree.live p.s.agree.operands.1 p.s.agree.operands.2 p.s.within
        (by_row cx (op.row (label_heads (l ∷ ls))) (label_heads (l ∷ ls)) (locals_set (p.s.f ∷ p.s.fs)) p.s.f op.form _ i p.holds)

    reaches_targets : (b : Bool) → is_instruction op.form ≡ b → (j : ℕ) (t : Target) → slice_get (op.row (label_heads (l ∷ ls))).targets j ≡ Some t → LabelAccepts cx (drop t.depth (l ∷ ls)) (t.carried (types_on_top (expected_count (op.row (label_heads (l ∷ ls))).type) l.operands))
    reaches_targets true i j t e =
        let a = passes_here i in
        reaches_of_heads cx code ty t.depth (l ∷ ls) _ (((lawful k op p.is).row (label_heads (l ∷ ls))).reaches _ _ a.premise a.monotone.passes j t e)
    reaches_targets false i j t e =
        let a = (lawful k op p.is).closing (label_heads (l ∷ ls)) i in
        let d : slice_get {X = Target} [] j ≡ Some t = ap (λ ts. slice_get ts j) (sym a.0) ∙ e in
        absurd cc

    reaches_clauses : (b : Bool) → is_instruction op.form ≡ b → (j : ℕ) (c : Clause) → slice_get (op.row (label_heads (l ∷ ls))).clauses j ≡ Some c → LabelAccepts cx (drop c.depth (l ∷ ls)) c.types
    reaches_clauses true i j c e =
        reaches_of_heads cx code ty c.depth (l ∷ ls) _ (operands.each_clause cx (label_heads (l ∷ ls)) _ (passes_here i).clauses j c e)
    reaches_clauses false i j c e =
        let a = (lawful k op p.is).closing (label_heads (l ∷ ls)) i in
        let d : slice_get {X = Clause} [] j ≡ Some c = ap (λ ts. slice_get ts j) (sym a.1) ∙ e in
        absurd cc

    -- the state in a frame that the operator opens
    pub inside : (h : Head) → op.form ≡ Opens h → state_before cx code (start ty) (suc k) ≡ Some (open_state (opened_frame h (params cx h) ∷ frame_under (op.row (label_heads (l ∷ ls))) p.s.f ∷ p.s.fs))
    inside h e = p.next ∙ ap (λ x. Some (after cx (op.row (label_heads (l ∷ ls))) p.s.f p.s.fs x p.pushed)) e

    balances : (h : Head) → op.form ≡ Opens h → is_if h.kind ≡ true → HasNoElse code k → AllBelow cx (take (length (params cx h)) (types_on_top (expected_count (op.row (label_heads (l ∷ ls))).type) l.operands)) (results cx h)
    balances h e i w =
        let a = passes_here (ap is_instruction e) in
        let fit = below_of_fit cx (params cx h) (results cx h) (if_balanced cx code (start ty) accepted k h (params cx h) (frame_under (op.row (label_heads (l ∷ ls))) p.s.f ∷ p.s.fs) i (inside h e) w) in
        below-trans cx laws _ (params cx h) (results cx h) ((lawful k op p.is).takes_params (label_heads (l ∷ ls)) h _ _ e i a.monotone.passes) fit

    pub demand : Demand cx code (configuration k l ls set op)
    demand = record {
      row = operands.holds_below cx (op.row (label_heads (l ∷ ls))) (label_heads (l ∷ ls)) (locals_set (p.s.f ∷ p.s.fs)) set l p.s.f p.s.agree.operands.0 op.form p.pushed laws ((lawful k op p.is).row (label_heads (l ∷ ls))) p.s.agree.head p.s.agree.live p.s.agree.operands.1 p.s.agree.operands.2 p.s.within p.holds;
      targets = reaches_targets (is_instruction op.form) refl;
      clauses = reaches_clauses (is_instruction op.form) refl;
      no_else = balances;
    }

    -- ---- each outcome
    agree_popped : Agree cx code ty (record l { operands = drop (expected_count (op.row (label_heads (l ∷ ls))).type) l.operands }) (frame_under (op.row (label_heads (l ∷ ls))) p.s.f) p.s.fs
    agree_popped =
        let a = p.s.agree in
        let n = expected_count (op.row (label_heads (l ∷ ls))).type in
        record {
          head = a.head;
          live = a.live;
          operands = (drop n a.operands.0, below_top_known n p.s.f a.operands.0 a.operands.1, rest_below cx n l.operands a.operands.0 a.operands.2);
          outside = a.outside;
        }

    keeps_going : (lower us : List ValType) → op.form ≡ Stays → (op.row (label_heads (l ∷ ls))).ends_live ≡ false → pushed_types cx op (label_heads (l ∷ ls)) set (live_frame l) ≡ Some (map Known lower) → AllBelow cx us lower → Standing cx code ty (suc k) (record l { operands = stack_with us (drop (expected_count (op.row (label_heads (l ∷ ls))).type) l.operands) }) ls (set_after (op.row (label_heads (l ∷ ls))).sets set)
    keeps_going lower us e live h below =
        let r = op.row (label_heads (l ∷ ls)) in
        let st = locals_set (p.s.f ∷ p.s.fs) in
        let n = expected_count r.type in
        let a = passes_here (ap is_instruction e) in
        let i = agree_popped in
        let q = by_row cx r (label_heads (l ∷ ls)) set (live_frame l) op.form _ (ap is_instruction e) h in
        let same = known-injective lower a.monotone.lower (some_injective _ _ (sym q ∙ a.holds)) in
        let upper = a.monotone.below us (subst (λ ts. AllBelow cx us ts) same below) in
        record {
          f = frame_after cx r st p.pushed p.s.f;
          fs = p.s.fs;
          at = p.next ∙ ap (λ x. Some (after cx r p.s.f p.s.fs x p.pushed)) e;
          agree = record {
            head = i.head;
            live = ap (λ b. b || r.ends_live) i.live ∙ live;
            operands = (
              stack_with a.monotone.upper i.operands.0,
              ap (λ b. operands_after b (operands_under n p.s.f) p.pushed) live ∙ ap (stack_with p.pushed) i.operands.1 ∙ ap (λ x. stack_with x (map Known i.operands.0)) a.monotone.known ∙ onto-known a.monotone.upper i.operands.0,
              below-onto cx us a.monotone.upper (drop n l.operands) i.operands.0 upper i.operands.2,
            );
            outside = i.outside;
          };
          stack = p.s.stack;
          within = set_within cx st r.sets p.s.f.first_set (locals_set p.s.fs) set p.s.within;
        }

    pub exit_opened : (h : Head) → op.form ≡ Opens h → Exit cx code ty k h (frame_under (op.row (label_heads (l ∷ ls))) p.s.f ∷ p.s.fs)
    exit_opened h e =
        let fs' = frame_under (op.row (label_heads (l ∷ ls))) p.s.f ∷ p.s.fs in
        let fit = subst (λ hs. clauses_fit cx hs (op.row hs).clauses ≡ true) p.same (passes_here (ap is_instruction e)).clauses in
        record {
          delimiters_follow = after_delimiter cx code (start ty) accepted k h (params cx h) fs' (inside h e);
          again = λ i. inside h e;
          closer = closer_of cx code (start ty) accepted k h (params cx h) fs' (inside h e);
          opened = λ i. (op, p.is, e);
          clauses = λ i opener at j c g.
              let d : op ≡ opener = some_injective _ _ (sym p.is ∙ at) in
              operands.each_clause cx (heads fs') (opener.row (heads fs')).clauses (subst (λ (o : Operator). clauses_fit cx (heads fs') (o.row (heads fs')).clauses ≡ true) d fit) j c g;
        }

    keeps_entering : (h : Head) (us : List ValType) → op.form ≡ Opens h → AllBelow cx us (params cx h) → Standing cx code ty (suc k) (record { began = k; head = h; operands = stack_with us [] }) (record l { operands = drop (expected_count (op.row (label_heads (l ∷ ls))).type) l.operands } ∷ ls) set
    keeps_entering h us e below =
        record {
          f = opened_frame h (params cx h);
          fs = frame_under (op.row (label_heads (l ∷ ls))) p.s.f ∷ p.s.fs;
          at = inside h e;
          agree = record { head = refl; live = refl; operands = own_opened cx us (params cx h) below; outside = exit_opened h e };
          stack = (agree_popped, p.s.stack);
          within = p.s.within;
        }

    keeps_entering_else : (h : Head) (c : ℕ) (us : List ValType) → op.form ≡ Opens h → IsDelimiter code k c BeginsElse → AllBelow cx us (params cx h) → Standing cx code ty (suc c) (record { began = c; head = head_with_kind Else h; operands = stack_with us [] }) (record l { operands = drop (expected_count (op.row (label_heads (l ∷ ls))).type) l.operands } ∷ ls) set
    keeps_entering_else h c us e m below =
        let fs' = frame_under (op.row (label_heads (l ∷ ls))) p.s.f ∷ p.s.fs in
        let b = (exit_opened h e).delimiters_follow m.0 (delimiter c BeginsElse) m.1 in
        record {
          f = opened_frame (head_with_kind Else h) (params cx h);
          fs = fs';
          at = b;
          agree = record {
            head = refl;
            live = refl;
            operands = own_opened cx us (params cx h) below;
            outside = record {
              delimiters_follow = after_delimiter cx code (start ty) accepted c (head_with_kind Else h) (params cx h) fs' b;
              again = λ i. absurd cc;
              closer = closer_of cx code (start ty) accepted c (head_with_kind Else h) (params cx h) fs' b;
              opened = λ i. absurd cc;
              clauses = λ i opener at j d g. absurd cc;
            };
          };
          stack = (agree_popped, p.s.stack);
          within = p.s.within;
        }

    keeps_skipping : (h : Head) (c : ℕ) (us : List ValType) → op.form ≡ Opens h → IsCloser code k c → AllBelow cx us (results cx h) → Standing cx code ty (suc c) (record l { operands = stack_with us (drop (expected_count (op.row (label_heads (l ∷ ls))).type) l.operands) }) ls set
    keeps_skipping h c us e m below =
        let r = op.row (label_heads (l ∷ ls)) in
        gives_out cx code ty (suc c) h us (record l { operands = drop (expected_count r.type) l.operands }) ls (frame_under r p.s.f) p.s.fs set
        (closer_follows cx code ty k c h (frame_under r p.s.f ∷ p.s.fs) (exit_opened h e) m) below (agree_popped, p.s.stack) p.s.within

    keeps_jumping : (j : ℕ) (t : Target) (next : Machine) → slice_get (op.row (label_heads (l ∷ ls))).targets j ≡ Some t → Branches cx code (drop t.depth (l ∷ ls)) set (t.carried (types_on_top (expected_count (op.row (label_heads (l ∷ ls))).type) l.operands)) next → Keeps cx code ty next
    keeps_jumping j t next e b =
        branches cx code ty (drop t.depth (l ∷ ls)) (drop t.depth (p.s.f ∷ p.s.fs)) _ set next laws
        (stack_drop cx code ty t.depth (l ∷ ls) (p.s.f ∷ p.s.fs) (p.s.agree, p.s.stack))
        (within_drop cx code ty t.depth (p.s.f ∷ p.s.fs) set p.s.within)
        (reaches_targets (is_instruction op.form) refl j t e) b

    -- what follows the place k, where a frame that isn't the outermost one is closed
    abbrev AfterInner : ℕ → Head → List Frame → Type 0
    AfterInner c h [] = Unit {0}
    AfterInner c h (g ∷ gs) = state_before cx code (start ty) c ≡ Some (given (results cx h) (g ∷ gs))

    closes_to : (c b : ℕ) (h : Head) (us : List ValType) (outer : List Label) (fs : List Frame) → Outside cx code ty b h fs → AfterInner c h fs → AllBelow cx us (results cx h) → Stack cx code ty outer fs → IsWithin (locals_set fs) set → Keeps cx code ty (machine_after_exit c us outer set)
    closes_to c b h us [] [] x a below s w = subst (λ (k : Head). AllBelow cx us (results cx k)) x below
    closes_to c b h us (o ∷ outer) (g ∷ gs) x a below s w = gives_out cx code ty c h us o outer g gs set a below s w
    closes_to c b h us [] (g ∷ gs) x a below s w = elim s [ ]
    closes_to c b h us (o ∷ outer) [] x a below s w = elim s [ ]

    after_inner : (c : ℕ) (h : Head) (fs : List Frame) → state_before cx code (start ty) c ≡ Some (given (results cx h) fs) → AfterInner c h fs
    after_inner c h [] a = tt
    after_inner c h (g ∷ gs) a = a

    after_part : (c b : ℕ) (h : Head) (fs : List Frame) → Outside cx code ty b h fs → IsCloser code b c → AfterInner (suc c) h fs
    after_part c b h [] x m = tt
    after_part c b h (g ∷ gs) x m = closer_follows cx code ty b c h (g ∷ gs) x m

    closes_here : (c : ℕ) (us : List ValType) → AfterInner c p.s.f.head p.s.fs → AllBelow cx us (results cx l.head) → Keeps cx code ty (machine_after_exit c us ls set)
    closes_here c us a below =
        closes_to c l.began p.s.f.head us ls p.s.fs p.s.agree.outside a (subst (λ (h : Head). AllBelow cx us (results cx h)) p.s.agree.head below) p.s.stack
        (within_right p.s.f.first_set (locals_set p.s.fs) set p.s.within)

    keeps_catching : (label : Label) (outer : List Label) (F : List Frame) (opener : Operator) (j : ℕ) (c : Clause) (next : Machine) → Stack cx code ty (label ∷ outer) F → IsWithin (locals_set F) set → is_try_table label.head.kind ≡ true → slice_get code label.began ≡ Some opener → slice_get (opener.row (label_heads outer)).clauses j ≡ Some c → Branches cx code (drop c.depth outer) set c.types next → Keeps cx code ty next
    keeps_catching label [] (g ∷ []) opener j c next s w i o e b = let d : [] ≡ b.label ∷ b.outer = sym (drop_none c.depth) ∙ b.is in absurd cc
    keeps_catching label (o' ∷ outer) (g ∷ g' ∷ gs) opener j c next s w i o e b =
        let same = heads_agree cx code ty (o' ∷ outer) (g' ∷ gs) s.1 in
        let e' = subst (λ hs. slice_get (opener.row hs).clauses j ≡ Some c) same e in
        let h = s.0.outside.clauses (ap (λ (k : Head). is_try_table k.kind) (sym s.0.head) ∙ i) opener o j c e' in
        let r = reaches_of_heads cx code ty c.depth (o' ∷ outer) c.types (subst (λ hs. HeadAccepts cx (drop c.depth hs) c.types) (sym same) h) in
        branches cx code ty (drop c.depth (o' ∷ outer)) (drop c.depth (g' ∷ gs)) c.types set next laws
        (stack_drop cx code ty c.depth (o' ∷ outer) (g' ∷ gs) s.1)
        (within_drop cx code ty c.depth (g' ∷ gs) set (within_right g.first_set (locals_set (g' ∷ gs)) set w)) r b
    keeps_catching label outer [] opener j c next s w i o e b = elim s [ ]
    keeps_catching label [] (g ∷ g' ∷ gs) opener j c next s w i o e b = elim s.1 [ ]
    keeps_catching label (o' ∷ outer) (g ∷ []) opener j c next s w i o e b = elim s.1 [ ]

    keeps_catching_legacy : (label : Label) (outer : List Label) (F : List Frame) (c : ℕ) (all : Bool) (types us : List ValType) → Stack cx code ty (label ∷ outer) F → IsWithin (locals_set F) set → is_try label.head.kind ≡ true → IsDelimiter code label.began c (BeginsCatch all types) → AllBelow cx us types → Standing cx code ty (suc c) (record { began = c; head = head_with_kind (catch_kind all) label.head; operands = stack_with us [] }) outer set
    keeps_catching_legacy label [] (g ∷ []) c all types us s w i m below =
        let d : true ≡ false = sym i ∙ ap (λ (k : Head). is_try k.kind) (s.0.head ∙ s.0.outside) in
        absurd cc
    keeps_catching_legacy label (o ∷ outer) (g ∷ g' ∷ gs) c all types us s w i m below =
        let h = g.head in
        let b = s.0.outside.delimiters_follow m.0 (delimiter c (BeginsCatch all types)) m.1 in
        record {
          f = opened_frame (head_with_kind (catch_kind all) h) types;
          fs = g' ∷ gs;
          at = b;
          agree = record {
            head = ap (head_with_kind (catch_kind all)) s.0.head;
            live = refl;
            operands = own_opened cx us types below;
            outside = record {
              delimiters_follow = after_delimiter cx code (start ty) accepted c (head_with_kind (catch_kind all) h) types (g' ∷ gs) b;
              again = λ q. absurd (not_both (is_loop (catch_kind all)) q (no_loop all));
              closer = closer_of cx code (start ty) accepted c (head_with_kind (catch_kind all) h) types (g' ∷ gs) b;
              opened = λ q. absurd (not_both (is_try_table (catch_kind all)) q (no_try_table all));
              clauses = λ q opener at j d e. absurd (not_both (is_try_table (catch_kind all)) q (no_try_table all));
            };
          };
          stack = s.1;
          within = within_right g.first_set (locals_set (g' ∷ gs)) set w;
        }
    keeps_catching_legacy label outer [] c all types us s w i m below = elim s [ ]
    keeps_catching_legacy label [] (g ∷ g' ∷ gs) c all types us s w i m below = elim s.1 [ ]
    keeps_catching_legacy label (o ∷ outer) (g ∷ []) c all types us s w i m below = elim s.1 [ ]

    keeps : (next : Machine) → Outcome cx code (configuration k l ls set op) next → Keeps cx code ty next
    keeps next (goes_on o) = subst (Keeps cx code ty) (sym o.is) (keeps_going o.pushed o.types o.stays o.live o.pushes o.below)
    keeps next (enters o) = subst (Keeps cx code ty) (sym o.is) (keeps_entering o.head o.types o.opens o.below)
    keeps next (enters_else o) = subst (Keeps cx code ty) (sym o.is) (keeps_entering_else o.head o.place o.types o.opens o.is_its_else o.below)
    keeps next (skips_if o) = subst (Keeps cx code ty) (sym o.is) (keeps_skipping o.head o.closer o.types o.opens o.is_its_closer o.below)
    keeps next (jumps o) = keeps_jumping o.index o.target next o.is_its_target o.branches
    keeps next (closes o) =
        subst (Keeps cx code ty) (sym o.is)
        (closes_here (suc k) o.types (after_inner (suc k) p.s.f.head p.s.fs (p.next ∙ ap Some (after_closing cx (op.row (label_heads (l ∷ ls))) p.s.f p.s.fs op.form p.pushed o.closes))) o.below)
    keeps next (ends_part o) =
        subst (Keeps cx code ty) (sym o.exits.2) (closes_here (suc o.exits.0) o.types (after_part o.exits.0 l.began p.s.f.head p.s.fs p.s.agree.outside o.exits.1) o.below)
    keeps next (catches o) =
        keeps_catching o.label o.outer (drop o.depth (p.s.f ∷ p.s.fs)) o.opener o.index o.clause next
        (subst (λ x. Stack cx code ty x (drop o.depth (p.s.f ∷ p.s.fs))) o.is_open (stack_drop cx code ty o.depth (l ∷ ls) (p.s.f ∷ p.s.fs) (p.s.agree, p.s.stack)))
        (within_drop cx code ty o.depth (p.s.f ∷ p.s.fs) set p.s.within) o.kind_is_try_table o.is_its_opener o.is_its_clause o.branches
    keeps next (catches_legacy o) =
        subst (Keeps cx code ty) (sym o.is)
        (keeps_catching_legacy o.label o.outer (drop o.depth (p.s.f ∷ p.s.fs)) o.place o.all o.caught o.types
        (subst (λ x. Stack cx code ty x (drop o.depth (p.s.f ∷ p.s.fs))) o.is_open (stack_drop cx code ty o.depth (l ∷ ls) (p.s.f ∷ p.s.fs) (p.s.agree, p.s.stack)))
        (within_drop cx code ty o.depth (p.s.f ∷ p.s.fs) set p.s.within) o.kind_is_try o.is_its_catch o.below)
    keeps next (traps is) = subst (Keeps cx code ty) (sym is) tt
    keeps next (raises is) = subst (Keeps cx code ty) (sym is) tt
    keeps next (suspends is) = subst (Keeps cx code ty) (sym is) tt

  -- ---- runs
  step_keeps : (m next : Machine) → Keeps cx code ty m → Step cx code m next → Keeps cx code ty next
  step_keeps (At k (l ∷ ls) set) next s st =
      let o = place_of k l ls set s in
      let d : o.0 ≡ st.0 = some_injective _ _ (sym o.1.is ∙ st.1) in
      keeps k l ls set o.0 o.1 next (subst (λ o'. Outcome cx code (configuration k l ls set o') next) (sym d) st.3)
  step_keeps _ next s st = elim st [ ]

  started : Keeps cx code ty (initial_machine ty)
  started = record {
    f = opened_frame (body_head ty) [];
    fs = [];
    at = refl;
    agree = record { head = refl; live = refl; operands = ([], refl, tt); outside = refl };
    stack = tt;
    within = λ i h. h;
  }

  pub run_keeps : (n : ℕ) (m : Machine) → Run cx code n (initial_machine ty) m → Keeps cx code ty m
  run_keeps zero m r = subst (Keeps cx code ty) r started
  run_keeps (suc n) m r = step_keeps r.0 m (run_keeps n r.0 r.1) r.2

  demands_met : (m : Machine) → Keeps cx code ty m → IsNotStuck cx code m
  demands_met (At k [] set) s = elim s [ ]
  demands_met (At k (l ∷ ls) set) s = let o = place_of k l ls set s in (o.0, o.1.is, demand k l ls set o.0 o.1)
  demands_met _ s = tt

  labels_below : (ls : List Label) (fs : List Frame) → Stack cx code ty ls fs → LabelsBelow cx ls fs
  labels_below [] [] s = tt
  labels_below (l ∷ ls) (f ∷ fs) s = (record { head = s.0.head; live = s.0.live; operands = s.0.operands }, labels_below ls fs s.1)
  labels_below [] (f ∷ fs) s = elim s [ ]
  labels_below (l ∷ ls) [] s = elim s [ ]

  safe : (m : Machine) → Keeps cx code ty m → IsAsValidated cx code ty m
  safe (At k [] set) s = elim s [ ]
  safe (At k (l ∷ ls) set) s = (s.f ∷ s.fs, s.at, labels_below (l ∷ ls) (s.f ∷ s.fs) (s.agree, s.stack))
  safe (Returned types) s = s
  safe Trapped s = tt
  safe LeftByException s = tt
  safe LeftBySuspension s = tt

pub type_safety : TypeSafety
type_safety cx code ty laws lawful accepted n m r =
    let s = run_keeps cx laws code ty lawful accepted n m r in
    (demands_met cx laws code ty lawful accepted m s, safe cx laws code ty lawful accepted m s)
