-- Each opened frame ends as it should, as far as the rows hold: what follows its closer and its parts.
use Rattle.std.proofs.Common.{◌≡◌, ◌≤◌, ℕ, zero, suc, Bool, true, false, List, [], ◌∷◌, ◌++◌, length, map, drop, Some, refl, sym, ap, arith, ◌∙◌, subst, slice_get}
use Rattle.validation_rules.specs.Context.{ValType, Context}
use Rattle.validation_rules.specs.Fits.{MaybeType, Known, all_fit}
use Rattle.validation_rules.specs.Rows.{FrameKind, If, Else, Head, is_if, params, results, Form, Stays, Opens, BeginsElse, BeginsCatch, Ends, Delegates, Row, Operator, catch_kind}
use Rattle.validation_rules.specs.Static.{Frame, State, stack_with, heads, locals_set, pushed_types, opened_frame, head_with_kind, frame_after, frame_under, frame_with, open_state, step, state_before, IsAccepted}
use Rattle.type_safety.specs.Machine.{Delimiter, delimiter, delimiters_from, forms_of, delimiters, has_no_else}
use Rattle.validation_rules.proofs.Below.{and_true}
use Rattle.validation_rules.proofs.Steps.{pushed_by_form, given, after, some_injective, guard_some, and_then_given, get_of_drop, drop_next, stepped, before_next}

pub rest_accepted : (cx : Context) (code : List Operator) (s : State) (k : ℕ) (t : State) → state_before cx code s k ≡ Some t → IsAccepted cx code s → IsAccepted cx (drop k code) t
rest_accepted cx code s zero t b a = subst (λ v. IsAccepted cx code v) (some_injective s t b) a
rest_accepted cx [] s (suc k) t b a = absurd cc
rest_accepted cx (x ∷ code) s (suc k) t b a =
    let m = and_then_given (step cx x s) (λ v. state_before cx code v k) t b in
    let n = and_then_given (step cx x s) (λ v. state_before cx code v (length code)) _ a.1 in
    let e : n.0 ≡ m.0 = some_injective n.0 m.0 (sym n.1 ∙ m.1) in
    rest_accepted cx code m.0 k t m.2 (a.0, ap (λ v. state_before cx code v (length code)) (sym e) ∙ n.2)

-- an operator stands wherever a frame is open
nothing_left : (cx : Context) (f : Frame) (fs : List Frame) → IsAccepted cx [] (open_state (f ∷ fs)) → ⊥
nothing_left cx f fs a = let e : f ∷ fs ≡ [] = ap (λ (v : State). v.frames) (some_injective _ _ a.1) in cc

some_operator : (cx : Context) (ops : List Operator) (f : Frame) (fs : List Frame) → IsAccepted cx ops (open_state (f ∷ fs)) → (op : Operator) × (more : List Operator) × (ops ≡ op ∷ more)
some_operator cx [] f fs a = absurd (nothing_left cx f fs a)
some_operator cx (op ∷ more) f fs a = (op, more, refl)

kind_is_if : (k : FrameKind) → is_if k ≡ true → k ≡ If
kind_is_if If h = refl
kind_is_if _ h = absurd cc

-- the present part of a frame with the head h
abbrev pub part : FrameKind → Head → List MaybeType → Bool → List ℕ → Frame
part kind h own dead first_set = record { head = head_with_kind kind h; operands = own; dead = dead; first_set = first_set }

module _ (cx : Context) (code : List Operator) (s0 : State) where
  -- the state that follows a closer or the beginning of a part, of a frame with the head h
  abbrev pub AfterDelimiterOf : Head → List Frame → ℕ → Form → Type 0
  AfterDelimiterOf h fs k Stays = Unit {0}
  AfterDelimiterOf h fs k (Opens o) = Unit {0}
  AfterDelimiterOf h fs k BeginsElse = state_before cx code s0 (suc k) ≡ Some (open_state (part Else h (stack_with (map Known (params cx h)) []) false [] ∷ fs))
  AfterDelimiterOf h fs k (BeginsCatch all types) = state_before cx code s0 (suc k) ≡ Some (open_state (part (catch_kind all) h (stack_with (map Known types) []) false [] ∷ fs))
  AfterDelimiterOf h fs k Ends = state_before cx code s0 (suc k) ≡ Some (given (results cx h) fs)
  AfterDelimiterOf h fs k Delegates = state_before cx code s0 (suc k) ≡ Some (given (results cx h) fs)

  abbrev pub AfterDelimiter : Head → List Frame → Delimiter → Type 0
  AfterDelimiter h fs m = AfterDelimiterOf h fs m.place m.form

  -- where a frame of the head h stands open outside `inner`, before place k, the delimiters of what
  -- follows, up to a last place, are followed by the right states
  abbrev Delimited : ℕ → List Operator → ℕ → Head → List Frame → Type 0
  Delimited last ops k h fs =
      (inner : List Frame) (kind : FrameKind) (own : List MaybeType) (dead : Bool) (first_set : List ℕ) → state_before cx code s0 k ≡ Some (open_state (inner ++ part kind h own dead first_set ∷ fs)) → (j : ℕ) (m : Delimiter) → slice_get (delimiters_from (length inner) k (forms_of ops)) j ≡ Some m → m.place ≤ last → AfterDelimiter h fs m

  at_delimiter : (h : Head) (fs : List Frame) (k : ℕ) (form : Form) (m : Delimiter) → Some (delimiter k form) ≡ Some m → AfterDelimiter h fs (delimiter k form) → AfterDelimiter h fs m
  at_delimiter h fs k form m e a = subst (λ n. AfterDelimiter h fs n) (some_injective _ _ e) a

  -- one operator in the frame itself
  delimited_here : (last : ℕ) (ops : List Operator) (k : ℕ) (h : Head) (fs : List Frame) → Delimited last ops (suc k) h fs → (form : Form) (r : Row) (pushed : List MaybeType) (kind : FrameKind) (own : List MaybeType) (dead : Bool) (first_set : List ℕ) → state_before cx code s0 (suc k) ≡ Some (after cx r (part kind h own dead first_set) fs form pushed) → (j : ℕ) (m : Delimiter) → slice_get (delimiters_from 0 k (form ∷ forms_of ops)) j ≡ Some m → m.place ≤ last → AfterDelimiter h fs m
  delimited_here last ops k h fs ih Stays r pushed kind own dead first_set b j m e w = ih [] kind _ _ _ b j m e w
  delimited_here last ops k h fs ih (Opens o) r pushed kind own dead first_set b j m e w = ih (opened_frame o (params cx o) ∷ []) kind _ _ _ b j m e w
  delimited_here last ops k h fs ih BeginsElse r pushed kind own dead first_set b zero m e w = at_delimiter h fs k BeginsElse m e b
  delimited_here last ops k h fs ih BeginsElse r pushed kind own dead first_set b (suc j) m e w = ih [] Else _ _ _ b j m e w
  delimited_here last ops k h fs ih (BeginsCatch c types) r pushed kind own dead first_set b zero m e w = at_delimiter h fs k (BeginsCatch c types) m e b
  delimited_here last ops k h fs ih (BeginsCatch c types) r pushed kind own dead first_set b (suc j) m e w = ih [] (catch_kind c) _ _ _ b j m e w
  delimited_here last ops k h fs ih Ends r pushed kind own dead first_set b zero m e w = at_delimiter h fs k Ends m e b
  delimited_here last ops k h fs ih Ends r pushed kind own dead first_set b (suc j) m e w = absurd cc
  delimited_here last ops k h fs ih Delegates r pushed kind own dead first_set b zero m e w = at_delimiter h fs k Delegates m e b
  delimited_here last ops k h fs ih Delegates r pushed kind own dead first_set b (suc j) m e w = absurd cc

  -- one operator in a frame inside it
  delimited_inside : (last : ℕ) (ops : List Operator) (k : ℕ) (h : Head) (fs : List Frame) → Delimited last ops (suc k) h fs → (form : Form) (r : Row) (pushed : List MaybeType) (f : Frame) (inner : List Frame) (kind : FrameKind) (own : List MaybeType) (dead : Bool) (first_set : List ℕ) → state_before cx code s0 (suc k) ≡ Some (after cx r f (inner ++ part kind h own dead first_set ∷ fs) form pushed) → (j : ℕ) (m : Delimiter) → slice_get (delimiters_from (suc (length inner)) k (form ∷ forms_of ops)) j ≡ Some m → m.place ≤ last → AfterDelimiter h fs m
  delimited_inside last ops k h fs ih Stays r pushed f inner kind own dead first_set b j m e w = ih (frame_after cx r _ pushed f ∷ inner) kind own dead first_set b j m e w
  delimited_inside last ops k h fs ih (Opens o) r pushed f inner kind own dead first_set b j m e w = ih (opened_frame o (params cx o) ∷ frame_under r f ∷ inner) kind own dead first_set b j m e w
  delimited_inside last ops k h fs ih BeginsElse r pushed f inner kind own dead first_set b j m e w = ih (opened_frame (head_with_kind Else f.head) (params cx f.head) ∷ inner) kind own dead first_set b j m e w
  delimited_inside last ops k h fs ih (BeginsCatch c types) r pushed f inner kind own dead first_set b j m e w = ih (opened_frame (head_with_kind (catch_kind c) f.head) types ∷ inner) kind own dead first_set b j m e w
  delimited_inside last ops k h fs ih Ends r pushed f [] kind own dead first_set b j m e w = ih [] kind _ dead first_set b j m e w
  delimited_inside last ops k h fs ih Ends r pushed f (g ∷ inner) kind own dead first_set b j m e w = ih (frame_with (map Known (results cx f.head)) g ∷ inner) kind own dead first_set b j m e w
  delimited_inside last ops k h fs ih Delegates r pushed f [] kind own dead first_set b j m e w = ih [] kind _ dead first_set b j m e w
  delimited_inside last ops k h fs ih Delegates r pushed f (g ∷ inner) kind own dead first_set b j m e w = ih (frame_with (map Known (results cx f.head)) g ∷ inner) kind own dead first_set b j m e w

at_place : (k : ℕ) (form : Form) (m : Delimiter) → Some (delimiter k form) ≡ Some m → k ≤ m.place
at_place k form m e = let h : k ≡ m.place = ap (λ (d : Delimiter). d.place) (some_injective _ _ e) in omega (arith, h)

-- the delimiters that follow from a place on stand there or later
pub later_place : (depth k : ℕ) (forms : List Form) (j : ℕ) (m : Delimiter) → slice_get (delimiters_from depth k forms) j ≡ Some m → k ≤ m.place
later_place depth k [] j m e = absurd cc
later_place depth k (Stays ∷ forms) j m e = let h = later_place depth (suc k) forms j m e in omega (arith, h)
later_place depth k (Opens o ∷ forms) j m e = let h = later_place (suc depth) (suc k) forms j m e in omega (arith, h)
later_place zero k (BeginsElse ∷ forms) zero m e = at_place k BeginsElse m e
later_place zero k (BeginsElse ∷ forms) (suc j) m e = let h = later_place zero (suc k) forms j m e in omega (arith, h)
later_place zero k (BeginsCatch all types ∷ forms) zero m e = at_place k (BeginsCatch all types) m e
later_place zero k (BeginsCatch all types ∷ forms) (suc j) m e = let h = later_place zero (suc k) forms j m e in omega (arith, h)
later_place zero k (Ends ∷ forms) zero m e = at_place k Ends m e
later_place zero k (Ends ∷ forms) (suc j) m e = absurd cc
later_place zero k (Delegates ∷ forms) zero m e = at_place k Delegates m e
later_place zero k (Delegates ∷ forms) (suc j) m e = absurd cc
later_place (suc depth) k (BeginsElse ∷ forms) j m e = let h = later_place (suc depth) (suc k) forms j m e in omega (arith, h)
later_place (suc depth) k (BeginsCatch all types ∷ forms) j m e = let h = later_place (suc depth) (suc k) forms j m e in omega (arith, h)
later_place (suc depth) k (Ends ∷ forms) j m e = let h = later_place depth (suc k) forms j m e in omega (arith, h)
later_place (suc depth) k (Delegates ∷ forms) j m e = let h = later_place depth (suc k) forms j m e in omega (arith, h)

-- the row of the operator at a place holds there, and the state after it is before the next place
pub record RowHoldsAt (cx : Context) (code : List Operator) (s0 : State) (k : ℕ) (op : Operator) (f : Frame) (fs : List Frame) : Type 0 where
  pub pushed : List MaybeType
  pub holds : pushed_types cx op (heads (f ∷ fs)) (locals_set (f ∷ fs)) f ≡ Some pushed
  pub next : state_before cx code s0 (suc k) ≡ Some (after cx (op.row (heads (f ∷ fs))) f fs op.form pushed)

pub row_of_step : (cx : Context) (code : List Operator) (s0 : State) (k : ℕ) (op : Operator) (more : List Operator) (f : Frame) (fs : List Frame) (t : State) → drop k code ≡ op ∷ more → state_before cx code s0 k ≡ Some (open_state (f ∷ fs)) → step cx op (open_state (f ∷ fs)) ≡ Some t → RowHoldsAt cx code s0 k op f fs
row_of_step cx code s0 k op more f fs t d b e =
    let st = stepped cx op f fs [] t e in
    record {
      pushed = st.pushed;
      holds = st.holds;
      next = before_next cx code s0 k op (open_state (f ∷ fs)) t b (get_of_drop code k op more d) e ∙ ap Some st.leaves;
    }

-- where the rows up to a last place hold
module _ (cx : Context) (code : List Operator) (s0 : State) (last : ℕ) (rows : (k : ℕ) (op : Operator) (more : List Operator) (f : Frame) (fs : List Frame) → k ≤ last → drop k code ≡ op ∷ more → state_before cx code s0 k ≡ Some (open_state (f ∷ fs)) → RowHoldsAt cx code s0 k op f fs) where
  delimited : (ops : List Operator) (k : ℕ) (h : Head) (fs : List Frame) → drop k code ≡ ops → Delimited cx code s0 last ops k h fs
  delimited [] k h fs d inner kind own dead first_set b j m e w = absurd cc
  delimited (op ∷ ops) k h fs d [] kind own dead first_set b j m e w =
      let f = part kind h own dead first_set in
      let p = later_place 0 k (forms_of (op ∷ ops)) j m e in
      let a = rows k op ops f fs (omega (arith, p, w)) d b in
      delimited_here cx code s0 last ops k h fs (delimited ops (suc k) h fs (drop_next code k op ops d)) op.form (op.row (heads (f ∷ fs))) a.pushed kind own dead first_set a.next j m e w
  delimited (op ∷ ops) k h fs d (f ∷ inner) kind own dead first_set b j m e w =
      let gs = inner ++ part kind h own dead first_set ∷ fs in
      let p = later_place (suc (length inner)) k (forms_of (op ∷ ops)) j m e in
      let a = rows k op ops f gs (omega (arith, p, w)) d b in
      delimited_inside cx code s0 last ops k h fs (delimited ops (suc k) h fs (drop_next code k op ops d)) op.form (op.row (heads (f ∷ gs))) a.pushed f inner kind own dead first_set a.next j m e w

  -- of a frame that has just been opened, or a part that has just begun, at place b
  pub delimiter_within : (b : ℕ) (h : Head) (types : List ValType) (fs : List Frame) → state_before cx code s0 (suc b) ≡ Some (open_state (opened_frame h types ∷ fs)) → (j : ℕ) (m : Delimiter) → slice_get (delimiters code b) j ≡ Some m → m.place ≤ last → AfterDelimiter cx code s0 h fs m
  delimiter_within b h types fs e = delimited (drop (suc b) code) (suc b) h fs refl [] h.kind (stack_with (map Known types) []) false [] e

module _ (cx : Context) (code : List Operator) (s0 : State) (accepted : IsAccepted cx code s0) where
  pub operator_at : (k : ℕ) (f : Frame) (fs : List Frame) → state_before cx code s0 k ≡ Some (open_state (f ∷ fs)) → (op : Operator) × (more : List Operator) × (drop k code ≡ op ∷ more)
  operator_at k f fs b = some_operator cx (drop k code) f fs (rest_accepted cx code s0 k _ b accepted)

  pub row_at : (k : ℕ) (op : Operator) (more : List Operator) (f : Frame) (fs : List Frame) → drop k code ≡ op ∷ more → state_before cx code s0 k ≡ Some (open_state (f ∷ fs)) → RowHoldsAt cx code s0 k op f fs
  row_at k op more f fs d b =
      let a = subst (λ ops. IsAccepted cx ops (open_state (f ∷ fs))) d (rest_accepted cx code s0 k _ b accepted) in
      let m = and_then_given (step cx op (open_state (f ∷ fs))) (λ v. state_before cx more v (length more)) _ a.1 in
      row_of_step cx code s0 k op more f fs m.0 d b m.1

  -- of a frame that has just been opened, or a part that has just begun, at place b
  pub after_delimiter : (b : ℕ) (h : Head) (types : List ValType) (fs : List Frame) → state_before cx code s0 (suc b) ≡ Some (open_state (opened_frame h types ∷ fs)) → (j : ℕ) (m : Delimiter) → slice_get (delimiters code b) j ≡ Some m → AfterDelimiter cx code s0 h fs m
  after_delimiter b h types fs e j m g =
      delimiter_within cx code s0 m.place (λ k op more f fs' w d b'. row_at k op more f fs' d b') b h types fs e j m g (omega arith)

  -- ---- an `if` without `else`
  abbrev Balanced : List Operator → ℕ → Head → List Frame → Type 0
  Balanced ops k h fs =
      (inner : List Frame) (own : List MaybeType) (dead : Bool) (first_set : List ℕ) → state_before cx code s0 k ≡ Some (open_state (inner ++ part If h own dead first_set ∷ fs)) → has_no_else (delimiters_from (length inner) k (forms_of ops)) ≡ true → all_fit cx (map Known (params cx h)) (results cx h) ≡ true

  balanced_here : (ops : List Operator) (k : ℕ) (h : Head) (fs : List Frame) → Balanced ops (suc k) h fs → (form : Form) (r : Row) (hs : List Head) (set : List ℕ) (pushed : List MaybeType) (own : List MaybeType) (dead : Bool) (first_set : List ℕ) → pushed_by_form cx r hs set (part If h own dead first_set) form ≡ Some pushed → state_before cx code s0 (suc k) ≡ Some (after cx r (part If h own dead first_set) fs form pushed) → has_no_else (delimiters_from 0 k (form ∷ forms_of ops)) ≡ true → all_fit cx (map Known (params cx h)) (results cx h) ≡ true
  balanced_here ops k h fs ih Stays r hs set pushed own dead first_set p b e = ih [] _ _ _ b e
  balanced_here ops k h fs ih (Opens o) r hs set pushed own dead first_set p b e = ih (opened_frame o (params cx o) ∷ []) _ _ _ b e
  balanced_here ops k h fs ih BeginsElse r hs set pushed own dead first_set p b e = cc
  balanced_here ops k h fs ih (BeginsCatch c types) r hs set pushed own dead first_set p b e =
      let g = guard_some _ _ _ p in
      let i = and_true r.premise _ g.0 in
      cc
  balanced_here ops k h fs ih Ends r hs set pushed own dead first_set p b e =
      let g = guard_some _ _ _ p in
      let i = and_true r.premise _ g.0 in
      (and_true _ _ i.1).0
  balanced_here ops k h fs ih Delegates r hs set pushed own dead first_set p b e =
      let g = guard_some _ _ _ p in
      let i = and_true r.premise _ g.0 in
      cc

  balanced_inside : (ops : List Operator) (k : ℕ) (h : Head) (fs : List Frame) → Balanced ops (suc k) h fs → (form : Form) (r : Row) (pushed : List MaybeType) (f : Frame) (inner : List Frame) (own : List MaybeType) (dead : Bool) (first_set : List ℕ) → state_before cx code s0 (suc k) ≡ Some (after cx r f (inner ++ part If h own dead first_set ∷ fs) form pushed) → has_no_else (delimiters_from (suc (length inner)) k (form ∷ forms_of ops)) ≡ true → all_fit cx (map Known (params cx h)) (results cx h) ≡ true
  balanced_inside ops k h fs ih Stays r pushed f inner own dead first_set b e = ih (frame_after cx r _ pushed f ∷ inner) own dead first_set b e
  balanced_inside ops k h fs ih (Opens o) r pushed f inner own dead first_set b e = ih (opened_frame o (params cx o) ∷ frame_under r f ∷ inner) own dead first_set b e
  balanced_inside ops k h fs ih BeginsElse r pushed f inner own dead first_set b e = ih (opened_frame (head_with_kind Else f.head) (params cx f.head) ∷ inner) own dead first_set b e
  balanced_inside ops k h fs ih (BeginsCatch c types) r pushed f inner own dead first_set b e = ih (opened_frame (head_with_kind (catch_kind c) f.head) types ∷ inner) own dead first_set b e
  balanced_inside ops k h fs ih Ends r pushed f [] own dead first_set b e = ih [] _ dead first_set b e
  balanced_inside ops k h fs ih Ends r pushed f (g ∷ inner) own dead first_set b e = ih (frame_with (map Known (results cx f.head)) g ∷ inner) own dead first_set b e
  balanced_inside ops k h fs ih Delegates r pushed f [] own dead first_set b e = ih [] _ dead first_set b e
  balanced_inside ops k h fs ih Delegates r pushed f (g ∷ inner) own dead first_set b e = ih (frame_with (map Known (results cx f.head)) g ∷ inner) own dead first_set b e

  pub still_open : (k : ℕ) (f : Frame) (fs : List Frame) → drop k code ≡ [] → state_before cx code s0 k ≡ Some (open_state (f ∷ fs)) → ⊥
  still_open k f fs d b = let o = operator_at k f fs b in let e : [] ≡ o.0 ∷ o.1 = sym d ∙ o.2 in cc

  balanced : (ops : List Operator) (k : ℕ) (h : Head) (fs : List Frame) → drop k code ≡ ops → Balanced ops k h fs
  balanced [] k h fs d [] own dead first_set b e = absurd (still_open k _ _ d b)
  balanced [] k h fs d (f ∷ inner) own dead first_set b e = absurd (still_open k _ _ d b)
  balanced (op ∷ ops) k h fs d [] own dead first_set b e =
      let f = part If h own dead first_set in
      let a = row_at k op ops f fs d b in
      balanced_here ops k h fs (balanced ops (suc k) h fs (drop_next code k op ops d)) op.form (op.row (heads (f ∷ fs))) (heads (f ∷ fs)) (locals_set (f ∷ fs)) a.pushed own dead first_set a.holds a.next e
  balanced (op ∷ ops) k h fs d (f ∷ inner) own dead first_set b e =
      let gs = inner ++ part If h own dead first_set ∷ fs in
      let a = row_at k op ops f gs d b in
      balanced_inside ops k h fs (balanced ops (suc k) h fs (drop_next code k op ops d)) op.form (op.row (heads (f ∷ gs))) a.pushed f inner own dead first_set a.next e

  -- an `if` at place b that no `else` belongs to has its parameters below its results
  pub if_balanced : (b : ℕ) (h : Head) (types : List ValType) (fs : List Frame) → is_if h.kind ≡ true → state_before cx code s0 (suc b) ≡ Some (open_state (opened_frame h types ∷ fs)) → has_no_else (delimiters code b) ≡ true → all_fit cx (map Known (params cx h)) (results cx h) ≡ true
  if_balanced b h types fs i e w =
      let e' = subst (λ kind. state_before cx code s0 (suc b) ≡ Some (open_state (part kind h (stack_with (map Known types) []) false [] ∷ fs))) (kind_is_if h.kind i) e in
      balanced (drop (suc b) code) (suc b) h fs refl [] (stack_with (map Known types) []) false [] e' w
