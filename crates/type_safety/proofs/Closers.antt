-- Where all rows hold up to the outermost `end`, whatever began has a closer.
use Rattle.std.proofs.Common.{◌≡◌, ℕ, suc, Bool, false, List, [], ◌∷◌, ◌++◌, length, map, drop, Some, refl, slice_get}
use Rattle.std.specs.Prelude.{IsTrue}
use Rattle.validation_rules.specs.Context.{ValType, Context}
use Rattle.validation_rules.specs.Fits.{MaybeType, Known}
use Rattle.validation_rules.specs.Rows.{FrameKind, Else, Head, params, results, Form, Stays, Opens, BeginsElse, BeginsCatch, Ends, Delegates, Row, Operator, catch_kind}
use Rattle.validation_rules.specs.Static.{Frame, State, stack_with, heads, opened_frame, head_with_kind, frame_after, frame_under, frame_with, open_state, state_before, IsAccepted}
use Rattle.validation_rules.proofs.Steps.{after, drop_next}
use Rattle.type_safety.specs.Machine.{Delimiter, delimiter, delimiters_from, forms_of, is_closing_form, IsCloser}
use Rattle.type_safety.proofs.Delimiters.{part, row_at, still_open}

-- a closer is among these delimiters
record HasCloser (ds : List Delimiter) : Type 0 where
  place : ℕ
  form : Form
  index : ℕ
  is : slice_get ds index ≡ Some (delimiter place form)
  closes : IsTrue (is_closing_form form)

behind : (d : Delimiter) (ds : List Delimiter) → HasCloser ds → HasCloser (d ∷ ds)
behind d ds h = record { place = h.place; form = h.form; index = suc h.index; is = h.is; closes = h.closes }

module _ (cx : Context) (code : List Operator) (s0 : State) (accepted : IsAccepted cx code s0) where
  -- where a frame of the head h stands open outside `inner`, before place k, a closer of it follows
  abbrev Closed : ℕ → List Operator → Head → List Frame → Type 0
  Closed k ops h fs =
      (inner : List Frame) (kind : FrameKind) (own : List MaybeType) (dead : Bool) (first_set : List ℕ) → state_before cx code s0 k ≡ Some (open_state (inner ++ part kind h own dead first_set ∷ fs)) → HasCloser (delimiters_from (length inner) k (forms_of ops))

  -- one operator in the frame itself
  closed_here : (ops : List Operator) (k : ℕ) (h : Head) (fs : List Frame) → Closed (suc k) ops h fs → (form : Form) (r : Row) (pushed : List MaybeType) (kind : FrameKind) (own : List MaybeType) (dead : Bool) (first_set : List ℕ) → state_before cx code s0 (suc k) ≡ Some (after cx r (part kind h own dead first_set) fs form pushed) → HasCloser (delimiters_from 0 k (form ∷ forms_of ops))
  closed_here ops k h fs ih Stays r pushed kind own dead first_set b = ih [] kind _ _ _ b
  closed_here ops k h fs ih (Opens o) r pushed kind own dead first_set b = ih (opened_frame o (params cx o) ∷ []) kind _ _ _ b
  closed_here ops k h fs ih BeginsElse r pushed kind own dead first_set b = behind _ _ (ih [] Else _ _ _ b)
  closed_here ops k h fs ih (BeginsCatch c types) r pushed kind own dead first_set b = behind _ _ (ih [] (catch_kind c) _ _ _ b)
  closed_here ops k h fs ih Ends r pushed kind own dead first_set b = record { place = k; form = Ends; index = 0; is = refl; closes = refl }
  closed_here ops k h fs ih Delegates r pushed kind own dead first_set b = record { place = k; form = Delegates; index = 0; is = refl; closes = refl }

  -- one operator in a frame inside it
  closed_inside : (ops : List Operator) (k : ℕ) (h : Head) (fs : List Frame) → Closed (suc k) ops h fs → (form : Form) (r : Row) (pushed : List MaybeType) (f : Frame) (inner : List Frame) (kind : FrameKind) (own : List MaybeType) (dead : Bool) (first_set : List ℕ) → state_before cx code s0 (suc k) ≡ Some (after cx r f (inner ++ part kind h own dead first_set ∷ fs) form pushed) → HasCloser (delimiters_from (suc (length inner)) k (form ∷ forms_of ops))
  closed_inside ops k h fs ih Stays r pushed f inner kind own dead first_set b = ih (frame_after cx r _ pushed f ∷ inner) kind own dead first_set b
  closed_inside ops k h fs ih (Opens o) r pushed f inner kind own dead first_set b = ih (opened_frame o (params cx o) ∷ frame_under r f ∷ inner) kind own dead first_set b
  closed_inside ops k h fs ih BeginsElse r pushed f inner kind own dead first_set b = ih (opened_frame (head_with_kind Else f.head) (params cx f.head) ∷ inner) kind own dead first_set b
  closed_inside ops k h fs ih (BeginsCatch c types) r pushed f inner kind own dead first_set b = ih (opened_frame (head_with_kind (catch_kind c) f.head) types ∷ inner) kind own dead first_set b
  closed_inside ops k h fs ih Ends r pushed f [] kind own dead first_set b = ih [] kind _ dead first_set b
  closed_inside ops k h fs ih Ends r pushed f (g ∷ inner) kind own dead first_set b = ih (frame_with (map Known (results cx f.head)) g ∷ inner) kind own dead first_set b
  closed_inside ops k h fs ih Delegates r pushed f [] kind own dead first_set b = ih [] kind _ dead first_set b
  closed_inside ops k h fs ih Delegates r pushed f (g ∷ inner) kind own dead first_set b = ih (frame_with (map Known (results cx f.head)) g ∷ inner) kind own dead first_set b

  closed : (ops : List Operator) (k : ℕ) (h : Head) (fs : List Frame) → drop k code ≡ ops → Closed k ops h fs
  closed [] k h fs d [] kind own dead first_set b = absurd (still_open cx code s0 accepted k _ _ d b)
  closed [] k h fs d (f ∷ inner) kind own dead first_set b = absurd (still_open cx code s0 accepted k _ _ d b)
  closed (op ∷ ops) k h fs d [] kind own dead first_set b =
      let f = part kind h own dead first_set in
      let a = row_at cx code s0 accepted k op ops f fs d b in
      closed_here ops k h fs (closed ops (suc k) h fs (drop_next code k op ops d)) op.form (op.row (heads (f ∷ fs))) a.pushed kind own dead first_set a.next
  closed (op ∷ ops) k h fs d (f ∷ inner) kind own dead first_set b =
      let gs = inner ++ part kind h own dead first_set ∷ fs in
      let a = row_at cx code s0 accepted k op ops f gs d b in
      closed_inside ops k h fs (closed ops (suc k) h fs (drop_next code k op ops d)) op.form (op.row (heads (f ∷ gs))) a.pushed f inner kind own dead first_set a.next

  -- of a frame that has just been opened, or a part that has just begun, at place b
  pub closer_of : (b : ℕ) (h : Head) (types : List ValType) (fs : List Frame) → state_before cx code s0 (suc b) ≡ Some (open_state (opened_frame h types ∷ fs)) → (c : ℕ) × IsCloser code b c
  closer_of b h types fs e =
      let n = closed (drop (suc b) code) (suc b) h fs refl [] h.kind (stack_with (map Known types) []) false [] e in
      (n.place, (n.form, (n.index, n.is), n.closes))
