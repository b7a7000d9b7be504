-- A block leaves the locals that are set as they were at its opening, as far as the rows hold.
use Rattle.std.proofs.Common.{◌≡◌, ◌≤◌, ℕ, zero, suc, List, [], ◌∷◌, Some, refl, sym, ap, arith, ◌∙◌, subst, drop, slice_get}
use Rattle.std.specs.Option.{option_and_then}
use Rattle.validation_rules.specs.Context.{BlockType, Context}
use Rattle.validation_rules.specs.Fits.{MaybeType}
use Rattle.validation_rules.specs.Rows.{Form, Stays, Opens, BeginsElse, BeginsCatch, Ends, Delegates, params, Row, Operator}
use Rattle.validation_rules.specs.Static.{Frame, State, heads, frame_under, opened_frame, open_state, start, step, state_before}
use Rattle.validation_rules.proofs.Steps.{after, some_injective, and_then_given, get_of_drop, before_then, stepped}
use Rattle.type_safety.specs.Machine.{delimiter, forms_of}
use Rattle.type_safety.specs.Blocks.{IsBlock, IsAsBefore, BlocksKeepLocals}
use Rattle.type_safety.proofs.Delimiters.{RowHoldsAt, row_of_step, later_place, delimiter_within}
use Rattle.type_safety.proofs.Safety.{after_closer}

-- ---- the states of a body: frames are open and nothing is left, or no frame is open

pub data IsBodyState (s : State) : Type 0 where
  is_open : (fs : List Frame) → s ≡ open_state fs → IsBodyState s
  is_closed : s.frames ≡ [] → IsBodyState s

given_state : (cx : Context) (f : Frame) (fs : List Frame) (r : Row) (form : Form) (pushed : List MaybeType) → IsBodyState (after cx r f fs form pushed)
given_state cx f fs r Stays pushed = is_open _ refl
given_state cx f fs r (Opens h) pushed = is_open _ refl
given_state cx f fs r BeginsElse pushed = is_open _ refl
given_state cx f fs r (BeginsCatch all types) pushed = is_open _ refl
given_state cx f [] r Ends pushed = is_closed refl
given_state cx f (g ∷ gs) r Ends pushed = is_open _ refl
given_state cx f [] r Delegates pushed = is_closed refl
given_state cx f (g ∷ gs) r Delegates pushed = is_open _ refl

-- an operator is taken only where a frame is open
open_frame : (cx : Context) (op : Operator) (s u : State) → IsBodyState s → step cx op s ≡ Some u → (f : Frame) × (fs : List Frame) × (s ≡ open_state (f ∷ fs))
open_frame cx op s u (is_open (f ∷ fs) is) e = (f, fs, is)
open_frame cx op s u (is_open [] is) e = let d = subst (λ (v : State). step cx op v ≡ Some u) is e in absurd cc
open_frame cx op s u (is_closed is) e = absurd cc

step_state : (cx : Context) (op : Operator) (s u : State) → IsBodyState s → step cx op s ≡ Some u → IsBodyState u
step_state cx op s u i e =
    let o = open_frame cx op s u i e in
    let st = stepped cx op o.0 o.1 [] u (subst (λ (v : State). step cx op v ≡ Some u) o.2 e) in
    subst IsBodyState (sym st.leaves) (given_state cx o.0 o.1 (op.row (heads (o.0 ∷ o.1))) op.form st.pushed)

pub before_in_body : (cx : Context) (code : List Operator) (s : State) (k : ℕ) (t : State) → IsBodyState s → state_before cx code s k ≡ Some t → IsBodyState t
before_in_body cx code s zero t i b = subst IsBodyState (some_injective s t b) i
before_in_body cx [] s (suc k) t i b = absurd cc
before_in_body cx (op ∷ code) s (suc k) t i b =
    let m = and_then_given (step cx op s) (λ v. state_before cx code v k) t b in
    before_in_body cx code m.0 k t (step_state cx op s m.0 i m.1) m.2

-- where the rows before a place hold, so do those before an earlier one
pub before_earlier : (cx : Context) (code : List Operator) (s : State) (n k : ℕ) (t : State) → k ≤ n → state_before cx code s n ≡ Some t → (u : State) × (state_before cx code s k ≡ Some u)
before_earlier cx code s n zero t h b = (s, refl)
before_earlier cx code s zero (suc k) t h b = absurd (omega (arith, h))
before_earlier cx [] s (suc n) (suc k) t h b = absurd cc
before_earlier cx (op ∷ code) s (suc n) (suc k) t h b =
    let m = and_then_given (step cx op s) (λ v. state_before cx code v n) t b in
    let r = before_earlier cx code m.0 n k t (omega (arith, h)) m.2 in
    (r.0, ap (λ o. option_and_then (λ v. state_before cx code v k) o) m.1 ∙ r.1)

-- ---- the law

module _ (cx : Context) (code : List Operator) (ty : BlockType) (n : ℕ) (t : State) (holds : state_before cx code (start ty) (suc n) ≡ Some t) where
  -- the row of an operator up to place n holds
  rows_hold : (k : ℕ) (op : Operator) (more : List Operator) (f : Frame) (fs : List Frame) → k ≤ n → drop k code ≡ op ∷ more → state_before cx code (start ty) k ≡ Some (open_state (f ∷ fs)) → RowHoldsAt cx code (start ty) k op f fs
  rows_hold k op more f fs h d b =
      let u = before_earlier cx code (start ty) (suc n) (suc k) t (omega (arith, h)) holds in
      row_of_step cx code (start ty) k op more f fs u.0 d b (sym (before_then cx code (start ty) k op (open_state (f ∷ fs)) b (get_of_drop code k op more d)) ∙ u.1)

drop_of_get : (code : List Operator) (k : ℕ) (op : Operator) → slice_get code k ≡ Some op → (more : List Operator) × (drop k code ≡ op ∷ more)
drop_of_get [] k op e = absurd cc
drop_of_get (x ∷ code) zero op e = (code, ap (λ o. o ∷ code) (some_injective x op e))
drop_of_get (x ∷ code) (suc k) op e = drop_of_get code k op e

-- the opener's step, and what follows its closer
block_keeps_locals : (cx : Context) (code : List Operator) (ty : BlockType) (k c : ℕ) (b : IsBlock code k c) (f : Frame) (fs : List Frame) (t : State) → state_before cx code (start ty) (suc c) ≡ Some t → state_before cx code (start ty) k ≡ Some (open_state (f ∷ fs)) → k ≤ c → IsAsBefore cx code ty k (suc c)
block_keeps_locals cx code ty k c b f fs t holds at h =
    let d = drop_of_get code k b.opener b.is_opener in
    let row = rows_hold cx code ty c t holds k b.opener d.0 f fs h d.1 at in
    let r = b.opener.row (heads (f ∷ fs)) in
    let inside : state_before cx code (start ty) (suc k) ≡ Some (open_state (opened_frame b.head (params cx b.head) ∷ frame_under r f ∷ fs)) =
    row.next ∙ ap (λ x. Some (after cx r f fs x row.pushed)) b.opens in
    let follows = delimiter_within cx code (start ty) c (rows_hold cx code ty c t holds) k b.head (params cx b.head) (frame_under r f ∷ fs) inside b.closes.1.0 (delimiter c b.closes.0) b.closes.1.1 (omega arith) in
    record {
      opening = open_state (f ∷ fs);
      is_before = at;
      closed = _;
      is_after = after_closer cx code ty b.head (frame_under r f ∷ fs) c b.closes.0 b.closes.2 follows;
      same_heads = refl;
      same_locals = refl;
    }

pub blocks_keep_locals : (cx : Context) → BlocksKeepLocals cx
blocks_keep_locals cx code ty k c b rows =
    let p = later_place 0 (suc k) (forms_of (drop (suc k) code)) b.closes.1.0 (delimiter c b.closes.0) b.closes.1.1 in
    let h : k ≤ c = omega (arith, p) in
    let s = before_earlier cx code (start ty) (suc c) k rows.0 (omega (arith, h)) rows.1 in
    let u = before_earlier cx code (start ty) (suc c) (suc k) rows.0 (omega (arith, h)) rows.1 in
    let taken = sym (before_then cx code (start ty) k b.opener s.0 s.1 b.is_opener) ∙ u.1 in
    let o = open_frame cx b.opener s.0 u.0 (before_in_body cx code (start ty) k s.0 (is_open _ refl) s.1) taken in
    block_keeps_locals cx code ty k c b o.0 o.1 rows.0 rows.1 (s.1 ∙ ap Some o.2) h
