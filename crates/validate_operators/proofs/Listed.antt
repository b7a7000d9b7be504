-- One operator of a list further.
use Rattle.std.proofs.Common.{add-one, is_none, ◌||◌, ◌&&◌, ◌≡◌, ◌≢◌, ℕ, zero, suc, ◌+◌, ◌<◌, ◌⊎◌, inl, inr, Bool, true, false, List, [], ◌∷◌, ◌++◌, map, length, drop, get_or, slice_get, Option, Some, None, Result, Ok, Err, IfErr, refl, sym, ap, ◌∙◌, subst, arith, length-append}
use Rattle.std.specs.Option.{option_map}
use Rattle.std.proofs.lemmas.List.{drop_more}
use Rattle.validate_resources.specs.Context.{ModuleContext, IsLawful}
use Rattle.validate_types.specs.ErrorValue.{ErrorValue}
use Rattle.validate_visit.specs.Order.{nesting, is_if, is_try, may_catch, is_ordered_from, may_stand, parts_after}
use Rattle.validate_visit.specs.declared.frame.BlockType.{BlockType}
use Rattle.validate_visit.specs.declared.frame.FrameKind.{FrameKind}
use Rattle.validate_visit.specs.declared.op.Op.{Op}
use Rattle.validation_rules.specs.Context.{ValType, Context}
use Rattle.validation_rules.specs.Fits.{MaybeType}
use Rattle.validation_rules.specs.Order.{nesting_of}
use Rattle.validation_rules.specs.Rows.{results, Form, Stays, Opens, BeginsElse, BeginsCatch, Ends, Delegates, Row, Operator}
use Rattle.validation_rules.specs.Static.{Frame, State, heads, state_after_exit, state_after, open_frames, step, step_in, state_before, IsAccepted, start, operand_count, frame_count}
use Rattle.validation_rules.specs.Operators.{operator, operators}
use Rattle.validation_rules.proofs.Below.{and_true}
use Rattle.validation_rules.proofs.Order.{operator_nests}
use Rattle.validation_rules.proofs.Steps.{stepped, before_then}
use Rattle.validate_stacks.specs.Pops.{IsKept}
use Rattle.validate_stacks.specs.State.{BodyState, body_context, IsValidBody}
use Rattle.validate_stacks.specs.AtOnce.{MeetsOrUnchanged}
use Rattle.validate_stacks.specs.Attempts.{Stacked, is_quiet}
use Rattle.validate_stacks.specs.Visits.{MayVisit, Meets}
use Rattle.validate_stacks.proofs.AtOnce.{same_at_once}
use Rattle.validate_stacks.proofs.Validity.{kept_on}
use Rattle.type_safety.proofs.Bodies.{body_safety, body_heights}
use Rattle.validate_operators.specs.Runs.{IsAcceptedBody, without_offsets, body_operators, body_before, heights_of, AreHeightsAfter, IsRefusedAt, IsSafeFrom}

-- ---- the order of the rest

abbrev pub kinds : List Frame → List FrameKind
kinds fs = map (λ (f : Frame). f.head.kind) fs

given_kinds : (left : List MaybeType) (types : List ValType) (fs : List Frame) → kinds (state_after_exit left types fs).frames ≡ kinds fs
given_kinds left types [] = refl
given_kinds left types (f ∷ fs) = refl

order_after : (left : List MaybeType) (cx : Context) (row : Row) (f : Frame) (fs : List Frame) (form : Form) (pushed : List MaybeType) (next : List FrameKind → Bool) → (may_stand (f.head.kind ∷ (kinds fs)) (nesting_of form) && next (parts_after (f.head.kind ∷ (kinds fs)) (nesting_of form))) ≡ true → next (kinds (state_after cx row (open_frames f fs left) form pushed).frames) ≡ true
order_after left cx row f fs Stays pushed next h = h
order_after left cx row f fs (Opens o) pushed next h = h
order_after left cx row f fs BeginsElse pushed next h = (and_true (is_if f.head.kind) _ h).1
order_after left cx row f fs (BeginsCatch all types) pushed next h = (and_true (may_catch f.head.kind) _ h).1
order_after left cx row f fs Ends pushed next h = subst (λ ks. next ks ≡ true) (sym (given_kinds left (results cx f.head) fs)) h
order_after left cx row f fs Delegates pushed next h = subst (λ ks. next ks ≡ true) (sym (given_kinds left (results cx f.head) fs)) (and_true (is_try f.head.kind) _ h).1

-- the rest of a list, in order below the open frames
abbrev pub IsOrderedBelow : List Frame → List (Op × ℕ) → Type 0
IsOrderedBelow fs ops = is_ordered_from (kinds fs) (map nesting (without_offsets ops)) ≡ true

pub some_open : (fs : List Frame) (p : Op × ℕ) (ops : List (Op × ℕ)) → IsOrderedBelow fs (p ∷ ops) → fs ≢ []
some_open [] p ops h e = absurd cc
some_open (f ∷ fs) p ops h e = absurd cc

pub ordered_next : (cx : Context) (s u : State) (p : Op × ℕ) (ops : List (Op × ℕ)) → step cx (operator cx p.0) s ≡ Some u → IsOrderedBelow s.frames (p ∷ ops) → IsOrderedBelow u.frames ops
ordered_next cx s u p ops e h = by s.frames refl
  where
    by : (fs : List Frame) → s.frames ≡ fs → IsOrderedBelow u.frames ops
    by [] k = absurd (some_open s.frames p ops h k)
    by (f ∷ fs) k =
        let st = stepped cx (operator cx p.0) f fs s.left u (subst (λ gs. step_in cx (operator cx p.0) gs s.left ≡ Some u) k e) in
        let here : IsOrderedBelow (f ∷ fs) (p ∷ ops) = subst (λ gs. IsOrderedBelow gs (p ∷ ops)) k h in
        let formed : (may_stand (f.head.kind ∷ (kinds fs)) (nesting_of (operator cx p.0).form) && is_ordered_from (parts_after (f.head.kind ∷ (kinds fs)) (nesting_of (operator cx p.0).form)) (map nesting (without_offsets ops))) ≡ true =
        subst (λ n. (may_stand (f.head.kind ∷ (kinds fs)) n && is_ordered_from (parts_after (f.head.kind ∷ (kinds fs)) n) (map nesting (without_offsets ops))) ≡ true) (sym (operator_nests cx p.0)) here in
        subst (λ (w : State). IsOrderedBelow w.frames ops) (sym st.leaves)
        (order_after s.left cx ((operator cx p.0).row (heads (f ∷ fs))) f fs (operator cx p.0).form st.pushed (λ js. is_ordered_from js (map nesting (without_offsets ops))) formed)

-- ---- what a visit answered

step_some : (v w : BodyState) (o : Option State) → option_map (λ (s : State). record v { present = s }) o ≡ Some w → o ≡ Some w.present
step_some v w None h = absurd cc
step_some v w (Some s) h = let e : record v { present = s } ≡ w = cc in ap (λ (x : BodyState). Some x.present) e

step_none : (v : BodyState) (o : Option State) → option_map (λ (s : State). record v { present = s }) o ≡ None → o ≡ None
step_none v None h = refl
step_none v (Some s) h = absurd cc

pub visited : (md : ModuleContext) (op : Op) (offset : ℕ) (v w : BodyState) (u : Unit {0}) → Meets md (λ cx. operator cx op) offset v (Ok u) w → step (body_context md v) (operator (body_context md v) op) v.present ≡ Some w.present
unfolding Meets
visited md op offset v w u m = step_some v w (step (body_context md v) (operator (body_context md v) op) v.present) m.accepted

pub not_visited : (md : ModuleContext) (op : Op) (offset : ℕ) (v w : BodyState) (e : ErrorValue) → Meets md (λ cx. operator cx op) offset v (Err e) w → e.wants_memory ≡ false → step (body_context md v) (operator (body_context md v) op) v.present ≡ None
unfolding Meets
not_visited md op offset v w e m f = step_none v (step (body_context md v) (operator (body_context md v) op) v.present) (m.refused f)

pub visit_offset : (md : ModuleContext) (op : Op) (offset : ℕ) (v w : BodyState) (e : ErrorValue) → Meets md (λ cx. operator cx op) offset v (Err e) w → e.offset ≡ offset
unfolding Meets
visit_offset md op offset v w e m = m.at_offset

pub visit_at : (md : ModuleContext) (op : Context → Operator) (offset : ℕ) (v w : BodyState) (r : Result (Unit {0}) ErrorValue) → Meets md op offset v r w → IfErr r (λ e. e.offset ≡ offset)
unfolding Meets
visit_at md op offset v w r m = m.at_offset

pub visit_valid : (md : ModuleContext) (op : Context → Operator) (offset : ℕ) (v w : BodyState) (r : Result (Unit {0}) ErrorValue) → Meets md op offset v r w → IsValidBody md w
unfolding Meets
visit_valid md op offset v w r m = m.valid

pub visit_kept : (md : ModuleContext) (op : Context → Operator) (offset : ℕ) (v w : BodyState) (r : Result (Unit {0}) ErrorValue) → Meets md op offset v r w → IsKept v w
unfolding Meets
visit_kept md op offset v w r m = m.kept

-- where nothing passed at once, the check is of the state before
pub row_before : (md : ModuleContext) (op : Context → Operator) (offset : ℕ) (v w : Stacked) (b : Bool) (r : Result (Unit {0}) ErrorValue) (u : BodyState) → MeetsOrUnchanged md op v b w → b ≡ false → Meets md op offset w.body r u → Meets md op offset v.body r u
row_before md op offset v w b r u m h row = subst (λ (x : Stacked). Meets md op offset x.body r u) (same_at_once md op v w b m h) row

-- the state after it, by another name
pub row_after : (md : ModuleContext) (op : Context → Operator) (offset : ℕ) (v u w : BodyState) (r : Result (Unit {0}) ErrorValue) → w ≡ u → Meets md op offset v r u → Meets md op offset v r w
row_after md op offset v u w r e row = subst (Meets md op offset v r) (sym e) row

-- ---- the operator at a place

pub at_place : (ops : List (Op × ℕ)) (i : ℕ) (d : Op × ℕ) → i < length ops → slice_get ops i ≡ Some (get_or ops i d)
at_place [] i d h = absurd (omega (arith, h))
at_place (p ∷ ops) zero d h = refl
at_place (p ∷ ops) (suc i) d h = at_place ops i d (omega (arith, h))

code_at : (cx : Context) (ops : List (Op × ℕ)) (i : ℕ) (d : Op × ℕ) → i < length ops → slice_get (operators cx (without_offsets ops)) i ≡ Some (operator cx (get_or ops i d).0)
code_at cx [] i d h = absurd (omega (arith, h))
code_at cx (p ∷ ops) zero d h = refl
code_at cx (p ∷ ops) (suc i) d h = code_at cx ops i d (omega (arith, h))

length-body : (cx : Context) (ops : List (Op × ℕ)) → length (operators cx (without_offsets ops)) ≡ length ops
length-body cx [] = refl
length-body cx (p ∷ ops) = ap suc (length-body cx ops)

-- where only operands and frames changed, an operator's step is the same
same_step : (md : ModuleContext) (v u : BodyState) (op : Op) (s : State) → IsKept v u → step (body_context md u) (operator (body_context md u) op) s ≡ step (body_context md v) (operator (body_context md v) op) s
same_step md v u op s k = ap (λ (w : BodyState). step (body_context md w) (operator (body_context md w) op) s) k

pair_is : (p : Op × ℕ) (n : ℕ) → n ≡ p.1 → p ≡ (p.0, n)
pair_is p n h = ap (λ m. (p.0, m)) (sym h)

module _ (md : ModuleContext) (v : BodyState) (ops : List (Op × ℕ)) (i : ℕ) (d : Op × ℕ) (h : i < length ops) where
  -- its row, on the state before it
  row_there : (s : State) → body_before md v ops i ≡ Some s → body_before md v ops (suc i) ≡ step (body_context md v) (operator (body_context md v) (get_or ops i d).0) s
  row_there s r = before_then (body_context md v) (body_operators md v ops) v.present i (operator (body_context md v) (get_or ops i d).0) s r (code_at (body_context md v) ops i d h)

  -- no memory was found at it
  pub refused_memory : (s : State) (e : ErrorValue) → body_before md v ops i ≡ Some s → e.offset ≡ (get_or ops i d).1 → e.wants_memory ≡ true → IsRefusedAt md v ops i e
  refused_memory s e r o m = record {
    operator = (get_or ops i d).0;
    at_offset = at_place ops i d h ∙ ap Some (pair_is (get_or ops i d) e.offset o);
    state = s;
    rows_before = r;
    row = λ f. (let clash : true ≡ false = sym m ∙ f in absurd cc);
  }

  -- it was visited and refused
  pub refused_row : (u w : BodyState) (e : ErrorValue) → IsKept v u → body_before md v ops i ≡ Some u.present → Meets md (λ cx. operator cx (get_or ops i d).0) (get_or ops i d).1 u (Err e) w → IsRefusedAt md v ops i e
  refused_row u w e k r m = record {
    operator = (get_or ops i d).0;
    at_offset = at_place ops i d h ∙ ap Some (pair_is (get_or ops i d) e.offset (visit_offset md (get_or ops i d).0 (get_or ops i d).1 u w e m));
    state = u.present;
    rows_before = r;
    row = λ f. row_there u.present r ∙ (sym (same_step md v u (get_or ops i d).0 u.present k) ∙ not_visited md (get_or ops i d).0 (get_or ops i d).1 u w e m f);
  }

  module _ (u w : BodyState) (x : Unit {0}) (k : IsKept v u) (r : body_before md v ops i ≡ Some u.present) (m : Meets md (λ cx. operator cx (get_or ops i d).0) (get_or ops i d).1 u (Ok x) w) where
    here : step (body_context md v) (operator (body_context md v) (get_or ops i d).0) u.present ≡ Some w.present
    here = sym (same_step md v u (get_or ops i d).0 u.present k) ∙ visited md (get_or ops i d).0 (get_or ops i d).1 u w x m

    -- it was accepted
    pub accepted_next : body_before md v ops (suc i) ≡ Some w.present
    accepted_next = row_there u.present r ∙ here

    pub ordered_on : IsOrderedBelow u.present.frames (drop i ops) → IsOrderedBelow w.present.frames (drop (i + 1) ops)
    ordered_on o =
        ordered_next (body_context md v) u.present w.present (get_or ops i d) (drop (i + 1) ops) here (subst (IsOrderedBelow u.present.frames) (drop_more ops i d h) o)

-- ---- heights

get_last : (xs : List (ℕ × ℕ)) (x : ℕ × ℕ) → slice_get (xs ++ x ∷ []) (length xs) ≡ Some x
get_last [] x = refl
get_last (y ∷ xs) x = get_last xs x

get_front : (xs : List (ℕ × ℕ)) (x : ℕ × ℕ) (k : ℕ) → k < length xs → slice_get (xs ++ x ∷ []) k ≡ slice_get xs k
get_front [] x k h = absurd (omega (arith, h))
get_front (y ∷ xs) x zero h = refl
get_front (y ∷ xs) x (suc k) h = get_front xs x k (omega (arith, h))

last_or_front : (k i : ℕ) → k < suc i → (k < i) ⊎ (k ≡ i)
last_or_front zero zero h = inr refl
last_or_front zero (suc i) h = inl (omega arith)
last_or_front (suc k) zero h = absurd (omega (arith, h))
last_or_front (suc k) (suc i) h = elim (last_or_front k i (omega (arith, h))) [ inl a ↦ inl (omega (arith, a)) | inr b ↦ inr (ap suc b) ]

-- the heights after one more operator
pub noted_next : (md : ModuleContext) (v : BodyState) (ops : List (Op × ℕ)) (i : ℕ) (hs hs' : List (ℕ × ℕ)) (u : State) (a b : ℕ) → AreHeightsAfter md v ops i hs → body_before md v ops (suc i) ≡ Some u → a ≡ operand_count u → b ≡ frame_count u → hs' ≡ hs ++ (a, b) ∷ [] → AreHeightsAfter md v ops (i + 1) hs'
noted_next md v ops i hs hs' u a b n r ea eb e =
    record {
      count = ap length e ∙ (length-append hs ((a, b) ∷ []) ∙ ap (λ m. m + 1) n.count);
      each = λ k s l t. ap (λ xs. slice_get xs k) e ∙ (elim (last_or_front k i (omega (arith, l))) [ inl f ↦ get_front hs (a, b) k (omega (arith, f, n.count)) ∙ n.each k s f t | inr q ↦ at_end k s q t ]);
    }
  where
    at_end : (k : ℕ) (s : State) → k ≡ i → body_before md v ops (suc k) ≡ Some s → slice_get (hs ++ (a, b) ∷ []) k ≡ Some (heights_of s)
    at_end k s q t =
        let same : Some s ≡ Some u = sym t ∙ (ap (λ j. body_before md v ops (suc j)) q ∙ r) in
        let su : s ≡ u = cc in
        let place : k ≡ length hs = q ∙ sym n.count in
        ap (λ j. slice_get (hs ++ (a, b) ∷ []) j) place ∙ (get_last hs (a, b) ∙ (ap (λ m. Some (m, b)) ea ∙ (ap (λ m. Some (operand_count u, m)) eb ∙ ap (λ (z : State). Some (heights_of z)) (sym su))))

-- ---- one operator further

pub record IsFurther (md : ModuleContext) (v : BodyState) (ops : List (Op × ℕ)) (i : ℕ) (w : BodyState) (hs : List (ℕ × ℕ)) : Type 0 where
  pub run : body_before md v ops i ≡ Some w.present
  pub valid : IsValidBody md w
  pub kept : IsKept v w
  pub ordered : IsOrderedBelow w.present.frames (drop i ops)
  pub noted : AreHeightsAfter md v ops i hs

pub further : (md : ModuleContext) (v : BodyState) (ops : List (Op × ℕ)) (i : ℕ) (d : Op × ℕ) → i < length ops → (u w : BodyState) (x : Unit {0}) → IsKept v u → body_before md v ops i ≡ Some u.present → IsOrderedBelow u.present.frames (drop i ops) → (hs hs' : List (ℕ × ℕ)) (a b : ℕ) → AreHeightsAfter md v ops i hs → a ≡ operand_count w.present → b ≡ frame_count w.present → hs' ≡ hs ++ (a, b) ∷ [] → Meets md (λ cx. operator cx (get_or ops i d).0) (get_or ops i d).1 u (Ok x) w → IsFurther md v ops (i + 1) w hs'
further md v ops i d h u w x k r o hs hs' a b n ea eb e m =
    let next = accepted_next md v ops i d h u w x k r m in
    record {
      run = rw add-one next;
      valid = visit_valid md _ _ u w _ m;
      kept = kept_on v u w k (visit_kept md _ _ u w _ m);
      ordered = ordered_on md v ops i d h u w x k r m o;
      noted = noted_next md v ops i hs hs' w.present a b n next ea eb e;
    }

-- an operator of the list may be visited
open_next : (fs : List Frame) (ops : List (Op × ℕ)) (i : ℕ) → i < length ops → IsOrderedBelow fs (drop i ops) → fs ≢ []
open_next fs [] i h o = absurd (omega (arith, h))
open_next fs (p ∷ ops) zero h o = some_open fs p ops o
open_next fs (p ∷ ops) (suc i) h o = open_next fs ops i (omega (arith, h)) o

pub may_visit_next : (md : ModuleContext) (v : BodyState) (ops : List (Op × ℕ)) (i : ℕ) (u : Stacked) → i < length ops → v.undone ≡ None → IsKept v u.body → IsValidBody md u.body → IsOrderedBelow u.body.present.frames (drop i ops) → MayVisit md u
may_visit_next md v ops i u h n k valid o = record {
  open_frame = open_next u.body.present.frames ops i h o;
  valid = valid;
  attempt = ap (λ p. is_none p || is_quiet u.phase) (ap (λ (x : BodyState). x.undone) k ∙ n);
}

-- ---- the end of the list

pub no_frames : (fs : List Frame) → length fs ≡ 0 → fs ≡ []
no_frames [] h = refl
no_frames (f ∷ fs) h = absurd (omega (arith, h))

-- all rows hold and no frame is open: the list is type safe
pub safe_list : (md : ModuleContext) (v w : BodyState) (ops : List (Op × ℕ)) (ty : BlockType) (i : ℕ) → IsLawful md → i ≡ length ops → body_before md v ops i ≡ Some w.present → w.present.frames ≡ [] → v.present ≡ start ty → IsSafeFrom md v ops ty
safe_list md v w ops ty i laws e r none s =
    let cx = body_context md v in
    let code = body_operators md v ops in
    let accepted : state_before cx code (start ty) (length code) ≡ Some (record { frames = []; left = w.present.left }) =
    ap (λ k. state_before cx code (start ty) k) (length-body cx ops ∙ sym e) ∙ (ap (λ (q : State). state_before cx code q i) (sym s) ∙ (r ∙ ap (λ fs. Some (record { frames = fs; left = w.present.left })) none)) in
    record {
      type_safe = body_safety md laws cx (without_offsets ops) ty refl (w.present.left, accepted);
      heights = body_heights md laws cx (without_offsets ops) ty refl (w.present.left, accepted);
    }

-- the same of any list whose rows all hold
pub safe_accepted : (md : ModuleContext) (v : BodyState) (ops : List (Op × ℕ)) (ty : BlockType) → IsLawful md → v.present ≡ start ty → IsAcceptedBody md v ops → IsSafeFrom md v ops ty
safe_accepted md v ops ty laws s a =
    let cx = body_context md v in
    let code = body_operators md v ops in
    let accepted = subst (λ q. IsAccepted cx code q) s a in
    record {
      type_safe = body_safety md laws cx (without_offsets ops) ty refl accepted;
      heights = body_heights md laws cx (without_offsets ops) ty refl accepted;
    }
