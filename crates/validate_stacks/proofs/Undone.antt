-- What a pending attempt comes back to: every change of the flat stacks with its entry in the log leaves it,
-- and it can still be taken back.
use Rattle.std.proofs.Common.{◌≡◌, ℕ, zero, suc, ◌-◌, ◌<◌, ◌≤◌, List, [], ◌∷◌, ◌++◌, Bool, true, false, not}
use Rattle.std.proofs.Common.{◌||◌, if◌then◌else◌, Option, Some, None, IsSome, MatchOption, length, take}
use Rattle.std.proofs.Common.{drop, slice_get, refl, sym, ◌∙◌, ap, subst, arith, nat_lt, ◌⊎◌, inl, inr}
use Rattle.std.proofs.Common.{length-append}
use Rattle.std.proofs.lemmas.Bool.{le-ltb}
use Rattle.std.proofs.lemmas.List.{take_all, drop_all, append-nil, take-append-drop, take-append-le}
use Rattle.std.proofs.lemmas.List.{length-take-le}
use Rattle.validate_locals.specs.Inits.{AreFresh}
use Rattle.validate_transaction.specs.declared.log.Transaction.{Transaction}
use Rattle.validate_transaction.specs.declared.log.Transaction.TheVariants.{Active, Inactive}
use Rattle.validate_transaction.specs.Log.{Log, empty_log}
use Rattle.validate_transaction.specs.Recorded.{log_of, with_push, with_pop, with_opened, with_closed}
use Rattle.validate_transaction.specs.Recorded.{with_mark}
use Rattle.validate_transaction.proofs.Room.{CanTakeBack-more}
use Rattle.validate_transaction.specs.TakeBack.{is_empty, items_taken_back, CanTakeBack}
use Rattle.validate_visit.specs.declared.frame.BlockType.{BlockType}
use Rattle.validate_visit.specs.declared.frame.Frame.{Frame as FlatFrame}
use Rattle.validate_visit.specs.declared.frame.FrameKind.{FrameKind}
use Rattle.validation_rules.specs.Fits.{MaybeType}
use Rattle.validation_rules.specs.Static.{State}
use Rattle.validate_stacks.specs.Attempts.{Phase, Clean, Moved, Set, Framed, Unset, Marked, Stacked}
use Rattle.validate_stacks.specs.Attempts.{phase_moved, is_setting, has_none_unset, is_unmarked, may_frame}
use Rattle.validate_stacks.specs.Attempts.{may_set, may_unset, stacks_begun, stacks_rolled_back}
use Rattle.validate_stacks.specs.Flat.{FlatStacks, body_from, state_from_heights, state_with_frame, HasShape}
use Rattle.validate_stacks.specs.Flat.{frames_unmarked, undone_frames, inits_in_frames, undone_inits}
use Rattle.validate_stacks.specs.Flat.{undone_pending, phase_of, CanUndo, CanUndoAny, IsSound, stacked_of}
use Rattle.validate_stacks.specs.Steps.{body_marked, body_popped, body_pushed, body_with_frame}
use Rattle.validate_stacks.specs.Steps.{body_without_frame}
use Rattle.validate_stacks.proofs.Cuts.{own_of, HasShape-more, HasShape-less, cut-push, above_height}
use Rattle.validate_stacks.proofs.Marks.{order_more, not_shorter}

-- ---- what was looked at

-- the first of a list
pub first_is : (fs : List FlatFrame) (f : FlatFrame) → slice_get fs 0 ≡ Some f → fs ≡ f ∷ drop 1 fs
first_is [] f h = cc
first_is (g ∷ gs) f h =
    let same : g ≡ f = cc in
    ap (λ q. q ∷ gs) same

-- a pop of a list whose newest item is known
pub popped_top :
    {X : Type 0} (r : Option X) (old new : List X) (top : X) → slice_get old 0 ≡ Some top →
    MatchOption r ((old ≡ []) × (new ≡ [])) (λ x. old ≡ x ∷ new) → old ≡ top ∷ new
popped_top None old new top h k =
    let e : None ≡ Some top = rw k.0 at h in
    cc
popped_top (Some x) old new top h k =
    let e : Some x ≡ Some top = rw k at h in
    cc

-- ---- room

abbrev pub with_room : ℕ → ℕ → ℕ → FlatStacks → FlatStacks
with_room frames operands order s =
    record s { frames_room = frames; operands_room = operands; order_room = order }

pub sound_room :
    (s : FlatStacks) (frames operands order : ℕ) → s.frames_room ≤ frames → s.operands_room ≤ operands →
    s.order_room ≤ order → IsSound s → IsSound (with_room frames operands order s)
sound_room s frames operands order h k m w =
    record { shape = w.shape; marks = w.marks; undo = by s.transaction w.undo }
  where
    by : (t : Transaction) → CanUndoAny s t → CanUndoAny (with_room frames operands order s) t
    by (Active log) u =
        let live = frames_unmarked log.unreachable s.frames in
        record {
          shape = u.shape;
          frames = CanTakeBack-more s.frames_room frames live log.frames h u.frames;
          operands = CanTakeBack-more s.operands_room operands s.operands log.operands k u.operands;
          inits = record {
            room = omega (arith, m, u.inits.room);
            fresh = u.inits.fresh;
            full = u.inits.full;
          };
          still = u.still;
        }
    by (Inactive a) u = tt

-- ---- the phase

-- by its bits: a frame was marked, none was opened or closed, no local was unset, one was set, no operand
-- moved
abbrev phase_by : (u f c s o : Bool) → Phase
phase_by u f c s o =
    if u then Marked else if not c then Unset else if not f then Framed else if s then Set
    else if not o then Moved else Clean

moved_phase : (u f c s o : Bool) → phase_moved (phase_by u f c s false) ≡ phase_moved (phase_by u f c s o)
moved_phase true f c s o = refl
moved_phase false f false s o = refl
moved_phase false false true s o = refl
moved_phase false true true true o = refl
moved_phase false true true false true = refl
moved_phase false true true false false = refl

moved_log :
    (n : ℕ) (log : Log) (trace : List (Option MaybeType)) → is_empty trace ≡ false →
    phase_moved (phase_of n (Active (record log { operands = trace })))
    ≡ phase_moved (phase_of n (Active log))
moved_log n log trace some =
    let set = nat_lt log.init_height n in
    ap (λ o. phase_moved (phase_by log.unreachable (is_empty log.frames) (is_empty log.inits) set o)) some
    ∙ moved_phase log.unreachable (is_empty log.frames) (is_empty log.inits) set (is_empty log.operands)

pub phase_push :
    (n : ℕ) (t : Transaction) → phase_moved (phase_of n (with_push t)) ≡ phase_moved (phase_of n t)
phase_push n (Active log) = moved_log n log (None ∷ log.operands) refl
phase_push n (Inactive a) = refl

pub phase_pop :
    (n : ℕ) (x : MaybeType) (t : Transaction) →
    phase_moved (phase_of n (with_pop x t)) ≡ phase_moved (phase_of n t)
phase_pop n x (Active log) = moved_log n log (Some x ∷ log.operands) refl
phase_pop n x (Inactive a) = refl

unmarked_bit : (u f c s o : Bool) → is_unmarked (phase_by u f c s o) ≡ true → u ≡ false
unmarked_bit true f c s o h = cc
unmarked_bit false f c s o h = refl

-- where no frame was marked, the log says so
unmarked : (n : ℕ) (log : Log) → is_unmarked (phase_of n (Active log)) ≡ true → log.unreachable ≡ false
unmarked n log m =
    unmarked_bit log.unreachable (is_empty log.frames) (is_empty log.inits) (nat_lt log.init_height n)
    (is_empty log.operands) m

still_unmarked : (f c s o : Bool) → is_unmarked (phase_by false f c s o) ≡ true
still_unmarked f false s o = refl
still_unmarked false true s o = refl
still_unmarked true true true o = refl
still_unmarked true true false true = refl
still_unmarked true true false false = refl

stays_unmarked : (n : ℕ) (log : Log) → log.unreachable ≡ false → is_unmarked (phase_of n (Active log)) ≡ true
stays_unmarked n log e =
    let set = nat_lt log.init_height n in
    let some = is_empty log.operands in
    ap (λ u. is_unmarked (phase_by u (is_empty log.frames) (is_empty log.inits) set some)) e
    ∙ still_unmarked (is_empty log.frames) (is_empty log.inits) set (is_empty log.operands)

none_empty : {X : Type 0} (xs : List X) → is_empty xs ≡ true → xs ≡ []
none_empty [] h = refl
none_empty (x ∷ xs) h = cc

unclosed_bit : (u f c s o : Bool) → has_none_unset (phase_by u f c s o) ≡ true → c ≡ true
unclosed_bit u f true s o h = refl
unclosed_bit true f false s o h = cc
unclosed_bit false f false s o h = cc

-- where no local was unset, the log has none
none_unset : (n : ℕ) (log : Log) → has_none_unset (phase_of n (Active log)) ≡ true → log.inits ≡ []
none_unset n log h =
    none_empty log.inits
    (unclosed_bit log.unreachable (is_empty log.frames) (is_empty log.inits) (nat_lt log.init_height n)
    (is_empty log.operands) h)

setting_bits :
    (u f c s o : Bool) → is_setting (phase_by u f c s o) ≡ true → (u ≡ false) × (f ≡ true) × (c ≡ true)
setting_bits true f c s o h = cc
setting_bits false f false s o h = cc
setting_bits false false true s o h = cc
setting_bits false true true s o h = (refl, refl, refl)

-- nothing was opened, closed or unset
record Sets (log : Log) : Type 0 where
  pub bit : log.unreachable ≡ false
  pub frames : log.frames ≡ []
  pub reset : log.inits ≡ []

sets : (n : ℕ) (log : Log) → is_setting (phase_of n (Active log)) ≡ true → Sets log
sets n log m =
    let set = nat_lt log.init_height n in
    let bits =
    setting_bits log.unreachable (is_empty log.frames) (is_empty log.inits) set (is_empty log.operands) m in
    record { bit = bits.0; frames = none_empty log.frames bits.1; reset = none_empty log.inits bits.2 }

-- no attempt is pending exactly where there is no state to come back to
pub idle_log :
    (s : FlatStacks) {v : Stacked} → stacked_of s ≡ v → v.body.undone ≡ None → log_of s.transaction ≡ None
idle_log s e h = by s.transaction (ap (λ (v : Stacked). v.body.undone) e ∙ h)
  where
    by : (t : Transaction) → undone_pending s.frames s.operands s.order t ≡ None → log_of t ≡ None
    by (Active log) h = cc
    by (Inactive a) h = refl

pub log_there : (s : FlatStacks) → IsSome (body_from s).undone → IsSome (log_of s.transaction)
log_there s h = by s.transaction h
  where
    by : (t : Transaction) → IsSome (undone_pending s.frames s.operands s.order t) → IsSome (log_of t)
    by (Active log) h = h
    by (Inactive a) h = h

-- ---- operands

-- with one more, and its entry
abbrev pub pushed_on : MaybeType → FlatStacks → FlatStacks
pushed_on x s = record s { operands = x ∷ s.operands; transaction = with_push s.transaction }

pub body_push :
    (s : FlatStacks) (x : MaybeType) → IsSound s → body_from (pushed_on x s) ≡ body_pushed x (body_from s)
body_push s x w =
    ap (λ (p : State). record (body_from (pushed_on x s)) { present = p })
    (cut-push s.frames x s.operands s.order (length s.order) w.shape)
    ∙ ap (λ (u : Option State). body_pushed x (record (body_from s) { undone = u })) (by s.transaction)
  where
    by :
        (t : Transaction) →
        undone_pending s.frames (x ∷ s.operands) s.order (with_push t)
        ≡ undone_pending s.frames s.operands s.order t
    by (Active log) = refl
    by (Inactive a) = refl

pub sound_push :
    (s : FlatStacks) (x : MaybeType) (room : ℕ) → s.operands_room ≤ room → IsSound s →
    IsSound (record (pushed_on x s) { operands_room = room })
sound_push s x room h w =
    let count = length s.operands in
    record {
      shape = HasShape-more s.frames count (suc count) (length s.order) (omega arith) w.shape;
      marks = w.marks;
      undo = by s.transaction w.undo;
    }
  where
    by :
        (t : Transaction) → CanUndoAny s t →
        CanUndoAny (record (pushed_on x s) { operands_room = room }) (with_push t)
    by (Active log) u =
        record {
          shape = u.shape;
          frames = u.frames;
          operands = CanTakeBack-more s.operands_room room s.operands log.operands h u.operands;
          inits = u.inits;
          still = u.still;
        }
    by (Inactive a) u = tt

-- with this operand on top
abbrev pub with_top : MaybeType → FlatStacks → FlatStacks
with_top x s = record s { operands = x ∷ s.operands }

-- without it, and with the entry of that
abbrev pub popped_off : MaybeType → FlatStacks → FlatStacks
popped_off x s = record s { transaction = with_pop x s.transaction }

pub body_pop :
    (s : FlatStacks) (f : FlatFrame) (x : MaybeType) → slice_get s.frames 0 ≡ Some f →
    f.height ≤ length s.operands → body_from (popped_off x s) ≡ body_popped (body_from (with_top x s))
body_pop s f x h k =
    ap (λ (u : Option State). record (body_from s) { undone = u }) (by s.transaction)
    ∙ above_height s.frames f x s.operands s.order (body_from (with_top x s)) h k
  where
    by :
        (t : Transaction) →
        undone_pending s.frames s.operands s.order (with_pop x t)
        ≡ undone_pending s.frames (x ∷ s.operands) s.order t
    by (Active log) = refl
    by (Inactive a) = refl

pub sound_pop :
    (s : FlatStacks) (f : FlatFrame) (x : MaybeType) → slice_get s.frames 0 ≡ Some f →
    f.height ≤ length s.operands → length s.operands < s.operands_room → IsSound (with_top x s) →
    IsSound (popped_off x s)
sound_pop s f x h k r w =
    let count = length s.operands in
    record {
      shape = HasShape-less s.frames f (suc count) count (length s.order) h k w.shape;
      marks = w.marks;
      undo = by s.transaction w.undo;
    }
  where
    by : (t : Transaction) → CanUndoAny (with_top x s) t → CanUndoAny (popped_off x s) (with_pop x t)
    by (Active log) u =
        record {
          shape = u.shape;
          frames = u.frames;
          operands = (r, u.operands);
          inits = u.inits;
          still = u.still;
        }
    by (Inactive a) u = tt

-- ---- the mark

mark_log :
    (f : FlatFrame) (fs : List FlatFrame) (u : Bool) → f.unreachable ≡ false →
    frames_unmarked true (record f { unreachable = true } ∷ fs) ≡ frames_unmarked u (f ∷ fs)
mark_log f fs true h = refl
mark_log f fs false h = ap (λ b. record f { unreachable = b } ∷ fs) (sym h)

-- with this frame, dead, in the place of the innermost one, and the entry of that
abbrev pub marked_in : FlatFrame → List FlatFrame → FlatStacks → FlatStacks
marked_in f fs s =
    record s { frames = record f { unreachable = true } ∷ fs; transaction = with_mark s.transaction }

pub marked_is :
    (s : FlatStacks) (f : FlatFrame) (fs : List FlatFrame) → s.frames ≡ f ∷ fs → f.unreachable ≡ false →
    body_from (marked_in f fs s) ≡ body_marked (body_from s)
marked_is s f fs e live =
    ap (λ (u : Option State). record (body_from (marked_in f fs s)) { undone = u }) (by s.transaction)
    ∙ ap (λ (l : List FlatFrame). body_marked (body_from (record s { frames = l }))) (sym e)
  where
    by :
        (t : Transaction) →
        undone_pending (record f { unreachable = true } ∷ fs) s.operands s.order (with_mark t)
        ≡ undone_pending (f ∷ fs) s.operands s.order t
    by (Active log) = ap undone (mark_log f fs log.unreachable live)
      where
        undone : List FlatFrame → Option State
        undone l =
            Some
            (state_from_heights (items_taken_back l log.frames) (items_taken_back s.operands log.operands)
            (take log.init_height (inits_in_frames l s.order log.frames ++ log.inits)))
    by (Inactive a) = refl

pub sound_mark :
    (s : FlatStacks) (f : FlatFrame) (fs : List FlatFrame) → s.frames ≡ f ∷ fs → f.unreachable ≡ false →
    IsSound s → IsSound (marked_in f fs s)
sound_mark s f fs e live w =
    let v : IsSound (record s { frames = f ∷ fs }) = subst (λ l. IsSound (record s { frames = l })) e w in
    record { shape = (v.shape.0, v.shape.1, v.shape.2); marks = v.marks; undo = by s.transaction v.undo }
  where
    by :
        (t : Transaction) → CanUndoAny (record s { frames = f ∷ fs }) t →
        CanUndoAny (marked_in f fs s) (with_mark t)
    by (Active log) u =
        let before = sym (mark_log f fs log.unreachable live) in
        record {
          shape = subst shape before u.shape;
          frames = subst (λ (l : List FlatFrame). CanTakeBack s.frames_room l log.frames) before u.frames;
          operands = u.operands;
          inits = u.inits;
          still = subst (λ l. inits_in_frames l s.order log.frames ≡ s.order) before u.still;
        }
      where
        shape : List FlatFrame → Type 0
        shape l =
            HasShape (items_taken_back l log.frames) (length (items_taken_back s.operands log.operands))
            (length (take log.init_height (inits_in_frames l s.order log.frames ++ log.inits)))
    by (Inactive a) u = tt

-- ---- opening

-- the frame that is opened
abbrev pub new_flat : FrameKind → BlockType → ℕ → ℕ → FlatFrame
new_flat k b h i = record { kind = k; block_type = b; height = h; unreachable = false; init_height = i }

-- with it, over no operands, and its entry
abbrev pub opened_on : FrameKind → BlockType → FlatStacks → FlatStacks
opened_on k b s =
    record s {
      frames = new_flat k b (length s.operands) (length s.order) ∷ s.frames;
      transaction = with_opened s.transaction;
    }

cut-open :
    (k : FrameKind) (b : BlockType) (fs : List FlatFrame) (operands : List MaybeType) (is : List ℕ) →
    state_from_heights (new_flat k b (length operands) (length is) ∷ fs) operands is
    ≡ state_with_frame
    (record { head = record { kind = k; block_type = b }; operands = []; dead = false; first_set = [] })
    (state_from_heights fs operands is)
cut-open k b fs operands is =
    let e : length operands - length operands ≡ 0 = omega arith in
    rw (e, drop_all (length is) is (omega arith), take_all (length is) is (omega arith)) refl

pub body_open :
    (k : FrameKind) (b : BlockType) (s : FlatStacks) → may_frame (stacked_of s) ≡ true →
    body_from (opened_on k b s) ≡ body_with_frame k b (body_from s)
body_open k b s m =
    ap (λ (p : State). record (body_from (opened_on k b s)) { present = p })
    (cut-open k b s.frames s.operands s.order)
    ∙ ap (λ (u : Option State). body_with_frame k b (record (body_from s) { undone = u }))
    (by s.transaction m)
  where
    by :
        (t : Transaction) → may_frame (stacked_of (record s { transaction = t })) ≡ true →
        undone_pending (opened_on k b s).frames s.operands s.order (with_opened t)
        ≡ undone_pending s.frames s.operands s.order t
    by (Active log) m =
        rw (unmarked (length s.order) log m, take_all (length s.order) s.order (omega arith)) refl
    by (Inactive a) m = refl

pub frames_open :
    (k : FrameKind) (b : BlockType) (s : FlatStacks) → may_frame (stacked_of s) ≡ true →
    may_frame (stacked_of (opened_on k b s)) ≡ true
frames_open k b s m = by s.transaction m
  where
    by :
        (t : Transaction) → may_frame (stacked_of (record s { transaction = t })) ≡ true →
        may_frame (stacked_of (record (opened_on k b s) { transaction = with_opened t })) ≡ true
    by (Active log) m =
        let after : Log = record log { frames = None ∷ log.frames } in
        stays_unmarked (length s.order) after (unmarked (length s.order) log m)
    by (Inactive a) m = refl

pub sound_open :
    (k : FrameKind) (b : BlockType) (s : FlatStacks) (room : ℕ) → may_frame (stacked_of s) ≡ true →
    s.frames_room ≤ room → IsSound s → IsSound (record (opened_on k b s) { frames_room = room })
sound_open k b s room m h w =
    record { shape = (omega arith, omega arith, w.shape); marks = w.marks; undo = by s.transaction m w.undo }
  where
    by :
        (t : Transaction) → may_frame (stacked_of (record s { transaction = t })) ≡ true → CanUndoAny s t →
        CanUndoAny (record (opened_on k b s) { frames_room = room }) (with_opened t)
    by (Active log) m u =
        let bit = unmarked (length s.order) log m in
        let old = rw bit at u in
        rw bit
        (record {
          shape = rw (take_all (length s.order) s.order (omega arith)) old.shape;
          frames = CanTakeBack-more s.frames_room room s.frames log.frames h old.frames;
          operands = old.operands;
          inits = old.inits;
          still = rw (take_all (length s.order) s.order (omega arith)) old.still;
        })
    by (Inactive a) m u = tt

-- ---- closing

take_comm : (a b : ℕ) (xs : List ℕ) → take a (take b xs) ≡ take b (take a xs)
take_comm zero zero xs = refl
take_comm zero (suc b) xs = refl
take_comm (suc a) zero xs = refl
take_comm (suc a) (suc b) [] = refl
take_comm (suc a) (suc b) (x ∷ xs) = ap (λ r. x ∷ r) (take_comm a b xs)

frames_inits-take :
    (k : ℕ) (fs : List FlatFrame) (is : List ℕ) (trace : List (Option FlatFrame)) →
    inits_in_frames fs (take k is) trace ≡ take k (inits_in_frames fs is trace)
frames_inits-take k fs is [] = refl
frames_inits-take k fs is (Some f ∷ trace) = frames_inits-take k (f ∷ fs) is trace
frames_inits-take k (f ∷ fs) is (None ∷ trace) =
    ap (λ r. inits_in_frames fs r trace) (take_comm f.init_height k is)
    ∙ frames_inits-take k fs (take f.init_height is) trace
frames_inits-take k [] is (None ∷ trace) = frames_inits-take k [] is trace

-- what is set and what was unset stay as they are, taken together: what was unset comes back in its place
whole_stays :
    (h : ℕ) (is reset : List ℕ) → (reset ≡ []) ⊎ (drop h is ≡ []) →
    take h is ++ (reset ++ drop h is) ≡ is ++ reset
whole_stays h is reset (inl e) = rw e (take-append-drop h is ∙ sym (append-nil is))
whole_stays h is reset (inr e) =
    let whole : take h is ≡ is =
    sym (append-nil (take h is)) ∙ (ap (λ r. take h is ++ r) (sym e) ∙ take-append-drop h is) in
    rw (e, whole, append-nil reset) refl

same_count : (h : ℕ) (is reset : List ℕ) → length (take h is ++ (reset ++ drop h is)) ≡ length (is ++ reset)
same_count h is reset =
    let parts = ap length (take-append-drop h is) in
    let before = length-append (take h is) (drop h is) in
    let after = length-append (take h is) (reset ++ drop h is) in
    omega (arith, parts, before, after, length-append reset (drop h is), length-append is reset)

closes_how :
    (since reset : List ℕ) {b : Bool} → (is_empty since || b) ≡ true → (b ≡ true → reset ≡ []) →
    (reset ≡ []) ⊎ (since ≡ [])
closes_how [] reset h k = inr refl
closes_how (x ∷ xs) reset h k = inl (k h)

at_its_height :
    (f : FlatFrame) (operands : List MaybeType) → f.height ≤ length operands →
    take (length operands - f.height) operands ≡ [] → length operands ≡ f.height
at_its_height f operands h k =
    let e = sym (length-take-le (length operands - f.height) operands (omega arith)) ∙ ap length k in
    omega arith

-- closing in an attempt
record Closes (f : FlatFrame) (fs : List FlatFrame) (is : List ℕ) (log : Log) : Type 0 where
  pub bit : log.unreachable ≡ false
  pub reset : (log.inits ≡ []) ⊎ (drop f.init_height is ≡ [])
  pub still : inits_in_frames (f ∷ fs) is log.frames ≡ is

still_after :
    (f : FlatFrame) (fs : List FlatFrame) (is : List ℕ) (log : Log) → Closes f fs is log →
    inits_in_frames (f ∷ fs) (take f.init_height is) log.frames ≡ take f.init_height is
still_after f fs is log c =
    frames_inits-take f.init_height (f ∷ fs) is log.frames ∙ ap (take f.init_height) c.still

inits_after :
    (f : FlatFrame) (fs : List FlatFrame) (is : List ℕ) (log : Log) → Closes f fs is log →
    inits_in_frames (f ∷ fs) (take f.init_height is) log.frames ++ (log.inits ++ drop f.init_height is)
    ≡ inits_in_frames (f ∷ fs) is log.frames ++ log.inits
inits_after f fs is log c =
    rw (still_after f fs is log c, c.still) (whole_stays f.init_height is log.inits c.reset)

module _ (s : FlatStacks) (f : FlatFrame) (fs : List FlatFrame) where
  -- with this frame as the innermost one
  abbrev pub inside : Transaction → FlatStacks
  inside t = record s { frames = f ∷ fs; transaction = t }

  -- without it, and with the entry of that
  abbrev pub closed_off : Transaction → FlatStacks
  closed_off t =
      record s {
        frames = fs;
        order = take f.init_height s.order;
        transaction = with_closed f (drop f.init_height s.order) t;
      }

  closes :
      (log : Log) → may_frame (stacked_of (inside (Active log))) ≡ true →
      may_unset (stacked_of (inside (Active log))) ≡ true → CanUndo (inside s.transaction) log →
      Closes f fs s.order log
  closes log m k u =
      let bit = unmarked (length s.order) log m in
      record {
        bit = bit;
        reset = closes_how (drop f.init_height s.order) log.inits k (none_unset (length s.order) log);
        still = rw bit at u.still;
      }

  pub body_close :
      own_of (inside s.transaction) ≡ [] → may_frame (stacked_of (inside s.transaction)) ≡ true →
      may_unset (stacked_of (inside s.transaction)) ≡ true → IsSound (inside s.transaction) →
      body_from (closed_off s.transaction) ≡ body_without_frame (body_from (inside s.transaction))
  body_close own m k w =
      let all = at_its_height f s.operands w.shape.0 own in
      let e : length s.operands - f.height ≡ 0 = omega arith in
      ap (λ (u : Option State). record (body_from (closed_off s.transaction)) { undone = u })
      (by s.transaction m k w.undo)
      ∙ rw e refl
    where
      by :
          (t : Transaction) → may_frame (stacked_of (inside t)) ≡ true →
          may_unset (stacked_of (inside t)) ≡ true → CanUndoAny (inside s.transaction) t →
          undone_pending fs s.operands (take f.init_height s.order) (closed_off t).transaction
          ≡ undone_pending (f ∷ fs) s.operands s.order t
      by (Active log) m k u =
          let c = closes log m k u in
          rw c.bit (ap undone (inits_after f fs s.order log c))
        where
          undone : List ℕ → Option State
          undone set =
              Some
              (state_from_heights (items_taken_back (f ∷ fs) log.frames)
              (items_taken_back s.operands log.operands) (take log.init_height set))
      by (Inactive a) m k u = refl

  pub frames_close :
      may_frame (stacked_of (inside s.transaction)) ≡ true →
      may_frame (stacked_of (closed_off s.transaction)) ≡ true
  frames_close m = by s.transaction m
    where
      by :
          (t : Transaction) → may_frame (stacked_of (inside t)) ≡ true →
          may_frame (stacked_of (closed_off t)) ≡ true
      by (Active log) m =
          let after : Log =
          record log { frames = Some f ∷ log.frames; inits = log.inits ++ drop f.init_height s.order } in
          stays_unmarked (length (take f.init_height s.order)) after (unmarked (length s.order) log m)
      by (Inactive a) m = refl

  pub sound_close :
      own_of (inside s.transaction) ≡ [] → may_frame (stacked_of (inside s.transaction)) ≡ true →
      may_unset (stacked_of (inside s.transaction)) ≡ true → length fs < s.frames_room →
      IsSound (inside s.transaction) → IsSound (closed_off s.transaction)
  sound_close own m k r w =
      let all = at_its_height f s.operands w.shape.0 own in
      let len = length-take-le f.init_height s.order w.shape.1 in
      record { shape = rw (len, all) w.shape.2; marks = w.marks; undo = by s.transaction m k w.undo }
    where
      by :
          (t : Transaction) → may_frame (stacked_of (inside t)) ≡ true →
          may_unset (stacked_of (inside t)) ≡ true → CanUndoAny (inside s.transaction) t →
          CanUndoAny (closed_off s.transaction) (closed_off t).transaction
      by (Active log) m k u =
          let c = closes log m k u in
          let old = rw c.bit at u in
          let counts = same_count f.init_height s.order log.inits in
          rw c.bit
          (record {
            shape = subst shape (sym (inits_after f fs s.order log c)) old.shape;
            frames = (r, old.frames);
            operands = old.operands;
            inits = record {
              room = omega (arith, counts, old.inits.room);
              fresh =
                  subst (AreFresh s.set_at_entry) (sym (whole_stays f.init_height s.order log.inits c.reset))
                  old.inits.fresh;
              full = omega (arith, counts, old.inits.full);
            };
            still = still_after f fs s.order log c;
          })
        where
          shape : List ℕ → Type 0
          shape set =
              HasShape (items_taken_back (f ∷ fs) log.frames)
              (length (items_taken_back s.operands log.operands)) (length (take log.init_height set))
      by (Inactive a) m k u = tt

pub inits_within :
    (fs : List FlatFrame) (f : FlatFrame) (n m : ℕ) → slice_get fs 0 ≡ Some f → HasShape fs n m →
    f.init_height ≤ m
inits_within [] f n m h k = cc
inits_within (g ∷ gs) f n m h k =
    let same : g ≡ f = cc in
    rw (← same) k.1

-- ---- setting

inits_set :
    (b : Bool) (is : List ℕ) (i h : ℕ) → h ≤ length is → take h (order_more b is i ++ []) ≡ take h (is ++ [])
inits_set true is i h k = refl
inits_set false is i h k = rw (append-nil (is ++ i ∷ []), append-nil is) (take-append-le h is (i ∷ []) k)

pub undone_set :
    (b : Bool) (s : FlatStacks) (i : ℕ) → may_set (stacked_of s) ≡ true → IsSound s →
    undone_pending s.frames s.operands (order_more b s.order i) s.transaction ≡ (body_from s).undone
undone_set b s i m w = by s.transaction m w.undo
  where
    by :
        (t : Transaction) → may_set (stacked_of (record s { transaction = t })) ≡ true → CanUndoAny s t →
        undone_pending s.frames s.operands (order_more b s.order i) t
        ≡ undone_pending s.frames s.operands s.order t
    by (Active log) m u =
        let c = sets (length s.order) log m in
        let full = rw c.reset at u.inits.full in
        rw (c.bit, c.frames, c.reset)
        (ap (λ set. Some (state_from_heights s.frames (items_taken_back s.operands log.operands) set))
        (inits_set b s.order i log.init_height (omega (arith, full, length-append s.order []))))
    by (Inactive a) m u = refl

pub undo_set :
    (b : Bool) (s : FlatStacks) (i : ℕ) → may_set (stacked_of s) ≡ true →
    length (order_more b s.order i) ≤ s.order_room → AreFresh s.set_at_entry (order_more b s.order i) →
    IsSound s → CanUndoAny (record s { order = order_more b s.order i }) s.transaction
undo_set b s i m r x w = by s.transaction m w.undo
  where
    new : List ℕ
    new = order_more b s.order i

    by :
        (t : Transaction) → may_set (stacked_of (record s { transaction = t })) ≡ true → CanUndoAny s t →
        CanUndoAny (record s { order = new }) t
    by (Active log) m u =
        let c = sets (length s.order) log m in
        let old = rw (c.bit, c.frames, c.reset) at u in
        let low : log.init_height ≤ length s.order =
        omega (arith, old.inits.full, length-append s.order []) in
        let same = inits_set b s.order i log.init_height low in
        let count = length (items_taken_back s.operands log.operands) in
        rw (c.bit, c.frames, c.reset)
        (record {
          shape = subst (λ y. HasShape s.frames count (length y)) (sym same) old.shape;
          frames = tt;
          operands = old.operands;
          inits = record {
            room = omega (arith, r, length-append new []);
            fresh = rw (append-nil new) x;
            full = omega (arith, low, length-append new [], not_shorter b s.order i);
          };
          still = refl;
        })
    by (Inactive a) m u = tt

-- ---- beginning, and taking back

-- where none is pending, the lists alone count
pub sound_idle :
    {s : FlatStacks} → log_of s.transaction ≡ None → HasShape s.frames (length s.operands) (length s.order) →
    length s.set_at_entry ≡ length s.locals → IsSound s
sound_idle {s} h shape marks = record { shape = shape; marks = marks; undo = by s.transaction h }
  where
    by : (t : Transaction) → log_of t ≡ None → CanUndoAny s t
    by (Active log) h = cc
    by (Inactive a) h = tt

take_whole : (is : List ℕ) → take (length is) (is ++ []) ≡ is
take_whole is = rw (append-nil is) (take_all (length is) is (omega arith))

pub sound_begun :
    (s : FlatStacks) (t : Transaction) → log_of t ≡ Some (empty_log (length s.order)) →
    length s.order ≤ s.order_room → AreFresh s.set_at_entry s.order → IsSound s →
    IsSound (record s { transaction = t })
sound_begun s t h r f w = record { shape = w.shape; marks = w.marks; undo = by t h }
  where
    start : CanUndo (record s { transaction = t }) (empty_log (length s.order))
    start =
        record {
          shape = rw (take_whole s.order) w.shape;
          frames = tt;
          operands = tt;
          inits = record {
            room = omega (arith, r, length-append s.order []);
            fresh = rw (append-nil s.order) f;
            full = omega (arith, length-append s.order []);
          };
          still = refl;
        }

    by :
        (u : Transaction) → log_of u ≡ Some (empty_log (length s.order)) →
        CanUndoAny (record s { transaction = t }) u
    by (Inactive a) h = cc
    by (Active log) h =
        let e : log ≡ empty_log (length s.order) = cc in
        subst (CanUndo (record s { transaction = t })) (sym e) start

nothing_less : (n : ℕ) → nat_lt n n ≡ false
nothing_less n = le-ltb n n (omega arith)

pub begun_is :
    (s : FlatStacks) (t : Transaction) → log_of t ≡ Some (empty_log (length s.order)) →
    stacked_of (record s { transaction = t }) ≡ stacks_begun (stacked_of s)
begun_is s (Inactive a) h = cc
begun_is s (Active log) h =
    let e : log ≡ empty_log (length s.order) = cc in
    ap (λ l. stacked_of (record s { transaction = Active l })) e
    ∙ rw (take_whole s.order, nothing_less (length s.order)) refl

-- what holds of a pending log
pub undo_at : (s : FlatStacks) (log : Log) → log_of s.transaction ≡ Some log → IsSound s → CanUndo s log
undo_at s log h w = by s.transaction h w.undo
  where
    by : (t : Transaction) → log_of t ≡ Some log → CanUndoAny s t → CanUndo s log
    by (Active l) h u =
        let e : l ≡ log = cc in
        subst (CanUndo s) e u
    by (Inactive a) h u = cc

-- with all taken back that the log records
abbrev pub taken_back : Log → Transaction → FlatStacks → FlatStacks
taken_back log t s =
    record s {
      frames = undone_frames s.frames log;
      operands = items_taken_back s.operands log.operands;
      order = undone_inits s.frames s.order log;
      transaction = t;
    }

pub rolled_back_is :
    (s : FlatStacks) (t : Transaction) (log : Log) → log_of s.transaction ≡ Some log → log_of t ≡ None →
    stacked_of (taken_back log t s) ≡ stacks_rolled_back (stacked_of s)
rolled_back_is s t log h k = by s.transaction t h k
  where
    by :
        (u t : Transaction) → log_of u ≡ Some log → log_of t ≡ None →
        stacked_of (taken_back log t s) ≡ stacks_rolled_back (stacked_of (record s { transaction = u }))
    by (Active l) (Inactive a) h k =
        let e : log ≡ l = cc in
        ap (λ g. stacked_of (taken_back g (Inactive a) s)) e
    by (Inactive b) t h k = cc
    by (Active l) (Active m) h k = cc
