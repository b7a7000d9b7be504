-- Operands and frames changed in one move, and recorded where an attempt is pending: what it comes back to
-- stays.
use Rattle.std.proofs.Common.{◌≡◌, ◌≢◌, ℕ, zero, suc, ◌+◌, ◌-◌, ◌<◌, ◌≤◌, List, [], ◌∷◌, ◌++◌, Bool, true}
use Rattle.std.proofs.Common.{false, Option, Some, None, is_some, if◌then◌else◌, length, take, drop}
use Rattle.std.proofs.Common.{slice_get, map, reverse, replicate, refl, sym, ◌∙◌, ap, subst, arith}
use Rattle.std.proofs.Common.{length-drop}
use Rattle.std.proofs.lemmas.List.{drop_all, append_assoc, append-nil, map-append, reverse-append}
use Rattle.validate_locals.specs.Inits.{is_local_set, AreFresh}
use Rattle.validate_transaction.specs.declared.log.Closed.{Closed}
use Rattle.validate_transaction.specs.declared.log.Entry.{Entry}
use Rattle.validate_transaction.specs.declared.log.Transaction.{Transaction}
use Rattle.validate_transaction.specs.declared.log.Transaction.TheVariants.{Active, Inactive}
use Rattle.validate_transaction.specs.Log.{Log}
use Rattle.validate_transaction.specs.Recorded.{with_pop, with_entry, frames_with_closed, frames_with_opened}
use Rattle.validate_transaction.specs.Recorded.{unset_by}
use Rattle.validate_types.specs.declared.types.ValType.{ValType}
use Rattle.validate_visit.specs.declared.frame.BlockType.{BlockType}
use Rattle.validate_visit.specs.declared.frame.Frame.{Frame as FlatFrame}
use Rattle.validate_visit.specs.declared.frame.FrameKind.{FrameKind}
use Rattle.validation_rules.specs.Fits.{MaybeType, Known}
use Rattle.validation_rules.specs.Static.{Frame, State}
use Rattle.validate_stacks.specs.AtOnce.{body_dropped}
use Rattle.validate_stacks.specs.Attempts.{phase_moved, may_frame, may_set, may_unset, innermost_first_set}
use Rattle.validate_stacks.specs.declared.change.Change.{Change}
use Rattle.validate_stacks.specs.Changes.{MayChange, body_changed, operands_given, operands_topped}
use Rattle.validate_stacks.specs.Changes.{frames_closed, order_closed, order_set, frames_opened, log_popped}
use Rattle.validate_stacks.specs.Changes.{log_with_closed, log_closed, log_opened, log_pushed, log_topped}
use Rattle.validate_stacks.specs.Changes.{body_closed, body_setting, body_opened, body_topped}
use Rattle.validate_stacks.specs.Flat.{FlatStacks, body_from, state_from_heights, stacked_of, IsSound}
use Rattle.validate_stacks.specs.Flat.{phase_of}
use Rattle.validate_stacks.specs.Pops.{IsKept, body_pushed_each}
use Rattle.validate_stacks.specs.State.{BodyState, body_with_frames}
use Rattle.validate_stacks.specs.Steps.{innermost_operands, body_pushed, body_popped}
use Rattle.validate_stacks.proofs.AtOnce.{dropped_none}
use Rattle.validate_stacks.proofs.Idle.{own_within}
use Rattle.validate_stacks.proofs.Cuts.{own_of, own-cut}
use Rattle.validate_stacks.proofs.Marks.{shape_set, set_state}
use Rattle.validate_stacks.proofs.Phases.{frame_after, set_after, unset_after}
use Rattle.validate_stacks.proofs.Undone.{pushed_on, body_push, sound_push, popped_off, body_pop, sound_pop}
use Rattle.validate_stacks.proofs.Undone.{phase_pop, body_open, sound_open, body_close, sound_close}
use Rattle.validate_stacks.proofs.Undone.{frames_close, undone_set, undo_set}

-- ---- the log

-- one more in front of those that are turned
turned_next :
    (xs : List MaybeType) (x : MaybeType) (trace : List (Option MaybeType)) →
    map Some (reverse xs) ++ Some x ∷ trace ≡ map Some (reverse (x ∷ xs)) ++ trace
turned_next xs x trace =
    sym
    (ap (λ ys. map Some ys ++ trace) (reverse-append (x ∷ []) xs)
    ∙ ap (λ ys. ys ++ trace) (map-append Some (reverse xs) (x ∷ []))
    ∙ append_assoc (map Some (reverse xs)) (Some x ∷ []) trace)

popped_active :
    (xs : List MaybeType) (log : Log) →
    log_popped xs (Active log) ≡ Active (record log { operands = map Some (reverse xs) ++ log.operands })
popped_active [] log = refl
popped_active (x ∷ xs) log =
    popped_active xs (record log { operands = Some x ∷ log.operands })
    ∙ ap (λ trace. Active (record log { operands = trace })) (turned_next xs x log.operands)

one_within : {X : Type 0} (n : ℕ) (x : X) (xs : List X) → replicate n x ++ x ∷ xs ≡ x ∷ replicate n x ++ xs
one_within zero x xs = refl
one_within (suc n) x xs = ap (λ ys. x ∷ ys) (one_within n x xs)

pushed_active :
    (gs : List ValType) (log : Log) →
    log_pushed gs (Active log) ≡ Active (record log { operands = replicate (length gs) None ++ log.operands })
pushed_active [] log = refl
pushed_active (g ∷ gs) log =
    pushed_active gs (record log { operands = None ∷ log.operands })
    ∙ ap (λ trace. Active (record log { operands = trace })) (one_within (length gs) None log.operands)

popped_idle : (xs : List MaybeType) (a : _) → log_popped xs (Inactive a) ≡ Inactive a
popped_idle [] a = refl
popped_idle (x ∷ xs) a = popped_idle xs a

pushed_idle : (gs : List ValType) (a : _) → log_pushed gs (Inactive a) ≡ Inactive a
pushed_idle [] a = refl
pushed_idle (g ∷ gs) a = pushed_idle gs a

-- an entry is its steps, one after the other
pub entry_steps :
    (e : Entry) (xs : List MaybeType) (gs : List ValType) (opens : Option (FrameKind × BlockType))
    (top : Option MaybeType) → e.popped.now ≡ reverse xs →
    e.pushed ≡ length gs + (if is_some top then 1 else 0) → e.opened ≡ is_some opens → (t : Transaction) →
    with_entry e t
    ≡ log_topped top (log_pushed gs (log_opened opens (log_with_closed e.closed (log_popped xs t))))
entry_steps e xs gs opens top p q o (Active log) =
    rw (p, o)
    (sym
    (ap (λ t. log_topped top (log_pushed gs (log_opened opens (log_with_closed e.closed t))))
    (popped_active xs log)
    ∙ ap (log_topped top) (by e.closed opens)
    ∙ above top q))
  where
    popped : List (Option MaybeType)
    popped = map Some (reverse xs) ++ log.operands

    frames : List (Option FlatFrame)
    frames = frames_with_opened (is_some opens) (frames_with_closed e.closed log.frames)

    pushed : ℕ → Transaction
    pushed n =
        Active
        (record log {
          operands = replicate n None ++ popped;
          frames = frames;
          inits = log.inits ++ unset_by e.closed;
        })

    by :
        (c : Option Closed) (os : Option (FrameKind × BlockType)) →
        log_pushed gs (log_opened os (log_with_closed c (Active (record log { operands = popped }))))
        ≡ Active
        (record log {
          operands = replicate (length gs) None ++ popped;
          frames = frames_with_opened (is_some os) (frames_with_closed c log.frames);
          inits = log.inits ++ unset_by c;
        })
    by None None =
        pushed_active gs _
        ∙ ap (λ is. Active (record log { operands = replicate (length gs) None ++ popped; inits = is }))
        (sym (append-nil log.inits))
    by None (Some opened) =
        let all : List (Option MaybeType) = replicate (length gs) None ++ popped in
        pushed_active gs _
        ∙ ap (λ is. Active (record log { operands = all; frames = None ∷ log.frames; inits = is }))
        (sym (append-nil log.inits))
    by (Some c) None = pushed_active gs _
    by (Some c) (Some opened) = pushed_active gs _

    above :
        (o : Option MaybeType) → e.pushed ≡ length gs + (if is_some o then 1 else 0) →
        log_topped o (pushed (length gs)) ≡ pushed e.pushed
    above None q = let same : length gs ≡ e.pushed = omega (arith, q) in ap pushed same
    above (Some x) q = let one : suc (length gs) ≡ e.pushed = omega (arith, q) in ap pushed one
entry_steps e xs gs opens top p q o (Inactive a) =
    sym
    (ap (λ t. log_topped top (log_pushed gs (log_opened opens (log_with_closed e.closed t))))
    (popped_idle xs a)
    ∙ ap (log_topped top) (by e.closed opens)
    ∙ above top)
  where
    by :
        (c : Option Closed) (os : Option (FrameKind × BlockType)) →
        log_pushed gs (log_opened os (log_with_closed c (Inactive a))) ≡ Inactive a
    by None None = pushed_idle gs a
    by None (Some opened) = pushed_idle gs a
    by (Some c) None = pushed_idle gs a
    by (Some c) (Some opened) = pushed_idle gs a

    above : (o : Option MaybeType) → log_topped o (Inactive a) ≡ Inactive a
    above None = refl
    above (Some x) = refl

-- ---- each step, with its entry

-- one that is taken, and then others
dropped_after : (n : ℕ) (v : BodyState) → body_dropped n (body_popped v) ≡ body_dropped (suc n) v
dropped_after n v = by v.present.frames
  where
    nothing : List MaybeType
    nothing = []

    none : (k : ℕ) → drop k nothing ≡ drop (suc k) nothing
    none k = drop_all k nothing (omega arith) ∙ sym (drop_all (suc k) nothing (omega arith))

    in_frame :
        (own : List MaybeType) (f : Frame) (fs : List Frame) →
        body_dropped n (body_popped (body_with_frames (record f { operands = own } ∷ fs) v))
        ≡ body_dropped (suc n) (body_with_frames (record f { operands = own } ∷ fs) v)
    in_frame [] f fs = ap (λ own. body_with_frames (record f { operands = own } ∷ fs) v) (none n)
    in_frame (x ∷ own) f fs = refl

    by :
        (fs : List Frame) →
        body_dropped n (body_popped (body_with_frames fs v)) ≡ body_dropped (suc n) (body_with_frames fs v)
    by [] = refl
    by (f ∷ fs) = in_frame f.operands f fs

phase_popped :
    (m : ℕ) (xs : List MaybeType) (t : Transaction) →
    phase_moved (phase_of m (log_popped xs t)) ≡ phase_moved (phase_of m t)
phase_popped m [] t = refl
phase_popped m (x ∷ xs) t = phase_popped m xs (with_pop x t) ∙ phase_pop m x t

-- dropping operands sets and unsets nothing
first_set_stays :
    (n : ℕ) (v : BodyState) →
    innermost_first_set (body_dropped n v).present.frames ≡ innermost_first_set v.present.frames
first_set_stays n v = by v.present.frames
  where
    by :
        (fs : List Frame) →
        innermost_first_set (body_dropped n (body_with_frames fs v)).present.frames ≡ innermost_first_set fs
    by [] = refl
    by (f ∷ fs) = refl

pub length_given :
    (gs : List ValType) (operands : List MaybeType) →
    length (operands_given gs operands) ≡ length gs + length operands
length_given [] operands = omega arith
length_given (g ∷ gs) operands = omega (arith, length_given gs (Known g ∷ operands))

pub one_above : (top : Option MaybeType) → top ≢ None → ◌≡◌ {A = ℕ} (if is_some top then 1 else 0) 1
one_above None h = absurd (h refl)
one_above (Some x) h = refl

-- where a frame is open, a flat one is
pub some_flat :
    (fs : List FlatFrame) (operands : List MaybeType) (is : List ℕ) →
    (state_from_heights fs operands is).frames ≢ [] → 0 < length fs
some_flat [] operands is h = absurd (h refl)
some_flat (f ∷ fs) operands is h = omega arith

-- where all own operands are taken, none is left
pub bare_after :
    (fs : List FlatFrame) (operands : List MaybeType) (is : List ℕ) (n : ℕ) →
    length (innermost_operands (state_from_heights fs operands is).frames) ≡ n →
    innermost_operands (state_from_heights fs (drop n operands) is).frames ≡ []
bare_after [] operands is n e = refl
bare_after (f ∷ fs) operands is n e =
    let none : length (drop n operands) - f.height ≡ 0 =
    omega (arith, length-drop n operands, own-cut (f ∷ fs) f operands is refl, e) in
    ap (λ k. take k (drop n operands)) none

-- ---- each step, on the flat stacks

-- so many operands popped
abbrev pub flat_dropped : ℕ → FlatStacks → FlatStacks
flat_dropped n s =
    record s { operands = drop n s.operands; transaction = log_popped (take n s.operands) s.transaction }

-- the innermost frame closed, if asked for
abbrev pub flat_closed : Bool → FlatStacks → FlatStacks
flat_closed b s =
    record s {
      frames = frames_closed b s.frames;
      order = order_closed b s.frames s.order;
      transaction = log_closed b s.frames s.order s.transaction;
    }

-- a local set, if asked for
abbrev pub flat_setting : Option ℕ → FlatStacks → FlatStacks
flat_setting sets s = record s { order = order_set sets s.set_at_entry s.order }

-- a frame opened, if asked for
abbrev pub flat_opened : Option (FrameKind × BlockType) → FlatStacks → FlatStacks
flat_opened o s =
    record s {
      frames = frames_opened o (length s.operands) (length s.order) s.frames;
      transaction = log_opened o s.transaction;
    }

-- an operand pushed of each of these types
abbrev pub flat_given : List ValType → FlatStacks → FlatStacks
flat_given gs s =
    record s { operands = operands_given gs s.operands; transaction = log_pushed gs s.transaction }

-- one more pushed, if asked for
abbrev pub flat_topped : Option MaybeType → FlatStacks → FlatStacks
flat_topped top s =
    record s { operands = operands_topped top s.operands; transaction = log_topped top s.transaction }

-- all of them, as a change asks for
abbrev pub flat_left : Change → FlatStacks → FlatStacks
flat_left c s = flat_setting c.sets (flat_closed c.closes (flat_dropped c.popped s))

abbrev pub flat_changed : Change → FlatStacks → FlatStacks
flat_changed c s = flat_topped c.top (flat_given c.pushed.now (flat_opened c.opens (flat_left c s)))

-- what a step leaves is sound, and stands for what it makes of the body
abbrev pub Makes : (BodyState → BodyState) → FlatStacks → FlatStacks → Type 0
Makes f s w = IsSound w × (body_from w ≡ f (body_from s))

-- the innermost frame, where it has an operand
first_there :
    (fs : List FlatFrame) (operands : List MaybeType) (is : List ℕ) →
    0 < length (innermost_operands (state_from_heights fs operands is).frames) → (f : FlatFrame)
    × (slice_get fs 0 ≡ Some f)
first_there [] operands is own = absurd (omega (arith, own))
first_there (g ∷ gs) operands is own = (g, refl)

-- with these operands
abbrev holding : List MaybeType → FlatStacks → FlatStacks
holding operands s = record s { operands = operands }

-- one own operand is taken
popped_once :
    (x : MaybeType) (rest : List MaybeType) (s : FlatStacks) → 0 < length (own_of (holding (x ∷ rest) s)) →
    length rest < s.operands_room → IsSound (holding (x ∷ rest) s) →
    Makes body_popped (holding (x ∷ rest) s) (popped_off x (holding rest s))
popped_once x rest s own room w =
    let first = first_there s.frames (x ∷ rest) s.order own in
    let count = own-cut s.frames first.0 (x ∷ rest) s.order first.1 in
    let high : first.0.height ≤ length rest = omega (arith, count, own) in (
      sound_pop (holding rest s) first.0 x first.1 high room w,
      body_pop (holding rest s) first.0 x first.1 high,
    )

-- one less is left
own_less :
    (fs : List FlatFrame) (is : List ℕ) (n : ℕ) (x : MaybeType) (rest : List MaybeType) →
    suc n ≤ length (innermost_operands (state_from_heights fs (x ∷ rest) is).frames) →
    n ≤ length (innermost_operands (state_from_heights fs rest is).frames)
own_less [] is n x rest own = absurd (omega (arith, own))
own_less (g ∷ gs) is n x rest own =
    omega (arith, own, own-cut (g ∷ gs) g (x ∷ rest) is refl, own-cut (g ∷ gs) g rest is refl)

-- so many own operands are taken
popped :
    (n : ℕ) (operands : List MaybeType) (s : FlatStacks) → n ≤ length (own_of (holding operands s)) →
    length operands ≤ s.operands_room → IsSound (holding operands s) →
    Makes (body_dropped n) (holding operands s) (flat_dropped n (holding operands s))
popped zero operands s own room w = (w, sym (dropped_none (body_from (holding operands s))))
popped (suc n) [] s own room w = absurd (omega (arith, own, own_within s.frames [] s.order))
popped (suc n) (x ∷ rest) s own room w =
    let once = popped_once x rest s (omega (arith, own)) (omega (arith, room)) w in
    let less = own_less s.frames s.order n x rest own in
    let others = popped n rest (popped_off x s) less (omega (arith, room)) once.0 in
    (others.0, others.1 ∙ ap (body_dropped n) once.1 ∙ dropped_after n (body_from (holding (x ∷ rest) s)))

-- what an attempt allows stays allowed
module _ (n : ℕ) (s : FlatStacks) (e : body_from (flat_dropped n s) ≡ body_dropped n (body_from s)) where
  kept : IsKept (body_from s) (body_from (flat_dropped n s))
  kept = subst (IsKept (body_from s)) (sym e) refl

  moved : phase_moved (stacked_of (flat_dropped n s)).phase ≡ phase_moved (stacked_of s).phase
  moved = phase_popped (length s.order) (take n s.operands) s.transaction

  taken_frame : may_frame (stacked_of s) ≡ true → may_frame (stacked_of (flat_dropped n s)) ≡ true
  taken_frame = frame_after (stacked_of s) (stacked_of (flat_dropped n s)) kept moved

  taken_unset : may_unset (stacked_of s) ≡ true → may_unset (stacked_of (flat_dropped n s)) ≡ true
  taken_unset =
      unset_after (stacked_of s) (stacked_of (flat_dropped n s)) kept moved
      (ap (λ (v : BodyState). innermost_first_set v.present.frames) e ∙ first_set_stays n (body_from s))

  taken_set : may_set (stacked_of s) ≡ true → may_set (stacked_of (flat_dropped n s)) ≡ true
  taken_set = set_after (stacked_of s) (stacked_of (flat_dropped n s)) kept moved

-- the frame is closed, if asked for
closed :
    (b : Bool) (fs : List FlatFrame) (s : FlatStacks) → (b ≡ true → own_of (record s { frames = fs }) ≡ []) →
    (b ≡ true → may_frame (stacked_of (record s { frames = fs })) ≡ true) →
    (b ≡ true → may_unset (stacked_of (record s { frames = fs })) ≡ true) → length fs ≤ s.frames_room →
    IsSound (record s { frames = fs }) →
    Makes (body_closed b) (record s { frames = fs }) (flat_closed b (record s { frames = fs }))
closed false fs s own m k room w = (w, refl)
closed true [] s own m k room w = (w, refl)
closed true (f ∷ fs) s own m k room w = (
  sound_close s f fs (own refl) (m refl) (k refl) (omega (arith, room)) w,
  body_close s f fs (own refl) (m refl) (k refl) w,
)

closed_frame :
    (b : Bool) (fs : List FlatFrame) (s : FlatStacks) →
    may_frame (stacked_of (record s { frames = fs })) ≡ true →
    may_frame (stacked_of (flat_closed b (record s { frames = fs }))) ≡ true
closed_frame false fs s m = m
closed_frame true [] s m = m
closed_frame true (f ∷ fs) s m = frames_close s f fs m

-- a local is set, if asked for
setting :
    (sets : Option ℕ) (s : FlatStacks) → (sets ≢ None → may_set (stacked_of s) ≡ true) →
    (sets ≢ None → 0 < length s.frames) → length (order_set sets s.set_at_entry s.order) ≤ s.order_room →
    AreFresh s.set_at_entry (order_set sets s.set_at_entry s.order) → IsSound s →
    Makes (body_setting sets) s (flat_setting sets s)
setting None s may opened_now room fresh w = (w, refl)
setting (Some i) s may opened_now room fresh w =
    let b : Bool = is_local_set s.set_at_entry s.order i in
    let m = may (λ e. cc) in
    let o = opened_now (λ e. cc) in (
      record { shape = shape_set s i o w.shape; marks = w.marks; undo = undo_set b s i m room fresh w },
      ap (λ (u : Option State). record (body_from (flat_setting (Some i) s)) { undone = u })
          (undone_set b s i m w)
          ∙ set_state s i o w.shape,
    )

-- a frame is opened, if asked for
opened :
    (o : Option (FrameKind × BlockType)) (s : FlatStacks) → (o ≢ None → may_frame (stacked_of s) ≡ true) →
    IsSound s → Makes (body_opened o) s (flat_opened o s)
opened None s m w = (w, refl)
opened (Some o) s m w =
    let may = m (λ e. cc) in
    (sound_open o.0 o.1 s s.frames_room may (omega arith) w, body_open o.0 o.1 s may)

-- one is pushed
pushed_once : (x : MaybeType) (s : FlatStacks) → IsSound s → Makes (body_pushed x) s (pushed_on x s)
pushed_once x s w = (sound_push s x s.operands_room (omega arith) w, body_push s x w)

-- all of a list is given
given : (gs : List ValType) (s : FlatStacks) → IsSound s → Makes (body_pushed_each gs) s (flat_given gs s)
given [] s w = (w, refl)
given (g ∷ gs) s w =
    let once = pushed_once (Known g) s w in
    let rest = given gs (pushed_on (Known g) s) once.0 in
    (rest.0, rest.1 ∙ ap (body_pushed_each gs) once.1)

-- and one above them
topped : (top : Option MaybeType) (s : FlatStacks) → IsSound s → Makes (body_topped top) s (flat_topped top s)
topped None s w = (w, refl)
topped (Some x) s w = pushed_once x s w

-- ---- a whole change

-- what allows it
pub record Allowed (c : Change) (s : FlatStacks) : Type 0 where
  pub may : MayChange c (stacked_of s)
  pub operands_room : length s.operands ≤ s.operands_room
  pub frames_room : length s.frames ≤ s.frames_room
  pub order_room : length (flat_left c s).order ≤ s.order_room
  pub fresh : AreFresh s.set_at_entry (flat_left c s).order

-- where no frame is closed or opened, what a local needs to be set stays
still_set :
    (b : Bool) (s : FlatStacks) → b ≡ false → may_set (stacked_of s) ≡ true →
    may_set (stacked_of (flat_closed b s)) ≡ true
still_set false s e m = m
still_set true s e m = cc

still_open :
    (b : Bool) (fs : List FlatFrame) → b ≡ false → 0 < length fs → 0 < length (frames_closed b fs)
still_open false fs e m = m
still_open true fs e m = cc

still_frame :
    (sets : Option ℕ) (o : Option (FrameKind × BlockType)) (s : FlatStacks) → (sets ≢ None → o ≡ None) →
    o ≢ None → may_frame (stacked_of s) ≡ true → may_frame (stacked_of (flat_setting sets s)) ≡ true
still_frame None o s alone some m = m
still_frame (Some i) o s alone some m = absurd (some (alone (λ e. cc)))

-- all of its steps
changed :
    (c : Change) (s : FlatStacks) → Allowed c s → IsSound s → Makes (body_changed c) s (flat_changed c s)
changed c s a w =
    let taken = flat_dropped c.popped s in
    let left = flat_left c s in
    let one = popped c.popped s.operands s a.may.own a.operands_room w in
    let two =
    closed c.closes s.frames taken bare (λ e. taken_frame c.popped s one.1 (a.may.closing e))
    (λ e. taken_unset c.popped s one.1 (a.may.unsets e)) a.frames_room one.0 in
    let three =
    setting c.sets (flat_closed c.closes taken) (may_be_set one.1) there a.order_room a.fresh two.0 in
    let four = opened c.opens left (may_be_opened one.1) three.0 in
    let five = given c.pushed.now (flat_opened c.opens left) four.0 in
    let six = topped c.top (flat_given c.pushed.now (flat_opened c.opens left)) five.0 in
    let under =
    four.1
    ∙ ap (body_opened c.opens)
    (three.1 ∙ ap (body_setting c.sets) (two.1 ∙ ap (body_closed c.closes) one.1)) in
    (six.0, six.1 ∙ ap (body_topped c.top) (five.1 ∙ ap (body_pushed_each c.pushed.now) under))
  where
    bare : c.closes ≡ true → own_of (flat_dropped c.popped s) ≡ []
    bare e = bare_after s.frames s.operands s.order c.popped (a.may.whole e)

    there : c.sets ≢ None → 0 < length (frames_closed c.closes s.frames)
    there e =
        still_open c.closes s.frames (a.may.set_alone e).0
        (some_flat s.frames s.operands s.order (a.may.set_within e))

    may_be_set :
        body_from (flat_dropped c.popped s) ≡ body_dropped c.popped (body_from s) → c.sets ≢ None →
        may_set (stacked_of (flat_closed c.closes (flat_dropped c.popped s))) ≡ true
    may_be_set one e =
        still_set c.closes (flat_dropped c.popped s) (a.may.set_alone e).0
        (taken_set c.popped s one (a.may.setting e))

    may_be_opened :
        body_from (flat_dropped c.popped s) ≡ body_dropped c.popped (body_from s) → c.opens ≢ None →
        may_frame (stacked_of (flat_left c s)) ≡ true
    may_be_opened one e =
        still_frame c.sets c.opens (flat_closed c.closes (flat_dropped c.popped s))
        (λ i. (a.may.set_alone i).1) e
        (closed_frame c.closes s.frames (flat_dropped c.popped s)
        (taken_frame c.popped s one (a.may.opening e)))

-- with these lists
abbrev pub with_lists :
    List FlatFrame → List MaybeType → List ℕ → Transaction → List Bool → FlatStacks → FlatStacks
with_lists fs operands is t en s =
    record s { frames = fs; operands = operands; order = is; transaction = t; set_at_entry = en }

-- the same of lists that are equal to those
pub changed_there :
    (c : Change) (s : FlatStacks) (fs : List FlatFrame) (operands : List MaybeType) (is : List ℕ)
    (t : Transaction) (en : List Bool) → fs ≡ (flat_changed c s).frames →
    operands ≡ (flat_changed c s).operands → is ≡ (flat_changed c s).order →
    t ≡ (flat_changed c s).transaction → en ≡ s.set_at_entry → Allowed c s → IsSound s →
    Makes (body_changed c) s (with_lists fs operands is t en s)
changed_there c s fs operands is t en p q r u e a w = rw (p, q, r, u, e) (changed c s a w)
