-- The flat stacks while no attempt is pending: a change of the lists alone is a change of the body, and
-- what it leaves is sound.
use Rattle.std.proofs.Common.{◌≡◌, ◌≢◌, MatchOption, ℕ, zero, suc, ◌+◌, ◌-◌, ◌<◌, ◌≤◌, List, [], ◌∷◌, true}
use Rattle.std.proofs.Common.{false, Option, Some, None, is_some, length, slice_get, take, drop, refl, sym}
use Rattle.std.proofs.Common.{◌∙◌, ap, subst, arith}
use Rattle.std.proofs.lemmas.List.{drop_all, drop-drop, length-drop, length-take-le, take_all}
use Rattle.std.proofs.lemmas.List.{take-append-drop, take-take}
use Rattle.std.proofs.Math.Seq.{take-add}
use Rattle.validate_visit.specs.declared.frame.BlockType.{BlockType}
use Rattle.validate_visit.specs.declared.frame.Frame.{Frame as FlatFrame}
use Rattle.validate_visit.specs.declared.frame.FrameKind.{FrameKind}
use Rattle.validate_transaction.specs.declared.log.Transaction.{Transaction}
use Rattle.validate_transaction.specs.declared.log.Transaction.TheVariants.{Active, Inactive}
use Rattle.validate_transaction.specs.Recorded.{log_of, with_push, with_opened}
use Rattle.validation_rules.specs.Fits.{MaybeType}
use Rattle.validate_stacks.specs.Attempts.{may_frame}
use Rattle.validation_rules.specs.Static.{Frame, State, state_with}
use Rattle.validate_stacks.specs.AtOnce.{body_dropped, body_with_frame_over, state_given, body_given}
use Rattle.validate_stacks.specs.Flat.{FlatStacks, body_from, state_from_heights, state_with_frame}
use Rattle.validate_stacks.specs.Flat.{stacked_of, HasShape, IsSound, undone_pending}
use Rattle.validate_stacks.specs.State.{BodyState, body_with_frames}
use Rattle.validate_stacks.specs.Steps.{innermost_operands, body_popped, body_pushed}
use Rattle.validate_stacks.proofs.Cuts.{body_cut, own_of, own-cut, HasShape-more, above_height}
use Rattle.validate_stacks.proofs.MatchedOperands.{drop_next}
use Rattle.validate_stacks.proofs.Undone.{new_flat, sound_idle}
use Rattle.validate_stacks.proofs.AtOnce.{dropped_none, dropped_next, some_left}

-- ---- the log

pub no_log : (t : Transaction) → is_some (log_of t) ≡ false → log_of t ≡ None
no_log (Active log) h = cc
no_log (Inactive a) h = refl

pub quiet_push : (t : Transaction) → log_of t ≡ None → with_push t ≡ t
quiet_push (Active log) h = cc
quiet_push (Inactive a) h = refl

pub quiet_undone :
    (s : FlatStacks) (fs : List FlatFrame) (operands : List MaybeType) (is : List ℕ) →
    log_of s.transaction ≡ None → undone_pending fs operands is s.transaction ≡ (body_from s).undone
quiet_undone s fs operands is h = by s.transaction h
  where
    by :
        (t : Transaction) → log_of t ≡ None →
        undone_pending fs operands is t ≡ undone_pending s.frames s.operands s.order t
    by (Active log) h = cc
    by (Inactive a) h = refl

-- so nothing but the lists counts
quiet_cut :
    (s : FlatStacks) (fs : List FlatFrame) (operands : List MaybeType) (is : List ℕ) →
    log_of s.transaction ≡ None →
    body_from (record s { frames = fs; operands = operands; order = is })
    ≡ body_cut fs operands is (body_from s)
quiet_cut s fs operands is quiet =
    ap (λ (u : Option State). body_cut fs operands is (record (body_from s) { undone = u }))
    (quiet_undone s fs operands is quiet)

-- ---- an operand in the place of the top one

-- there is one
pub own_there :
    (fs : List FlatFrame) (operands : List MaybeType) (is : List ℕ) →
    innermost_operands (state_from_heights fs operands is).frames ≢ [] → 0 < length operands
own_there [] operands is own = absurd (own refl)
own_there (g ∷ gs) [] is own = absurd (own (none (0 - g.height)))
  where
    nothing : List MaybeType
    nothing = []

    none : (n : ℕ) → take n nothing ≡ []
    none zero = refl
    none (suc n) = refl
own_there (g ∷ gs) (x ∷ operands) is own = omega arith

pub sound_replaced :
    (s : FlatStacks) (y : MaybeType) (room : ℕ) → log_of s.transaction ≡ None → 0 < length s.operands →
    IsSound s → IsSound (record s { operands = y ∷ drop 1 s.operands; operands_room = room })
sound_replaced s y room quiet some w =
    let count : length s.operands ≡ suc (length (drop 1 s.operands)) =
    omega (arith, some, length-drop 1 s.operands) in
    sound_idle quiet (subst (λ n. HasShape s.frames n (length s.order)) count w.shape) w.marks

cut-replaced :
    (fs : List FlatFrame) (y : MaybeType) (operands : List MaybeType) (is : List ℕ) (v : BodyState) →
    innermost_operands (state_from_heights fs operands is).frames ≢ [] →
    body_cut fs (y ∷ drop 1 operands) is v ≡ body_pushed y (body_popped (body_cut fs operands is v))
cut-replaced [] y operands is v own = absurd (own refl)
cut-replaced (g ∷ gs) y [] is v own = absurd (omega (arith, own_there (g ∷ gs) [] is own))
cut-replaced (g ∷ gs) y (x ∷ operands) is v own = by (suc (length operands) - g.height) refl
  where
    by :
        (k : ℕ) → suc (length operands) - g.height ≡ k →
        body_cut (g ∷ gs) (y ∷ operands) is v
        ≡ body_pushed y (body_popped (body_cut (g ∷ gs) (x ∷ operands) is v))
    by zero e = absurd (own (ap (λ j. take j (x ∷ operands)) e))
    by (suc k) e = rw e refl

pub body_replaced :
    (s : FlatStacks) (y : MaybeType) → log_of s.transaction ≡ None → own_of s ≢ [] →
    body_from (record s { operands = y ∷ drop 1 s.operands }) ≡ body_pushed y (body_popped (body_from s))
body_replaced s y quiet own =
    quiet_cut s s.frames (y ∷ drop 1 s.operands) s.order quiet
    ∙ cut-replaced s.frames y s.operands s.order (body_from s) own

-- ---- a frame opened where nothing is recorded

pub quiet_opened : (t : Transaction) → log_of t ≡ None → with_opened t ≡ t
quiet_opened (Active log) h = cc
quiet_opened (Inactive a) h = refl

pub quiet_frame : (s : FlatStacks) → log_of s.transaction ≡ None → may_frame (stacked_of s) ≡ true
quiet_frame s h = by s.transaction h
  where
    by : (t : Transaction) → log_of t ≡ None → may_frame (stacked_of (record s { transaction = t })) ≡ true
    by (Active log) h = cc
    by (Inactive a) h = refl

-- ---- own operands given to the next outer frame

-- the frames below, at once and after the own operands of the innermost one
pub cut-pushed :
    (f : FlatFrame) (fs : List FlatFrame) (operands : List MaybeType) (is : List ℕ) (m : ℕ) →
    HasShape (f ∷ fs) (length operands) m →
    state_from_heights fs operands (take f.init_height is)
    ≡ state_given (state_from_heights (f ∷ fs) operands is).frames
    (state_from_heights (f ∷ fs) operands is).left
cut-pushed f [] operands is m h =
    ap (λ l. state_with l []) (sym (take-append-drop (length operands - f.height) operands))
cut-pushed f (g ∷ gs) operands is m h =
    let k = length operands - f.height in
    let below : length (drop k operands) ≡ f.height = omega (arith, length-drop k operands, h.0) in
    let more : length operands - g.height ≡ k + (length (drop k operands) - g.height) =
    omega (arith, below, h.0, h.2.0) in
    rw more
    (rw (
      take-add k (length (drop k operands) - g.height) operands,
      ← drop-drop (length (drop k operands) - g.height) k operands,
    )
    refl)

-- with the innermost frame left, and its operands given to the next outer one
abbrev pub given_off : FlatFrame → List FlatFrame → FlatStacks → FlatStacks
given_off f fs s = record s { frames = fs; order = take f.init_height s.order }

pub sound_given :
    (s : FlatStacks) (f : FlatFrame) (fs : List FlatFrame) (frames_room order_room : ℕ) →
    log_of s.transaction ≡ None → s.frames ≡ f ∷ fs → IsSound s →
    IsSound (record (given_off f fs s) { frames_room = frames_room; order_room = order_room })
sound_given s f fs frames_room order_room quiet e w =
    let count = length s.operands in
    let shape : HasShape (f ∷ fs) count (length s.order) =
    subst (λ gs. HasShape gs count (length s.order)) e w.shape in
    let left = sym (length-take-le f.init_height s.order shape.1) in
    sound_idle quiet
    (subst (HasShape fs count) left (HasShape-more fs f.height count f.init_height shape.0 shape.2)) w.marks

pub idle_given :
    (s : FlatStacks) (f : FlatFrame) (fs : List FlatFrame) → log_of s.transaction ≡ None → s.frames ≡ f ∷ fs →
    IsSound s → body_from (given_off f fs s) ≡ body_given (body_from s)
idle_given s f fs quiet e w =
    let shape = subst (λ gs. HasShape gs (length s.operands) (length s.order)) e w.shape in
    quiet_cut s fs s.operands (take f.init_height s.order) quiet
    ∙ ap (λ (p : State). record (body_from s) { present = p })
    (cut-pushed f fs s.operands s.order (length s.order) shape)
    ∙ ap (λ gs. body_given (body_cut gs s.operands s.order (body_from s))) (sym e)

-- ---- the top own operand taken

-- there is one
pub taken_there :
    (fs : List FlatFrame) (operands : List MaybeType) (is : List ℕ) →
    innermost_operands (state_from_heights fs operands is).frames ≢ [] → (o : Option MaybeType)
    (rest : List MaybeType) → MatchOption o ((operands ≡ []) × (rest ≡ [])) (λ x. operands ≡ x ∷ rest) →
    (x : MaybeType) × (operands ≡ x ∷ rest)
taken_there fs operands is own (Some x) rest m = (x, m)
taken_there fs operands is own None rest m =
    let some = own_there fs operands is own in absurd (omega (arith, some, ap length m.0))

-- it lies above the height of its frame
above_own :
    (g : FlatFrame) (gs : List FlatFrame) (x : MaybeType) (operands : List MaybeType) (is : List ℕ) →
    innermost_operands (state_from_heights (g ∷ gs) (x ∷ operands) is).frames ≢ [] →
    g.height ≤ length operands
above_own g gs x operands is own = by (suc (length operands) - g.height) refl
  where
    by : (k : ℕ) → suc (length operands) - g.height ≡ k → g.height ≤ length operands
    by zero e = absurd (own (ap (λ j. take j (x ∷ operands)) e))
    by (suc k) e = omega (arith, e)

shape_taken :
    (fs : List FlatFrame) (x : MaybeType) (rest : List MaybeType) (is : List ℕ) (m : ℕ) →
    innermost_operands (state_from_heights fs (x ∷ rest) is).frames ≢ [] → HasShape fs (suc (length rest)) m →
    HasShape fs (length rest) m
shape_taken [] x rest is m own h = absurd (own refl)
shape_taken (g ∷ gs) x rest is m own h = (above_own g gs x rest is own, h.1, h.2)

pub sound_taken :
    (s : FlatStacks) (x : MaybeType) (rest : List MaybeType) (room : ℕ) → log_of s.transaction ≡ None →
    s.operands ≡ x ∷ rest → own_of s ≢ [] → IsSound s →
    IsSound (record s { operands = rest; operands_room = room })
sound_taken s x rest room quiet e own w =
    let there = subst (λ xs. own_of (record s { operands = xs }) ≢ []) e own in
    let shape = subst (λ (xs : List MaybeType). HasShape s.frames (length xs) (length s.order)) e w.shape in
    sound_idle quiet (shape_taken s.frames x rest s.order (length s.order) there shape) w.marks

cut-popped :
    (fs : List FlatFrame) (x : MaybeType) (rest : List MaybeType) (is : List ℕ) (v : BodyState) →
    innermost_operands (state_from_heights fs (x ∷ rest) is).frames ≢ [] →
    body_cut fs rest is v ≡ body_popped (body_cut fs (x ∷ rest) is v)
cut-popped [] x rest is v own = absurd (own refl)
cut-popped (g ∷ gs) x rest is v own =
    above_height (g ∷ gs) g x rest is v refl (above_own g gs x rest is own)

pub body_taken :
    (s : FlatStacks) (x : MaybeType) (rest : List MaybeType) → log_of s.transaction ≡ None →
    s.operands ≡ x ∷ rest → own_of s ≢ [] →
    body_from (record s { operands = rest }) ≡ body_popped (body_from s)
body_taken s x rest quiet e own =
    let there = subst (λ xs. own_of (record s { operands = xs }) ≢ []) e own in
    quiet_cut s s.frames rest s.order quiet
    ∙ cut-popped s.frames x rest s.order (body_from s) there
    ∙ ap (λ xs. body_popped (body_cut s.frames xs s.order (body_from s))) (sym e)

-- ---- own operands taken

-- no more than all operands
pub own_within :
    (fs : List FlatFrame) (operands : List MaybeType) (is : List ℕ) →
    length (innermost_operands (state_from_heights fs operands is).frames) ≤ length operands
own_within [] operands is = omega arith
own_within (g ∷ gs) operands is = omega (arith, own-cut (g ∷ gs) g operands is refl)

-- so many of them
pub dropped_whole :
    (n : ℕ) (s : FlatStacks) → log_of s.transaction ≡ None → n ≤ length (own_of s) → IsSound s →
    IsSound (record s { operands = drop n s.operands })
    × (body_from (record s { operands = drop n s.operands }) ≡ body_dropped n (body_from s))
dropped_whole zero s quiet own w = (w, sym (dropped_none (body_from s)))
dropped_whole (suc n) s quiet own w =
    let before = dropped_whole n s quiet (omega (arith, own)) w in
    let there = some_left n (body_from s) (omega (arith, own)) in
    by (drop n s.operands) refl before.0 before.1
    (subst (λ (u : BodyState). innermost_operands u.present.frames ≢ []) (sym before.1) there)
  where
    at : List MaybeType → FlatStacks
    at left = record s { operands = left }

    v : BodyState
    v = body_from s

    plus : n + 1 ≡ suc n
    plus = omega arith

    by :
        (left : List MaybeType) → drop n s.operands ≡ left → IsSound (at (drop n s.operands)) →
        body_from (at (drop n s.operands)) ≡ body_dropped n v → own_of (at (drop n s.operands)) ≢ [] →
        IsSound (at (drop (suc n) s.operands))
        × (body_from (at (drop (suc n) s.operands)) ≡ body_dropped (suc n) v)
    by [] e sound same there =
        absurd (omega (arith, own_there s.frames (drop n s.operands) s.order there, ap length e))
    by (x ∷ rest) e sound same there =
        let left_is : rest ≡ drop (suc n) s.operands = sym (drop_next n s.operands ∙ ap (drop 1) e) in (
          subst (λ k. IsSound (at k)) left_is
              (sound_taken (at (drop n s.operands)) x rest s.operands_room quiet e there sound),
          ap (λ k. body_from (at k)) (sym left_is)
              ∙ body_taken (at (drop n s.operands)) x rest quiet e there
              ∙ ap body_popped same
              ∙ dropped_next n v
              ∙ ap (λ k. body_dropped k v) plus,
        )

-- where there is none in the list, no frame is open
pub frameless :
    (fs : List FlatFrame) (operands : List MaybeType) (is : List ℕ) → slice_get fs 0 ≡ None →
    (state_from_heights fs operands is).frames ≡ []
frameless [] operands is h = refl
frameless (g ∷ gs) operands is h = cc

-- where no frame is open, nothing is given
pub given_nothing : (s : FlatStacks) → slice_get s.frames 0 ≡ None → body_from s ≡ body_given (body_from s)
given_nothing s h = by s.frames h
  where
    by :
        (fs : List FlatFrame) → slice_get fs 0 ≡ None →
        body_cut fs s.operands s.order (body_from s)
        ≡ body_given (body_cut fs s.operands s.order (body_from s))
    by [] h = refl
    by (g ∷ gs) h = cc

-- ---- own operands taken over by a frame

over_cut :
    (n : ℕ) (k : FrameKind) (b : BlockType) (fs : List FlatFrame) (operands : List MaybeType) (is : List ℕ) →
    n ≤ length operands →
    state_from_heights (new_flat k b (length operands - n) (length is) ∷ fs) operands is
    ≡ state_with_frame
    (record {
      head = record { kind = k; block_type = b };
      operands = take n operands;
      dead = false;
      first_set = [];
    })
    (state_from_heights fs (drop n operands) is)
over_cut n k b fs operands is h =
    let e : length operands - (length operands - n) ≡ n = omega (arith, h) in
    rw (e, drop_all (length is) is (omega arith), take_all (length is) is (omega arith)) refl

pub own_taken :
    (n : ℕ) (fs : List FlatFrame) (operands : List MaybeType) (is : List ℕ) →
    n ≤ length (innermost_operands (state_from_heights fs operands is).frames) →
    take n operands ≡ take n (innermost_operands (state_from_heights fs operands is).frames)
own_taken n [] operands is h = let none : n ≡ 0 = omega (arith, h) in rw none refl
own_taken n (g ∷ gs) operands is h =
    sym
    (take-take n (length operands - g.height) operands
    (omega (arith, h, own-cut (g ∷ gs) g operands is refl)))

-- with a frame over so many own operands of the innermost one
abbrev pub over_own : ℕ → FrameKind → BlockType → FlatStacks → FlatStacks
over_own n k b s =
    record s { frames = new_flat k b (length s.operands - n) (length s.order) ∷ s.frames }

pub taken_over :
    (n : ℕ) (k : FrameKind) (b : BlockType) (s : FlatStacks) (room : ℕ) → log_of s.transaction ≡ None →
    n ≤ length (own_of s) → IsSound s →
    IsSound (record (over_own n k b s) { frames_room = room })
    × (body_from (over_own n k b s) ≡ body_with_frame_over n k b (body_from s))
taken_over n k b s room quiet own w =
    let within = own_within s.frames s.operands s.order in
    let below = dropped_whole n s quiet own w in
    let left : length (drop n s.operands) ≡ length s.operands - n = length-drop n s.operands in
    let shape = subst (λ j. HasShape s.frames j (length s.order)) left below.0.shape in (
      sound_idle quiet (omega arith, omega arith, shape) w.marks,
      quiet_cut s (over_own n k b s).frames s.operands s.order quiet
          ∙ ap (λ (p : State). record (body_from s) { present = p })
          (over_cut n k b s.frames s.operands s.order (omega (arith, own, within)))
          ∙ ap (λ q. on q (body_cut s.frames (drop n s.operands) s.order (body_from s)))
          (own_taken n s.frames s.operands s.order own)
          ∙ ap (on (take n (own_of s)))
          (sym (quiet_cut s s.frames (drop n s.operands) s.order quiet) ∙ below.1),
    )
  where
    on : List MaybeType → BodyState → BodyState
    on own u =
        let opened : Frame =
        record {
          head = record { kind = k; block_type = b };
          operands = own;
          dead = false;
          first_set = [];
        } in
        body_with_frames (opened ∷ u.present.frames) u
