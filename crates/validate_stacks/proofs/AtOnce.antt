-- Operands put in place or taken at once in a body, and what fits at once.
use Rattle.std.proofs.Common.{◌≡◌, ◌≢◌, ◌⊎◌, inl, inr, min, reverse, Ok, MatchBool, ℕ, suc, ◌+◌, ◌-◌, ◌<◌}
use Rattle.std.proofs.Common.{◌≤◌, List, [], ◌∷◌, Bool, true, false, Option, Some, None, length, get_or, map}
use Rattle.std.proofs.Common.{take, drop, refl, sym, ◌∙◌, ap, subst, arith}
use Rattle.std.specs.List.{AllByRecursion}
use Rattle.std.specs.Option.{option_map}
use Rattle.std.proofs.lemmas.List.{at_drop_more, append-nil, drop_all, drop_min, length-drop, length-map}
use Rattle.std.proofs.lemmas.List.{length-reverse, take_all, take-append-le}
use Rattle.validate_resources.specs.Context.{ModuleContext, Valid, IsLawful}
use Rattle.validate_types.specs.declared.types.ValType.{ValType}
use Rattle.validate_visit.specs.declared.frame.BlockType.{BlockType}
use Rattle.validate_visit.specs.declared.frame.FrameKind.{FrameKind}
use Rattle.validation_rules.specs.Fits.{MaybeType, Bottom, Known, fits, all_fit}
use Rattle.validation_rules.specs.Context.{Context}
use Rattle.validation_rules.specs.Pops.{found_by_pop}
use Rattle.validation_rules.specs.Rows.{guard, Operator}
use Rattle.validate_stacks.specs.Attempts.{Stacked}
use Rattle.validation_rules.specs.Static.{Frame, stack_with, operands_found, opened_frame, locals_set}
use Rattle.validate_stacks.specs.AtOnce.{frames_dropped, body_dropped, body_with_frame_over, body_given}
use Rattle.validate_stacks.specs.AtOnce.{pushed_list, MeetsOrUnchanged}
use Rattle.validate_stacks.specs.Pops.{FitsAtOnce, may_pop, body_popped_each, body_pushed_each}
use Rattle.validate_stacks.specs.Pops.{has_operands_fitting, operands_found_in, IsKept}
use Rattle.validate_stacks.specs.State.{BodyState, body_context, body_with_frames, IsValidBody}
use Rattle.validate_stacks.specs.Steps.{head_of, found_in_body, found_after_pops_in_body}
use Rattle.validate_stacks.specs.Steps.{found_after_pops_in_frames, innermost_operands, body_without_first}
use Rattle.validate_stacks.specs.Steps.{body_popped, body_pushed, body_unreachable, body_without_frame}
use Rattle.validate_stacks.specs.Visits.{Meets}
use Rattle.validation_rules.proofs.Steps.{some_injective}
use Rattle.validate_stacks.proofs.MatchedOperands.{drop_next}
use Rattle.validate_stacks.proofs.Whole.{popped_none, popped_next, popped_whole, pushed_whole}
use Rattle.validate_stacks.proofs.Validity.{popped_valid, popped_kept, pushed_valid, kept_on}

-- ---- operands taken

pub dropped_none : (v : BodyState) → body_dropped 0 v ≡ v
dropped_none v = by v.present.frames
  where
    by : (fs : List Frame) → body_dropped 0 (body_with_frames fs v) ≡ body_with_frames fs v
    by [] = refl
    by (f ∷ fs) = refl

pub dropped_next : (n : ℕ) (v : BodyState) → body_popped (body_dropped n v) ≡ body_dropped (n + 1) v
dropped_next n v = by v.present.frames ∙ ap (λ k. body_dropped k v) plus
  where
    plus : suc n ≡ n + 1
    plus = omega arith

    one :
        (own : List MaybeType) (f : Frame) (fs : List Frame) →
        body_without_first own (body_with_frames (record f { operands = own } ∷ fs) v)
        ≡ body_with_frames (record f { operands = drop 1 own } ∷ fs) v
    one [] f fs = refl
    one (x ∷ own) f fs = refl

    by :
        (fs : List Frame) →
        body_popped (body_dropped n (body_with_frames fs v)) ≡ body_dropped (suc n) (body_with_frames fs v)
    by [] = refl
    by (f ∷ fs) =
        one (drop n f.operands) f fs
        ∙ ap (λ own. body_with_frames (record f { operands = own } ∷ fs) v) (sym (drop_next n f.operands))

-- ---- what fits at once

pub fits_by :
    (md : ModuleContext) → IsLawful md → (v : BodyState) (t : MaybeType) (w : ValType) → Valid md w →
    FitsAtOnce t (Some w) → may_pop (body_context md v) (Some t) (Some w) ≡ true
fits_by md laws v t w valid h = by (h w refl)
  where
    by : (t ≡ Bottom) ⊎ (t ≡ Known w) → fits (body_context md v) t w ≡ true
    by (inl e) = ap (λ x. fits (body_context md v) x w) e
    by (inr e) = ap (λ x. fits (body_context md v) x w) e ∙ laws.reflexive w valid

-- an operand that is known to be of the expected type
pub known_fits :
    (md : ModuleContext) → IsLawful md → (v : BodyState) (k : ℕ) (t : ValType) → Valid md t →
    found_after_pops_in_body k v ≡ Some (Known t) →
    may_pop (body_context md v) (found_after_pops_in_body k v) (Some t) ≡ true
known_fits md laws v k t valid found =
    ap (λ f. may_pop (body_context md v) f (Some t)) found ∙ laws.reflexive t valid

-- ---- all of a list taken

guard_open : {A : Type 0} (b : Bool) (o : Option A) → b ≡ true → guard b o ≡ o
guard_open true o h = refl
guard_open false o h = cc

-- where all of it fits, pops leave what lies below
pub popped_dropped :
    (md : ModuleContext) (expected : List ValType) (v : BodyState) →
    has_operands_fitting (body_context md v) expected v ≡ true →
    body_popped_each md (reverse expected) v ≡ Some (body_dropped (length expected) v)
popped_dropped md expected v h = by v.present.frames refl
  where
    nothing : (ws : List ValType) → all_fit (body_context md v) [] ws ≡ true → ws ≡ []
    nothing [] e = refl
    nothing (w ∷ ws) e = cc

    by :
        (fs : List Frame) → v.present.frames ≡ fs →
        body_popped_each md (reverse expected) v ≡ Some (body_dropped (length expected) v)
    by [] e =
        let none : expected ≡ [] =
        nothing expected
        (sym (ap (λ gs. all_fit (body_context md v) (operands_found_in (length expected) gs) expected) e)
        ∙ h) in
        ap (λ ws. body_popped_each md (reverse ws) v) none
        ∙ popped_none md v
        ∙ ap Some (sym (dropped_none v))
        ∙ ap (λ ws. Some (body_dropped (length ws) v)) (sym none)
    by (f ∷ fs) e =
        popped_whole md v f fs expected e
        ∙ guard_open (all_fit (body_context md v) (operands_found (length expected) f) expected) _
        (sym (ap (λ gs. all_fit (body_context md v) (operands_found_in (length expected) gs) expected) e) ∙ h)
        ∙ ap (λ gs. Some (body_with_frames gs v)) (sym (ap (frames_dropped (length expected)) e))

-- what is found below no other
found_first : (v : BodyState) → found_in_body v ≡ found_after_pops_in_body 0 v
found_first v = by v.present.frames
  where
    by : (fs : List Frame) → found_in_body (body_with_frames fs v) ≡ found_after_pops_in_frames 0 fs
    by [] = refl
    by (f ∷ fs) = refl

-- the operand that is found, known to be of the expected type, is popped
pub known_popped :
    (md : ModuleContext) → IsLawful md → (v : BodyState) (t : ValType) → Valid md t →
    found_after_pops_in_body 0 v ≡ Some (Known t) → body_popped_each md (t ∷ []) v ≡ Some (body_dropped 1 v)
known_popped md laws v t valid found =
    popped_next md t [] v
    ∙ guard_open (may_pop (body_context md v) (found_in_body v) (Some t)) (body_popped_each md [] (body_popped v))
    (ap (λ o. may_pop (body_context md v) o (Some t)) (found_first v) ∙ known_fits md laws v 0 t valid found)
    ∙ popped_none md (body_popped v)
    ∙ ap Some (ap body_popped (sym (dropped_none v)) ∙ dropped_next 0 v)

-- what is found below one other is found after it was popped
pub found_below : (v : BodyState) → found_after_pops_in_body 1 v ≡ found_in_body (body_popped v)
found_below v = by v.present.frames
  where
    with : List Frame → BodyState
    with fs = record v { present = record { frames = fs; left = v.present.left } }

    in_frame :
        (own : List MaybeType) (f : Frame) (fs : List Frame) →
        found_after_pops_in_body 1 (with (record f { operands = own } ∷ fs))
        ≡ found_in_body (body_popped (with (record f { operands = own } ∷ fs)))
    in_frame [] f fs = refl
    in_frame (x ∷ own) f fs = refl

    by : (fs : List Frame) → found_after_pops_in_body 1 (with fs) ≡ found_in_body (body_popped (with fs))
    by [] = refl
    by (f ∷ fs) = in_frame f.operands f fs

-- a known operand that isn't taken is one that is pushed
pub known_stays :
    (k : ℕ) (t : ValType) (v : BodyState) → k < length (innermost_operands v.present.frames) →
    found_after_pops_in_body k v ≡ Some (Known t) →
    body_dropped k v ≡ body_pushed (Known t) (body_dropped (k + 1) v)
known_stays k t v own found = by v.present.frames own found
  where
    top :
        (left : List MaybeType) (f : Frame) (fs : List Frame) → 0 < length left →
        found_by_pop f.dead left ≡ Some (Known t) →
        body_with_frames (record f { operands = left } ∷ fs) v
        ≡ body_pushed (Known t) (body_with_frames (record f { operands = drop 1 left } ∷ fs) v)
    top [] f fs some e = absurd (omega (arith, some))
    top (x ∷ left) f fs some e =
        ap (λ y. body_with_frames (record f { operands = y ∷ left } ∷ fs) v) (some_injective x (Known t) e)

    by :
        (fs : List Frame) → k < length (innermost_operands fs) →
        found_after_pops_in_frames k fs ≡ Some (Known t) →
        body_dropped k (body_with_frames fs v)
        ≡ body_pushed (Known t) (body_dropped (k + 1) (body_with_frames fs v))
    by [] some e = absurd (omega (arith, some))
    by (f ∷ fs) some e =
        let next : drop 1 (drop k f.operands) ≡ drop (k + 1) f.operands =
        sym (drop_next k f.operands) ∙ ap (λ j. drop j f.operands) plus in
        top (drop k f.operands) f fs (omega (arith, some, length-drop k f.operands)) e
        ∙ ap (λ own. body_pushed (Known t) (body_with_frames (record f { operands = own } ∷ fs) v)) next
      where
        plus : suc k ≡ k + 1
        plus = omega arith

-- those that are looked at from the top down, and are known
pub known_starts :
    (expected : List ValType) (v : BodyState) →
    body_pushed_each (drop (length expected) expected) (body_dropped (length expected - length expected) v)
    ≡ v
known_starts expected v =
    let none : length expected - length expected ≡ 0 = omega arith in
    rw (none, drop_all (length expected) expected (omega arith)) (dropped_none v)

pub known_goes_on :
    (expected : List ValType) (v : BodyState) (n : ℕ) (d : ValType) → 0 < n → n - 1 < length expected →
    length expected ≤ length (innermost_operands v.present.frames) →
    found_after_pops_in_body (length expected - 1 - (n - 1)) v ≡ Some (Known (get_or expected (n - 1) d)) →
    body_pushed_each (drop n expected) (body_dropped (length expected - n) v) ≡ v →
    body_pushed_each (drop (n - 1) expected) (body_dropped (length expected - (n - 1)) v) ≡ v
known_goes_on expected v n d some here own found before =
    let k : ℕ = length expected - n in
    let t : ValType = get_or expected (n - 1) d in
    let depth : length expected - 1 - (n - 1) ≡ k = omega (arith, some, here) in
    let more : length expected - (n - 1) ≡ k + 1 = omega (arith, some, here) in
    let back : n - 1 + 1 ≡ n = omega (arith, some) in
    at_drop_more (λ ts. body_pushed_each ts (body_dropped (length expected - (n - 1)) v)) expected (n - 1) d
    here
    ∙ ap (λ j. body_pushed_each (t ∷ drop (n - 1 + 1) expected) (body_dropped j v)) more
    ∙ ap (λ j. body_pushed_each (t ∷ drop j expected) (body_dropped (k + 1) v)) back
    ∙ ap (body_pushed_each (drop n expected))
    (sym
    (known_stays k t v (omega (arith, some, here, own))
    (sym (ap (λ j. found_after_pops_in_body j v) depth) ∙ found)))
    ∙ before

-- the frames stay open
pub dropped_open : (n : ℕ) (v : BodyState) → v.present.frames ≢ [] → (body_dropped n v).present.frames ≢ []
dropped_open n v o = by v.present.frames o
  where
    by : (fs : List Frame) → fs ≢ [] → frames_dropped n fs ≢ []
    by [] h = absurd (h refl)
    by (f ∷ fs) h = λ e. cc

-- no more than there are
pub dropped_within :
    (n k : ℕ) (v : BodyState) → k ≡ min n (length (innermost_operands v.present.frames)) →
    body_dropped n v ≡ body_dropped k v
dropped_within n k v h = by v.present.frames ∙ ap (λ j. body_dropped j v) (sym h)
  where
    by :
        (fs : List Frame) →
        body_dropped n (body_with_frames fs v)
        ≡ body_dropped (min n (length (innermost_operands fs))) (body_with_frames fs v)
    by [] = refl
    by (f ∷ fs) =
        ap (λ own. body_with_frames (record f { operands = own } ∷ fs) v) (sym (drop_min n f.operands))

-- some are left
pub some_left :
    (k : ℕ) (v : BodyState) → k < length (innermost_operands v.present.frames) →
    innermost_operands (body_dropped k v).present.frames ≢ []
some_left k v h = by v.present.frames h
  where
    by :
        (fs : List Frame) → k < length (innermost_operands fs) → innermost_operands (frames_dropped k fs) ≢ []
    by [] h = absurd (omega (arith, h))
    by (f ∷ fs) h = λ e. omega (arith, h, length-drop k f.operands, ap length e)

-- ---- the exchange

module _
    (md : ModuleContext) (expected : List ValType) (v : BodyState)
    (fit : has_operands_fitting (body_context md v) expected v ≡ true) (k : ℕ)
    (least : k ≡ min (length expected) (length (innermost_operands v.present.frames))) where
  popped : body_popped_each md (reverse expected) v ≡ Some (body_dropped k v)
  popped = popped_dropped md expected v fit ∙ ap Some (dropped_within (length expected) k v least)

  pub exchanged :
      (pushed : Option ValType) (w : BodyState) →
      w ≡ body_pushed_each (pushed_list pushed) (body_dropped k v) →
      option_map (body_pushed_each (pushed_list pushed)) (body_popped_each md (reverse expected) v) ≡ Some w
  exchanged pushed w e = ap (option_map (body_pushed_each (pushed_list pushed))) popped ∙ ap Some (sym e)

-- ---- what an exchange keeps

guard_some : {A : Type 0} (b : Bool) (o : Option A) (u : A) → guard b o ≡ Some u → o ≡ Some u
guard_some true o u h = h
guard_some false o u h = absurd cc

-- what a value was made of
pub mapped_some :
    {A B : Type 0} (f : A → B) (o : Option A) (b : B) → option_map f o ≡ Some b → (a : A)
    × (o ≡ Some a) × (f a ≡ b)
mapped_some f (Some a) b h = (a, refl, cc)
mapped_some f None b h = absurd cc

module _ (md : ModuleContext) where
  pub popped_each_kept :
      (ws : List ValType) (v u : BodyState) → body_popped_each md ws v ≡ Some u →
      IsKept v u × (IsValidBody md v → IsValidBody md u)
  popped_each_kept [] v u h =
      let e : v ≡ u = same (sym (popped_none md v) ∙ h) in (subst (IsKept v) e refl, subst (IsValidBody md) e)
    where
      same : Some v ≡ Some u → v ≡ u
      same q = cc
  popped_each_kept (w ∷ ws) v u h =
      let rest =
      popped_each_kept ws (body_popped v) u
      (guard_some (may_pop (body_context md v) (found_in_body v) (Some w))
      (body_popped_each md ws (body_popped v)) u (sym (popped_next md w ws v) ∙ h)) in
      (kept_on v (body_popped v) u (popped_kept v) rest.0, λ k. rest.1 (popped_valid md v k))

  pub pushed_each_kept :
      (ts : List ValType) (v : BodyState) →
      IsKept v (body_pushed_each ts v)
      × (AllByRecursion (Valid md) ts → IsValidBody md v → IsValidBody md (body_pushed_each ts v))
  pushed_each_kept [] v = (refl, λ a k. k)
  pushed_each_kept (t ∷ ts) v =
      let rest = pushed_each_kept ts (body_pushed (Known t) v) in (
        kept_on v (body_pushed (Known t) v) (body_pushed_each ts (body_pushed (Known t) v)) refl rest.0,
        λ a k. rest.1 a.1 (pushed_valid md (Known t) v a.0 k),
      )

  -- what was popped, and that nothing but the static state changed, and the types are still valid
  pub record Exchanged (ws ts : List ValType) (v w : BodyState) : Type 0 where
    pub between : BodyState
    pub popped : body_popped_each md ws v ≡ Some between
    pub pushed : w ≡ body_pushed_each ts between
    pub kept : IsKept v w
    pub valid : AllByRecursion (Valid md) ts → IsValidBody md v → IsValidBody md w

  pub exchange_parts :
      (ws ts : List ValType) (v w : BodyState) →
      option_map (body_pushed_each ts) (body_popped_each md ws v) ≡ Some w → Exchanged ws ts v w
  exchange_parts ws ts v w h =
      let parts = mapped_some (body_pushed_each ts) (body_popped_each md ws v) w h in
      let u = parts.0 in
      let down = popped_each_kept ws v u parts.1 in
      let up = pushed_each_kept ts u in
      record {
        between = u;
        popped = parts.1;
        pushed = sym parts.2;
        kept = subst (IsKept v) parts.2 (kept_on v u (body_pushed_each ts u) down.0 up.0);
        valid = λ a k. subst (IsValidBody md) parts.2 (up.1 a (down.1 k));
      }

-- it is done
pub done_at_once :
    (md : ModuleContext) (op : Context → Operator) (v w : Stacked) (b : Bool) → MeetsOrUnchanged md op v b w →
    b ≡ true → (offset : ℕ) → Meets md op offset v.body (Ok tt) w.body
unfolding MeetsOrUnchanged
done_at_once md op v w true m h offset = m offset
done_at_once md op v w false m h offset = cc

pub same_at_once :
    (md : ModuleContext) (op : Context → Operator) (v w : Stacked) (b : Bool) → MeetsOrUnchanged md op v b w →
    b ≡ false → w ≡ v
unfolding MeetsOrUnchanged
same_at_once md op v w true m h = cc
same_at_once md op v w false m h = m

-- pops set no local
popped_set : (v : BodyState) → locals_set (body_popped v).present.frames ≡ locals_set v.present.frames
popped_set v = by v.present.frames
  where
    in_frame :
        (own : List MaybeType) (f : Frame) (fs : List Frame) →
        locals_set (body_popped (body_with_frames (record f { operands = own } ∷ fs) v)).present.frames
        ≡ locals_set (f ∷ fs)
    in_frame [] f fs = refl
    in_frame (x ∷ own) f fs = refl

    by : (fs : List Frame) → locals_set (body_popped (body_with_frames fs v)).present.frames ≡ locals_set fs
    by [] = refl
    by (f ∷ fs) = in_frame f.operands f fs

pub popped_each_set :
    (md : ModuleContext) (ws : List ValType) (v u : BodyState) → body_popped_each md ws v ≡ Some u →
    locals_set u.present.frames ≡ locals_set v.present.frames
popped_each_set md [] v u h =
    sym (ap (λ (x : BodyState). locals_set x.present.frames) (same (sym (popped_none md v) ∙ h)))
  where
    same : Some v ≡ Some u → v ≡ u
    same q = cc
popped_each_set md (w ∷ ws) v u h =
    popped_each_set md ws (body_popped v) u
    (guard_some (may_pop (body_context md v) (found_in_body v) (Some w))
    (body_popped_each md ws (body_popped v)) u (sym (popped_next md w ws v) ∙ h))
    ∙ popped_set v

-- ---- the live part ended, and a frame closed

pub ended_dropped : (n : ℕ) (v : BodyState) → body_unreachable (body_dropped n v) ≡ body_unreachable v
ended_dropped n v = by v.present.frames
  where
    by :
        (fs : List Frame) →
        body_unreachable (body_dropped n (body_with_frames fs v)) ≡ body_unreachable (body_with_frames fs v)
    by [] = refl
    by (f ∷ fs) = refl

-- where all of it fits, what is under it goes too
pub ended_whole :
    (md : ModuleContext) (expected : List ValType) (v w : BodyState) →
    has_operands_fitting (body_context md v) expected v ≡ true → w ≡ body_unreachable v →
    option_map body_unreachable (body_popped_each md (reverse expected) v) ≡ Some w
ended_whole md expected v w fit e =
    ap (option_map body_unreachable) (popped_dropped md expected v fit)
    ∙ ap Some (ended_dropped (length expected) v ∙ sym e)

-- one that was made, and one that wasn't
pub was_made : {P : Type 0} (Q : Type 0) (b : Bool) → b ≡ true → MatchBool b P Q → P
was_made Q true h m = m
was_made Q false h m = cc

pub was_not_made : {Q : Type 0} (P : Type 0) (b : Bool) → b ≡ false → MatchBool b P Q → Q
was_not_made P true h m = cc
was_not_made P false h m = m

-- ---- a frame left

-- one that has no own operand
pub given_none :
    (v : BodyState) → length (innermost_operands v.present.frames) ≡ 0 → body_given v ≡ body_without_frame v
given_none v h = by v.present.frames h
  where
    in_frame :
        (own : List MaybeType) (f : Frame) (fs : List Frame) → length own ≡ 0 →
        body_given (body_with_frames (record f { operands = own } ∷ fs) v) ≡ body_with_frames fs v
    in_frame [] f [] e = refl
    in_frame [] f (g ∷ gs) e = refl
    in_frame (x ∷ own) f fs e = absurd (omega (arith, e))

    by :
        (fs : List Frame) → length (innermost_operands fs) ≡ 0 →
        body_given (body_with_frames fs v) ≡ body_without_frame (body_with_frames fs v)
    by [] e = refl
    by (f ∷ fs) e = in_frame f.operands f fs e

pub without_valid :
    (md : ModuleContext) (v : BodyState) → IsValidBody md v → IsValidBody md (body_without_frame v)
without_valid md v h = by v.present.frames h
  where
    by :
        (fs : List Frame) → IsValidBody md (body_with_frames fs v) →
        IsValidBody md (body_without_frame (body_with_frames fs v))
    by [] k = k
    by (f ∷ fs) k = record { locals_valid = k.locals_valid; frames = k.frames.1; left = k.left }

-- the one type of a list
pub one_type : (ts : List ValType) (d : ValType) → length ts ≡ 1 → ts ≡ get_or ts 0 d ∷ []
one_type [] d h = absurd (omega (arith, h))
one_type (t ∷ []) d h = refl
one_type (t ∷ u ∷ ts) d h = absurd (omega (arith, h))

pub no_type : (ts : List ValType) → length ts ≤ 1 → length ts ≢ 1 → ts ≡ []
no_type [] h n = refl
no_type (t ∷ []) h n = absurd (n refl)
no_type (t ∷ u ∷ ts) h n = absurd (omega (arith, h))

-- ---- own operands taken over by a frame

-- those that are known to be of the parameters' types
pub over_known :
    (ts : List ValType) (k : FrameKind) (b : BlockType) (v : BodyState) →
    length ts ≤ length (innermost_operands v.present.frames) →
    body_pushed_each ts (body_dropped (length ts) v) ≡ v →
    body_with_frame_over (length ts) k b v
    ≡ body_with_frames (opened_frame (head_of k b) ts ∷ (body_dropped (length ts) v).present.frames)
    (body_dropped (length ts) v)
over_known ts k b v own known = ap over (by v.present.frames refl)
  where
    over : List MaybeType → BodyState
    over q =
        let opened : Frame = record { head = head_of k b; operands = q; dead = false; first_set = [] } in
        let left = body_dropped (length ts) v in
        body_with_frames (opened ∷ left.present.frames) left

    known_types : List MaybeType
    known_types = map Known ts

    top : List MaybeType
    top = reverse known_types

    count : length top ≡ length ts
    count = length-reverse known_types ∙ length-map ts (λ (t : ValType). Known t)

    by :
        (fs : List Frame) → v.present.frames ≡ fs →
        take (length ts) (innermost_operands v.present.frames) ≡ stack_with (map Known ts) []
    by [] e =
        let none : length ts ≡ 0 = omega (arith, own, ap (λ gs. length (innermost_operands gs)) e) in
        rw (length_none ts none) refl
      where
        length_none : (us : List ValType) → length us ≡ 0 → us ≡ []
        length_none [] h = refl
        length_none (u ∷ us) h = absurd (omega (arith, h))
    by (f ∷ fs) e =
        let pushed =
        pushed_whole ts (body_dropped (length ts) v) (record f { operands = drop (length ts) f.operands })
        fs (ap (frames_dropped (length ts)) e) in
        let whole : stack_with (map Known ts) (drop (length ts) f.operands) ≡ f.operands =
        ap (λ (u : BodyState). innermost_operands u.present.frames) (sym pushed ∙ known)
        ∙ ap innermost_operands e in
        ap (λ gs. take (length ts) (innermost_operands gs)) e
        ∙ ap (take (length ts)) (sym whole)
        ∙ take-append-le (length ts) top (drop (length ts) f.operands) (omega (arith, count))
        ∙ take_all (length ts) top (omega (arith, count))
        ∙ sym (append-nil top)

-- ---- an operand taken for a frame

-- what follows from a change that was made
pub match_made : {P Q : Type 0} (R : Type 0) (b : Bool) → (P → Q) → MatchBool b P R → MatchBool b Q R
match_made R true f m = f m
match_made R false f m = m
