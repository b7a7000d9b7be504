-- What is found without a pop, the label of a frame, and the mark of a dead one.
use Rattle.std.proofs.Common.{◌≡◌, ℕ, zero, suc, ◌-◌, ◌<◌, ◌≤◌, List, [], ◌∷◌, Bool, true, false, cond, Some}
use Rattle.std.proofs.Common.{None, length, take, drop, slice_get, refl, sym, ◌∙◌, ap, subst, arith}
use Rattle.std.specs.Option.{option_map}
use Rattle.std.proofs.lemmas.List.{length-take-le, drop_all}
use Rattle.validate_visit.specs.declared.frame.Frame.{Frame as FlatFrame}
use Rattle.validation_rules.specs.Fits.{MaybeType, Bottom}
use Rattle.validation_rules.specs.Static.{Frame, heads}
use Rattle.validate_stacks.specs.Flat.{FlatStacks, body_from, state_from_heights, with_heights}
use Rattle.validation_rules.specs.Pops.{found_by_pop}
use Rattle.validate_stacks.specs.Steps.{type_and_kind, found_after_pops_in_frames, innermost_operands}
use Rattle.validate_stacks.specs.Steps.{body_marked}
use Rattle.validate_stacks.proofs.Cuts.{body_cut, own-cut}

-- ---- labels

-- the frames with their heights have the labels of the frames
pub label_found :
    (fs : List Frame) (n d : ℕ) →
    option_map (λ (r : FlatFrame). (r.block_type, r.kind)) (slice_get (with_heights fs n) d)
    ≡ option_map type_and_kind (slice_get (heads fs) d)
label_found [] n zero = refl
label_found [] n (suc d) = refl
label_found (f ∷ fs) n zero = refl
label_found (f ∷ fs) n (suc d) = label_found fs n d

-- ---- what is found after some others

pub none_found :
    (fs : List FlatFrame) (operands : List MaybeType) (is : List ℕ) (d : ℕ) → slice_get fs 0 ≡ None →
    None ≡ found_after_pops_in_frames d (state_from_heights fs operands is).frames
none_found [] operands is d h = refl
none_found (g ∷ gs) operands is d h = cc

top_get :
    (d n : ℕ) (operands : List MaybeType) (dead : Bool) → d < n → n ≤ length operands →
    slice_get operands d ≡ found_by_pop dead (drop d (take n operands))
top_get d zero operands dead h k = absurd (omega (arith, h))
top_get d (suc n) [] dead h k = absurd (omega (arith, k))
top_get zero (suc n) (x ∷ operands) dead h k = refl
top_get (suc d) (suc n) (x ∷ operands) dead h k =
    top_get d n operands dead (omega (arith, h)) (omega (arith, k))

-- an own operand
pub own_found :
    (fs : List FlatFrame) (f : FlatFrame) (operands : List MaybeType) (is : List ℕ) (d : ℕ) →
    slice_get fs 0 ≡ Some f → d < length operands - f.height →
    slice_get operands d ≡ found_after_pops_in_frames d (state_from_heights fs operands is).frames
own_found [] f operands is d h k = cc
own_found (g ∷ gs) f operands is d h k =
    let same : g ≡ f = cc in
    let within : d < length operands - g.height =
    subst (λ (q : FlatFrame). d < length operands - q.height) (sym same) k in
    top_get d (length operands - g.height) operands g.unreachable within (omega arith)

pub own_found_there :
    (fs : List FlatFrame) (operands : List MaybeType) (is : List ℕ) (d : ℕ) →
    d < length (innermost_operands (state_from_heights fs operands is).frames) →
    slice_get operands d ≡ found_after_pops_in_frames d (state_from_heights fs operands is).frames
own_found_there [] operands is d h = absurd (omega (arith, h))
own_found_there (g ∷ gs) operands is d h =
    own_found (g ∷ gs) g operands is d refl (omega (arith, h, own-cut (g ∷ gs) g operands is refl))

top_none : (dead : Bool) → found_by_pop dead [] ≡ cond dead (Some Bottom) None
top_none true = refl
top_none false = refl

-- below the own operands
pub below_found :
    (fs : List FlatFrame) (f : FlatFrame) (operands : List MaybeType) (is : List ℕ) (d : ℕ) →
    slice_get fs 0 ≡ Some f → length operands - f.height ≤ d →
    cond f.unreachable (Some Bottom) None
    ≡ found_after_pops_in_frames d (state_from_heights fs operands is).frames
below_found [] f operands is d h k = cc
below_found (g ∷ gs) f operands is d h k =
    let same : g ≡ f = cc in
    let past : length operands - g.height ≤ d =
    subst (λ (q : FlatFrame). length operands - q.height ≤ d) (sym same) k in
    let count = length-take-le (length operands - g.height) operands (omega arith) in
    let none : drop d (take (length operands - g.height) operands) ≡ [] =
    drop_all d (take (length operands - g.height) operands) (omega (arith, count, past)) in
    sym
    (ap (λ l. found_by_pop g.unreachable l) none
    ∙ (top_none g.unreachable ∙ ap (λ (q : FlatFrame). cond q.unreachable (Some Bottom) None) same))

-- ---- the mark

pub mark_none : (s : FlatStacks) → slice_get s.frames 0 ≡ None → body_from s ≡ body_marked (body_from s)
mark_none s h = by s.frames h
  where
    by :
        (fs : List FlatFrame) → slice_get fs 0 ≡ None →
        body_cut fs s.operands s.order (body_from s)
        ≡ body_marked (body_cut fs s.operands s.order (body_from s))
    by [] h = refl
    by (g ∷ gs) h = cc

pub mark_dead :
    (s : FlatStacks) (f : FlatFrame) → slice_get s.frames 0 ≡ Some f → f.unreachable ≡ true →
    body_from s ≡ body_marked (body_from s)
mark_dead s f h d = by s.frames h
  where
    by :
        (fs : List FlatFrame) → slice_get fs 0 ≡ Some f →
        body_cut fs s.operands s.order (body_from s)
        ≡ body_marked (body_cut fs s.operands s.order (body_from s))
    by [] h = cc
    by (g ∷ gs) h =
        let same : g ≡ f = cc in
        let e : g.unreachable ≡ true = ap (λ (q : FlatFrame). q.unreachable) same ∙ d in
        rw e refl
