-- The marks of the locals: what is set, and what is declared.
use Rattle.std.proofs.Common.{◌≡◌, ℕ, ◌+◌, ◌<◌, ◌≤◌, List, [], ◌∷◌, ◌++◌, Bool, true, false, Some, MatchBool}
use Rattle.std.proofs.Common.{length, map, replicate, slice_index_or, ◌||◌, if◌then◌else◌, refl, sym, ◌∙◌, ap}
use Rattle.std.proofs.Common.{ap₂, arith, length-append}
use Rattle.std.proofs.lemmas.List.{drop-append-le, take-append-le}
use Rattle.validate_locals.specs.Inits.{is_local_set}
use Rattle.validate_types.specs.declared.types.ValType.{ValType}
use Rattle.validate_visit.specs.declared.frame.Frame.{Frame as FlatFrame}
use Rattle.validation_rules.specs.Fits.{MaybeType}
use Rattle.validation_rules.specs.Static.{Frame, locals_set}
use Rattle.validate_stacks.specs.Changes.{order_set}
use Rattle.validate_stacks.specs.Flat.{FlatStacks, body_from, state_from_heights, HasShape}
use Rattle.validate_stacks.specs.State.{BodyState, body_with_frames}
use Rattle.validate_stacks.specs.Steps.{frames_first_setting, body_with_local_set, body_with_params}
use Rattle.validate_stacks.proofs.Cuts.{body_cut, set-cut}

-- a local has a mark exactly where it is set in the body
pub set_is :
    (s : FlatStacks) (i : ℕ) → HasShape s.frames (length s.operands) (length s.order) →
    is_local_set s.set_at_entry s.order i
    ≡ is_local_set s.set_at_entry (locals_set (body_from s).present.frames) i
set_is s i h =
    ap (λ b. b || slice_index_or s.set_at_entry i false) (sym (set-cut s.frames s.operands s.order i h))

-- ---- setting

-- the order with one more, or not
abbrev pub order_more : Bool → List ℕ → ℕ → List ℕ
order_more b is i = if b then is else is ++ i ∷ []

-- the order grows in the innermost frame
grown :
    (f : FlatFrame) (fs : List FlatFrame) (operands : List MaybeType) (is : List ℕ) (i m : ℕ) →
    HasShape (f ∷ fs) m (length is) →
    (state_from_heights (f ∷ fs) operands (is ++ i ∷ [])).frames
    ≡ frames_first_setting i (state_from_heights (f ∷ fs) operands is).frames
grown f fs operands is i m h =
    rw (drop-append-le f.init_height is (i ∷ []) h.1, take-append-le f.init_height is (i ∷ []) h.1) refl

left-same :
    (f : FlatFrame) (fs : List FlatFrame) (operands : List MaybeType) (is : List ℕ) (i m : ℕ) →
    HasShape (f ∷ fs) m (length is) →
    (state_from_heights (f ∷ fs) operands (is ++ i ∷ [])).left
    ≡ (state_from_heights (f ∷ fs) operands is).left
left-same f fs operands is i m h = rw (take-append-le f.init_height is (i ∷ []) h.1) refl

-- by whether the local is set already
abbrev set_by : Bool → ℕ → BodyState → BodyState
set_by b i v = if b then v else body_with_frames (frames_first_setting i v.present.frames) v

set_is_by :
    (b : Bool) (f : FlatFrame) (fs : List FlatFrame) (operands : List MaybeType) (is : List ℕ) (v : BodyState)
    (i : ℕ) → HasShape (f ∷ fs) (length operands) (length is) →
    body_cut (f ∷ fs) operands (order_more b is i) v ≡ set_by b i (body_cut (f ∷ fs) operands is v)
set_is_by true f fs operands is v i h = refl
set_is_by false f fs operands is v i h =
    ap₂
    (λ (gs : List Frame) (left : List MaybeType). record v { present = record { frames = gs; left = left } })
    (grown f fs operands is i (length operands) h) (left-same f fs operands is i (length operands) h)

-- setting is the step, where a frame is open
pub set_state :
    (s : FlatStacks) (i : ℕ) → 0 < length s.frames → HasShape s.frames (length s.operands) (length s.order) →
    body_cut s.frames s.operands (order_set (Some i) s.set_at_entry s.order) (body_from s)
    ≡ body_with_local_set i (body_from s)
set_state s i o h = by s.frames o h
  where
    b : Bool
    b = is_local_set s.set_at_entry s.order i

    by :
        (fs : List FlatFrame) → 0 < length fs → HasShape fs (length s.operands) (length s.order) →
        body_cut fs s.operands (order_more b s.order i) (body_from s)
        ≡ body_with_local_set i (body_cut fs s.operands s.order (body_from s))
    by [] o h = absurd (omega (arith, o))
    by (f ∷ fs) o h =
        set_is_by b f fs s.operands s.order (body_from s) i h
        ∙ ap (λ b. set_by b i (body_cut (f ∷ fs) s.operands s.order (body_from s)))
        (set_is (record s { frames = f ∷ fs }) i h)

shape_more : (fs : List FlatFrame) (n m k : ℕ) → 0 < length fs → m ≤ k → HasShape fs n m → HasShape fs n k
shape_more [] n m k o h w = absurd (omega (arith, o))
shape_more (f ∷ fs) n m k o h w = (w.0, omega (arith, w.1), w.2)

pub not_shorter : (b : Bool) (is : List ℕ) (i : ℕ) → length is ≤ length (order_more b is i)
not_shorter true is i = omega arith
not_shorter false is i = omega (arith, length-append is (i ∷ []))

pub shape_set :
    (s : FlatStacks) (i : ℕ) → 0 < length s.frames → HasShape s.frames (length s.operands) (length s.order) →
    HasShape s.frames (length s.operands) (length (order_set (Some i) s.set_at_entry s.order))
shape_set s i o h =
    let b = is_local_set s.set_at_entry s.order i in
    shape_more s.frames (length s.operands) (length s.order) (length (order_more b s.order i)) o
    (not_shorter b s.order i) h

-- ---- declaring

-- parameters are set, whatever their types
all_set : (ts : List ValType) → map (λ (_ : ValType). true) ts ≡ replicate (length ts) true
all_set [] = refl
all_set (t ∷ ts) = ap (λ r. true ∷ r) (all_set ts)

-- the locals once parameters were declared that aren't too many
pub all_declared :
    (done : Bool) (old new ps : List ValType) → MatchBool done (new ≡ old ++ ps) (new ≡ old) →
    MatchBool done (length old + length ps ≤ 50000) (50000 < length old + length ps) →
    length old + length ps ≤ 50000 → new ≡ old ++ ps
all_declared true old new ps d w h = d
all_declared false old new ps d w h = absurd (omega (arith, w, h))

-- declaring parameters is the step
pub params_state :
    (s : FlatStacks) (order : List ℕ) (set_at_entry : List Bool) (locals ps : List ValType) →
    order ≡ s.order → set_at_entry ≡ s.set_at_entry ++ replicate (length ps) true → locals ≡ s.locals ++ ps →
    body_from (record s { order = order; set_at_entry = set_at_entry; locals = locals })
    ≡ body_with_params ps (body_from s)
params_state s order set_at_entry locals ps o b l =
    ap (λ is. body_from (record s { order = is; set_at_entry = set_at_entry; locals = locals })) o
    ∙ ap₂
    (λ (en : List Bool) (types : List ValType). body_from (record s { set_at_entry = en; locals = types }))
    (b ∙ ap (λ marks. s.set_at_entry ++ marks) (sym (all_set ps))) l
