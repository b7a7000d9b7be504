-- What a step that is taken pushed and left, and the state before a place that follows another.
use Rattle.std.proofs.Common.{◌≡◌, ℕ, zero, suc, Bool, true, false, List, [], ◌∷◌, ◌++◌, drop, map, Option, Some, None, refl, sym, ap, ◌∙◌, slice_get}
use Rattle.std.specs.Option.{option_map}
use Rattle.std.proofs.lemmas.List.{reverse-append, append_assoc}
use Rattle.std.specs.Prelude.{if◌then◌else◌, reverse}
use Rattle.std.specs.Option.{option_and_then}
use Rattle.validation_rules.specs.Context.{ValType, Context}
use Rattle.validation_rules.specs.Fits.{MaybeType, Known, all_fit}
use Rattle.validation_rules.specs.Rows.{Head, params, results, Form, Row, Operator, guard, is_instruction}
use Rattle.validation_rules.specs.Static.{Frame, State, stack_with, heads, locals_set, pushed_types, pushed_by_row, pushed_by_delimiter, state_after_exit, state_after, open_frames, step, step_in, state_before}

-- ---- what an operator of a body leaves, of which nothing is left yet

abbrev pub given : List ValType → List Frame → State
given types fs = state_after_exit [] types fs

abbrev pub after : Context → Row → Frame → List Frame → Form → List MaybeType → State
after cx r f fs form pushed = state_after cx r (open_frames f fs []) form pushed

-- ---- what an operator pushes, by its form

abbrev pub pushed_by_form : Context → Row → List Head → List ℕ → Frame → Form → Option (List MaybeType)
pushed_by_form cx r hs set f form =
    if is_instruction form then pushed_by_row cx r hs set f else pushed_by_delimiter cx r form f

-- ---- what the rules choose by a test, by its value

abbrev pub label_by : Context → Bool → Head → List ValType
label_by cx loops h = if loops then params cx h else results cx h

abbrev pub if_fits : Context → Bool → Head → Bool
if_fits cx ifs h = if ifs then all_fit cx (map Known (params cx h)) (results cx h) else true

abbrev pub joined : Bool → List ℕ → ℕ → List ℕ
joined set first_set i = if set then first_set else first_set ++ i ∷ []

-- ---- options and lists

pub some_injective : {A : Type 0} → (x y : A) → Some x ≡ Some y → x ≡ y
some_injective x y h = cc

pub guard_some : {A : Type 0} → (b : Bool) (o : Option A) (x : A) → guard b o ≡ Some x → (b ≡ true) × (o ≡ Some x)
guard_some true o x h = (refl, h)
guard_some false o x h = cc

pub mapped_some : {A B : Type 0} (f : A → B) (o : Option A) (y : B) → option_map f o ≡ Some y → (x : A) × (o ≡ Some x) × (f x ≡ y)
mapped_some f (Some x) y e = (x, refl, some_injective _ _ e)
mapped_some f None y e = absurd cc

pub and_then_given : {A B : Type 0} → (o : Option A) (f : A → Option B) (y : B) → option_and_then f o ≡ Some y → (x : A) × (o ≡ Some x) × (f x ≡ Some y)
and_then_given None f y h = absurd cc
and_then_given (Some x) f y h = (x, refl, h)

pub onto-next : {A : Type 0} (x : A) (xs ys : List A) → stack_with (x ∷ xs) ys ≡ stack_with xs (x ∷ ys)
onto-next x xs ys = ap (λ l. l ++ ys) (reverse-append (x ∷ []) xs) ∙ append_assoc (reverse xs) (x ∷ []) ys

pub get_of_drop : (code : List Operator) (k : ℕ) (op : Operator) (ops : List Operator) → drop k code ≡ op ∷ ops → slice_get code k ≡ Some op
get_of_drop [] zero op ops h = cc
get_of_drop [] (suc k) op ops h = cc
get_of_drop (x ∷ code) zero op ops h = cc
get_of_drop (x ∷ code) (suc k) op ops h = get_of_drop code k op ops h

pub drop_next : (code : List Operator) (k : ℕ) (op : Operator) (ops : List Operator) → drop k code ≡ op ∷ ops → drop (suc k) code ≡ ops
drop_next [] zero op ops h = cc
drop_next [] (suc k) op ops h = cc
drop_next (x ∷ code) zero op ops h = cc
drop_next (x ∷ code) (suc k) op ops h = drop_next code k op ops h

-- what a step that is taken pushed, and what it left
pub record Stepped (cx : Context) (op : Operator) (f : Frame) (fs : List Frame) (left : List MaybeType) (u : State) : Type 0 where
  pub pushed : List MaybeType
  pub holds : pushed_types cx op (heads (f ∷ fs)) (locals_set (f ∷ fs)) f ≡ Some pushed
  pub leaves : u ≡ state_after cx (op.row (heads (f ∷ fs))) (open_frames f fs left) op.form pushed

pub stepped : (cx : Context) (op : Operator) (f : Frame) (fs : List Frame) (left : List MaybeType) (u : State) → step_in cx op (f ∷ fs) left ≡ Some u → Stepped cx op f fs left u
stepped cx op f fs left u h =
    let r = op.row (heads (f ∷ fs)) in
    let e = mapped_some (state_after cx r (open_frames f fs left) op.form) (pushed_types cx op (heads (f ∷ fs)) (locals_set (f ∷ fs)) f) u h in
    record { pushed = e.0; holds = e.1; leaves = sym e.2 }

pub before_next : (cx : Context) (code : List Operator) (s : State) (k : ℕ) (op : Operator) (t u : State) → state_before cx code s k ≡ Some t → slice_get code k ≡ Some op → step cx op t ≡ Some u → state_before cx code s (suc k) ≡ Some u
before_next cx [] s k op t u b g h = absurd cc
before_next cx (x ∷ code) s zero op t u b g h =
    let e : s ≡ t = cc in
    let d : x ≡ op = cc in
    let same : step cx x s ≡ step cx op t = ap (λ o. step cx o s) d ∙ ap (λ (v : State). step cx op v) e in
    ap (λ o. option_and_then (λ v. state_before cx code v zero) o) (same ∙ h)
before_next cx (x ∷ code) s (suc k) op t u b g h =
    let m = and_then_given (step cx x s) (λ v. state_before cx code v k) t b in
    ap (λ o. option_and_then (λ v. state_before cx code v (suc k)) o) m.1 ∙ before_next cx code m.0 k op t u m.2 g h

pub and_then_some : {A : Type 0} (o : Option A) → option_and_then (λ x. Some x) o ≡ o
and_then_some None = refl
and_then_some (Some x) = refl

-- one place further, whether or not the row there holds
pub before_then : (cx : Context) (code : List Operator) (s : State) (k : ℕ) (op : Operator) (t : State) → state_before cx code s k ≡ Some t → slice_get code k ≡ Some op → state_before cx code s (suc k) ≡ step cx op t
before_then cx [] s k op t b g = absurd cc
before_then cx (x ∷ code) s zero op t b g =
    let e : s ≡ t = cc in
    let d : x ≡ op = cc in
    and_then_some (step cx x s) ∙ ap (λ o. step cx o s) d ∙ ap (λ (v : State). step cx op v) e
before_then cx (x ∷ code) s (suc k) op t b g =
    let m = and_then_given (step cx x s) (λ v. state_before cx code v k) t b in
    ap (λ o. option_and_then (λ v. state_before cx code v (suc k)) o) m.1 ∙ before_then cx code m.0 k op t m.2 g
