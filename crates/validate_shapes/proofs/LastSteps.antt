-- From what the last step of a check promises to the answer of the visit.
use Rattle.std.proofs.Common.{◌≡◌, ℕ, zero, suc, Bool, true, false, not, if◌then◌else◌, List, [], ◌∷◌, ◌++◌, slice_get, Some, None, Result, Ok, Err, OnOk, IfErr, refl, subst}
use Rattle.std.specs.List.{AllByRecursion}
use Rattle.validate_resources.specs.Context.{ModuleContext}
use Rattle.validate_types.specs.ErrorValue.{ErrorValue}
use Rattle.validation_rules.specs.Context.{Context}
use Rattle.validation_rules.specs.Rows.{Operator}
use Rattle.validate_stacks.specs.Pops.{IsKept}
use Rattle.validate_stacks.specs.State.{BodyState, IsValidBody, body_with_frames}
use Rattle.validation_rules.specs.Static.{Frame, is_local_set, locals_set}
use Rattle.validate_stacks.specs.Steps.{frames_first_setting, body_with_local_set}
use Rattle.validate_stacks.specs.Visits.{step_body, Meets}

pub all_both : {A : Type 0} (P : A → Type 0) (xs ys : List A) → AllByRecursion P xs → AllByRecursion P ys → AllByRecursion P (xs ++ ys)
all_both P [] ys a b = b
all_both P (x ∷ xs) ys a b = (a.0, all_both P xs ys a.1 b)

-- ---- locals

pub all_get : {A : Type 0} (P : A → Type 0) (xs : List A) (i : ℕ) (x : A) → slice_get xs i ≡ Some x → AllByRecursion P xs → P x
all_get P [] i x h all = absurd cc
all_get P (y ∷ xs) zero x h all = let e : y ≡ x = cc in subst P e all.0
all_get P (y ∷ xs) (suc i) x h all = all_get P xs i x h all.1

pub not_true : (b : Bool) → not b ≡ true → b ≡ false
not_true true h = absurd cc
not_true false h = refl

pub not_false : (b : Bool) → not b ≡ false → b ≡ true
not_false true h = refl
not_false false h = absurd cc

-- setting a local keeps the types valid
set_valid_in : (md : ModuleContext) (b : Bool) (i : ℕ) (fs : List Frame) (v : BodyState) → v.present.frames ≡ fs → IsValidBody md v → IsValidBody md (if b then v else body_with_frames (frames_first_setting i fs) v)
set_valid_in md true i fs v e h = h
set_valid_in md false i [] v e h = record { locals_valid = h.locals_valid; frames = tt; left = h.left }
set_valid_in md false i (f ∷ fs) v e h =
    let all = rw e at h.frames in
    record { locals_valid = h.locals_valid; frames = (record { block = all.0.block; operands = all.0.operands }, all.1); left = h.left }

pub set_valid : (md : ModuleContext) (i : ℕ) (v : BodyState) → IsValidBody md v → IsValidBody md (body_with_local_set i v)
set_valid md i v h = set_valid_in md (is_local_set v.set_at_entry (locals_set v.present.frames) i) i v.present.frames v refl h

-- the last step can't fail
pub meets_done : (md : ModuleContext) (op : Context → Operator) (offset : ℕ) (v w : BodyState) → step_body md op v ≡ Some w → IsValidBody md w → IsKept v w → Meets md op offset v (Ok tt) w
unfolding Meets
meets_done md op offset v w e x y = record { accepted = e; refused = tt; at_offset = tt; valid = x; kept = y }

-- what a visit answers, said clause by clause
pub meets_stated : (md : ModuleContext) (op : Context → Operator) (offset : ℕ) (v w : BodyState) (r : Result (Unit {0}) ErrorValue) → OnOk r (step_body md op v ≡ Some w) → IfErr r (λ e. e.wants_memory ≡ false → step_body md op v ≡ None) → IfErr r (λ e. e.offset ≡ offset) → IsValidBody md w → IsKept v w → Meets md op offset v r w
unfolding Meets
meets_stated md op offset v w (Ok u) p n o x y = record { accepted = p; refused = tt; at_offset = tt; valid = x; kept = y }
meets_stated md op offset v w (Err e) p n o x y = record { accepted = tt; refused = n; at_offset = o; valid = x; kept = y }
