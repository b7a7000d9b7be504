-- Operators on locals: what is taken, and the local that is set.
use Rattle.std.proofs.Common.{◌≡◌, ◌≢◌, ℕ, Bool, true, false, [], ◌∷◌, List, Option, Some, None, Result, slice_get, if◌then◌else◌, refl, sym, ap, ap₂, subst, ◌∙◌}
use Rattle.std.specs.List.{AllByRecursion}
use Rattle.std.specs.Option.{option_map}
use Rattle.validate_resources.specs.Context.{ModuleContext, Valid}
use Rattle.validate_types.specs.declared.types.ValType.{ValType}
use Rattle.validation_rules.specs.Operators.{row_operator, plain_row, local_get_row}
use Rattle.validation_rules.specs.Rows.{guard}
use Rattle.validation_rules.specs.Static.{is_local_set, locals_set}
use Rattle.validate_stacks.specs.Attempts.{Stacked}
use Rattle.validate_stacks.specs.Moves.{body_set_then, Exchanges}
use Rattle.validate_stacks.specs.Pops.{IsKept, body_popped_each, body_pushed_each}
use Rattle.validate_stacks.specs.State.{BodyState, IsValidBody, body_with_frames}
use Rattle.validate_stacks.specs.Steps.{body_with_local_set, frames_first_setting}
use Rattle.validate_stacks.specs.Visits.{step_body}
use Rattle.validate_stacks.proofs.AtOnce.{popped_each_kept, popped_each_set, pushed_each_kept}
use Rattle.validate_stacks.proofs.Validity.{kept_on}
use Rattle.validate_stacks.proofs.Whole.{popped_none}
use Rattle.validate_shapes.proofs.LastSteps.{set_valid}
use Rattle.validate_shapes.proofs.Moves.{plain_is}
use Rattle.validate_shapes.proofs.Rows.{local_get_is}

chosen : (b : Bool) (u w : BodyState) → b ≡ true → (if b then u else w) ≡ u
chosen true u w h = refl
chosen false u w h = cc

-- a local that is set is so after pops too
set_already : (md : ModuleContext) (ws : List ValType) (i : ℕ) (v u : BodyState) → body_popped_each md ws v ≡ Some u → is_local_set v.set_at_entry (locals_set v.present.frames) i ≡ true → body_with_local_set i u ≡ u
set_already md ws i v u p h =
    let kept = ap (λ (x : BodyState). x.set_at_entry) (popped_each_kept md ws v u p).0 in
    chosen (is_local_set u.set_at_entry (locals_set u.present.frames) i) u (body_with_frames (frames_first_setting i u.present.frames) u)
    (ap₂ (λ e s. is_local_set e s i) kept (popped_each_set md ws v u p) ∙ h)

set_kept : (i : ℕ) (u : BodyState) → IsKept u (body_with_local_set i u)
set_kept i u = by (is_local_set u.set_at_entry (locals_set u.present.frames) i)
  where
    by : (b : Bool) → IsKept u (if b then u else body_with_frames (frames_first_setting i u.present.frames) u)
    by true = refl
    by false = refl

-- setting, and then pushes, keeps the types valid and changes the static state alone
pub set_then_valid : (md : ModuleContext) (i : ℕ) (pushed : List ValType) → AllByRecursion (Valid md) pushed → (u : BodyState) → IsValidBody md u → IsValidBody md (body_set_then i pushed u)
set_then_valid md i pushed all u h = (pushed_each_kept md pushed (body_with_local_set i u)).1 all (set_valid md i u h)

pub set_then_kept : (md : ModuleContext) (i : ℕ) (pushed : List ValType) (u : BodyState) → IsKept u (body_set_then i pushed u)
set_then_kept md i pushed u = kept_on u (body_with_local_set i u) (body_set_then i pushed u) (set_kept i u) (pushed_each_kept md pushed (body_with_local_set i u)).0

-- where the local is set already, nothing more is set
pub taken_set : (md : ModuleContext) (ws : List ValType) (i : ℕ) (pushed : List ValType) (v : BodyState) → is_local_set v.set_at_entry (locals_set v.present.frames) i ≡ true → option_map (body_set_then i pushed) (body_popped_each md ws v) ≡ option_map (body_pushed_each pushed) (body_popped_each md ws v)
taken_set md ws i pushed v set = by (body_popped_each md ws v) refl
  where
    by : (o : Option BodyState) → body_popped_each md ws v ≡ o → option_map (body_set_then i pushed) o ≡ option_map (body_pushed_each pushed) o
    by None e = refl
    by (Some u) e = ap (λ (w : BodyState). Some (body_pushed_each pushed w)) (set_already md ws i v u e set)

-- a local that is set is read as a constant
pub get_is : (md : ModuleContext) (v : BodyState) (i : ℕ) (t : ValType) → slice_get v.locals i ≡ Some t → is_local_set v.set_at_entry (locals_set v.present.frames) i ≡ true → v.present.frames ≢ [] → step_body md (λ c. row_operator (local_get_row c i)) v ≡ step_body md (λ c. row_operator (plain_row [] (t ∷ []))) v
get_is md v i t found set open_frame =
    local_get_is md v i t found open_frame ∙ ap (λ b. guard b (Some (body_pushed_each (t ∷ []) v))) set
    ∙ sym (plain_is md v [] (t ∷ []) open_frame ∙ ap (option_map (body_pushed_each (t ∷ []))) (popped_none md v))

-- an exchange after what changed nothing
pub from_same : {E : Type 0} (md : ModuleContext) (tells : E → Type 0) (ws ts : List ValType) (s u : Stacked) → s ≡ u → (r : Result (Unit {0}) E) (w : Stacked) → Exchanges md tells ws ts s r w → Exchanges md tells ws ts u r w
from_same md tells ws ts s u e r w x = subst (λ t. Exchanges md tells ws ts t r w) e x
