-- What the pops of an operator leave of an attempt, and what the start of one allows.
use Rattle.std.specs.Prelude.{unwrap_or, is_none, ◌||◌}
use Rattle.validate_transaction.specs.TakeBack.{is_empty}
use Rattle.std.proofs.Common.{◌≡◌, ℕ, List, [], ◌∷◌, Bool, true, Option, Some, None, IsSome, refl, sym, ◌∙◌, ap, subst}
use Rattle.validation_rules.specs.Static.{State}
use Rattle.validate_stacks.specs.Attempts.{Phase, Clean, Moved, Set, Framed, Unset, Marked, Stacked, phase_moved, is_quiet, is_setting, has_none_unset, is_unmarked, may_step, may_frame, may_set, may_unset, innermost_first_set, stacks_begun, stacks_rolled_back}
use Rattle.validate_resources.specs.Context.{ModuleContext}
use Rattle.validation_rules.specs.Valid.{IsValidState}
use Rattle.validate_stacks.specs.Pops.{IsKept}
use Rattle.validate_stacks.specs.State.{BodyState, IsValidBody, IsUndoneValid}

unmarked_moved : (p : Phase) → is_unmarked (phase_moved p) ≡ is_unmarked p
unmarked_moved Clean = refl
unmarked_moved Moved = refl
unmarked_moved Set = refl
unmarked_moved Framed = refl
unmarked_moved Unset = refl
unmarked_moved Marked = refl

unclosed_moved : (p : Phase) → has_none_unset (phase_moved p) ≡ has_none_unset p
unclosed_moved Clean = refl
unclosed_moved Moved = refl
unclosed_moved Set = refl
unclosed_moved Framed = refl
unclosed_moved Unset = refl
unclosed_moved Marked = refl

unclosed_after : (v w : Stacked) → IsKept v.body w.body → phase_moved w.phase ≡ phase_moved v.phase → (is_none v.body.undone || (has_none_unset v.phase)) ≡ true → (is_none w.body.undone || (has_none_unset w.phase)) ≡ true
unclosed_after v w k e h =
    ap (λ b. (is_none w.body.undone || b)) (sym (unclosed_moved w.phase) ∙ ap has_none_unset e ∙ unclosed_moved v.phase)
    ∙ ap (λ (u : Option State). (is_none u || (has_none_unset v.phase))) (ap (λ x. x.undone) k) ∙ h

-- pops and pushes leave what may still be done
pub frame_after : (v w : Stacked) → IsKept v.body w.body → phase_moved w.phase ≡ phase_moved v.phase → may_frame v ≡ true → may_frame w ≡ true
frame_after v w k e h =
    ap (λ b. (is_none w.body.undone || b)) (sym (unmarked_moved w.phase) ∙ ap is_unmarked e ∙ unmarked_moved v.phase)
    ∙ ap (λ (u : Option State). (is_none u || (is_unmarked v.phase))) (ap (λ x. x.undone) k) ∙ h

setting_moved : (p : Phase) → is_setting (phase_moved p) ≡ is_setting p
setting_moved Clean = refl
setting_moved Moved = refl
setting_moved Set = refl
setting_moved Framed = refl
setting_moved Unset = refl
setting_moved Marked = refl

pub set_after : (v w : Stacked) → IsKept v.body w.body → phase_moved w.phase ≡ phase_moved v.phase → may_set v ≡ true → may_set w ≡ true
set_after v w k e h =
    ap (λ b. (is_none w.body.undone || b)) (sym (setting_moved w.phase) ∙ ap is_setting e ∙ setting_moved v.phase)
    ∙ ap (λ (u : Option State). (is_none u || (is_setting v.phase))) (ap (λ x. x.undone) k) ∙ h

split : (l : List ℕ) (b : Bool) → b ≡ true → (is_empty l || b) ≡ true
split [] b h = refl
split (i ∷ l) b h = h

-- the innermost frame has as many first-set locals, or none
pub unset_after : (v w : Stacked) → IsKept v.body w.body → phase_moved w.phase ≡ phase_moved v.phase → innermost_first_set w.body.present.frames ≡ innermost_first_set v.body.present.frames → may_unset v ≡ true → may_unset w ≡ true
unset_after v w k e s h = by (innermost_first_set v.body.present.frames) s h
  where
    by : (l : List ℕ) → innermost_first_set w.body.present.frames ≡ l → (is_empty l || ((is_none v.body.undone || (has_none_unset v.phase)))) ≡ true → may_unset w ≡ true
    by [] n m = ap (λ l. (is_empty l || ((is_none w.body.undone || (has_none_unset w.phase))))) n
    by (i ∷ l) n m = ap (λ l. (is_empty l || ((is_none w.body.undone || (has_none_unset w.phase))))) n ∙ unclosed_after v w k e m

quiet_is : (u : Option State) (p : Phase) → (is_none u || (is_quiet p)) ≡ true → ((is_none u || (is_unmarked p)) ≡ true) × ((is_none u || (has_none_unset p)) ≡ true) × ((is_none u || (is_setting p)) ≡ true)
quiet_is None p h = (refl, refl, refl)
quiet_is (Some u) Clean h = (refl, refl, refl)
quiet_is (Some u) Moved h = (refl, refl, refl)
quiet_is (Some u) Set h = cc
quiet_is (Some u) Framed h = cc
quiet_is (Some u) Unset h = cc
quiet_is (Some u) Marked h = cc

-- where an operator may be visited, each first change may be made
pub step_frame : (v : Stacked) → may_step v ≡ true → may_frame v ≡ true
step_frame v h = (quiet_is v.body.undone v.phase h).0

pub step_set : (v : Stacked) → may_step v ≡ true → may_set v ≡ true
step_set v h = (quiet_is v.body.undone v.phase h).2

-- ---- a whole attempt

some_of : (s t : State) → Some s ≡ Some t → s ≡ t
some_of s t h = cc

-- what was kept is undone: begun, any steps that keep the undone state, and rolled back
pub undone_whole : (v w : Stacked) → v.body.undone ≡ None → IsKept (stacks_begun v).body w.body → (stacks_rolled_back w).body ≡ v.body
undone_whole v w n k =
    ap (λ (x : BodyState). record x { present = unwrap_or x.undone x.present; undone = None }) k
    ∙ ap (λ (u : Option State). record v.body { undone = u }) (sym n)

-- the types of what it comes back to stay valid
pub begun_valid : (md : ModuleContext) (v : Stacked) → IsValidBody md v.body → IsUndoneValid md (stacks_begun v).body
begun_valid md v h s e = subst (IsValidState md v.body.shared v.body.locals) (some_of v.body.present s e) h

pub rolled_valid : (md : ModuleContext) (v : Stacked) → IsSome v.body.undone → IsUndoneValid md v.body → IsValidBody md (stacks_rolled_back v).body
rolled_valid md v i h = by v.body.undone refl i
  where
    by : (u : Option State) → v.body.undone ≡ u → IsSome u → IsValidState md v.body.shared v.body.locals (unwrap_or v.body.undone v.body.present)
    by None e i = absurd cc
    by (Some s) e i = subst (λ (u : Option State). IsValidState md v.body.shared v.body.locals (unwrap_or u v.body.present)) (sym e) (h s e)
