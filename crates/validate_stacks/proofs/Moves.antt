-- What finders and movers show of a body of an operator.
use Rattle.std.proofs.Common.{◌≡◌, ◌≢◌, ℕ, ◌+◌, min, true, false, List, [], ◌∷◌, Bool, Option, Some, None, Result, Ok, Err, MatchResult, OnOk, IfErr, reverse, length, refl, sym, ap, ◌∙◌}
use Rattle.std.specs.Option.{option_map}
use Rattle.validate_resources.specs.Context.{ModuleContext}
use Rattle.validate_types.specs.declared.types.ValType.{ValType}
use Rattle.validation_rules.specs.Fits.{all_fit}
use Rattle.validation_rules.specs.Rows.{guard}
use Rattle.validation_rules.specs.Static.{Frame}
use Rattle.validate_stacks.specs.AtOnce.{body_dropped, frames_dropped}
use Rattle.validate_stacks.specs.Attempts.{Stacked}
use Rattle.validate_stacks.specs.Moves.{Takes}
use Rattle.validate_stacks.specs.Pops.{body_popped_each, has_operands_fitting, operands_found_in}
use Rattle.validate_stacks.specs.State.{BodyState, body_context, body_with_frames}
use Rattle.validate_stacks.specs.Steps.{innermost_operands, found_after_pops_in_body, found_after_pops_in_frames}
use Rattle.std.proofs.lemmas.List.{drop-drop}
use Rattle.validation_rules.specs.Pops.{found_by_pop}
use Rattle.validate_stacks.proofs.AtOnce.{dropped_none, dropped_within, popped_dropped}
use Rattle.validate_stacks.proofs.Whole.{popped_none, popped_whole}

-- what doesn't fit is not popped
pub not_popped : (md : ModuleContext) (expected : List ValType) (v : BodyState) → v.present.frames ≢ [] → has_operands_fitting (body_context md v) expected v ≡ false → body_popped_each md (reverse expected) v ≡ None
not_popped md expected v o h = by v.present.frames refl
  where
    shut : {A : Type 0} (b : Bool) (x : Option A) → b ≡ false → guard b x ≡ None
    shut false x e = refl
    shut true x e = cc

    by : (fs : List Frame) → v.present.frames ≡ fs → body_popped_each md (reverse expected) v ≡ None
    by [] e = absurd (o e)
    by (f ∷ fs) e = popped_whole md v f fs expected e ∙ shut _ _ (sym (ap (λ gs. all_fit (body_context md v) (operands_found_in (length expected) gs) expected) e) ∙ h)

-- what is found below others is found once they are dropped
pub found_below : (k n : ℕ) (v : BodyState) → found_after_pops_in_body k (body_dropped n v) ≡ found_after_pops_in_body (n + k) v
found_below k n v = by v.present.frames
  where
    by : (fs : List Frame) → found_after_pops_in_frames k (frames_dropped n fs) ≡ found_after_pops_in_frames (n + k) fs
    by [] = refl
    by (f ∷ fs) = ap (found_by_pop f.dead) (drop-drop k n f.operands)

pub found_at_depth : (above depth k : ℕ) (v : BodyState) → depth ≡ above + k → found_after_pops_in_body depth v ≡ found_after_pops_in_body k (body_dropped above v)
found_at_depth above depth k v e = ap (λ d. found_after_pops_in_body d v) e ∙ sym (found_below k above v)

-- and dropped in two steps
pub dropped_below : (k n : ℕ) (v : BodyState) → body_dropped k (body_dropped n v) ≡ body_dropped (n + k) v
dropped_below k n v = by v.present.frames
  where
    by : (fs : List Frame) → body_dropped k (body_dropped n (body_with_frames fs v)) ≡ body_dropped (n + k) (body_with_frames fs v)
    by [] = refl
    by (f ∷ fs) = ap (λ xs. body_with_frames (record f { operands = xs } ∷ fs) v) (drop-drop k n f.operands)

-- with no other above
pub fits_now : (md : ModuleContext) (expected : List ValType) (v : BodyState) (b : Bool) → has_operands_fitting (body_context md v) expected (body_dropped 0 v) ≡ b → has_operands_fitting (body_context md v) expected v ≡ b
fits_now md expected v b h = sym (ap (has_operands_fitting (body_context md v) expected) (dropped_none v)) ∙ h

module _ {E : Type 0} (md : ModuleContext) (tells : E → Type 0) (expected : List ValType) (f : BodyState → BodyState) where
  -- operands that aren't found, or don't fit
  pub not_taken : (s : Stacked) (a : Result (Unit {0}) E) → s.body.present.frames ≢ [] → OnOk a ⊥ → has_operands_fitting (body_context md s.body) expected s.body ≡ false → Takes md tells expected f s a s
  unfolding Takes
  not_taken s (Ok u) there never h = absurd never
  not_taken s (Err e) there never h = (refl, λ t. not_popped md expected s.body there h)

  -- operands that fit, moved as far as the frame has them
  pub popped : (s w : Stacked) (k : ℕ) (a : Result (Unit {0}) E) → has_operands_fitting (body_context md s.body) expected s.body ≡ true → k ≡ min (length expected) (length (innermost_operands s.body.present.frames)) → IfErr a (λ e. tells e → ⊥) → MatchResult a (λ _. w.body ≡ f (body_dropped k s.body)) (λ _. w ≡ s) → Takes md tells expected f s a w
  unfolding Takes
  popped s w k (Ok u) fit least told m = ap (option_map f) (popped_dropped md expected s.body fit ∙ ap Some (dropped_within (length expected) k s.body least)) ∙ ap Some (sym m)
  popped s w k (Err e) fit least told m = (m, λ t. absurd (told t))

  -- after one that was
  pub takes_done : (s w : Stacked) → option_map f (body_popped_each md (reverse expected) s.body) ≡ Some w.body → Takes md tells expected f s (Ok tt) w
  unfolding Takes
  takes_done s w e = e

-- where nothing is expected, a move alone
pub given_alone : {E : Type 0} (md : ModuleContext) (tells : E → Type 0) (f : BodyState → BodyState) (s w : Stacked) (a : Result (Unit {0}) E) → IfErr a (λ e. tells e → ⊥) → MatchResult a (λ _. w.body ≡ f s.body) (λ _. w ≡ s) → Takes md tells [] f s a w
unfolding Takes
given_alone md tells f s w (Ok u) told m = ap (option_map f) (popped_none md s.body) ∙ ap Some (sym m)
given_alone md tells f s w (Err e) told m = (m, λ t. absurd (told t))
