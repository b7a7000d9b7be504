-- Moves of operators that find what they want below others, which go too.
use Rattle.std.proofs.Common.{◌≡◌, ◌≢◌, ℕ, zero, suc, ◌+◌, min, arith, true, false, List, [], length, reverse, None, Result, MatchResult, IfErr, refl, sym, ap, ◌∙◌, subst}
use Rattle.std.specs.List.{AllByRecursion}
use Rattle.std.specs.Option.{option_map}
use Rattle.validate_resources.specs.Context.{ModuleContext, Valid}
use Rattle.validation_rules.specs.Context.{ValType, Context}
use Rattle.validation_rules.specs.Rows.{Operator}
use Rattle.validate_stacks.specs.AtOnce.{body_dropped}
use Rattle.validate_stacks.specs.Attempts.{Stacked}
use Rattle.validate_stacks.specs.Moves.{Moves}
use Rattle.validate_stacks.specs.Pops.{body_popped_each, body_pushed_each, has_operands_fitting, IsKept}
use Rattle.validate_stacks.specs.State.{BodyState, IsValidBody, body_context}
use Rattle.validate_stacks.specs.Steps.{body_popped, innermost_operands}
use Rattle.validate_stacks.specs.Visits.{step_body}
use Rattle.validate_stacks.proofs.AtOnce.{dropped_none, dropped_next, dropped_open, dropped_within, popped_dropped, popped_each_kept, pushed_each_kept}
use Rattle.validate_stacks.proofs.Moves.{dropped_below, not_popped}
use Rattle.validate_stacks.proofs.Validity.{kept_on, popped_valid}
use Rattle.validate_shapes.proofs.Moves.{made_moves}

-- one operand dropped is one popped
pub dropped_once : (v : BodyState) → body_dropped 1 v ≡ body_popped v
dropped_once v = sym (dropped_next 0 v) ∙ ap body_popped (dropped_none v)

-- what is left is valid
pub dropped_valid : (md : ModuleContext) (n : ℕ) (v : BodyState) → IsValidBody md v → IsValidBody md (body_dropped n v)
dropped_valid md zero v h = subst (IsValidBody md) (sym (dropped_none v)) h
dropped_valid md (suc n) v h =
    subst (IsValidBody md) (dropped_next n v ∙ ap (λ k. body_dropped k v) plus) (popped_valid md (body_dropped n v) (dropped_valid md n v h))
  where
    plus : n + 1 ≡ suc n
    plus = omega arith

-- an operator whose step takes what is expected below so many operands, and gives other operands
module _ {E : Type 0} (md : ModuleContext) (tells : E → Type 0) (op : Context → Operator) (s w : Stacked) (above : ℕ) (expected pushed : List ValType) (is : step_body md op s.body ≡ option_map (λ u. body_pushed_each pushed u) (body_popped_each md (reverse expected) (body_dropped above s.body))) where
  -- it has no step where that isn't found, or doesn't fit
  pub unfit_below : s.body.present.frames ≢ [] → has_operands_fitting (body_context md s.body) expected (body_dropped above s.body) ≡ false → step_body md op s.body ≡ None
  unfit_below there unfit =
      is ∙ ap (option_map (λ u. body_pushed_each pushed u)) (not_popped md expected (body_dropped above s.body) (dropped_open above s.body there) unfit)

  -- where it fits, it goes with those above
  pub moved_below : has_operands_fitting (body_context md s.body) expected (body_dropped above s.body) ≡ true → AllByRecursion (Valid md) pushed → IsValidBody md s.body → (k : ℕ) → k ≡ min (above + length expected) (length (innermost_operands s.body.present.frames)) → (a : Result (Unit {0}) E) → IfErr a (λ e. tells e → ⊥) → MatchResult a (λ _. w.body ≡ body_pushed_each pushed (body_dropped k s.body)) (λ _. w ≡ s) → Moves md tells op s a w
  moved_below fit valid state k least a told moved =
      let v = s.body in
      let u = body_dropped above v in
      let x = body_dropped (length expected) u in
      let passed = popped_dropped md expected u fit in
      let whole : body_dropped k v ≡ x = sym (dropped_below (length expected) above v ∙ dropped_within (above + length expected) k v least) in
      let first : IsKept v u = refl in
      let second = popped_each_kept md (reverse expected) u x passed in
      let third = pushed_each_kept md pushed x in
      made_moves md tells op s w (body_pushed_each pushed x) (is ∙ ap (option_map (λ u. body_pushed_each pushed u)) passed)
      (third.1 valid (second.1 (dropped_valid md above v state)))
      (kept_on v x (body_pushed_each pushed x) (kept_on v u x first second.0) third.0) a told
      (subst (λ (y : BodyState). MatchResult a (λ _. w.body ≡ body_pushed_each pushed y) (λ _. w ≡ s)) whole moved)
