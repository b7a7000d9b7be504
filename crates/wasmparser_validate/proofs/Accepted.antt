-- One more accepted operator of a function validator.
use Rattle.std.proofs.Common.{◌≡◌, ℕ, Bool, false, List, [], ◌∷◌, ◌++◌, length, Some, sym, ap, ◌∙◌, subst}
use Rattle.validate_resources.specs.Context.{ModuleContext}
use Rattle.validate_visit.specs.declared.frame.Frame.{Frame as FlatFrame}
use Rattle.validate_visit.specs.declared.op.Op.{Op}
use Rattle.validation_rules.specs.Operators.{operator}
use Rattle.validation_rules.specs.Static.{step, start}
use Rattle.validate_stacks.specs.Pops.{IsKept}
use Rattle.validate_stacks.specs.State.{BodyState, body_context, IsStarting, IsValidBody}
use Rattle.validate_stacks.specs.Steps.{frame_at}
use Rattle.validate_operators.specs.Runs.{body_before}
use Rattle.validate_operators.proofs.Accepted.{run_more}
use Rattle.wasmparser_validate.specs.Functions.{state_from, function_state, Accepts, IsSound}

module _ (md : ModuleContext) (first : FlatFrame) (v w : BodyState) (accepted items : List (Op × ℕ)) (p : Op × ℕ) (b c : Bool) (kept : IsKept v w) (listed : items ≡ accepted ++ p ∷ []) (row : step (body_context md v) (operator (body_context md v) p.0) v.present ≡ Some w.present) (is : c ≡ false) where
  -- an operator doesn't change where the body started
  same_start : state_from first w ≡ state_from first v
  same_start = ap (state_from first) kept

  -- it is sound with the operator in its list
  pub sound_accepted : IsSound md first v accepted b → body_before md (state_from first v) accepted (length accepted) ≡ Some v.present → IsValidBody md w → IsSound md first w items c
  sound_accepted s run valid = record {
    idle = ap (λ (x : BodyState). x.undone) kept ∙ s.idle;
    valid = valid;
    first_frame = subst (λ (x : BodyState). frame_at x 0 ≡ Some first) (sym same_start) s.first_frame;
    starts = subst (IsStarting md) (sym same_start) s.starts;
    run = λ _. subst (λ (x : BodyState). body_before md x items (length items) ≡ Some w.present) (sym same_start)
        (subst (λ (l : List (Op × ℕ)). body_before md (state_from first v) l (length l) ≡ Some w.present) (sym listed)
        (run_more (body_context md v) accepted p (start first.block_type) v.present w.present run row));
  }

  -- so contracts see it accepted
  pub accepts : {R : Type 0} (r : R) → b ≡ false → Accepts md p (function_state r first v accepted b) (function_state r first w items c)
  accepts r was = record {
    none_failed = was;
    row = row;
    joins = ap (λ (x : BodyState). record { resources = r; starting = x; accepted = items; present = w.present; failed = c }) same_start
        ∙ (ap (λ (l : List (Op × ℕ)). record { resources = r; starting = state_from first v; accepted = l; present = w.present; failed = c }) listed
        ∙ ap (λ (x : Bool). record { resources = r; starting = state_from first v; accepted = accepted ++ p ∷ []; present = w.present; failed = x }) (is ∙ sym was));
  }
