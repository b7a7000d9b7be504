-- The report of a run.
use Rattle.std.proofs.Common.{◌≡◌, ◌↔◌, ℕ, Bool, IsTrue, List, [], length, Option, Some, IfSome, Result, Ok, Err, sym, subst}
use Rattle.validate_types.specs.ErrorValue.{ErrorValue}
use Rattle.validate_resources.specs.Context.{ModuleContext}
use Rattle.validate_visit.specs.declared.op.Op.{Op}
use Rattle.validate_stacks.specs.State.{BodyState}
use Rattle.validation_rules.specs.Static.{State}
use Rattle.validate_operators.specs.Runs.{body_before, AreHeightsAfter, IsRefusedAt}
use Rattle.opcheck_script.specs.Reports.{RunsThrough}

-- what holds of the lists that are kept
pub of_module : {X : Type 0} (o : Option X) (x : X) (P : X → Type 0) → o ≡ Some x → P x → IfSome o P
of_module o x P e p = subst (λ y. IfSome y P) (sym e) p

module _ (md : ModuleContext) (v : BodyState) (ops : List (Op × ℕ)) (heights : List (ℕ × ℕ)) (outcome : Result Bool ErrorValue) where
  pub ran_through : (s : State) (closed : Bool) → outcome ≡ Ok closed → body_before md v ops (length ops) ≡ Some s → (IsTrue closed ↔ (s.frames ≡ [])) → AreHeightsAfter md v ops (length ops) heights → RunsThrough md v ops heights outcome
  ran_through s closed eo rows ends noted = subst (RunsThrough md v ops heights) (sym eo) (s, rows, ends, noted)

  pub refused_at : (k : ℕ) (e : ErrorValue) → outcome ≡ Err e → IsRefusedAt md v ops k e → AreHeightsAfter md v ops k heights → RunsThrough md v ops heights outcome
  refused_at k e eo refused noted = subst (RunsThrough md v ops heights) (sym eo) (k, refused, noted)
