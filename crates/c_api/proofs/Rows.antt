-- The row of a module's constant expressions and bodies.
use Rattle.std.proofs.Common.{◌≡◌, ◌≤◌, ◌<◌, ◌+◌, ◌-◌, ℕ, zero, suc, subst, arith}
use Rattle.std.proofs.lemmas.Option.{slice_get_within}
use mathlib.Core.Logic.{◌⊎◌, inl, inr}
use Rattle.module_check.specs.Items.{IsSafeAt, item_count}
use Rattle.module_check.specs.declared.loaded.LoadedModule.{LoadedModule}
use Rattle.module_check.specs.declared.module_verdict.ModuleVerdict.{ModuleVerdict}
use Rattle.c_api.specs.Items.{IsReportedAt, IsReported, ItemAnswer, AreSafeBetween, AreSafeFrom}

either : (a b : ℕ) → (a ≤ b) ⊎ (b < a)
either zero b = inl (omega arith)
either (suc a) zero = inr (omega arith)
either (suc a) (suc b) = elim (either a b) [ inl h ↦ inl (omega (arith, h)) | inr h ↦ inr (omega (arith, h)) ]

module _ (m : LoadedModule) where
  -- nothing stands past its end
  beyond : (place : ℕ) → item_count m ≤ place → IsSafeAt m place
  beyond place h = record {
    expression = λ e is. absurd (omega (arith, h, slice_get_within m.expressions.items place e is));
    body = λ s t u. absurd (omega (arith, h, t));
  }

  pub all_from : (start end : ℕ) → AreSafeBetween m start end → item_count m ≤ end → AreSafeFrom m start
  all_from start end b h place s = elim (either end place) [ inl past ↦ beyond place (omega (arith, h, past)) | inr before ↦ b place s before ]

  pub one_more : (start place : ℕ) → AreSafeBetween m start place → IsSafeAt m place → AreSafeBetween m start (place + 1)
  one_more start place b i q s l = elim (either place q) [ inl past ↦ subst (IsSafeAt m) (omega (arith, past, l)) i | inr before ↦ b q s before ]

  -- what stands before the end is reported, where all before are safe
  pub reported_before : (start place end : ℕ) (v : ModuleVerdict) → start ≤ place → place < item_count m → end ≡ place + 1 → AreSafeBetween m start place → IsReportedAt m place v → ItemAnswer m place v.status → IsReported m start end v
  reported_before start place end v from inside is before at answer =
      let here : place ≡ end - 1 = omega (arith, is) in
      record {
        further = omega (arith, from, is);
        within = omega (arith, inside, is);
        before = subst (AreSafeBetween m start) here before;
        reported = subst (λ p. IsReportedAt m p v) here at;
        answer = subst (λ p. ItemAnswer m p v.status) here answer;
      }
