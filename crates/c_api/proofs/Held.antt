-- What a handle has that has no module, or no function.
use Rattle.std.proofs.Common.{◌≡◌, ◌≢◌, ◌≤◌, ◌∙◌, ℕ, false, [], Option, None, Some, Result, OnOk, OnErr, IfErr, inl, inr, refl, sym, subst, arith}
use Rattle.std.specs.Prelude.{MatchResult, IfSome}
use Rattle.std.specs.Option.{option_map}
use Rattle.module_check.specs.Verdicts.{status_of}
use Rattle.module_check.specs.declared.verdict.Verdict.{Verdict}
use Rattle.module_check.specs.declared.verdict.Verdict.TheVariants.{Accepted}
use Rattle.c_api.specs.Calls.{OfHeld, HasNoModule}
use Rattle.c_api.specs.FunctionCalls.{OnFunction, OfFunction, HasNoFunction, FinishAnswer}
use Rattle.c_api.specs.Functions.{InProgress, IsWhole}
use Rattle.c_api.specs.Handle.{MaybeKept}
use Rattle.c_api.specs.declared.kept.Kept.TheVariants.{Module, Function}
use Rattle.c_api.specs.declared.shared.HeldModule.{HeldModule}
use Rattle.c_api.proofs.Answered.{done, undone}

pub of_no_module : (o : MaybeKept) → HasNoModule o → (P : HeldModule → Type 0) → OfHeld o P
of_no_module None none P = tt
of_no_module (Some (Module s)) none P = absurd none
of_no_module (Some (Function f)) none P = tt

pub of_no_function : (o : MaybeKept) → HasNoFunction o → (P : InProgress → Type 0) → OfFunction o P
of_no_function None none P = tt
of_no_function (Some (Module s)) none P = tt
of_no_function (Some (Function f)) none P = absurd none

-- what is shown of a function, which may not be there
module _ {T : Type 0} (o : MaybeKept) (f : InProgress) (is : o ≡ Some (Function f)) (r : Option T) where
  pub shown : (g : InProgress → Option T) → r ≡ g f → IfSome r (λ s. OnFunction o (λ x. g x ≡ Some s))
  shown g e = by r e
    where
      by : (q : Option T) → q ≡ g f → IfSome q (λ s. OnFunction o (λ x. g x ≡ Some s))
      by None d = tt
      by (Some s) d = subst (λ (p : MaybeKept). OnFunction p (λ x. g x ≡ Some s)) (sym is) (sym d)

  none_mapped : {A : Type 0} → (h : A → T) (a : Option A) → option_map h a ≡ None → a ≡ None
  none_mapped h None e = refl
  none_mapped h (Some a) e = absurd cc

  pub not_shown : {A : Type 0} → (h : A → T) (g : InProgress → Option A) → r ≡ option_map h (g f) → r ≡ None → OfFunction o (λ x. g x ≡ None)
  not_shown h g e none = subst (λ (p : MaybeKept). OfFunction p (λ x. g x ≡ None)) (sym is) (none_mapped h (g f) (sym e ∙ none))

-- what a status says of the end of a function
pub finish_told : (o : MaybeKept) (f : InProgress) → o ≡ Some (Function f) → (r : Result (Unit {0}) Verdict) (s : ℕ) → MatchResult r (λ _. s ≡ 0) (λ v. s ≡ status_of v) → OnOk r (IsWhole f) → OnErr r (¬ ((f.failed ≡ false) × (f.present.frames ≡ []))) → IfErr r (λ v. v ≢ Accepted) → s ≢ 4 → s ≤ 4 → FinishAnswer o s
finish_told o f is r s told whole unfinished refused covered known =
    let answer : FinishAnswer (Some (Function f)) s = record {
      whole = done r s (IsWhole f) told whole refused;
      is_open = undone r s (¬ ((f.failed ≡ false) × (f.present.frames ≡ []))) told unfinished;
      covered = covered;
      none = (λ six. absurd (omega (arith, six, known)), λ none. absurd none);
      known = inl known;
    } in
    subst (λ (p : MaybeKept). FinishAnswer p s) (sym is) answer

-- and of there being none
pub no_finish : (o : MaybeKept) → HasNoFunction o → (s : ℕ) → s ≡ 6 → FinishAnswer o s
no_finish o none s six = record {
  whole = λ z. absurd (omega (arith, z, six));
  is_open = λ _. of_no_function o none (λ f. ¬ ((f.failed ≡ false) × (f.present.frames ≡ [])));
  covered = λ four. omega (arith, four, six);
  none = (λ _. none, λ _. six);
  known = inr six;
}
