-- What holds of the functions of two handles, if there is one in the first.
use Rattle.std.proofs.Common.{◌≡◌, ◌≢◌, ◌≤◌, ℕ, List, None, Some, inl, inr, ap, sym, subst, arith}
use Rattle.std.specs.Prelude.{◌⊎◌, ◌↔◌}
use Rattle.wasmparser_validate.specs.Functions.{Fails}
use Rattle.c_api.specs.FunctionCalls.{OnFunction, OfBoth, Becomes, HasNoFunction, OpAnswer, HandleAnswer}
use Rattle.c_api.specs.Functions.{InProgress, Takes, CannotTake, IsUncoveredOperator}
use Rattle.c_api.specs.Handle.{MaybeKept}
use Rattle.c_api.specs.declared.kept.Kept.{Kept}
use Rattle.c_api.specs.declared.kept.Kept.TheVariants.{Module, Function}
use Rattle.c_api.specs.declared.on_refusal.OnRefusal.{OnRefusal}
use Rattle.c_api.specs.declared.on_refusal.OnRefusal.TheVariants.{Fail, LeaveNoTrace}

module _ (P : InProgress → InProgress → Type 0) where
  becomes : (o p : MaybeKept) (Q : InProgress → InProgress → Type 0) → OfBoth o p P → (HasNoFunction o → ⊥) → ((f g : InProgress) → P f g → Q f g) → Becomes o p Q
  becomes None p Q a none q = absurd (none tt)
  becomes (Some (Module s)) p Q a none q = absurd (none tt)
  becomes (Some (Function f)) None Q a none q = absurd a
  becomes (Some (Function f)) (Some (Module s)) Q a none q = absurd a
  becomes (Some (Function f)) (Some (Function g)) Q a none q = q f g a

  before : (o p : MaybeKept) (Q : InProgress → Type 0) → OfBoth o p P → (HasNoFunction o → ⊥) → ((f g : InProgress) → P f g → Q f) → OnFunction o Q
  before None p Q a none q = absurd (none tt)
  before (Some (Module s)) p Q a none q = absurd (none tt)
  before (Some (Function f)) None Q a none q = absurd a
  before (Some (Function f)) (Some (Module s)) Q a none q = absurd a
  before (Some (Function f)) (Some (Function g)) Q a none q = q f g a

  same : (o p : MaybeKept) → OfBoth o p P → (HasNoFunction o → p ≡ o) → ((f g : InProgress) → P f g → g ≡ f) → p ≡ o
  same None p a none q = none tt
  same (Some (Module s)) p a none q = none tt
  same (Some (Function f)) None a none q = absurd a
  same (Some (Function f)) (Some (Module s)) a none q = absurd a
  same (Some (Function f)) (Some (Function g)) a none q = ap (λ (x : InProgress). Some (Function x)) (q f g a)

  -- what follows of both, or of there being none
  follows : (o p : MaybeKept) (Q : Type 0) → OfBoth o p P → (HasNoFunction o → Q) → ((f g : InProgress) → P f g → Q) → Q
  follows None p Q a none q = none tt
  follows (Some (Module s)) p Q a none q = none tt
  follows (Some (Function f)) None Q a none q = absurd a
  follows (Some (Function f)) (Some (Module s)) Q a none q = absurd a
  follows (Some (Function f)) (Some (Function g)) Q a none q = q f g a

  -- a status above those of an answer says that there is no function
  none_there : (o p : MaybeKept) (s : ℕ) → OfBoth o p P → ((f g : InProgress) → P f g → s ≤ 4) → s ≡ 6 → HasNoFunction o
  none_there None p s a few six = tt
  none_there (Some (Module x)) p s a few six = tt
  none_there (Some (Function f)) None s a few six = absurd a
  none_there (Some (Function f)) (Some (Module x)) s a few six = absurd a
  none_there (Some (Function f)) (Some (Function g)) s a few six = absurd (omega (arith, few f g a, six))

-- what a call on a handle answers of an operator
module _ {on_refusal : OnRefusal} {bytes : List ℕ} {offset taken s : ℕ} {o p : MaybeKept} (x : HandleAnswer on_refusal bytes offset taken s o p) where
  abbrev Told : InProgress → InProgress → Type 0
  Told = OpAnswer on_refusal bytes offset taken s

  pub accepted : s ≡ 0 → Becomes o p (Takes bytes offset taken)
  accepted z = becomes Told o p (Takes bytes offset taken) x.of_function (λ h. omega (arith, z, (x.of_none h).0)) (λ f g a. a.accepted z)

  pub refused : (s ≡ 1) ⊎ (s ≡ 2) → OnFunction o (CannotTake bytes)
  refused d =
      before Told o p (CannotTake bytes) x.of_function (λ h. elim d [ inl e ↦ omega (arith, e, (x.of_none h).0) | inr e ↦ omega (arith, e, (x.of_none h).0) ]) (λ f g a. a.refused d)

  pub uncovered : s ≡ 4 → OnFunction o (IsUncoveredOperator bytes)
  uncovered four =
      before Told o p (IsUncoveredOperator bytes) x.of_function (λ h. omega (arith, four, (x.of_none h).0)) (λ f g a. a.uncovered four)

  pub failed : on_refusal ≡ Fail → (s ≡ 1) ⊎ ((s ≡ 2) ⊎ (s ≡ 3)) → Becomes o p Fails
  failed is d =
      becomes Told o p Fails x.of_function (λ h. elim d [ inl e ↦ omega (arith, e, (x.of_none h).0) | inr r ↦ elim r [ inl e ↦ omega (arith, e, (x.of_none h).0) | inr e ↦ omega (arith, e, (x.of_none h).0) ] ]) (λ f g a. a.failed is d)

  pub unchanged : (s ≡ 4) ⊎ (s ≡ 6) → p ≡ o
  unchanged d =
      same Told o p x.of_function (λ h. (x.of_none h).1) (λ f g a. elim d [ inl e ↦ a.unchanged e | inr e ↦ absurd (omega (arith, e, a.known)) ])

  pub back : on_refusal ≡ LeaveNoTrace → s ≢ 0 → p ≡ o
  back is d = same Told o p x.of_function (λ h. (x.of_none h).1) (λ f g a. a.back is d)

  pub none : s ≡ 6 ↔ HasNoFunction o
  none = (λ z. none_there Told o p s x.of_function (λ f g a. a.known) z, λ h. (x.of_none h).0)

  pub known : (s ≤ 4) ⊎ (s ≡ 6)
  known = follows Told o p ((s ≤ 4) ⊎ (s ≡ 6)) x.of_function (λ h. inr ((x.of_none h).0)) (λ f g a. inl a.known)

  pub none_taken : s ≢ 0 → taken ≡ 0
  none_taken d = follows Told o p (taken ≡ 0) x.of_function (λ h. (x.of_none h).2) (λ f g a. a.none_taken d)

module _ (on_refusal : OnRefusal) (bytes : List ℕ) (offset taken : ℕ) where
  -- the answer where a handle has nothing
  pub none_kept : (t : ℕ) (o p : MaybeKept) → o ≡ None → p ≡ None → t ≡ 6 → taken ≡ 0 → HandleAnswer on_refusal bytes offset taken t o p
  none_kept t o p took left told none =
      subst (λ (q : MaybeKept). HandleAnswer on_refusal bytes offset taken t q p) (sym took) (record { of_function = tt; of_none = λ _. (told, left, none) })

  -- that of what was taken out of a handle, and put back into it
  pub carried : (s t : ℕ) (o p : MaybeKept) (x k l : Kept) → o ≡ Some k → p ≡ Some l → x ≡ k → t ≡ s → OfBoth (Some x) (Some l) (OpAnswer on_refusal bytes offset taken s) → (HasNoFunction (Some x) → (s ≡ 6) × (l ≡ x) × (taken ≡ 0)) → HandleAnswer on_refusal bytes offset taken t o p
  carried s t o p x k l took put is told answer none =
      let kept : HandleAnswer on_refusal bytes offset taken s (Some x) (Some l) = record {
        of_function = answer;
        of_none = λ h. let m = none h in (m.0, ap (λ (y : Kept). Some y) m.1, m.2);
      } in
      subst (λ (q : MaybeKept). HandleAnswer on_refusal bytes offset taken t q p) (sym took)
      (subst (λ (q : MaybeKept). HandleAnswer on_refusal bytes offset taken t (Some k) q) (sym put)
      (subst (λ (y : Kept). HandleAnswer on_refusal bytes offset taken t (Some y) (Some l)) is
      (subst (λ (r : ℕ). HandleAnswer on_refusal bytes offset taken r (Some x) (Some l)) (sym told) kept)))
