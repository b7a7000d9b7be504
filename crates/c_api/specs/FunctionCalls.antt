-- What the calls on a function say (the crate's own).
use Rattle.std.specs.Prelude.{◌≡◌, ◌≢◌, ◌≤◌, ◌⊎◌, ◌↔◌, ℕ, false, List, [], None, Some}
use Rattle.wasmparser_validate.specs.Functions.{Fails}
use Rattle.c_api.specs.Functions.{InProgress, Takes, CannotTake, IsUncoveredOperator, IsWhole}
use Rattle.c_api.specs.Handle.{MaybeKept}
use Rattle.c_api.specs.declared.kept.Kept.TheVariants.{Module, Function}
use Rattle.c_api.specs.declared.on_refusal.OnRefusal.{OnRefusal}
use Rattle.c_api.specs.declared.on_refusal.OnRefusal.TheVariants.{Fail, LeaveNoTrace}

-- there is a function, and this holds of it
abbrev pub OnFunction : MaybeKept → (InProgress → Type 0) → Type 0
OnFunction None p = ⊥
OnFunction (Some (Module s)) p = ⊥
OnFunction (Some (Function f)) p = p f

-- this holds of the function, if there is one
abbrev pub OfFunction : MaybeKept → (InProgress → Type 0) → Type 0
OfFunction None p = Unit {0}
OfFunction (Some (Module s)) p = Unit {0}
OfFunction (Some (Function f)) p = p f

-- there is no function
abbrev pub HasNoFunction : MaybeKept → Type 0
HasNoFunction None = Unit {0}
HasNoFunction (Some (Module s)) = Unit {0}
HasNoFunction (Some (Function f)) = ⊥

-- there is a function before and after, and this holds of the two
abbrev pub Becomes : MaybeKept → MaybeKept → (InProgress → InProgress → Type 0) → Type 0
Becomes f g p = OnFunction f (λ x. OnFunction g (λ y. p x y))

-- of the two functions, if there is one before, this holds
abbrev pub OfBoth : MaybeKept → MaybeKept → (InProgress → InProgress → Type 0) → Type 0
OfBoth f g p = OfFunction f (λ x. OnFunction g (λ y. p x y))

-- what a status says of an operator, and how many bytes were taken
pub record OpAnswer
    (on_refusal : OnRefusal) (bytes : List ℕ) (offset taken status : ℕ) (f g : InProgress) : Type 0 where
  pub accepted : status ≡ 0 → Takes bytes offset taken f g
  pub refused : (status ≡ 1) ⊎ (status ≡ 2) → CannotTake bytes f
  pub failed : on_refusal ≡ Fail → (status ≡ 1) ⊎ (status ≡ 2) ⊎ (status ≡ 3) → Fails f g
  pub uncovered : status ≡ 4 → IsUncoveredOperator bytes f
  pub unchanged : status ≡ 4 → g ≡ f
  pub back : on_refusal ≡ LeaveNoTrace → status ≢ 0 → g ≡ f
  pub none_taken : status ≢ 0 → taken ≡ 0
  pub known : status ≤ 4

-- the same of a handle, which may have no function
pub record HandleAnswer
    (on_refusal : OnRefusal) (bytes : List ℕ) (offset taken status : ℕ) (o p : MaybeKept) : Type 0 where
  pub of_function : OfBoth o p (OpAnswer on_refusal bytes offset taken status)
  pub of_none : HasNoFunction o → (status ≡ 6) × (p ≡ o) × (taken ≡ 0)

-- what a status says of the end of a function in a handle
pub record FinishAnswer (o : MaybeKept) (status : ℕ) : Type 0 where
  pub whole : status ≡ 0 → OnFunction o IsWhole
  pub is_open : status ≢ 0 → OfFunction o (λ f. ¬ ((f.failed ≡ false) × (f.present.frames ≡ [])))
  pub covered : status ≢ 4
  pub none : status ≡ 6 ↔ HasNoFunction o
  pub known : (status ≤ 4) ⊎ (status ≡ 6)
