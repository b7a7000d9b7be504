-- What a list holds that was made of what an iterator yields.
use Rattle.std.proofs.Common.{◌≡◌, List, Option, Result, IfOk}
use Rattle.std.proofs.lemmas.Iterator.{YieldsList}
use Rattle.std.proofs.lemmas.Iterator.Adapters.{fact_from_collect}
use Rattle.std.proofs.lemmas.Result.{IfOk-weaker}
use Rattle.std.specs.Iterator.{Drains}

pub items-listed : {S A V E : Type 0} {steps : S → Option A → S → Type 0} {s : S} {all : List A} (items : V → List A) (r : Result V E)
    → IfOk r (λ v. (xs : List A) × Drains steps s xs × (items v ≡ xs)) → YieldsList steps (λ x. x) s all → IfOk r (λ v. items v ≡ all)
items-listed {S} {A} items r listed gives =
    fact_from_collect {S = S} {A = A} (λ xs v. items v ≡ xs) r (IfOk-weaker r _ _ (λ v d. (d.0, (d.1.1.0, d.1.1.1, λ _. (d.1.0, d.1.1.2)), d.2)) listed) gives
