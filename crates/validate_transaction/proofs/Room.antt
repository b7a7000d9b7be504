-- Taking back within more room.
use Rattle.std.proofs.Common.{ℕ, List, [], ◌∷◌, Option, Some, None, drop, ◌≤◌, arith}
use Rattle.validate_transaction.specs.TakeBack.{CanTakeBack}

-- more room does no harm
pub CanTakeBack-more : {X : Type 0} (small big : ℕ) (xs : List X) (trace : List (Option X)) → small ≤ big → CanTakeBack small xs trace → CanTakeBack big xs trace
CanTakeBack-more small big xs [] h k = tt
CanTakeBack-more small big xs (Some x ∷ trace) h k = (omega (arith, k.0), CanTakeBack-more small big (x ∷ xs) trace h k.1)
CanTakeBack-more small big xs (None ∷ trace) h k = CanTakeBack-more small big (drop 1 xs) trace h k
