-- What a log takes back from a list (the crate's own).
use Rattle.std.specs.Prelude.{Bool, true, false, ℕ, List, [], ◌∷◌, Option, Some, None, length, drop, ◌<◌}

abbrev pub is_empty : {X : Type 0} → List X → Bool
is_empty [] = true
is_empty (x ∷ xs) = false

-- the items before what the trace recorded, newest first: a push is None, a pop is what was popped
abbrev pub items_taken_back : {X : Type 0} → List X → List (Option X) → List X
items_taken_back xs [] = xs
items_taken_back xs (Some x ∷ trace) = items_taken_back (x ∷ xs) trace
items_taken_back xs (None ∷ trace) = items_taken_back (drop 1 xs) trace

-- taking back stays within the room
abbrev pub CanTakeBack : {X : Type 0} → ℕ → List X → List (Option X) → Type 0
CanTakeBack room xs [] = Unit {0}
CanTakeBack room xs (Some x ∷ trace) = (length xs < room) × CanTakeBack room (x ∷ xs) trace
CanTakeBack room xs (None ∷ trace) = CanTakeBack room (drop 1 xs) trace
