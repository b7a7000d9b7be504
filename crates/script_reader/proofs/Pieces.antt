-- The pieces of a line so far that aren't empty.
use Rattle.std.proofs.Common.{◌≡◌, ◌==◌, ℕ, Bool, not, List, Bor, length, map, filter}

abbrev pub text_of : Bor (List ℕ) → List ℕ
text_of word = word.now

abbrev pub is_word : List ℕ → Bool
is_word text = not (length text == 0)

-- the words so far are those among the pieces so far
abbrev pub AreWords : List (Bor (List ℕ)) → List (Bor (List ℕ)) → Type 0
AreWords words pieces = map text_of words ≡ filter is_word (map text_of pieces)
