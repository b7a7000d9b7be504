-- Values in the bytes of a module (WebAssembly core specification, "Binary Format: Values"; integers are in
-- `Integers.antt`) and lists of what they stand for ("Binary Format: Conventions", "Lists"). A reading
-- answers what the bytes begin with and the bytes behind it, or None where they begin with no such thing.
use Rattle.std.specs.Prelude.{ℕ, zero, suc, ◌+◌, ◌*◌, ◌^◌, List, [], ◌∷◌, length, take, drop}
use Rattle.std.specs.Prelude.{Option, Some, None, option_and_then, nat_lt, if◌then◌else◌}
use Rattle.std.specs.Int.{from_le_bytes, w32}
use Rattle.binary_operators.specs.Integers.{unsigned}

-- one reading and then another, as `do` writes it
infixl 10 ◌>>=◌
abbrev pub ◌>>=◌ : {A B : Type 0} → Option A → (A → Option B) → Option B
o >>= f = option_and_then f o

-- a byte
abbrev pub byte : List ℕ → Option (ℕ × List ℕ)
byte [] = None
byte (b ∷ bytes) = Some (b, bytes)

-- the bits of a float: four bytes, or eight, the low ones first
unfoldable pub float32 : List ℕ → Option (ℕ × List ℕ)
float32 bytes =
    if nat_lt (length bytes) 4 then None else Some (from_le_bytes w32 (take 4 bytes), drop 4 bytes)

unfoldable pub float64 : List ℕ → Option (ℕ × List ℕ)
float64 bytes = do
  low ← float32 bytes
  high ← float32 low.1
  Some (high.0 * 2 ^ 32 + low.0, high.1)

-- so many items, one behind another
abbrev pub so_many : {A : Type 0} → (List ℕ → Option (A × List ℕ)) → ℕ → List ℕ → Option (List A × List ℕ)
so_many item zero bytes = Some ([], bytes)
so_many item (suc n) bytes = do
  first ← item bytes
  others ← so_many item n first.1
  Some (first.0 ∷ others.0, others.1)

-- how many items there are, and the items
unfoldable pub list_of : {A : Type 0} → (List ℕ → Option (A × List ℕ)) → List ℕ → Option (List A × List ℕ)
list_of item bytes = do
  count ← unsigned 32 bytes
  so_many item count.0 count.1
