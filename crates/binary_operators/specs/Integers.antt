-- Integers in the bytes of a module (WebAssembly core specification, "Binary Format: Values", "Integers").
use Rattle.std.specs.Prelude.{ℕ, ◌+◌, ◌*◌, ◌-◌, ◌^◌, List, [], ◌∷◌, Option, Some, None}
use Rattle.std.specs.Prelude.{nat_lt, if◌then◌else◌, ℤ, pos, ◌-ℤ◌}

-- a number of which these are the low 7 bits, with the bits above them and the bytes behind it
abbrev pub with_low : ℕ → Option (ℕ × List ℕ) → Option (ℕ × List ℕ)
with_low low None = None
with_low low (Some high) = Some (high.0 * 128 + low, high.1)

-- a number of which these are the low bits, so many, with the bits above them and the bytes behind it
abbrev pub above : ℕ → ℕ → Option (ℕ × List ℕ) → Option (ℕ × List ℕ)
above shift low None = None
above shift low (Some high) = Some (high.0 * 2 ^ shift + low, high.1)

-- a number with the bytes behind it
abbrev pub with_rest : List ℕ → Option ℕ → Option (ℕ × List ℕ)
with_rest bytes None = None
with_rest bytes (Some value) = Some (value, bytes)

-- The number of so many bits that the bytes begin with, and the bytes behind it (uN): 7 bits in each byte,
-- the low ones first, and 128 more in each byte but the last.
abbrev pub unsigned : ℕ → List ℕ → Option (ℕ × List ℕ)
unsigned bits [] = None
unsigned bits (byte ∷ bytes) =
    if nat_lt byte 128 then (if nat_lt byte (2 ^ bits) then Some (byte, bytes) else None)
    else (if nat_lt 7 bits then with_low (byte - 128) (unsigned (bits - 7) bytes) else None)

-- The integer of so many bits that a last byte is (sN: its seventh bit is the sign), if it is one. So that
-- all of it is in ℕ, half of 2 ^ bits is added.
abbrev pub last_biased : ℕ → ℕ → Option ℕ
last_biased bits byte =
    if nat_lt byte 64 then (if nat_lt byte (2 ^ (bits - 1)) then Some (byte + 2 ^ (bits - 1)) else None)
    else (if nat_lt (byte + 2 ^ (bits - 1)) 128 then None else Some (byte + 2 ^ (bits - 1) - 128))

-- The integer of so many bits that the bytes begin with (sN), with half of 2 ^ bits added, and the bytes
-- behind it.
abbrev pub biased : ℕ → List ℕ → Option (ℕ × List ℕ)
biased bits [] = None
biased bits (byte ∷ bytes) =
    if nat_lt byte 128 then with_rest bytes (last_biased bits byte)
    else (if nat_lt 7 bits then with_low (byte - 128) (biased (bits - 7) bytes) else None)

-- an integer to which half of 2 ^ bits was added
abbrev pub without_bias : ℕ → Option (ℕ × List ℕ) → Option (ℤ × List ℕ)
without_bias bits None = None
without_bias bits (Some read) = Some (pos read.0 -ℤ pos (2 ^ (bits - 1)), read.1)

-- the integer of so many bits that the bytes begin with, and the bytes behind it (sN)
abbrev pub signed : ℕ → List ℕ → Option (ℤ × List ℕ)
signed bits bytes = without_bias bits (biased bits bytes)
