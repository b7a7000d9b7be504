-- Numbers as a script writes them (the crate's own).
use Rattle.std.specs.Prelude.{◌≡◌, ℕ, ◌<◌, ◌^◌, ℤ, pos, neg_ℤ, List, drop, if◌then◌else◌}
use Rattle.std.specs.Str.Parse.{IsNumeral, digits_value, starts_with_minus}
use Rattle.std.specs.Int.RustNames.{FitsSigned}
use mir.Syntax.{Width}

-- digits that write a number in the range of an index
abbrev pub IsIndex : List ℕ → Type 0
IsIndex bs = IsNumeral 10 bs × (digits_value 10 bs < 2 ^ 32)

-- digits that write this index
abbrev pub WritesIndex : List ℕ → ℕ → Type 0
WritesIndex bs n = IsIndex bs × (n ≡ digits_value 10 bs)

-- digits that write a number in the range of the exponent of an alignment
abbrev pub IsExponent : List ℕ → Type 0
IsExponent bs = IsNumeral 10 bs × (digits_value 10 bs < 2 ^ 8)

-- digits that write a number of 64 bits
abbrev pub IsLongNumber : List ℕ → Type 0
IsLongNumber bs = IsNumeral 10 bs × (digits_value 10 bs < 2 ^ 64)

-- the digits of a constant: all that follows its minus
abbrev pub constant_digits : List ℕ → List ℕ
constant_digits bs = if starts_with_minus bs then drop 1 bs else bs

-- the number that a constant writes
abbrev pub constant_value : List ℕ → ℤ
constant_value bs =
    if starts_with_minus bs then neg_ℤ (pos (digits_value 10 (constant_digits bs)))
    else pos (digits_value 10 (constant_digits bs))

-- digits, perhaps after a minus, that write a number in the signed range of this width
abbrev pub IsConstant : Width → List ℕ → Type 0
IsConstant w bs = IsNumeral 10 (constant_digits bs) × FitsSigned w (constant_value bs)
