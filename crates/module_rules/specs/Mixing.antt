-- A number that is mixed from words. Equal lists of words have the same. That others mostly have another is a matter of
-- speed alone.
use Rattle.std.specs.Prelude.{ℕ, ◌+◌, ◌*◌, ◌%◌, ◌^◌}

-- a word more is mixed into a number
unfoldable pub mix : ℕ → ℕ → ℕ
mix mixed word = ((mixed + word) % 2 ^ 64 * 0x9e3779b97f4a7c15) % 2 ^ 64
