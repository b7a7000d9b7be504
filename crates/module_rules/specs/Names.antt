-- A number that is mixed from a name, of which eight bytes are mixed in at a time, and then what is left. Equal names
-- have the same.
use Rattle.std.specs.Prelude.{ℕ, ◌*◌, ◌/◌, List, drop, length, map}
use Rattle.std.specs.Int.{from_le_bytes, w64}
use Rattle.std.specs.List.{fold}
use Rattle.std.specs.Simd.{first_chunks}
use Rattle.module_rules.specs.Mixing.{mix}

abbrev pub mix_words : List (List ℕ) → ℕ
mix_words words = fold mix 0 (map (from_le_bytes w64) words)

abbrev pub mix_name : List ℕ → ℕ
mix_name name = fold mix (mix_words (first_chunks 8 (length name / 8) name)) (drop (length name / 8 * 8) name)
