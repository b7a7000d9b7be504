-- So many words are mixed in.
use Rattle.std.proofs.Common.{◌≡◌, map, take}
use Rattle.std.specs.Int.{from_le_bytes, w64}
use Rattle.std.specs.List.{fold}
use Rattle.module_rules.specs.Mixing.{mix}
use Rattle.module_rules.proofs.names.mix_words.Given as goal

abbrev pub invariant-loop-word : goal.invariant-loop-word
invariant-loop-word l = l.mixed ≡ fold mix 0 (map (from_le_bytes w64) (take l.word-index l.words))
