use Rattle.script_reader.proofs.Indices.{AreRead}
use Rattle.script_reader.proofs.parts.numbers.read_indices.Given as goal

-- The indices are those of the tokens so far, each of which writes one.
abbrev pub invariant-loop-token : goal.invariant-loop-token
invariant-loop-token l = AreRead l.tokens l.token-index l.indices.items
