use Rattle.script_reader.proofs.Pieces.{AreWords}
use Rattle.script_reader.proofs.parts.words.read_words.Given as goal

-- The words are the pieces so far that aren't empty.
abbrev pub invariant-loop-word : goal.invariant-loop-word
invariant-loop-word l = AreWords l.words.items l.yielded
