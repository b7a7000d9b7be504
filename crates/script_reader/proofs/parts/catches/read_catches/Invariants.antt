use Rattle.script_reader.specs.Catches.{IsCatchName}
use Rattle.script_reader.proofs.Named.{AreNamed}
use Rattle.script_reader.proofs.parts.catches.read_catches.Given as goal

-- The clauses are those that the words so far write.
abbrev pub invariant-loop-word : goal.invariant-loop-word
invariant-loop-word l = AreNamed IsCatchName l.words l.word-index l.catches.items
