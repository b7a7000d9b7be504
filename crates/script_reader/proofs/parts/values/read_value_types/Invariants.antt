use Rattle.script_reader.specs.Values.{IsValueName}
use Rattle.script_reader.proofs.Named.{AreNamed}
use Rattle.script_reader.proofs.parts.values.read_value_types.Given as goal

-- The types are those that the words so far name.
abbrev pub invariant-loop-word : goal.invariant-loop-word
invariant-loop-word l = AreNamed IsValueName l.words l.word-index l.types.items
