use Rattle.script_reader.specs.Fields.{IsFieldName}
use Rattle.script_reader.proofs.Named.{AreNamed}
use Rattle.script_reader.proofs.parts.fields.read_fields.Given as goal

-- The fields are those that the words so far write.
abbrev pub invariant-loop-word : goal.invariant-loop-word
invariant-loop-word l = AreNamed IsFieldName l.words l.word-index l.fields.items
