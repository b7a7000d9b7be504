use Rattle.script_reader.specs.Handlers.{IsHandlerName}
use Rattle.script_reader.proofs.Named.{AreNamed}
use Rattle.script_reader.proofs.parts.handlers.read_handlers.Given as goal

-- The handlers are those that the words so far write.
abbrev pub invariant-loop-word : goal.invariant-loop-word
invariant-loop-word l = AreNamed IsHandlerName l.words l.word-index l.handlers.items
