use Rattle.script_reader.specs.Handlers.{IsHandlerName}
use Rattle.script_reader.proofs.Named.{AreNamed-more, not_any_named}
use Rattle.script_reader.proofs.parts.handlers.read_handlers.Goals as goal

pub loop-word-preserved : goal.loop-word-preserved
loop-word-preserved c = AreNamed-more IsHandlerName c.args.words.now _ _ _ _ _ _ c.loop-word-test.true c.read_handler.ensures.named c.in_ok-ok_or.ensures.ok_part c.in_ok-push.ensures.items c.loop-word.invariant

pub returns-in_err-ok_or-clause-bad : goal.returns-in_err-ok_or-clause-bad
returns-in_err-ok_or-clause-bad c err = not_any_named IsHandlerName c.args.words.now _ _ _ c.loop-word-test.true c.read_handler.ensures.other c.in_err-ok_or.ensures.ok_part
