use Rattle.script_reader.specs.Catches.{IsCatchName}
use Rattle.script_reader.proofs.Named.{AreNamed-more, not_any_named}
use Rattle.script_reader.proofs.parts.catches.read_catches.Goals as goal

pub loop-word-preserved : goal.loop-word-preserved
loop-word-preserved c = AreNamed-more IsCatchName c.args.words.now _ _ _ _ _ _ c.loop-word-test.true c.read_catch.ensures.named c.in_ok-ok_or.ensures.ok_part c.in_ok-push.ensures.items c.loop-word.invariant

pub returns-in_err-ok_or-clause-bad : goal.returns-in_err-ok_or-clause-bad
returns-in_err-ok_or-clause-bad c err = not_any_named IsCatchName c.args.words.now _ _ _ c.loop-word-test.true c.read_catch.ensures.other c.in_err-ok_or.ensures.ok_part
