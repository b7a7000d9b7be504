use Rattle.script_reader.specs.Values.{IsValueName, fits_value}
use Rattle.script_reader.proofs.Named.{AreNamed-more, not_all_named}
use Rattle.script_reader.proofs.parts.values.read_value_types.Goals as goal

pub loop-word-preserved : goal.loop-word-preserved
loop-word-preserved c = AreNamed-more IsValueName c.args.words.now _ _ _ _ _ _ c.loop-word-test.true c.read_value_type.ensures.named c.in_ok-ok_or.ensures.ok_part c.in_ok-push.ensures.items c.loop-word.invariant

pub returns-in_err-ok_or-clause-bad : goal.returns-in_err-ok_or-clause-bad
returns-in_err-ok_or-clause-bad c err = not_all_named IsValueName c.args.words.now fits_value _ _ _ c.loop-word-test.true c.read_value_type.ensures.other c.in_err-ok_or.ensures.ok_part
