use Rattle.script_reader.proofs.Indices.{AreRead-more}
use Rattle.script_reader.proofs.parts.numbers.read_indices.Goals as goal

pub loop-token-preserved : goal.loop-token-preserved
loop-token-preserved c = AreRead-more c.args.tokens.now _ _ _ _ _ _ c.loop-token-test.true c.read_index.ensures c.in_ok-ok_or.ensures.ok_part c.in_ok-push.ensures.items c.loop-token.invariant
