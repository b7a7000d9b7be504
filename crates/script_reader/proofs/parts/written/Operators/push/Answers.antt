use Rattle.script_reader.proofs.Attempts.{attempts_pushed}
use Rattle.script_reader.proofs.parts.written.Operators.push.Goals as goal

pub invariant_of-self-2-clause-allowed : goal.invariant_of-self-2-clause-allowed
invariant_of-self-2-clause-allowed c =
    let before = c.args.self.now in
    attempts_pushed before.ops.items _ _ before.attempts.items _ _ _ _ c.reserve-2.ensures.items c.push_reserved.ensures.items c.reserve.ensures.items c.push_reserved-2.ensures.items before.each before.allowed c.requires
