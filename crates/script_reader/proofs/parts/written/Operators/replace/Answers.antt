use Rattle.script_reader.proofs.Attempts.{attempts_set}
use Rattle.script_reader.proofs.parts.written.Operators.replace.Goals as goal

pub invariant_of-self-clause-allowed : goal.invariant_of-self-clause-allowed
invariant_of-self-clause-allowed c =
    let before = c.args.self.now in
    attempts_set before.ops.items before.attempts.items c.args.place (c.args.op, c.args.number) c.args.attempted before.allowed c.requires
