-- The status is that of the answer.
use Rattle.c_api.proofs.Answered.{op_answered}
use Rattle.c_api.proofs.function_calls.op_slowly.Goals as goal

pub returns-clause-answer : goal.returns-clause-answer
returns-clause-answer c =
    let x = c.op-answer.ensures in
    op_answered c.args.on_refusal c.args.bytes.now c.args.offset c.note_taken.new.taken c.note_taken.new.out.status c.args.taken.now c.args.function.now c.op-answer.new.self c.requires.none_taken c.op-answer.result c.note_taken.ensures.told
    x.accepted x.refused x.cannot x.failed x.uncovered x.unchanged x.back
