-- The status is that of the answer.
use Rattle.c_api.specs.Handle.{held_in}
use Rattle.c_api.proofs.Held.{finish_told, no_finish}
use Rattle.c_api.proofs.function_calls.finish_kept.Goals as goal

pub returns-in-Some-clause-answer : goal.returns-in-Some-clause-answer
returns-in-Some-clause-answer c =
    let x = c.finished.ensures in
    finish_told (held_in c.args.kept.now) c.in-Some.function.now c.in-Some.ensures c.finished.result c.note_done.new.out.status c.note_done.ensures.told x.whole x.«open» x.refused
    (c.note_done.ensures.covered x.covered) c.note_done.ensures.known

pub returns-in-None-clause-answer : goal.returns-in-None-clause-answer
returns-in-None-clause-answer c = no_finish (held_in c.args.kept.now) c.in-None.ensures c.report_no_function.new.out.status c.report_no_function.ensures.status
