-- What is found says what a status means.
use Rattle.c_api.specs.Handle.{held_in}
use Rattle.c_api.proofs.Checked.{body_checked, body_missing, no_module_of_body}
use Rattle.c_api.proofs.calls.check_one_kept.Goals as goal

pub returns-in-Bodies-clause-answer : goal.returns-in-Bodies-clause-answer
returns-in-Bodies-clause-answer c =
    let x = c.check_one.ensures in
    body_checked (held_in c.args.kept.now) c.check_one.new.out.status c.check_one.new.out c.in-Bodies.loaded.now c.in-Bodies.ensures c.args.function x.safe x.refused x.invalid x.malformed x.uncovered x.reported x.missing x.known

pub returns-in-NoBodies-clause-answer : goal.returns-in-NoBodies-clause-answer
returns-in-NoBodies-clause-answer c =
    let x = c.report_no_body.ensures in
    body_missing (held_in c.args.kept.now) c.report_no_body.new.out.status c.report_no_body.new.out c.in-NoBodies.ensures x.status c.args.function x.reported

pub returns-in-NoModule-clause-answer : goal.returns-in-NoModule-clause-answer
returns-in-NoModule-clause-answer c =
    no_module_of_body (held_in c.args.kept.now) c.report_no_module.new.out.status c.report_no_module.new.out c.in-NoModule.ensures c.report_no_module.ensures.status c.args.function
