-- What is found says what a status means.
use Rattle.std.proofs.Common.{refl}
use Rattle.c_api.specs.Handle.{held_in}
use Rattle.c_api.proofs.Checked.{next_checked, rest_missing, no_rest}
use Rattle.c_api.proofs.calls.check_from_kept.Goals as goal

pub returns-in-Bodies-clause-answer : goal.returns-in-Bodies-clause-answer
returns-in-Bodies-clause-answer c =
    let x = c.check_from.ensures in
    next_checked (held_in c.args.kept.now) c.check_from.new.out.status c.check_from.new.out c.in-Bodies.loaded.now c.in-Bodies.ensures c.args.position.now c.check_from.new.position x.rest x.reported x.unmoved x.known

pub returns-in-NoBodies-clause-answer : goal.returns-in-NoBodies-clause-answer
returns-in-NoBodies-clause-answer c =
    rest_missing (held_in c.args.kept.now) c.report_no_body.new.out.status c.report_no_body.new.out c.in-NoBodies.ensures c.report_no_body.ensures.status c.args.position.now c.args.position.now refl

pub returns-in-NoModule-clause-answer : goal.returns-in-NoModule-clause-answer
returns-in-NoModule-clause-answer c =
    no_rest (held_in c.args.kept.now) c.report_no_module.new.out.status c.report_no_module.new.out c.in-NoModule.ensures c.report_no_module.ensures.status c.args.position.now c.args.position.now refl
