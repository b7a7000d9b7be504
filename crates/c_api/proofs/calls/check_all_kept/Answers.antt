-- What is found says what a status means.
use Rattle.std.proofs.Common.{inl, inr}
use Rattle.c_api.specs.Handle.{held_in}
use Rattle.c_api.proofs.Answered.{not_before, not_one_before, not_two_before, no_more_than_four}
use Rattle.c_api.proofs.Checked.{module_checked, bodies_missing, no_module}
use Rattle.c_api.proofs.calls.check_all_kept.Goals as goal

pub returns-in-Bodies-clause-answer : goal.returns-in-Bodies-clause-answer
returns-in-Bodies-clause-answer c = λ none.
    let x = c.check_whole.ensures in
    module_checked (held_in c.args.kept.now) c.check_whole.new.out.status c.check_whole.new.out c.in-Bodies.loaded.now c.in-Bodies.ensures x.accepted
    (λ says. elim (x.refused says) [ inl before ↦ absurd (before.0 c.requires.first) | inr this ↦ this ])
    (λ one. elim (x.invalid one) [ inl before ↦ absurd (not_one_before c.args.out.now.status c.requires.first before) | inr this ↦ this ])
    (λ two. elim (x.malformed two) [ inl before ↦ absurd (not_two_before c.args.out.now.status c.requires.first before) | inr this ↦ this ])
    (λ four. elim (x.uncovered four) [ inl before ↦ absurd (not_before c.args.out.now.status c.requires.first before) | inr this ↦ this ])
    (λ enough. x.counted enough none) (no_more_than_four c.args.out.now.status c.check_whole.new.out.status c.requires.first x.known)

pub returns-in-NoBodies-clause-answer : goal.returns-in-NoBodies-clause-answer
returns-in-NoBodies-clause-answer c = λ _.
    bodies_missing (held_in c.args.kept.now) c.report_no_body.new.out.status c.report_no_body.new.out c.in-NoBodies.ensures c.report_no_body.ensures.status

pub returns-in-NoModule-clause-answer : goal.returns-in-NoModule-clause-answer
returns-in-NoModule-clause-answer c = λ _.
    no_module (held_in c.args.kept.now) c.report_no_module.new.out.status c.report_no_module.new.out c.in-NoModule.ensures c.report_no_module.ensures.status
