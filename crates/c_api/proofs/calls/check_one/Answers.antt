-- What is noted is what was found, since nothing was noted before.
use Rattle.std.proofs.Common.{◌∙◌, sym, inl, inr, subst}
use Rattle.module_check.specs.FaultyModule.{IsRefusedFunction}
use Rattle.c_api.proofs.Answered.{not_both, not_before, not_one_before, not_two_before, no_more_than_five, not_five, five_not_zero}
use Rattle.c_api.proofs.Answered.{five_not_one, five_not_two, five_not_four, five_known}
use Rattle.c_api.proofs.Checked.{not_accepted}
use Rattle.c_api.proofs.calls.check_one.Goals as goal

pub returns-then-has_own_body-clause-safe : goal.returns-then-has_own_body-clause-safe
returns-then-has_own_body-clause-safe c = λ z. c.check_function-verdict.ensures.safe ((c.note.ensures.accepted z).1)

pub returns-then-has_own_body-clause-refused : goal.returns-then-has_own_body-clause-refused
returns-then-has_own_body-clause-refused c = λ says.
    elim (c.note.ensures.refused says) [ inl before ↦ absurd (before.0 c.requires.first) | inr this ↦ c.check_function-verdict.ensures.refused this.0 this.1 ]

pub returns-then-has_own_body-clause-uncovered : goal.returns-then-has_own_body-clause-uncovered
returns-then-has_own_body-clause-uncovered c = λ four.
    elim (c.note.ensures.uncovered four) [
      | inl before ↦ absurd (not_before c.args.out.now.status c.requires.first before)
      | inr this ↦ c.check_function-verdict.ensures.uncovered this.0 this.1
    ]

pub returns-then-has_own_body-clause-reported : goal.returns-then-has_own_body-clause-reported
returns-then-has_own_body-clause-reported c = c.note.ensures.reported c.requires.first

pub returns-then-has_own_body-clause-missing : goal.returns-then-has_own_body-clause-missing
returns-then-has_own_body-clause-missing c = (
  λ five. absurd (not_five c.args.out.now.status c.note.new.self.status c.requires.first c.note.ensures.known five),
  λ none. absurd (not_both (sym c.if-has_own_body.true ∙ c.has_own_body.ensures.1 none)),
)

pub returns-then-has_own_body-clause-known : goal.returns-then-has_own_body-clause-known
returns-then-has_own_body-clause-known c = no_more_than_five c.args.out.now.status c.note.new.self.status c.requires.first c.note.ensures.known

pub returns-else-has_own_body-clause-safe : goal.returns-else-has_own_body-clause-safe
returns-else-has_own_body-clause-safe c = λ z. absurd (five_not_zero c.report_no_body.new.out.status c.report_no_body.ensures.status z)

pub returns-else-has_own_body-clause-refused : goal.returns-else-has_own_body-clause-refused
returns-else-has_own_body-clause-refused c = λ _. not_accepted c.args.module.now c.args.function (c.has_own_body.ensures.0 c.if-has_own_body.false)

pub returns-else-has_own_body-clause-uncovered : goal.returns-else-has_own_body-clause-uncovered
returns-else-has_own_body-clause-uncovered c = λ four. absurd (five_not_four c.report_no_body.new.out.status c.report_no_body.ensures.status four)

pub returns-else-has_own_body-clause-reported : goal.returns-else-has_own_body-clause-reported
returns-else-has_own_body-clause-reported c = λ _. c.report_no_body.ensures.reported

pub returns-else-has_own_body-clause-missing : goal.returns-else-has_own_body-clause-missing
returns-else-has_own_body-clause-missing c = (λ _. c.has_own_body.ensures.0 c.if-has_own_body.false, λ _. c.report_no_body.ensures.status)

pub returns-else-has_own_body-clause-known : goal.returns-else-has_own_body-clause-known
returns-else-has_own_body-clause-known c = five_known c.report_no_body.new.out.status c.report_no_body.ensures.status

pub returns-then-has_own_body-clause-invalid : goal.returns-then-has_own_body-clause-invalid
returns-then-has_own_body-clause-invalid c = λ one.
    elim (c.note.ensures.invalid one) [
      | inl before ↦ absurd (not_one_before c.args.out.now.status c.requires.first before)
      | inr this ↦ subst (IsRefusedFunction c.args.module.now c.args.function) (sym this.2) (c.check_function-verdict.ensures.invalid this.0 this.1)
    ]

pub returns-else-has_own_body-clause-invalid : goal.returns-else-has_own_body-clause-invalid
returns-else-has_own_body-clause-invalid c = λ one. absurd (five_not_one c.report_no_body.new.out.status c.report_no_body.ensures.status one)

pub returns-then-has_own_body-clause-malformed : goal.returns-then-has_own_body-clause-malformed
returns-then-has_own_body-clause-malformed c = λ two.
    elim (c.note.ensures.malformed two) [
      | inl before ↦ absurd (not_two_before c.args.out.now.status c.requires.first before)
      | inr this ↦ c.check_function-verdict.ensures.malformed this.0 this.1
    ]

pub returns-else-has_own_body-clause-malformed : goal.returns-else-has_own_body-clause-malformed
returns-else-has_own_body-clause-malformed c = λ two. absurd (five_not_two c.report_no_body.new.out.status c.report_no_body.ensures.status two)
