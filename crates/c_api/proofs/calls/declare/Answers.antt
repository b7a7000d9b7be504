-- Where a module is kept, or there is no memory for it, nothing is refused; else what the reading says is handed on.
use Rattle.std.proofs.Common.{◌≡◌, ◌∙◌, ℕ, sym, subst, inl, inr}
use Rattle.std.specs.Prelude.{◌⊎◌}
use Rattle.c_api.proofs.Answered.{few_before, not_before, wanting, kept_not_one, kept_not_two, kept_not_four, kept_not_seven}
use Rattle.c_api.proofs.calls.declare.Goals as goal

pub returns-in-Ok-clause-uncovered : goal.returns-in-Ok-clause-uncovered
returns-in-Ok-clause-uncovered c = λ four. absurd (kept_not_four c.keep_read.new.out.status c.keep_read.ensures.known (sym c.status_of.ensures ∙ four))

pub returns-in-Ok-clause-malformed : goal.returns-in-Ok-clause-malformed
returns-in-Ok-clause-malformed c = λ two. absurd (kept_not_two c.keep_read.new.out.status c.keep_read.ensures.known (sym c.status_of.ensures ∙ two))

pub returns-in-Ok-clause-invalid : goal.returns-in-Ok-clause-invalid
returns-in-Ok-clause-invalid c = λ one. absurd (kept_not_one c.keep_read.new.out.status c.keep_read.ensures.known (sym c.status_of.ensures ∙ one))

pub returns-in-Ok-clause-too_large : goal.returns-in-Ok-clause-too_large
returns-in-Ok-clause-too_large c = λ seven. absurd (kept_not_seven c.keep_read.new.out.status c.keep_read.ensures.known (sym c.status_of.ensures ∙ seven))

pub returns-in-Err-clause-malformed : goal.returns-in-Err-clause-malformed
returns-in-Err-clause-malformed c = λ two.
    let found = c.note_refusal.ensures.malformed c.new.ensures.accepted (sym c.status_of-in-Err.ensures ∙ two) in
    c.in-Err.ensures.malformed found.0 found.1

pub returns-in-Err-clause-invalid : goal.returns-in-Err-clause-invalid
returns-in-Err-clause-invalid c = λ one.
    let found = c.note_refusal.ensures.invalid c.new.ensures.accepted (sym c.status_of-in-Err.ensures ∙ one) in
    c.in-Err.ensures.invalid found.0 found.1

pub returns-in-Err-clause-too_large : goal.returns-in-Err-clause-too_large
returns-in-Err-clause-too_large c = λ seven.
    let found = c.note_refusal.ensures.too_large c.new.ensures.accepted (sym c.status_of-in-Err.ensures ∙ seven) in
    c.in-Err.ensures.too_large found.0 found.1

pub returns-in-Ok-clause-valid : goal.returns-in-Ok-clause-valid
returns-in-Ok-clause-valid c = λ zero. c.in-Ok.ensures.valid

pub returns-in-Ok-clause-complete : goal.returns-in-Ok-clause-complete
returns-in-Ok-clause-complete c = λ valid.
    subst (λ (n : ℕ). (n ≡ 0) ⊎ (n ≡ 3)) (sym c.status_of.ensures) c.keep_read.ensures.known

pub returns-in-Err-clause-valid : goal.returns-in-Err-clause-valid
returns-in-Err-clause-valid c = λ zero. absurd (c.note_refusal.ensures.refused (sym c.status_of-in-Err.ensures ∙ zero))

pub returns-in-Err-clause-complete : goal.returns-in-Err-clause-complete
returns-in-Err-clause-complete c = λ valid.
    let n = c.note_refusal.ensures in
    let first = c.new.ensures.accepted in
    let s = c.note_refusal.new.out.status in
    inr (c.status_of-in-Err.ensures ∙ wanting s c.in-Err.refusal (c.in-Err.ensures.complete valid) n.refused (n.invalid first) (n.malformed first)
    (λ four. elim (n.uncovered four) [ inl before ↦ absurd (not_before c.new.result.status first before) | inr found ↦ found ])
    (n.too_large first) (n.known (few_before c.new.result.status first)))
