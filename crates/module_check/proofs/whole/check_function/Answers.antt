-- It says no, or not covered, since it did before, or since the body isn't accepted or covered.
use Rattle.std.proofs.Common.{inl, inr, subst, sym}
use Rattle.module_check.specs.FaultyModule.{IsRefusedFunction}
use Rattle.module_check.proofs.whole.check_function.Goals as goal

pub returns-clause-refused : goal.returns-clause-refused
returns-clause-refused c = λ no.
    elim (c.note.ensures.refused no) [ inl before ↦ inl before | inr this ↦ inr (c.check_function-verdict.ensures.refused this.0 this.1) ]

pub returns-clause-uncovered : goal.returns-clause-uncovered
returns-clause-uncovered c = λ four.
    elim (c.note.ensures.uncovered four) [ inl before ↦ inl before | inr this ↦ inr (c.check_function-verdict.ensures.uncovered this.0 this.1) ]

pub returns-clause-malformed : goal.returns-clause-malformed
returns-clause-malformed c = λ two.
    elim (c.note.ensures.malformed two) [ inl before ↦ inl before | inr this ↦ inr (c.check_function-verdict.ensures.malformed this.0 this.1) ]

pub returns-clause-invalid : goal.returns-clause-invalid
returns-clause-invalid c = λ one.
    elim (c.note.ensures.invalid one) [
      | inl before ↦ inl before
      | inr this ↦ inr (subst (IsRefusedFunction c.args.module.now c.args.function) (sym this.2) (c.check_function-verdict.ensures.invalid this.0 this.1))
    ]
