-- The status is that of the answer.
use Rattle.std.proofs.Common.{◌≡◌, ◌∙◌, ap, sym}
use Rattle.c_api.specs.Functions.{InProgress}
use Rattle.c_api.specs.declared.kept.Kept.TheVariants.{Function}
use Rattle.c_api.proofs.Answered.{undone}
use Rattle.c_api.proofs.function_calls.define_kept.Goals as goal

pub returns-in-Function-clause-unchanged : goal.returns-in-Function-clause-unchanged
returns-in-Function-clause-unchanged c = λ z.
    let same : c.define_shown.new.function ≡ c.in-Function.function =
    undone c.define_shown.result c.note_done.new.out.status (c.define_shown.new.function ≡ c.in-Function.function) c.note_done.ensures.told c.define_shown.ensures.err z in
    ap (λ (f : InProgress). Function f) same ∙ sym c.in-Function.is
