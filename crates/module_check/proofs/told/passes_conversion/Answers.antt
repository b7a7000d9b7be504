-- What is read behind the code makes the operator that is handed in.
use Rattle.std.proofs.Common.{ap, sym, refl, ◌∙◌}
use Rattle.binary_operators.specs.Forms.{from}
use Rattle.binary_operators.specs.Numbers.{conversion_ops}
use Rattle.module_check.proofs.Forms.{conversion_told}
use Rattle.module_check.proofs.told.passes_conversion.Goals as goal

pub passes-requires-clause-like : goal.passes-requires-clause-like
passes-requires-clause-like g c =
    conversion_told c.requires.begins c.in-Some.op c.requires.form refl (ap (λ n. from 0xa7 conversion_ops n) (sym c.from.ensures) ∙ sym c.conversion_op.ensures ∙ c.in-Some.is)
