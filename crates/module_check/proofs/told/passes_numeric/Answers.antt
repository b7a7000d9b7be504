-- What is read behind the code makes the operator that is handed in.
use Rattle.std.proofs.Common.{ap, sym, refl, ◌∙◌}
use Rattle.binary_operators.specs.Forms.{from}
use Rattle.binary_operators.specs.Numbers.{numeric_ops}
use Rattle.module_check.proofs.Forms.{numeric_told}
use Rattle.module_check.proofs.told.passes_numeric.Goals as goal

pub passes-requires-clause-like : goal.passes-requires-clause-like
passes-requires-clause-like g c =
    numeric_told c.requires.begins c.in-Some.op c.requires.form refl (ap (λ n. from 0x45 numeric_ops n) (sym c.from.ensures) ∙ sym c.numeric_op.ensures ∙ c.in-Some.is)
