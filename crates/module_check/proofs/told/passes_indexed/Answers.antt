-- What is read behind the code makes the operator that is handed in.
use Rattle.validate_visit.specs.declared.op.Op.TheVariants.{Control}
use Rattle.module_check.proofs.Forms.{index_told}
use Rattle.module_check.proofs.told.passes_indexed.Goals as goal

pub passes-requires-clause-like : goal.passes-requires-clause-like
passes-requires-clause-like g c =
    index_told c.requires.begins (Control c.in-Some.op) c.in-Ok.index c.requires.form c.in-Ok.ensures.read c.in-Some.ensures.made
