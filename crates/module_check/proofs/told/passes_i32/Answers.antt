-- What is read behind the code makes the operator that is handed in.
use Rattle.module_check.proofs.Forms.{i32_told}
use Rattle.module_check.proofs.told.passes_i32.Goals as goal

pub passes-requires-clause-like : goal.passes-requires-clause-like
passes-requires-clause-like g c =
    i32_told c.requires.begins c.in-Ok.value c.requires.form c.in-Ok.ensures.read
