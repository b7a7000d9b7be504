-- What is said of constant expressions is left out.
use Rattle.std.proofs.lemmas.Result.{on_ok_weaker}
use Rattle.binary_modules.proofs.contents.read_plain_section.Goals as goal

pub returns-clause-read : goal.returns-clause-read
returns-clause-read g c = on_ok_weaker c.read_section_of.result (λ e. (e.0, e.1)) c.read_section_of.ensures.read

pub returns-clause-refused : goal.returns-clause-refused
returns-clause-refused g c = c.read_section_of.ensures.refused
