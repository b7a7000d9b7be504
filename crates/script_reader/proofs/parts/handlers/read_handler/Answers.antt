use Rattle.validate_visit.specs.declared.resume.Handle.TheVariants.{OnLabel, OnSwitch}
use Rattle.script_reader.proofs.parts.handlers.read_handler.Goals as goal

pub returns-clause-other : goal.returns-clause-other
returns-clause-other c (OnLabel tag label) (rest, is, writes) = c.in_default.ensures.cases rest is
returns-clause-other c (OnSwitch tag) (rest, is, writes) = c.in_default-strip_prefix.ensures.cases rest is
