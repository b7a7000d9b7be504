use Rattle.validate_visit.specs.declared.catch.Catch.TheVariants.{One, OneRef, All, AllRef}
use Rattle.script_reader.proofs.parts.catches.read_catch.Goals as goal

pub returns-clause-other : goal.returns-clause-other
returns-clause-other c (One tag label) (rest, is, writes) = c.in_default.ensures.cases rest is
returns-clause-other c (OneRef tag label) (rest, is, writes) = c.in_default-strip_prefix.ensures.cases rest is
returns-clause-other c (All label) (rest, is, writes) = c.in_default-strip_prefix-2.ensures.cases rest is
returns-clause-other c (AllRef label) (rest, is, writes) = c.in_default-strip_prefix-3.ensures.cases rest is
