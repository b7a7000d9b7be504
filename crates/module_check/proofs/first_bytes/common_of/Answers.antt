-- The table is that of the bytes.
use Rattle.std.proofs.Common.{ap, get_or}
use Rattle.module_check.specs.FirstBytes.{kinds}
use Rattle.module_check.specs.declared.first_bytes.Common.TheVariants.{Rare}
use Rattle.module_check.proofs.first_bytes.common_of.Goals as goal

pub returns : goal.returns
unfolding kinds
returns c = ap (λ i. get_or kinds i Rare) c.from.ensures
