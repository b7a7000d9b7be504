use Rattle.validation_rules.proofs.Pops.{pops_whole}
use Rattle.validation_rules.proofs.laws.pops_law.Goals as goal

pub returns : goal.returns
returns c cx = pops_whole cx
