use Rattle.validate_stacks.proofs.Heights.{heights_rise}
use Rattle.validate_stacks.proofs.laws.shape_law.Goals as goal

pub returns : goal.returns
returns c v = heights_rise v
