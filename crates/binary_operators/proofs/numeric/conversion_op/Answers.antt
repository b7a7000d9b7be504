-- The table of the code is that of the standard.
use Rattle.binary_operators.specs.Numbers.{conversion_ops}
use Rattle.binary_operators.proofs.numeric.conversion_op.Goals as goal

pub returns : goal.returns
unfolding conversion_ops
returns c = c.item.ensures.item
