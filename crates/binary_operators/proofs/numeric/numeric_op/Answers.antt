-- The table of the code is that of the standard.
use Rattle.binary_operators.specs.Numbers.{numeric_ops}
use Rattle.binary_operators.proofs.numeric.numeric_op.Goals as goal

pub returns : goal.returns
unfolding numeric_ops
returns c = c.item.ensures.item
