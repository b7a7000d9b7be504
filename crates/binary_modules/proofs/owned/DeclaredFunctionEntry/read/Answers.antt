-- It has no constant expressions.
use Rattle.std.proofs.Common.{ap, refl}
use Rattle.binary_modules.specs.Items.{alone, alone_item, own_function}
use Rattle.binary_modules.proofs.Added.{adds_none}
use Rattle.binary_modules.proofs.owned.DeclaredFunctionEntry.read.Goals as goal

pub returns-clause-read : goal.returns-clause-read
unfolding own_function
returns-clause-read c = (
  alone (record c.in_ok-function.function { offset = 0 }),
  ap alone_item c.in_ok-function.ensures.read,
  refl,
  adds_none c.args._initializers.now,
)
