-- It has no constant expressions.
use Rattle.std.proofs.Common.{ap, refl}
use Rattle.binary_modules.specs.Items.{alone, alone_item, tag}
use Rattle.binary_modules.proofs.Added.{adds_none}
use Rattle.binary_modules.proofs.owned.DeclaredTagEntry.read.Goals as goal

pub returns-clause-read : goal.returns-clause-read
unfolding tag
returns-clause-read c = (
  alone (record c.in_ok-tag.tag { offset = 0 }),
  ap alone_item c.in_ok-tag.ensures.read,
  refl,
  adds_none c.args._initializers.now,
)
