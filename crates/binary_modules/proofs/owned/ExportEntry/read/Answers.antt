-- It has no constant expressions.
use Rattle.std.proofs.Common.{ap, refl}
use Rattle.binary_modules.specs.Items.{alone, alone_item, exported}
use Rattle.binary_modules.proofs.Added.{adds_none}
use Rattle.binary_modules.proofs.owned.ExportEntry.read.Goals as goal

pub returns-clause-read : goal.returns-clause-read
unfolding exported
returns-clause-read c = (
  alone (record c.in_ok-export.export { offset = 0 }),
  ap alone_item c.in_ok-export.ensures.read,
  refl,
  adds_none c.args.initializers.now,
)
