-- With its constant expression, or without one.
use Rattle.std.proofs.Common.{rules, refl}
use Rattle.binary_modules.specs.Items.{alone, table}
use Rattle.binary_modules.proofs.Added.{adds_none}
use Rattle.binary_modules.proofs.owned.DeclaredTableEntry.read.Goals as goal

pub returns-then-branch-clause-read : goal.returns-then-branch-clause-read
unfolding table
returns-then-branch-clause-read c =
    let e = c.in_ok-initialized.ensures.read in (e.0, search rules, e.2, e.3)

pub returns-clause-read : goal.returns-clause-read
unfolding table
returns-clause-read c = (
  alone (record c.in_ok-table.table { offset = 0 }),
  search rules,
  refl,
  adds_none c.args.initializers.now,
)
