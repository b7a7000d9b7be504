-- Functions, which have no constant expressions.
use Rattle.std.proofs.Common.{rules, refl, []}
use Rattle.binary_modules.proofs.Added.{adds_none}
use Rattle.binary_modules.proofs.elements.read_element_items.Goals as goal

pub returns-then-flags-eq0-clause-read : goal.returns-then-flags-eq0-clause-read
returns-then-flags-eq0-clause-read c = (
  record { items = c.in_ok-functions.functions; initializers = [] },
  search rules,
  refl,
  adds_none c.args.initializers.now,
)

pub returns-then-flags-lt4-clause-read : goal.returns-then-flags-lt4-clause-read
returns-then-flags-lt4-clause-read c = (
  record { items = c.in_ok-of_kind.of_kind; initializers = [] },
  search rules,
  refl,
  adds_none c.args.initializers.now,
)
