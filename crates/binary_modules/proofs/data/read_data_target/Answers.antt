-- The segment isn't written to a memory at first.
use Rattle.std.proofs.Common.{rules, refl}
use Rattle.module_rules.specs.declared.segments.DataKind.TheVariants.{Passive}
use Rattle.binary_modules.specs.Segments.{nowhere_to}
use Rattle.binary_modules.proofs.Added.{adds_none}
use Rattle.binary_modules.proofs.data.read_data_target.Goals as goal

pub returns-then-flags-eq1-clause-read : goal.returns-then-flags-eq1-clause-read
returns-then-flags-eq1-clause-read c = (nowhere_to Passive, search rules, refl, adds_none c.args.initializers.now)
