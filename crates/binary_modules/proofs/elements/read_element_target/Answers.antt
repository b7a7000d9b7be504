-- The segment isn't written to a table at first.
use Rattle.std.proofs.Common.{rules, refl}
use Rattle.module_rules.specs.declared.segments.ElementKind.TheVariants.{Passive, Declared}
use Rattle.binary_modules.specs.Segments.{nowhere_to}
use Rattle.binary_modules.proofs.Added.{adds_none}
use Rattle.binary_modules.proofs.elements.read_element_target.Goals as goal

pub returns-then-mode-eq1-clause-read : goal.returns-then-mode-eq1-clause-read
returns-then-mode-eq1-clause-read c = (nowhere_to Passive, search rules, refl, adds_none c.args.initializers.now)

pub returns-then-mode-eq3-clause-read : goal.returns-then-mode-eq3-clause-read
returns-then-mode-eq3-clause-read c = (nowhere_to Declared, search rules, refl, adds_none c.args.initializers.now)
