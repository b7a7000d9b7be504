-- What is left to read of the expressions makes all of them, behind those that were read.
use Rattle.std.proofs.Common.{◌≡◌, ◌-◌, List, map}
use Rattle.binary_operators.specs.Values.{so_many}
use Rattle.binary_operators.proofs.Items.{with_front}
use Rattle.module_rules.specs.declared.module.Place.TheVariants.{Element as ElementItem}
use Rattle.binary_modules.specs.Initializers.{Expression, expression}
use Rattle.binary_modules.specs.Kept.{Adds}
use Rattle.binary_modules.proofs.elements.read_expressions.Given as goal

abbrev pub invariant-loop : goal.invariant-loop
invariant-loop l =
    (front : List Expression)
    × (with_front front (so_many (expression l.fn.canonical) (l.fn.count - l.counter) l.reader.left)
    ≡ so_many (expression l.fn.canonical) l.fn.count l.initial.reader.left)
    × Adds l.initial.initializers (map (λ (e : Expression). (ElementItem l.fn.index, e)) front) l.initializers
