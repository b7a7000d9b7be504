-- What is left to read of an expression names all its functions, behind those that were noted before. No more parts
-- are open than operators were read.
use Rattle.std.proofs.Common.{◌≡◌, ◌-◌, ◌≤◌, length}
use Rattle.binary_operators.proofs.Items.{with_front}
use Rattle.binary_modules.specs.Initializers.{named_functions}
use Rattle.binary_modules.proofs.expressions.read_operators.Given as goal

abbrev pub invariant-loop : goal.invariant-loop
invariant-loop l =
    (with_front l.functions.items
    (named_functions (length l.initial.reader.left - l.counter) l.fn.canonical l.depth l.reader.left)
    ≡ with_front l.initial.functions.items
    (named_functions (length l.initial.reader.left) l.fn.canonical 0 l.initial.reader.left))
    × (l.depth ≤ l.counter)
