-- What is left to read of the items makes all of them, behind those that were there.
use Rattle.std.proofs.Common.{◌≡◌, ◌-◌}
use Rattle.binary_operators.specs.Values.{so_many}
use Rattle.binary_operators.proofs.Items.{with_front}
use Rattle.binary_modules.proofs.lists.read_so_many.Given as goal

abbrev pub invariant-loop : goal.invariant-loop
invariant-loop g l =
    with_front l.items.items (so_many (g.T.Item.reading l.fn.canonical) (l.fn.count - l.counter) l.reader.left)
    ≡ with_front l.initial.items.items (so_many (g.T.Item.reading l.fn.canonical) l.fn.count l.initial.reader.left)
