-- What is left to read of the items makes the whole list, behind those that were read.
use Rattle.std.proofs.Common.{◌≡◌, ◌-◌}
use Rattle.binary_operators.specs.Values.{so_many}
use Rattle.binary_operators.proofs.Items.{with_front}
use Rattle.binary_operators.proofs.lists.read_list.Given as goal

abbrev pub invariant-loop : goal.invariant-loop
invariant-loop g l =
    with_front l.items.items (so_many (g.T.Item.reading l.fn.canonical) (l.count - l.counter) l.reader.left)
    ≡ so_many (g.T.Item.reading l.fn.canonical) l.count l.initial.reader.left
