-- What is left to read of the items makes the whole list, behind those that were read.
use Rattle.std.proofs.Common.{◌≡◌, ◌-◌, ◌+◌, ◌++◌, List, length, map}
use Rattle.binary_operators.specs.Values.{so_many}
use Rattle.binary_operators.proofs.Items.{with_front}
use Rattle.binary_modules.specs.Items.{Item, declared_items, placed}
use Rattle.binary_modules.specs.Kept.{Adds}
use Rattle.binary_modules.proofs.entries.read_entries.Given as goal

abbrev pub invariant-loop : goal.invariant-loop
invariant-loop g l =
    (front : List (Item _))
    × (with_front front (so_many (g.T.Entry.reading l.fn.canonical) (l.count - l.counter) l.reader.left)
    ≡ so_many (g.T.Entry.reading l.fn.canonical) l.count l.initial.reader.left)
    × (map g.T.Entry.unplaced l.items.items ≡ map g.T.Entry.unplaced l.fn.items.items ++ declared_items front)
    × (length l.items.items ≡ length l.fn.items.items + length front)
    × Adds l.initial.initializers (placed (length l.fn.items.items) front) l.initializers
