-- What is left to read of the bodies makes all of them, behind those that were read.
use Rattle.std.proofs.Common.{◌≡◌, ◌-◌}
use Rattle.binary_operators.specs.Values.{so_many}
use Rattle.binary_operators.proofs.Items.{with_front}
use Rattle.binary_modules.specs.ContentsRead.{bytes_of}
use Rattle.binary_modules.specs.Parts.{sized}
use Rattle.binary_modules.proofs.contents.read_bodies.Given as goal

abbrev pub invariant-loop : goal.invariant-loop
invariant-loop l =
    with_front (bytes_of l.bodies.items) (so_many sized (l.fn.count - l.counter) l.reader.left)
    ≡ so_many sized l.fn.count l.initial.reader.left
