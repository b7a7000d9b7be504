-- As many groups were read as the loop has turned.
use Rattle.std.proofs.Common.{◌≡◌, List, [], length}
use Rattle.binary_modules.specs.Groups.{Group}
use Rattle.binary_modules.specs.GroupsRead.{AreGroups}
use Rattle.binary_modules.specs.Read.{HasRead}
use Rattle.binary_modules.proofs.groups.read_types.Given as goal

abbrev pub invariant-loop : goal.invariant-loop
invariant-loop l =
    (groups : List Group)
    × AreGroups [] l.initial.reader.left groups l.reader.left
    × HasRead l.section l.groups groups
    × (length groups ≡ l.counter)
