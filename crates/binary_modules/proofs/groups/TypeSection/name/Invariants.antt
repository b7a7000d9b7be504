-- So many types were named, and nothing else changes.
use Rattle.std.proofs.Common.{◌≡◌, ◌++◌}
use Rattle.std.specs.List.{range_with_len}
use Rattle.binary_modules.proofs.groups.TypeSection.name.Given as goal

abbrev pub invariant-loop-place : goal.invariant-loop-place
invariant-loop-place l =
    (l.self.canonical.items ≡ l.initial.self.canonical.items ++ range_with_len l.fn.first l.place)
    × (l.self.types ≡ l.initial.self.types)
    × (l.self.groups ≡ l.initial.self.groups)
