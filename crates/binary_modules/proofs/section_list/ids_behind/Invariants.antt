use Rattle.std.proofs.Common.{◌≡◌, drop}
use Rattle.binary_modules.specs.Sections.{ids_behind}
use Rattle.binary_modules.proofs.section_list.ids_behind.Given as goal

abbrev pub invariant-loop-place : goal.invariant-loop-place
invariant-loop-place l = ids_behind l.id (drop l.place l.ids) ≡ ids_behind l.id l.ids
