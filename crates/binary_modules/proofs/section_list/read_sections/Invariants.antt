-- These sections were read, in order and with their names, whatever follows them. What is left is that of the sections
-- that are left.
use Rattle.std.proofs.Common.{◌≡◌, ◌≤◌, ◌+◌, ◌++◌, List, length}
use Rattle.std.specs.List.{list_all}
use Rattle.binary_modules.specs.SectionList.{told_sections}
use Rattle.binary_modules.specs.Sections.{Section, are_in_order, section_ids, is_named}
use Rattle.binary_modules.specs.SectionsRead.{AreSectionsIn}
use Rattle.binary_modules.proofs.SectionsLess.{AreAll}
use Rattle.binary_modules.proofs.section_list.read_sections.Given as goal

abbrev pub invariant-loop : goal.invariant-loop
invariant-loop l =
    AreSectionsIn l.initial.reader.left (told_sections l.sections.items) l.reader.left
    × ((t : List Section) → are_in_order section_ids (told_sections l.sections.items ++ t) ≡ are_in_order l.ids t)
    × ((t : List Section) → list_all is_named (told_sections l.sections.items ++ t) ≡ list_all is_named t)
    × (AreAll section_ids l.initial.reader.left → AreAll l.ids l.reader.left)
    × (length l.reader.left + l.counter ≤ length l.initial.reader.left)
