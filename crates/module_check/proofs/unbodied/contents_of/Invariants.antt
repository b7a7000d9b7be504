-- It is the first of the sections that are left.
use Rattle.std.proofs.Common.{◌≡◌, ◌-◌, length}
use Rattle.binary_modules.specs.Sections.{section_contents}
use Rattle.module_check.specs.EmptySections.{first_sections, sections_begun}
use Rattle.module_check.proofs.unbodied.contents_of.Given as goal

abbrev pub invariant-loop : goal.invariant-loop
invariant-loop l =
    section_contents l.id (first_sections (length l.initial.reader.left - l.counter) l.reader.left) ≡ section_contents l.id (sections_begun l.bytes)
