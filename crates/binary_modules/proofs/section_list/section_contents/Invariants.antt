use Rattle.std.proofs.Common.{◌≡◌, drop}
use Rattle.binary_modules.specs.SectionList.{told_sections}
use Rattle.binary_modules.specs.Sections.{section_contents}
use Rattle.binary_modules.proofs.section_list.section_contents.Given as goal

abbrev pub invariant-loop-section : goal.invariant-loop-section
invariant-loop-section l =
    section_contents l.id (told_sections (drop l.section-index l.sections)) ≡ section_contents l.id (told_sections l.sections)
