use Rattle.std.proofs.Common.{◌≡◌, drop}
use Rattle.binary_modules.specs.SectionList.{told_sections}
use Rattle.binary_modules.specs.Sections.{contents_of}
use Rattle.binary_modules.proofs.section_list.contents_of.Given as goal

abbrev pub invariant-loop-section : goal.invariant-loop-section
invariant-loop-section l =
    contents_of l.id (told_sections (drop l.section-index l.sections)) ≡ contents_of l.id (told_sections l.sections)
