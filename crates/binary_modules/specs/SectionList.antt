-- The sections that a reader of a module keeps (the crate's own).
use Rattle.std.specs.Prelude.{List, map}
use Rattle.binary_modules.specs.Sections.{Section}
use Rattle.binary_modules.specs.declared.section_list.ContentSection.{ContentSection}

abbrev pub told_section : ContentSection → Section
told_section s = record { id = s.id; contents = s.contents.left }

abbrev pub told_sections : List ContentSection → List Section
told_sections sections = map told_section sections
