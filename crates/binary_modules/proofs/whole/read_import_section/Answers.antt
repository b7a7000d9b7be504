-- There are none before, and they are all that is read.
use Rattle.std.proofs.Common.{ap, sym, [], ◌∙◌}
use Rattle.std.proofs.lemmas.Result.{err_from_is_err_and}
use Rattle.binary_operators.specs.Values.{list_of}
use Rattle.binary_modules.specs.Items.{import_item}
use Rattle.binary_modules.specs.Imports.{unplaced_functions, unplaced_tables, unplaced_memories, unplaced_globals, unplaced_tags}
use Rattle.binary_modules.specs.SectionList.{told_sections}
use Rattle.binary_modules.specs.Sections.{contents_of}
use Rattle.binary_modules.proofs.Once.{both_same, none_or_some}
use Rattle.binary_modules.proofs.whole.read_import_section.Goals as goal

pub read_imports-requires : goal.read_imports-requires
read_imports-requires c = record {
  functions = ap unplaced_functions c.new-imported.ensures.functions;
  tables = ap unplaced_tables c.new-imported.ensures.tables;
  memories = ap unplaced_memories c.new-imported.ensures.memories;
  globals = ap unplaced_globals c.new-imported.ensures.globals;
  tags = ap unplaced_tags c.new-imported.ensures.tags;
}

pub returns-in_err-read_imports-clause-refused : goal.returns-in_err-read_imports-clause-refused
returns-in_err-read_imports-clause-refused c =
    let p = err_from_is_err_and c.from_residual.result c.from_residual.ensures.1 in
    rw (p.1, p.2) (λ short imports e.
    let reading = list_of (import_item c.args.canonical) in
    none_or_some (reading (contents_of 2 (told_sections c.args.sections.now))) (imports, [])
    (ap reading (sym c.contents_of-reader.ensures) ∙ c.in_err-read_imports.ensures.refused short) e)

pub returns-in_err-check_end-clause-refused : goal.returns-in_err-check_end-clause-refused
returns-in_err-check_end-clause-refused c =
    let p = err_from_is_err_and c.from_residual-in_err-check_end.result c.from_residual-in_err-check_end.ensures.1 in
    rw (p.1, p.2) (λ short imports e.
    let reading = list_of (import_item c.args.canonical) in
    let all = c.in_ok-read_imports.ensures.read in
    c.in_err-check_end.ensures.refused
    (both_same (reading (contents_of 2 (told_sections c.args.sections.now))) all.imports imports c.read_imports.new.reader.left []
    (ap reading (sym c.contents_of-reader.ensures) ∙ all.are_read) e).1)
