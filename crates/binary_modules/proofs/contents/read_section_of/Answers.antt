-- All of the section was read, or it can't be.
use Rattle.std.proofs.Common.{ap, sym, ◌∙◌, [], Some}
use Rattle.std.proofs.lemmas.Result.{err_from_is_err_and}
use Rattle.binary_operators.specs.Values.{list_of}
use Rattle.binary_modules.specs.SectionList.{told_sections}
use Rattle.binary_modules.specs.Sections.{contents_of}
use Rattle.binary_modules.proofs.Once.{both_same, none_or_some}
use Rattle.binary_modules.proofs.contents.read_section_of.Goals as goal

pub returns-clause-read : goal.returns-clause-read
returns-clause-read g c =
    let e = c.in_ok-read_entries.ensures.read in (
      e.0,
      record {
        are_read =
            ap (list_of (g.T.Entry.reading c.args.canonical)) (sym c.contents_of-reader.ensures)
            ∙ e.1
            ∙ ap (λ l. Some (e.0, l)) c.in_ok-check_end.ensures.ended;
        are_behind = e.2;
      },
      e.3,
    )

pub returns-in_err-read_entries-clause-refused : goal.returns-in_err-read_entries-clause-refused
returns-in_err-read_entries-clause-refused g c =
    let p = err_from_is_err_and c.from_residual.result c.from_residual.ensures.1 in
    let reading = list_of (g.T.Entry.reading c.args.canonical) in
    rw (p.1, p.2) (λ short read e.
    none_or_some (reading (contents_of c.args.id (told_sections c.args.sections.now))) (read, [])
    (ap reading (sym c.contents_of-reader.ensures) ∙ c.in_err-read_entries.ensures.refused short) e)

pub returns-in_err-check_end-clause-refused : goal.returns-in_err-check_end-clause-refused
returns-in_err-check_end-clause-refused g c =
    let p = err_from_is_err_and c.from_residual-in_err-check_end.result c.from_residual-in_err-check_end.ensures.1 in
    let reading = list_of (g.T.Entry.reading c.args.canonical) in
    let all = c.in_ok-read_entries.ensures.read in
    rw (p.1, p.2) (λ short read e.
    c.in_err-check_end.ensures.refused
    (both_same (reading (contents_of c.args.id (told_sections c.args.sections.now))) all.0 read c.read_entries.new.reader.left []
    (ap reading (sym c.contents_of-reader.ensures) ∙ all.1) e).1)
