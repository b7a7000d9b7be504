-- The sections behind the header, and what stands in them.
use Rattle.std.proofs.Common.{ap, subst, sym, ◌∙◌, ◌≡◌, List, Some, None, map}
use Rattle.std.proofs.lemmas.Result.{err_from_is_err_and}
use Rattle.module_rules.specs.Declarations.{declarations_of}
use Rattle.binary_modules.specs.ContentsRead.{bytes_of}
use Rattle.binary_modules.specs.Kept.{told}
use Rattle.binary_modules.specs.Modules.{module_in, unplaced_module}
use Rattle.binary_modules.specs.SectionList.{told_sections}
use Rattle.binary_modules.specs.declared.section_list.ContentSection.{ContentSection}
use Rattle.binary_modules.proofs.DecodedBytes.{decode_is, no_header, no_sections}
use Rattle.binary_modules.proofs.whole.read_module.Goals as goal

pub returns-clause-read : goal.returns-clause-read
returns-clause-read c =
    let m = c.in_ok-contents.contents in
    let P : List ContentSection → Type 0 =
    λ l. module_in (told_sections l) ≡ Some (unplaced_module (declarations_of m.declared) (bytes_of m.bodies.items) (map told m.expressions.items)) in
    decode_is c.args.bytes.now c.read_header.new.reader.left (told_sections c.in_ok-sections.sections.items) _ (
      sym (ap (λ r. r.left) c.new-reader.ensures) ∙ c.in_ok-read_header.ensures.read,
      c.in_ok-sections.ensures.read,
      c.in_ok-sections.ensures.ordered,
      c.in_ok-sections.ensures.named,
    ) (subst P c.deref.ensures.value c.in_ok-contents.ensures.read)

pub returns-in_err-read_header-clause-refused : goal.returns-in_err-read_header-clause-refused
returns-in_err-read_header-clause-refused c =
    let p = err_from_is_err_and c.from_residual.result c.from_residual.ensures.1 in
    rw (p.1, p.2) (λ short.
    no_header c.args.bytes.now
    (λ left e. c.in_err-read_header.ensures.refused left (ap (λ r. r.left) c.new-reader.ensures ∙ e)))

pub returns-in_err-sections-clause-refused : goal.returns-in_err-sections-clause-refused
returns-in_err-sections-clause-refused c =
    let p = err_from_is_err_and c.from_residual-in_err-sections.result c.from_residual-in_err-sections.ensures.1 in
    rw (p.1, p.2) (λ short.
    no_sections c.args.bytes.now c.read_header.new.reader.left
    (sym (ap (λ r. r.left) c.new-reader.ensures) ∙ c.in_ok-read_header.ensures.read)
    (c.in_err-sections.ensures.refused short))

pub returns-in_err-contents-clause-refused : goal.returns-in_err-contents-clause-refused
returns-in_err-contents-clause-refused c =
    let p = err_from_is_err_and c.from_residual-in_err-contents.result c.from_residual-in_err-contents.ensures.1 in
    let P : List ContentSection → Type 0 = λ l. module_in (told_sections l) ≡ None in
    rw (p.1, p.2) (λ short.
    decode_is c.args.bytes.now c.read_header.new.reader.left (told_sections c.in_ok-sections.sections.items) None (
      sym (ap (λ r. r.left) c.new-reader.ensures) ∙ c.in_ok-read_header.ensures.read,
      c.in_ok-sections.ensures.read,
      c.in_ok-sections.ensures.ordered,
      c.in_ok-sections.ensures.named,
    ) (subst P c.deref.ensures.value (c.in_err-contents.ensures.refused short)))
