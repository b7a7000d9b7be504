-- No sections, a section more, and all of them, or none that can be next.
use Rattle.std.proofs.Common.{rules, arith, ap, subst, sym, refl, ◌∙◌, ◌≡◌, ℕ, List, [], ◌++◌, append-nil, length}
use Rattle.std.specs.List.{list_all}
use Rattle.std.proofs.lemmas.List.{nil_from_length}
use Rattle.std.proofs.lemmas.Result.{err_from_is_err_and}
use Rattle.binary_modules.specs.SectionList.{told_section, told_sections}
use Rattle.binary_modules.specs.SectionsRead.{AreSectionsIn}
use Rattle.binary_modules.specs.Sections.{are_in_order, section_ids, is_named}
use Rattle.binary_modules.specs.declared.section_list.ContentSection.{ContentSection}
use Rattle.binary_modules.proofs.Once.{not_so}
use Rattle.binary_modules.proofs.SectionsLess.{AreAll, section_shorter, all_behind, none_next}
use Rattle.binary_modules.proofs.SectionsMore.{section_more, order_more, names_more}
use Rattle.binary_modules.proofs.section_list.read_sections.Goals as goal

pub loop-init : goal.loop-init
loop-init c =
    let none = c.new-sections.ensures.items in
    let P : List ContentSection → Type 0 = λ l. AreSectionsIn c.args.reader.now.left (told_sections l) c.args.reader.now.left in (
      subst P (sym none) refl,
      λ t. ap (λ l. are_in_order section_ids (told_sections l ++ t)) none ∙ ap (λ i. are_in_order i t) (sym c.as_slice-ids.ensures),
      λ t. ap (λ l. list_all is_named (told_sections l ++ t)) none,
      λ a. subst (λ i. AreAll i c.args.reader.now.left) (sym c.as_slice-ids.ensures) a,
      omega arith,
    )

pub loop-preserved : goal.loop-preserved
loop-preserved c =
    let i = c.loop.invariant in
    let n = c.in_ok-ids.ensures.read in
    let shorter = section_shorter c.loop.reader.left c.read_next.new.reader.left (told_section n.0) n.1 in
    let before = c.loop.sections.items in
    let after = c.read_next.new.sections.items in (
      section_more c.args.reader.now.left c.loop.reader.left c.read_next.new.reader.left before after n.0 i.0 n.1 n.4,
      order_more section_ids c.loop.ids.now c.in_ok-ids.ids.now before after n.0 i.1 n.3 n.4,
      names_more before after n.0 i.2 n.2 n.4,
      λ a. all_behind c.loop.ids.now c.in_ok-ids.ids.now c.loop.reader.left c.read_next.new.reader.left (told_section n.0) n.1 n.3 (i.3 a),
      omega (arith, shorter, i.4),
    )

pub returns-then-is_at_end-clause-read : goal.returns-then-is_at_end-clause-read
returns-then-is_at_end-clause-read c =
    let at_end : c.loop.reader.left ≡ [] = search rules in
    let P : List ℕ → Type 0 = λ l. AreSectionsIn c.args.reader.now.left (told_sections c.loop.sections.items) l in
    subst P at_end c.loop.invariant.0

pub returns-then-is_at_end-clause-ordered : goal.returns-then-is_at_end-clause-ordered
returns-then-is_at_end-clause-ordered c =
    ap (are_in_order section_ids) (sym (append-nil (told_sections c.loop.sections.items))) ∙ c.loop.invariant.1 []

pub returns-then-is_at_end-clause-named : goal.returns-then-is_at_end-clause-named
returns-then-is_at_end-clause-named c =
    ap (list_all is_named) (sym (append-nil (told_sections c.loop.sections.items))) ∙ c.loop.invariant.2 []

pub returns-then-is_at_end-2-clause-read : goal.returns-then-is_at_end-2-clause-read
returns-then-is_at_end-2-clause-read c =
    let at_end : c.loop.reader.left ≡ [] = search rules in
    let P : List ℕ → Type 0 = λ l. AreSectionsIn c.args.reader.now.left (told_sections c.loop.sections.items) l in
    subst P at_end c.loop.invariant.0

pub returns-then-is_at_end-2-clause-ordered : goal.returns-then-is_at_end-2-clause-ordered
returns-then-is_at_end-2-clause-ordered c =
    ap (are_in_order section_ids) (sym (append-nil (told_sections c.loop.sections.items))) ∙ c.loop.invariant.1 []

pub returns-then-is_at_end-2-clause-named : goal.returns-then-is_at_end-2-clause-named
returns-then-is_at_end-2-clause-named c =
    ap (list_all is_named) (sym (append-nil (told_sections c.loop.sections.items))) ∙ c.loop.invariant.2 []

pub returns-in_err-ids-clause-refused : goal.returns-in_err-ids-clause-refused
returns-in_err-ids-clause-refused c =
    let p = err_from_is_err_and c.from_residual.result c.from_residual.ensures.1 in
    rw (p.1, p.2) (λ short sections read ordered named.
    none_next c.loop.ids.now c.loop.reader.left (λ e. not_so c.is_at_end.result c.is_at_end.ensures c.if-is_at_end.false e)
    (c.in_err-ids.ensures.refused short) (c.loop.invariant.3 (sections, read, ordered, named)))

pub returns-clause-refused : goal.returns-clause-refused
returns-clause-refused c = λ short sections read ordered named.
    let none : length c.loop.reader.left ≡ 0 = omega (arith, c.loop.invariant.4) in
    not_so c.is_at_end-2.result c.is_at_end-2.ensures c.if-is_at_end-2.false (nil_from_length c.loop.reader.left none)
