-- The section at this place is the first with this id that is left.
use Rattle.std.proofs.Common.{ap, sym, eq-eqb, ◌∙◌, ◌≡◌, ◌+◌, ◌∷◌, List, ℕ, drop}
use Rattle.std.specs.Prelude.{if◌then◌else◌}
use Rattle.std.proofs.lemmas.List.{at_drop_more}
use Rattle.binary_modules.specs.SectionList.{told_sections}
use Rattle.binary_modules.specs.Sections.{contents_of}
use Rattle.binary_modules.specs.declared.section_list.ContentSection.{ContentSection}
use Rattle.binary_modules.proofs.section_list.contents_of.Goals as goal

first_of : (id : ℕ) (s : ContentSection) (rest : List ContentSection) → s.id ≡ id → s.contents.left ≡ contents_of id (told_sections (s ∷ rest))
first_of id s rest e =
    sym (ap (λ b. if b then s.contents.left else contents_of id (told_sections rest)) (eq-eqb s.id id e))

pub returns-then-section-id : goal.returns-then-section-id
returns-then-section-id c =
    let id = c.args.id in
    let all = c.args.sections.now in
    let i = c.loop-section.section-index in
    let s = c.section-item.result in
    let left = λ (xs : List ContentSection). contents_of id (told_sections xs) in
    ap (λ r. r.left) c.duplicate.ensures
    ∙ first_of id s (drop (i + 1) all) c.if-section-id.true
    ∙ ap (λ x. left (x ∷ drop (i + 1) all)) c.section-item.is
    ∙ sym (at_drop_more left all i s c.loop-section-test.true)
    ∙ c.loop-section.invariant
