-- A section more.
use Rattle.std.proofs.Common.{ap, subst, sym, ◌∙◌, ◌≡◌, ℕ, true, List, [], ◌∷◌, ◌++◌, Some, append_assoc}
use Rattle.std.specs.Prelude.{◌&&◌}
use Rattle.std.specs.List.{list_all}
use Rattle.std.proofs.lemmas.List.{map-append}
use Rattle.binary_modules.specs.SectionList.{told_section, told_sections}
use Rattle.binary_modules.specs.Sections.{Section, section, next_ids, if_any, are_in_order, is_named}
use Rattle.binary_modules.specs.SectionsRead.{AreSectionsIn}
use Rattle.binary_modules.specs.declared.section_list.ContentSection.{ContentSection}

-- one behind the others
one_more : (bytes : List ℕ) (sections : List Section) (rest : List ℕ) (s : Section) (behind : List ℕ) → AreSectionsIn bytes sections rest → section rest ≡ Some (s, behind) → AreSectionsIn bytes (sections ++ s ∷ []) behind
one_more bytes [] rest s behind h e = (behind, ap section h ∙ e, λ i. behind)
one_more bytes (x ∷ sections) rest s behind h e = (h.0, h.1, one_more h.0 sections rest s behind h.2 e)

told_more : (sections more : List ContentSection) (s : ContentSection) → more ≡ sections ++ s ∷ [] → told_sections more ≡ told_sections sections ++ told_section s ∷ []
told_more sections more s e = ap told_sections e ∙ map-append told_section sections (s ∷ [])

pub section_more : (bytes rest behind : List ℕ) (sections more : List ContentSection) (s : ContentSection) → AreSectionsIn bytes (told_sections sections) rest → section rest ≡ Some (told_section s, behind) → more ≡ sections ++ s ∷ [] → AreSectionsIn bytes (told_sections more) behind
section_more bytes rest behind sections more s h e k =
    let P : List Section → Type 0 = λ l. AreSectionsIn bytes l behind in
    subst P (sym (told_more sections more s k)) (one_more bytes (told_sections sections) rest (told_section s) behind h e)

behind_more : (sections more : List ContentSection) (s : ContentSection) (t : List Section) → more ≡ sections ++ s ∷ [] → told_sections more ++ t ≡ told_sections sections ++ told_section s ∷ t
behind_more sections more s t k =
    ap (λ l. l ++ t) (told_more sections more s k) ∙ append_assoc (told_sections sections) (told_section s ∷ []) t

pub order_more : (all ids rest : List ℕ) (sections more : List ContentSection) (s : ContentSection) → ((t : List Section) → are_in_order all (told_sections sections ++ t) ≡ are_in_order ids t) → next_ids s.id ids ≡ Some rest → more ≡ sections ++ s ∷ [] → (t : List Section) → are_in_order all (told_sections more ++ t) ≡ are_in_order rest t
order_more all ids rest sections more s h e k t =
    ap (are_in_order all) (behind_more sections more s t k)
    ∙ h (told_section s ∷ t)
    ∙ ap (λ o. if_any o (λ r. are_in_order r t)) e

pub names_more : (sections more : List ContentSection) (s : ContentSection) → ((t : List Section) → list_all is_named (told_sections sections ++ t) ≡ list_all is_named t) → is_named (told_section s) ≡ true → more ≡ sections ++ s ∷ [] → (t : List Section) → list_all is_named (told_sections more ++ t) ≡ list_all is_named t
names_more sections more s h e k t =
    ap (list_all is_named) (behind_more sections more s t k)
    ∙ h (told_section s ∷ t)
    ∙ ap (λ b. b && list_all is_named t) e
