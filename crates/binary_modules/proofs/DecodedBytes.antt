-- What is read of bytes is what they are decoded to.
use Rattle.std.proofs.Common.{ap, subst, refl, ◌∙◌, ◌≡◌, ◌≢◌, arith, ℕ, zero, suc, ◌≤◌, Bool, true, false, nat_eq, if◌then◌else◌, List, [], ◌∷◌, ◌++◌, length, Option, Some, None}
use Rattle.std.specs.Prelude.{◌&&◌}
use Rattle.std.specs.List.{list_all}
use Rattle.std.proofs.lemmas.Bool.{and_parts, and_from}
use Rattle.std.proofs.lemmas.Bool.Decides.{Decides-eqb}
use Rattle.std.proofs.lemmas.Option.{option_and_then_some}
use Rattle.binary_modules.specs.Modules.{DecodedModule, decode, module_in}
use Rattle.binary_modules.specs.Parts.{bytes_behind}
use Rattle.binary_modules.specs.Sections.{Section, section, sections, header, module_sections, are_in_order, section_ids, is_named}
use Rattle.binary_modules.specs.SectionsRead.{AreSectionsIn}
use Rattle.binary_modules.proofs.Decoded.{and_then, none_if, some_of, if_some}
use Rattle.binary_modules.proofs.NoModule.{header_same}
use Rattle.binary_modules.proofs.Once.{none_or_some}
use Rattle.binary_modules.proofs.SectionsLess.{no_section, section_shorter}

-- ---- sections

one_less_left : (m n k : ℕ) → m ≤ suc n → suc k ≤ m → k ≤ n
one_less_left m n k h l = omega arith

pub sections_are : (most : ℕ) (bytes : List ℕ) (all : List Section) → length bytes ≤ most → AreSectionsIn bytes all [] → sections most bytes ≡ Some all
sections_are most [] [] h read = refl
sections_are most [] (s ∷ all) h read = absurd (none_or_some (section []) (s, read.0) no_section read.1)
sections_are zero (b ∷ bytes) all h read = absurd (omega arith)
sections_are (suc most) (b ∷ bytes) [] h read = cc
sections_are (suc most) (b ∷ bytes) (s ∷ all) h read =
    let less = section_shorter (b ∷ bytes) read.0 s read.1 in
    let few : length read.0 ≤ most = omega (arith, less, h) in
    and_then _ (section (b ∷ bytes)) (s, read.0) read.1
    ∙ and_then _ (sections most read.0) all (sections_are most read.0 all few read.2)

pub sections_read : (most : ℕ) (bytes : List ℕ) (all : List Section) → sections most bytes ≡ Some all → AreSectionsIn bytes all []
sections_read most [] all e = subst (λ l. AreSectionsIn [] l []) (some_of [] all e) refl
sections_read zero (b ∷ bytes) all e = absurd (none_or_some None all refl e)
sections_read (suc most) (b ∷ bytes) all e =
    option_and_then_some _ (section (b ∷ bytes)) all e
    (λ first here more.
    option_and_then_some _ (sections most first.1) all more
    (λ others there same.
    subst (λ l. AreSectionsIn (b ∷ bytes) l []) (some_of (first.0 ∷ others) all same)
    (first.1, here, sections_read most first.1 others there)))

-- ---- the header

behind_by : (codes bytes rest : List ℕ) (b code : ℕ) (is : Bool) → nat_eq b code ≡ is → ((bytes_behind codes bytes ≡ Some rest) → bytes ≡ codes ++ rest) → (if is then bytes_behind codes bytes else None) ≡ Some rest → b ∷ bytes ≡ (code ∷ codes) ++ rest
behind_by codes bytes rest b code true is next e =
    let same : b ≡ code = (Decides-eqb b code).0 is in
    ap (λ l. b ∷ l) (next e) ∙ ap (λ n. n ∷ (codes ++ rest)) same
behind_by codes bytes rest b code false is next e = absurd (none_or_some None rest refl e)

behind_read : (codes bytes rest : List ℕ) → bytes_behind codes bytes ≡ Some rest → bytes ≡ codes ++ rest
behind_read [] bytes rest e = some_of bytes rest e
behind_read (code ∷ codes) [] rest e = absurd (none_or_some None rest refl e)
behind_read (code ∷ codes) (b ∷ bytes) rest e =
    behind_by codes bytes rest b code (nat_eq b code) refl (behind_read codes bytes rest) e

-- ---- all bytes

abbrev pub AreModuleSections : List ℕ → List ℕ → List Section → Type 0
AreModuleSections bytes left all =
    (bytes ≡ 0x00 ∷ 0x61 ∷ 0x73 ∷ 0x6d ∷ 0x01 ∷ 0x00 ∷ 0x00 ∷ 0x00 ∷ left)
    × AreSectionsIn left all []
    × (are_in_order section_ids all ≡ true)
    × (list_all is_named all ≡ true)

sections_of : (bytes left : List ℕ) (all : List Section) → AreModuleSections bytes left all → module_sections bytes ≡ Some all
unfolding module_sections
sections_of bytes left all h =
    and_then _ (header bytes) left (ap header h.0)
    ∙ and_then _ (sections (length left) left) all (sections_are (length left) left all (omega arith) h.1)
    ∙ ap (λ (b : Bool). if b then Some all else None) (and_from _ _ h.2 h.3)

sections_there : (bytes : List ℕ) (all : List Section) → module_sections bytes ≡ Some all → (left : List ℕ) × AreModuleSections bytes left all
unfolding module_sections
sections_there bytes all e =
    option_and_then_some _ (header bytes) all e
    (λ left here more.
    option_and_then_some _ (sections (length left) left) all more
    (λ read there is.
    let same = if_some (are_in_order section_ids read && list_all is_named read) read all is in
    let both = and_parts (are_in_order section_ids read) (list_all is_named read) same.0 in
    subst (λ l. (left : List ℕ) × AreModuleSections bytes left l) same.1
    (left, (behind_read (0x00 ∷ 0x61 ∷ 0x73 ∷ 0x6d ∷ 0x01 ∷ 0x00 ∷ 0x00 ∷ 0x00 ∷ []) bytes left here, sections_read (length left) left read there, both.0, both.1))))

pub decode_is : (bytes left : List ℕ) (all : List Section) (m : Option DecodedModule) → AreModuleSections bytes left all → module_in all ≡ m → decode bytes ≡ m
unfolding decode
decode_is bytes left all m h e = and_then _ (module_sections bytes) all (sections_of bytes left all h) ∙ e

-- where no sections are there
none_decoded : (bytes : List ℕ) → ((left : List ℕ) (all : List Section) → AreModuleSections bytes left all → ⊥) → decode bytes ≡ None
unfolding decode
none_decoded bytes none =
    none_if (decode bytes)
    (λ m e. option_and_then_some _ (module_sections bytes) m e
    (λ all here is. let there = sections_there bytes all here in none there.0 all there.1))

pub no_header : (bytes : List ℕ) → ((left : List ℕ) → bytes ≢ 0x00 ∷ 0x61 ∷ 0x73 ∷ 0x6d ∷ 0x01 ∷ 0x00 ∷ 0x00 ∷ 0x00 ∷ left) → decode bytes ≡ None
no_header bytes none = none_decoded bytes (λ left all h. none left h.0)

pub no_sections : (bytes left : List ℕ) → bytes ≡ 0x00 ∷ 0x61 ∷ 0x73 ∷ 0x6d ∷ 0x01 ∷ 0x00 ∷ 0x00 ∷ 0x00 ∷ left → ((all : List Section) → AreSectionsIn left all [] → are_in_order section_ids all ≡ true → list_all is_named all ≢ true) → decode bytes ≡ None
no_sections bytes left header none =
    none_decoded bytes
    (λ other all h. none all (subst (λ (l : List ℕ). AreSectionsIn l all []) (header_same other left bytes h.0 header) h.1) h.2 h.3)
