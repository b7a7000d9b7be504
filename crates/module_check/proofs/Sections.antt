-- Sections of empty bodies and data segments, and which sections bytes begin with.
use Rattle.std.proofs.Common.{refl, ◌≡◌, ◌≢◌, ℕ, zero, suc, ◌+◌, ◌-◌, ◌*◌, ◌<◌, ◌≤◌, ◌^◌, List, [], ◌∷◌, ◌++◌, Some, None, if◌then◌else◌, length, replicate, ap, ap₂, sym, ◌∙◌, subst, arith, append_assoc, length-append, eq-eqb, ne_eqb}
use Rattle.binary_modules.specs.Parts.{sized}
use Rattle.binary_modules.specs.Sections.{Section, section, section_contents}
use Rattle.module_check.specs.EmptySections.{and_others, completed, first_sections, functions_in, list_section, empty_segments, sections_behind, sections_begun, segments_in}

length-segments : (n : ℕ) → length (empty_segments n) ≡ 2 * n
length-segments zero = omega arith
length-segments (suc n) = omega (arith, length-append (empty_segments n) (1 ∷ 0 ∷ []), length-segments n)

-- the segments have few bytes
pub segments_fit : (n : ℕ) (bytes : List ℕ) → bytes ≡ empty_segments n → n ≤ 1_000_001 → length bytes + 4 < 2 ^ 28
segments_fit n bytes e h = subst (λ l. length l + 4 < 2 ^ 28) (sym e) (omega (arith, length-segments n, h))

-- the sections stand behind the bytes
pub sections_stand : (bytes bodies code segments data_section start whole : List ℕ) (f s : ℕ) → bodies ≡ replicate f 0 → code ≡ list_section 10 f bodies → segments ≡ empty_segments s → data_section ≡ list_section 11 s segments → start ≡ bytes ++ code → whole ≡ start ++ data_section → whole ≡ bytes ++ sections_behind f s
unfolding sections_behind
sections_stand bytes bodies code segments data_section start whole f s e1 e2 e3 e4 e5 e6 =
    e6 ∙ (ap (λ x. x ++ data_section) e5 ∙ (append_assoc bytes code data_section ∙ ap (λ x. bytes ++ x)
    (ap₂ (λ (x y : List ℕ). x ++ y) (e2 ∙ ap (list_section 10 f) e1) (e4 ∙ ap (list_section 11 s) e3))))

-- as many as are counted
pub completes : (bytes whole : List ℕ) (f s : ℕ) → whole ≡ bytes ++ sections_behind f s → f ≡ functions_in (section_contents 3 (sections_begun bytes)) → s ≡ segments_in (section_contents 12 (sections_begun bytes)) → whole ≡ completed bytes
unfolding completed
completes bytes whole f s e functions segments = e ∙ ap₂ (λ (x y : ℕ). bytes ++ sections_behind x y) functions segments

-- ---- the sections that bytes begin with

module _ (id most : ℕ) (bytes : List ℕ) where
  of_more : (left : ℕ) → most ≡ suc left → section_contents id (first_sections most bytes) ≡ section_contents id (and_others (section bytes) (first_sections left))
  of_more left e = ap (λ n. section_contents id (first_sections n bytes)) e

  -- none is there
  pub none_first : (left : ℕ) → most ≡ suc left → section bytes ≡ None → section_contents id (first_sections most bytes) ≡ None
  none_first left m e = of_more left m ∙ ap (λ o. section_contents id (and_others o (first_sections left))) e

  -- the first is the one, or another
  pub this_first : (left : ℕ) (s : Section) (behind : List ℕ) → most ≡ suc left → section bytes ≡ Some (s, behind) → s.id ≡ id → section_contents id (first_sections most bytes) ≡ Some s.contents
  this_first left s behind m e is =
      of_more left m ∙ (ap (λ o. section_contents id (and_others o (first_sections left))) e
      ∙ ap (λ b. if b then Some s.contents else section_contents id (first_sections left behind)) (eq-eqb s.id id is))

  pub other_first : (left : ℕ) (s : Section) (behind : List ℕ) → most ≡ suc left → section bytes ≡ Some (s, behind) → s.id ≢ id → section_contents id (first_sections most bytes) ≡ section_contents id (first_sections left behind)
  other_first left s behind m e other =
      of_more left m ∙ (ap (λ o. section_contents id (and_others o (first_sections left))) e
      ∙ ap (λ b. if b then Some s.contents else section_contents id (first_sections left behind)) (ne_eqb s.id id other))

-- no more than so many are looked at
pub one_less : (n k : ℕ) → k < n → n - k ≡ suc (n - (k + 1))
one_less n k h = omega (arith, h)

pub none_more : (id n k : ℕ) (bytes : List ℕ) → n ≤ k → section_contents id (first_sections (n - k) bytes) ≡ None
none_more id n k bytes h = let none : n - k ≡ 0 = omega (arith, h) in ap (λ m. section_contents id (first_sections m bytes)) none

-- ---- computed examples

-- a module that declares a function and counts a data segment: one of each stands behind
abbrev one_of_each : List ℕ
one_of_each = 0x00 ∷ 0x61 ∷ 0x73 ∷ 0x6d ∷ 0x01 ∷ 0x00 ∷ 0x00 ∷ 0x00 ∷ 3 ∷ 2 ∷ 1 ∷ 0 ∷ 12 ∷ 1 ∷ 1 ∷ []

counted : completed one_of_each ≡ one_of_each
    ++ (10 ∷ 0x85 ∷ 0x80 ∷ 0x80 ∷ 0x00 ∷ 0x81 ∷ 0x80 ∷ 0x80 ∷ 0x00 ∷ 0
    ∷ 11 ∷ 0x86 ∷ 0x80 ∷ 0x80 ∷ 0x00 ∷ 0x81 ∷ 0x80 ∷ 0x80 ∷ 0x00 ∷ 1 ∷ 0 ∷ [])
unfolding completed sections_behind section sized
counted = refl

-- one that counts five functions in a byte, and has imports: none stands behind
abbrev more_than_bytes : List ℕ
more_than_bytes = 0x00 ∷ 0x61 ∷ 0x73 ∷ 0x6d ∷ 0x01 ∷ 0x00 ∷ 0x00 ∷ 0x00 ∷ 2 ∷ 1 ∷ 1 ∷ 3 ∷ 1 ∷ 5 ∷ []

uncounted : completed more_than_bytes ≡ more_than_bytes ++ sections_behind 0 0
unfolding completed section sized
uncounted = refl
