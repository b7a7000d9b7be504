-- A section less: what is left of the bytes are the sections that are left.
use Rattle.std.proofs.Common.{arith, ap, subst, sym, refl, ◌∙◌, ◌≡◌, ◌≢◌, ℕ, suc, ◌-◌, ◌^◌, ◌<◌, ◌≤◌, Bool, true, false, nat_lt, if◌then◌else◌, List, [], ◌∷◌, length, drop, length-drop, Option, Some, None}
use Rattle.std.specs.List.{list_all}
use Rattle.std.specs.Option.{option_and_then}
use Rattle.std.proofs.lemmas.Bool.{and_parts}
use Rattle.binary_operators.specs.Integers.{unsigned, with_low}
use Rattle.binary_operators.proofs.Shorter.{LeavesAtMost, NeverGrows}
use Rattle.binary_modules.specs.Parts.{sized}
use Rattle.binary_modules.specs.Sections.{Section, section, next_ids, if_any, are_in_order, is_named}
use Rattle.binary_modules.specs.SectionsRead.{AreSectionsIn}
use Rattle.binary_modules.proofs.Once.{both_same, none_or_some}
use borrow.Author.Tests.{clash}

-- ---- behind a section are fewer bytes

after : {A B : Type 0} → (n : ℕ) (o : Option (A × List ℕ)) (f : A × List ℕ → Option (B × List ℕ)) → LeavesAtMost n o → ((a : A × List ℕ) → length a.1 ≤ n → LeavesAtMost n (f a)) → LeavesAtMost n (option_and_then f o)
after n None f h next = tt
after n (Some a) f h next = next a h

either : {A : Type 0} → (n : ℕ) (b : Bool) (o p : Option (A × List ℕ)) → LeavesAtMost n o → LeavesAtMost n p → LeavesAtMost n (if b then o else p)
either n true o p h k = h
either n false o p h k = k

low : (n bits : ℕ) (o : Option (ℕ × List ℕ)) → LeavesAtMost n o → LeavesAtMost n (with_low bits o)
low n bits None h = tt
low n bits (Some r) h = h

unsigned_never : (bits : ℕ) → NeverGrows (unsigned bits)
unsigned_never bits n [] h = tt
unsigned_never bits n (b ∷ bytes) h =
    let small : length bytes ≤ n = omega (arith, h) in
    either n (nat_lt b 128) _ _ (either n (nat_lt b (2 ^ bits)) _ _ small tt)
    (either n (nat_lt 7 bits) _ _ (low n (b - 128) (unsigned (bits - 7) bytes) (unsigned_never (bits - 7) n bytes small)) tt)

sized_never : NeverGrows sized
unfolding sized
sized_never n bytes h =
    after n (unsigned 32 bytes) _ (unsigned_never 32 n bytes h)
    (λ count s.
    let small : length (drop count.0 count.1) ≤ n = omega (arith, s, length-drop count.0 count.1) in
    either n (nat_lt (length count.1) count.0) _ _ tt small)

section_leaves : (n : ℕ) (bytes : List ℕ) → length bytes ≤ suc n → LeavesAtMost n (section bytes)
unfolding section
section_leaves n [] h = tt
section_leaves n (b ∷ bytes) h = after n (sized bytes) _ (sized_never n bytes (omega (arith, h))) (λ contents s. s)

pub no_section : section [] ≡ None
unfolding section
no_section = refl

pub section_shorter : (bytes behind : List ℕ) (s : Section) → section bytes ≡ Some (s, behind) → length behind < length bytes
section_shorter [] behind s e = absurd (none_or_some (section []) (s, behind) no_section e)
section_shorter (b ∷ bytes) behind s e =
    let small : length (b ∷ bytes) ≤ suc (length bytes) = omega arith in
    let k : length behind ≤ length bytes =
    subst (λ (o : Option (Section × List ℕ)). LeavesAtMost (length bytes) o) e (section_leaves (length bytes) (b ∷ bytes) small) in
    omega (arith, k)

-- ---- what is left

-- the bytes are sections in the order of these ids, with their names
abbrev pub AreAll : List ℕ → List ℕ → Type 0
AreAll ids bytes =
    (sections : List Section)
    × AreSectionsIn bytes sections []
    × (are_in_order ids sections ≡ true)
    × (list_all is_named sections ≡ true)

left_of : (sections : List Section) (ids rest bytes behind : List ℕ) (s : Section) → section bytes ≡ Some (s, behind) → next_ids s.id ids ≡ Some rest → AreSectionsIn bytes sections [] → are_in_order ids sections ≡ true → list_all is_named sections ≡ true → AreAll rest behind
left_of [] ids rest bytes behind s e n read ordered named =
    absurd (none_or_some (section bytes) (s, behind) (ap section read ∙ no_section) e)
left_of (x ∷ sections) ids rest bytes behind s e n read ordered named =
    let same = both_same (section bytes) x s read.0 behind read.1 e in
    let next : next_ids x.id ids ≡ Some rest = ap (λ (y : Section). next_ids y.id ids) same.0 ∙ n in (
      sections,
      subst (λ l. AreSectionsIn l sections []) same.1 read.2,
      sym (ap (λ o. if_any o (λ r. are_in_order r sections)) next) ∙ ordered,
      (and_parts (is_named x) (list_all is_named sections) named).1,
    )

pub all_behind : (ids rest bytes behind : List ℕ) (s : Section) → section bytes ≡ Some (s, behind) → next_ids s.id ids ≡ Some rest → AreAll ids bytes → AreAll rest behind
all_behind ids rest bytes behind s e n a = left_of a.0 ids rest bytes behind s e n a.1 a.2 a.3

first_of : (sections : List Section) (ids bytes : List ℕ) → bytes ≢ [] → ((s : Section) (behind : List ℕ) → section bytes ≡ Some (s, behind) → is_named s ≡ true → next_ids s.id ids ≡ None) → AreSectionsIn bytes sections [] → are_in_order ids sections ≡ true → list_all is_named sections ≡ true → ⊥
first_of [] ids bytes there none read ordered named = there read
first_of (x ∷ sections) ids bytes there none read ordered named =
    let n = none x read.0 read.1 (and_parts (is_named x) (list_all is_named sections) named).0 in
    clash (sym (ap (λ o. if_any o (λ r. are_in_order r sections)) n) ∙ ordered)

-- where no section can be next, these are no such sections
pub none_next : (ids bytes : List ℕ) → bytes ≢ [] → ((s : Section) (behind : List ℕ) → section bytes ≡ Some (s, behind) → is_named s ≡ true → next_ids s.id ids ≡ None) → AreAll ids bytes → ⊥
none_next ids bytes there none a = first_of a.0 ids bytes there none a.1 a.2 a.3
