-- Bytes that can't be read are no module's: what was read of them so far is what any module with these bytes has.
use Rattle.std.proofs.Common.{arith, ap, subst, sym, ◌∙◌, ◌≡◌, ℕ, ◌+◌, List, [], ◌∷◌, length, drop, Option, Some}
use Rattle.std.specs.Prelude.{IfSome}
use Rattle.std.proofs.lemmas.List.{length-map}
use Rattle.binary_operators.specs.Unread.{Unread}
use Rattle.binary_operators.specs.Values.{list_of}
use Rattle.binary_operators.specs.declared.types.CanonicalTypes.{CanonicalTypes}
use Rattle.module_rules.specs.declared.items.DeclaredFunction.{DeclaredFunction}
use Rattle.module_rules.specs.declared.items.RecGroup.{RecGroup}
use Rattle.module_rules.specs.declared.segments.Data.{Data}
use Rattle.validate_types.specs.declared.types.SubType.{SubType}
use Rattle.binary_modules.specs.ContentsRead.{IsList, bytes_of}
use Rattle.binary_modules.specs.GroupsRead.{AreTypes}
use Rattle.binary_modules.specs.Items.{Item, own_function}
use Rattle.binary_modules.specs.Modules.{Contents}
use Rattle.binary_modules.specs.ModulesRead.{AreContents}
use Rattle.binary_modules.specs.Parts.{sized}
use Rattle.binary_modules.specs.Sections.{Section, contents_of, section_contents}
use Rattle.binary_modules.specs.SectionsRead.{IsNumber}
use Rattle.binary_modules.specs.Segments.{data_segment}
use Rattle.binary_modules.proofs.Once.{both_same, number_same}
use Rattle.binary_modules.proofs.TypesUnique.{types_unique}
use Rattle.binary_modules.proofs.WholeParts.{list_length, counted_by}

-- ---- sections

pub header_same : (a b bytes : List ℕ) → bytes ≡ 0x00 ∷ 0x61 ∷ 0x73 ∷ 0x6d ∷ 0x01 ∷ 0x00 ∷ 0x00 ∷ 0x00 ∷ a → bytes ≡ 0x00 ∷ 0x61 ∷ 0x73 ∷ 0x6d ∷ 0x01 ∷ 0x00 ∷ 0x00 ∷ 0x00 ∷ b → a ≡ b
header_same a b bytes h k = sym (ap (drop 8) h) ∙ ap (drop 8) k

-- ---- types

pub all_of_types : (bytes : List ℕ) (s t : List SubType) (c d : List ℕ) (v w : List RecGroup) (rest : List ℕ) → AreTypes bytes s c v rest → AreTypes bytes t d w [] → rest ≡ []
all_of_types bytes s t c d v w rest h k = (types_unique bytes s t c d v w rest [] h k).2

-- ---- counts

pub functions_counted : (types : CanonicalTypes) (sections : List Section) (before after : List DeclaredFunction) (own : List (Item DeclaredFunction)) (imported : ℕ) (c : Contents) → IsList (own_function types) (λ f. record f { offset = 0 }) 3 sections before after own → imported ≡ length before → AreContents types sections c → imported + length c.functions ≡ length after
functions_counted types sections before after own imported c l i h =
    let all = list_length _ _ 3 sections before after own l in
    let same = ap length (both_same (list_of (own_function types) (contents_of 3 sections)) own c.functions [] [] l.are_read h.functions).0 in
    omega (arith, all, same, i)

pub bodies_counted : (types : CanonicalTypes) (sections : List Section) (bodies : List Unread) (c : Contents) → list_of sized (contents_of 10 sections) ≡ Some (bytes_of bodies, []) → AreContents types sections c → length bodies ≡ length c.functions
bodies_counted types sections bodies c e h =
    sym (length-map bodies _)
    ∙ ap length (both_same (list_of sized (contents_of 10 sections)) (bytes_of bodies) c.bodies [] [] e h.bodies).0
    ∙ h.a_body_each

pub data_counted : (types : CanonicalTypes) (sections : List Section) (count : Option ℕ) (items : List Data) (read : List (Item Data)) (c : Contents) → IsNumber (section_contents 12 sections) count → IsList (data_segment types) (λ d. record d { offset = 0 }) 11 sections [] items read → AreContents types sections c → IfSome count (λ n. n ≡ length items)
data_counted types sections count items read c k l h =
    let all = list_length _ _ 11 sections [] items read l in
    let same = ap length (both_same (list_of (data_segment types) (contents_of 11 sections)) read c.data_segments [] [] l.are_read h.data_segments).0 in
    let as_many : length c.data_segments ≡ length items = omega (arith, all, same) in
    counted_by count (length c.data_segments) (length items)
    (subst (λ o. IfSome o (λ n. n ≡ length c.data_segments)) (number_same (section_contents 12 sections) c.data_count count h.data_count k) h.are_counted)
    as_many
