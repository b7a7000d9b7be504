-- The words before the first of a kind, and those from it on.
use Rattle.std.proofs.Common.{arith, ◌≡◌, ◌<◌, ◌≤◌, ◌+◌, ℕ, Bool, true, false, not, refl, cond, ltb, List, [], ◌++◌, ◌∷◌, Option, Some, None, is_some, Bor, codes, length, map, take, drop, get_or, ap, sym, subst, ◌∙◌, bytes_eq}
use Rattle.std.specs.List.{filter, list_any, position_or_len, before_first}
use mir.Val.{bool_byte}
use Rattle.std.specs.Option.{option_map}
use Rattle.std.specs.Str.Parse.{digits_value}
use Rattle.validate_types.specs.declared.heap.UnpackedIndex.{UnpackedIndex}
use Rattle.validate_types.specs.declared.heap.UnpackedIndex.TheVariants.{Module}
use Rattle.script_reader.specs.Access.{text_after, one_if_some}
use Rattle.std.proofs.lemmas.List.{take-map, drop-map, length-map}
use Rattle.std.proofs.lemmas.List.Sums.{split_at_first, passes_at_first}
use Rattle.std.proofs.Math.ListN.{drop_of_length-le}
use Rattle.std.proofs.lemmas.Option.{cond_some}
use Rattle.std.proofs.lemmas.Slice.Eq.{bytes_eq-Decides}
use Rattle.script_reader.proofs.Lists.{any-map, filter-map, position-map}
use Rattle.script_reader.specs.Types.{index_in_mark, other_marks, is_marked_shared}

abbrev pub text_of : Bor (List ℕ) → List ℕ
text_of word = word.now

abbrev pub is_arrow : List ℕ → Bool
is_arrow text = bytes_eq text (codes "->")

abbrev pub is_shared : Bor (List ℕ) → Bool
is_shared word = bytes_eq word.now (codes "shared")

-- one of these words is `shared`
pub is_marked : (marks : List (Bor (List ℕ))) (result : Bool) → result ≡ list_any is_shared marks → result ≡ is_marked_shared (map text_of marks)
is_marked marks result e = e ∙ sym (any-map (λ mark. bytes_eq mark (codes "shared")) text_of marks)

-- the first word that passes stands at this place
abbrev pub IsFirst : (List ℕ → Bool) → List (Bor (List ℕ)) → ℕ → Type 0
IsFirst p words k = (position_or_len p (map text_of words) ≡ k) × (k < length words)

pub is_first : (p : List ℕ → Bool) (words : List (Bor (List ℕ))) (found : Option ℕ) (k : ℕ) → found ≡ cond (ltb (position_or_len (λ w. p (text_of w)) words) (length words)) (Some (position_or_len (λ w. p (text_of w)) words)) None → found ≡ Some k → IsFirst p words k
is_first p words found k e some =
    let joined_features = cond_some _ _ k (sym e ∙ some) in
    let within : k < length words = subst (λ n. n < length words) joined_features.1 (search (arith)) in
    (position-map p text_of words ∙ joined_features.1, within)

-- the words before it
pub are_before : (p : List ℕ → Bool) (words : List (Bor (List ℕ))) (k : ℕ) → IsFirst p words k → map text_of (take k words) ≡ before_first p (map text_of words)
are_before p words k first = sym (take-map text_of k words) ∙ ap (λ n. take n (map text_of words)) (sym first.0)

-- the words from it on
pub are_onwards : (p : List ℕ → Bool) (words : List (Bor (List ℕ))) (k : ℕ) → IsFirst p words k → map text_of (drop k words) ≡ drop (position_or_len p (map text_of words)) (map text_of words)
are_onwards p words k first = sym (drop-map text_of k words) ∙ ap (λ n. drop n (map text_of words)) (sym first.0)

-- the words before the arrow, it, and the words after it
pub parted_by_arrow : (words : List (Bor (List ℕ))) (k : ℕ) → IsFirst is_arrow words k → map text_of words ≡ map text_of (take k words) ++ codes "->" ∷ map text_of (drop (k + 1) words)
parted_by_arrow words k first =
    let texts : List (List ℕ) = map text_of words in
    let at : ℕ = position_or_len is_arrow texts in
    let within : at < length texts = subst (λ n. at < n) (sym (length-map words text_of)) (subst (λ n. n < length words) (sym first.0) first.1) in
    let arrow : get_or texts at [] ≡ codes "->" = (bytes_eq-Decides (get_or texts at []) (codes "->")).0 (passes_at_first is_arrow texts [] within) in
    let after : drop (at + 1) texts ≡ map text_of (drop (k + 1) words) = drop-map text_of (at + 1) words ∙ ap (λ n. map text_of (drop (n + 1) words)) first.0 in
    split_at_first is_arrow texts [] within
    ∙ ap (λ text. take at texts ++ text ∷ drop (at + 1) texts) arrow
    ∙ ap (λ rest. take at texts ++ codes "->" ∷ rest) after
    ∙ ap (λ front. front ++ codes "->" ∷ map text_of (drop (k + 1) words)) (sym (are_before is_arrow words k first))

abbrev pub is_other : Bor (List ℕ) → Bool
is_other mark = not (bytes_eq mark.now (codes "shared"))

-- as many of the words aren't `shared` as of their texts
pub others_of : (marks : List (Bor (List ℕ))) → length (filter is_other marks) ≡ length (other_marks (map text_of marks))
others_of marks = sym (ap length (filter-map (λ text. not (bytes_eq text (codes "shared"))) text_of marks) ∙ length-map (filter is_other marks) text_of)

-- where none passes, there are none from it on
pub none_onwards : (p : List ℕ → Bool) (words : List (Bor (List ℕ))) (found : Option ℕ) → found ≡ cond (ltb (position_or_len (λ w. p (text_of w)) words) (length words)) (Some (position_or_len (λ w. p (text_of w)) words)) None → found ≡ None → drop (position_or_len p (map text_of words)) (map text_of words) ≡ []
none_onwards p words found e none =
    let place : ℕ = position_or_len (λ w. p (text_of w)) words in
    ap (λ n. drop n (map text_of words)) (position-map p text_of words) ∙ at (ltb place (length words)) refl (sym e ∙ none)
  where
    at : (b : Bool) → ltb (position_or_len (λ w. p (text_of w)) words) (length words) ≡ b → cond b (Some (position_or_len (λ w. p (text_of w)) words)) None ≡ None → drop (position_or_len (λ w. p (text_of w)) words) (map text_of words) ≡ []
    at true is lost = absurd cc
    at false is lost =
        let past : length words ≤ position_or_len (λ w. p (text_of w)) words = search (arith) in
        drop_of_length-le (map text_of words) (subst (λ n. n ≤ position_or_len (λ w. p (text_of w)) words) (sym (length-map words text_of)) past)

-- an index is given where the text of a mark gives one
pub index_is_given : (prefix : List ℕ) (marks : List (List ℕ)) (index : Option UnpackedIndex) (some : Bool) (n : ℕ) → index ≡ index_in_mark prefix marks → some ≡ is_some index → n ≡ bool_byte some → one_if_some (text_after prefix marks) ≡ n
index_is_given prefix marks index some n is_index is_there counts =
    at (text_after prefix marks) ∙ sym (counts ∙ ap bool_byte (is_there ∙ ap is_some is_index))
  where
    at : (text : Option (List ℕ)) → one_if_some text ≡ bool_byte (is_some (option_map (λ digits. Module (digits_value 10 digits)) text))
    at None = refl
    at (Some digits) = refl
