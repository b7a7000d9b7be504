-- The arrow of a signature: no value type is named so, and so the first one parts the words.
use Rattle.std.proofs.Common.{rules, arith, ◌≡◌, ◌+◌, ◌<◌, ℕ, Bool, true, false, not, cond, ltb, List, [], ◌∷◌, ◌++◌, Bor, Option, Some, None, codes, length, map, take, drop, suc, refl, ap, sym, subst, ◌∙◌}
use Rattle.std.specs.List.{AllZip, position_or_len}
use Rattle.std.proofs.lemmas.List.{length-append, length-map, take-map, drop-map}
use Rattle.std.proofs.lemmas.Slice.Eq.{bytes_eq-Decides}
use Rattle.validate_types.specs.declared.types.ValType.{ValType}
use Rattle.validate_types.specs.declared.types.ValType.TheVariants.{I32, I64, F32, F64, V128, Ref}
use Rattle.script_reader.specs.Values.{IsValueName}
use Rattle.script_reader.proofs.Lists.{position-map}
use Rattle.script_reader.proofs.Marks.{text_of, is_arrow, IsFirst}

-- the arrow names no value type
no_value : (t : ValType) → IsValueName (codes "->") t → ⊥
no_value I32 named = absurd cc
no_value I64 named = absurd cc
no_value F32 named = absurd cc
no_value F64 named = absurd cc
no_value V128 named = absurd cc
no_value (Ref r) named = search (rules)

no_arrow : (word : List ℕ) (t : ValType) → IsValueName word t → is_arrow word ≡ false
no_arrow word t named = at (is_arrow word) refl
  where
    at : (b : Bool) → is_arrow word ≡ b → is_arrow word ≡ false
    at false e = e
    at true e = absurd (no_value t (subst (λ text. IsValueName text t) ((bytes_eq-Decides word (codes "->")).0 e) named))

-- behind words that name value types, the first arrow is the one that comes next
first_arrow : (words rest : List (List ℕ)) (ts : List ValType) → AllZip IsValueName words ts → position_or_len is_arrow (words ++ codes "->" ∷ rest) ≡ length words
first_arrow [] rest ts named = refl
first_arrow (w ∷ ws) rest [] named = absurd named
first_arrow (w ∷ ws) rest (t ∷ ts) named =
    let one_more : 1 + length ws ≡ suc (length ws) = search (arith) in
    ap (λ b. cond (not b) (1 + position_or_len is_arrow (ws ++ codes "->" ∷ rest)) 0) (no_arrow w t named.0)
    ∙ ap (λ n. 1 + n) (first_arrow ws rest ts named.1)
    ∙ one_more

-- the words before it, and those after it
taken : (words rest : List (List ℕ)) → take (length words) (words ++ rest) ≡ words
taken [] rest = refl
taken (w ∷ ws) rest = ap (λ ws. w ∷ ws) (taken ws rest)

dropped : (words rest : List (List ℕ)) (w : List ℕ) → drop (length words + 1) (words ++ w ∷ rest) ≡ rest
dropped [] rest w = refl
dropped (v ∷ ws) rest w =
    let one_more : length (v ∷ ws) + 1 ≡ suc (length ws + 1) = search (arith) in
    ap (λ n. drop n (v ∷ ws ++ w ∷ rest)) one_more ∙ dropped ws rest w

-- a place that is within a list is found in it
lost : (n m : ℕ) → n < m → cond (ltb n m) (Some n) None ≡ None → ⊥
lost n m within e = at (ltb n m) refl e
  where
    at : (b : Bool) → ltb n m ≡ b → cond b (Some n) None ≡ None → ⊥
    at true is e = absurd cc
    at false is e = search (arith)

-- words that write a signature of these parameters and results
module _ (words : List (Bor (List ℕ))) (params results : List (List ℕ)) (ts : List ValType) (split : map text_of words ≡ params ++ codes "->" ∷ results) (named : AllZip IsValueName params ts) where
  arrow_at : position_or_len is_arrow (map text_of words) ≡ length params
  arrow_at = ap (position_or_len is_arrow) split ∙ first_arrow params results ts named

  -- an arrow is found
  pub has_arrow : (found : Option ℕ) → found ≡ cond (ltb (position_or_len (λ w. is_arrow (text_of w)) words) (length words)) (Some (position_or_len (λ w. is_arrow (text_of w)) words)) None → found ≡ None → ⊥
  has_arrow found e none =
      let at : position_or_len (λ w. is_arrow (text_of w)) words ≡ length params = sym (position-map is_arrow text_of words) ∙ arrow_at in
      let long : length words ≡ length params + length (codes "->" ∷ results) = sym (length-map words text_of) ∙ ap length split ∙ length-append params (codes "->" ∷ results) in
      let within : length params < length words = search (arith) in
      let is_some : cond (ltb (length params) (length words)) (Some (length params)) None ≡ None = ap (λ n. cond (ltb n (length words)) (Some n) None) (sym at) ∙ sym e ∙ none in
      absurd (lost (length params) (length words) within is_some)

  module _ (k : ℕ) (first : IsFirst is_arrow words k) where
    at_end : k ≡ length params
    at_end = sym first.0 ∙ arrow_at

    -- the words before it name the parameters, and those after it the results
    pub params_are : map text_of (take k words) ≡ params
    params_are = sym (take-map text_of k words) ∙ ap (take k) split ∙ ap (λ n. take n (params ++ codes "->" ∷ results)) at_end ∙ taken params (codes "->" ∷ results)

    pub results_are : map text_of (drop (k + 1) words) ≡ results
    results_are = sym (drop-map text_of (k + 1) words) ∙ ap (drop (k + 1)) split ∙ ap (λ n. drop (n + 1) (params ++ codes "->" ∷ results)) at_end ∙ dropped params results (codes "->")
