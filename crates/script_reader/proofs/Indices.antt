-- What the loop over the tokens of a list of indices keeps.
use Rattle.std.proofs.Common.{◌≡◌, ℕ, ◌+◌, ◌<◌, List, [], ◌∷◌, ◌++◌, Option, Some, All, Bor, length, map, get_or, take, ap, sym, subst, ◌∙◌}
use Rattle.std.specs.Option.{SomeIff}
use Rattle.std.specs.Str.Parse.{digits_value}
use Rattle.std.proofs.lemmas.List.{map_more}
use Rattle.std.proofs.lemmas.List.Elements.{All-more}
use Rattle.script_reader.specs.Numbers.{IsIndex}

-- the number that a token writes, where it is one
abbrev pub index_of : Bor (List ℕ) → ℕ
index_of token = digits_value 10 token.now

-- these are the indices that the first so many tokens write, and each of those tokens writes one
abbrev pub AreRead : List (Bor (List ℕ)) → ℕ → List ℕ → Type 0
AreRead tokens i indices = (indices ≡ map index_of (take i tokens)) × All (λ token. IsIndex token.now) (take i tokens)

-- with the index of the next token, these are the indices of one token more
pub AreRead-more : (tokens : List (Bor (List ℕ))) (i : ℕ) (d : Bor (List ℕ)) (before after : List ℕ) (found : Option ℕ) (x : ℕ) → i < length tokens → SomeIff found (IsIndex (get_or tokens i d).now) (index_of (get_or tokens i d)) → found ≡ Some x → after ≡ before ++ x ∷ [] → AreRead tokens i before → AreRead tokens (i + 1) after
AreRead-more tokens i d before after found x within answer is_found pushed kept =
    let token : Bor (List ℕ) = get_or tokens i d in
    let is_read : IsIndex token.now × (x ≡ index_of token) = subst (λ o. SomeIff o (IsIndex token.now) (index_of token)) is_found answer in
    let values : before ++ x ∷ [] ≡ map index_of (take i tokens) ++ index_of token ∷ [] = ap (λ xs. xs ++ x ∷ []) kept.0 ∙ ap (λ y. map index_of (take i tokens) ++ y ∷ []) is_read.1 in
    (pushed ∙ values ∙ sym (map_more index_of tokens i d within), All-more (λ (t : Bor (List ℕ)). IsIndex t.now) tokens i d within kept.1 is_read.0)
