-- What follows a name in the first word that begins with it.
use Rattle.std.proofs.Common.{◌≡◌, ℕ, Bool, true, false, cond, nat_eq, List, [], ◌∷◌, Option, Some, None, Bor, length, drop, map, refl, sym, ap, subst, ◌∙◌}
use Rattle.std.specs.List.{find, starts_with}
use Rattle.std.specs.Option.{MatchOption, option_copied, option_map}
use Rattle.std.specs.Str.Pattern.{FindsTextPrefix, StripsPrefix}
use Rattle.std.proofs.lemmas.Str.Pattern.{starts_text}
use Rattle.script_reader.specs.Access.{text_after}

abbrev text_of : Bor (List ℕ) → List ℕ
text_of word = word.now

abbrev begins_with : List ℕ → List ℕ → Bool
begins_with name text = starts_with nat_eq text name

abbrev pub is_said_by : List ℕ → Bor (List ℕ) → Bool
is_said_by name word = begins_with name word.now

abbrev after : List ℕ → List ℕ → List ℕ
after name text = drop (length name) text

-- what is found passes the test
found_passes : {X : Type 0} (p : X → Bool) (xs : List X) (y : X) → find p xs ≡ Some y → p y ≡ true
found_passes p [] y h = absurd cc
found_passes p (x ∷ xs) y h = at (p x) (found_passes p xs y) refl h
  where
    at : (b : Bool) → (find p xs ≡ Some y → p y ≡ true) → p x ≡ b → cond b (Some x) (find p xs) ≡ Some y → p y ≡ true
    at true later e k = (let same : x ≡ y = cc in subst (λ z. p z ≡ true) same e)
    at false later e k = later k

-- the first text that passes is that of the first word whose text does
find-map : {X Y : Type 0} (p : Y → Bool) (f : X → Y) (xs : List X) → find p (map f xs) ≡ option_map f (find (λ x. p (f x)) xs)
find-map p f [] = refl
find-map p f (x ∷ xs) = at (p (f x)) (find-map p f xs)
  where
    at : (b : Bool) → find p (map f xs) ≡ option_map f (find (λ y. p (f y)) xs) → cond b (Some (f x)) (find p (map f xs)) ≡ option_map f (cond b (Some x) (find (λ y. p (f y)) xs))
    at true later = refl
    at false later = later

module _ (name : List ℕ) (words : List (Bor (List ℕ))) (found : Option (Bor (Bor (List ℕ)))) (result : Option (Bor (List ℕ))) (is_found : option_map (λ word. word.now) found ≡ find (is_said_by name) words) where
  -- what follows in the word that is found, if one is
  said_in : (o : Option (Bor (List ℕ))) → find (is_said_by name) words ≡ o → text_after name (map text_of words) ≡ option_map (after name) (option_map text_of o)
  said_in o e = ap (option_map (after name)) (find-map (begins_with name) text_of words ∙ ap (option_map text_of) e)

  -- no word begins with the name
  pub none_follows : found ≡ None → result ≡ None → option_copied result ≡ text_after name (map text_of words)
  none_follows none gone =
      let missing : find (is_said_by name) words ≡ None = sym is_found ∙ ap (option_map (λ (word : Bor (Bor (List ℕ))). word.now)) none in
      ap option_copied gone ∙ sym (said_in None missing)

  -- a word begins with the name, and so it can be cut off
  pub rest_follows : (word : Bor (Bor (List ℕ))) → found ≡ Some word → MatchOption result (FindsTextPrefix name word.now.now None) (λ x. StripsPrefix (FindsTextPrefix name) word.now.now x.now) → option_copied result ≡ text_after name (map text_of words)
  rest_follows word some strips =
      let there : find (is_said_by name) words ≡ Some word.now = sym is_found ∙ ap (option_map (λ (w : Bor (Bor (List ℕ))). w.now)) some in
      let begins : is_said_by name word.now ≡ true = found_passes (is_said_by name) words word.now there in
      cut result strips begins ∙ sym (said_in (Some word.now) there)
    where
      cut : (r : Option (Bor (List ℕ))) → MatchOption r (FindsTextPrefix name word.now.now None) (λ x. StripsPrefix (FindsTextPrefix name) word.now.now x.now) → is_said_by name word.now ≡ true → option_copied r ≡ Some (after name word.now.now)
      cut None lacks begins = (let not_there : false ≡ is_said_by name word.now = starts_text false name word.now.now lacks in absurd cc)
      cut (Some x) (n, fits, rest, ends) begins = ap Some (rest ∙ ap (λ k. drop k word.now.now) fits.0)
