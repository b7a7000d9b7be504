-- What the loops over words that are read one by one keep.
use Rattle.std.proofs.Common.{arith, suc, zero, IfNone, None, Bool, true, false, ◌&&◌, refl, ◌≡◌, ℕ, ◌+◌, ◌<◌, List, [], ◌∷◌, ◌++◌, Option, Some, IfSome, Bor, length, map, get_or, take, sym, subst}
use Rattle.std.specs.List.{AllZip, list_all}
use Rattle.std.proofs.lemmas.List.{map_more}
use Rattle.std.proofs.lemmas.Slice.Zip.{all_zipped_more}

abbrev pub text_of : Bor (List ℕ) → List ℕ
text_of word = word.now

pub both_true : (a b : Bool) → a && b ≡ true → (a ≡ true) × (b ≡ true)
both_true true true e = (refl, refl)
both_true true false e = absurd cc
both_true false b e = absurd cc

module _ {X : Type 0} (names : List ℕ → X → Type 0) (words : List (Bor (List ℕ))) where
  -- the first so many words name these
  abbrev pub AreNamed : ℕ → List X → Type 0
  AreNamed i xs = AllZip names (map text_of (take i words)) xs

  -- with what the next word names, these are named by one word more
  pub AreNamed-more : (i : ℕ) (d : Bor (List ℕ)) (before after : List X) (found : Option X) (x : X) → i < length words → IfSome found (names (get_or words i d).now) → found ≡ Some x → after ≡ before ++ x ∷ [] → AreNamed i before → AreNamed (i + 1) after
  AreNamed-more i d before after found x within read is_found pushed kept =
      let word : List ℕ = (get_or words i d).now in
      let named : names word x = subst (λ o. IfSome o (names word)) is_found read in
      let joined_features = all_zipped_more names (map text_of (take i words)) before word x kept named in
      subst (λ xs. AllZip names (map text_of (take (i + 1) words)) xs) (sym pushed)
      (subst (λ texts. AllZip names texts (before ++ x ∷ [])) (sym (map_more text_of words i d within)) joined_features)

  -- where the word at a place names nothing, there are none that all words name
  pub not_all_named : (fits : X → Bool) (i : ℕ) (d : Bor (List ℕ)) (found : Option X) → i < length words → IfNone found ((x : X) → fits x ≡ true → names (get_or words i d).now x → ⊥) → found ≡ None → (xs : List X) → list_all fits xs ≡ true → AllZip names (map text_of words) xs → ⊥
  not_all_named fits i d found within read none = at words i within (subst (λ o. IfNone o ((x : X) → fits x ≡ true → names (get_or words i d).now x → ⊥)) none read)
    where
      at : (ws : List (Bor (List ℕ))) (i : ℕ) → i < length ws → ((x : X) → fits x ≡ true → names (get_or ws i d).now x → ⊥) → (xs : List X) → list_all fits xs ≡ true → AllZip names (map text_of ws) xs → ⊥
      at [] i within unnamed xs fit named = search (arith)
      at (w ∷ ws) i within unnamed [] fit named = absurd named
      at (w ∷ ws) zero within unnamed (x ∷ xs) fit named = unnamed x (both_true (fits x) (list_all fits xs) fit).0 named.0
      at (w ∷ ws) (suc i) within unnamed (x ∷ xs) fit named = at ws i (search (arith)) unnamed xs (both_true (fits x) (list_all fits xs) fit).1 named.1

  -- the same of words that name nothing, whether it fits or not
  pub not_any_named : (i : ℕ) (d : Bor (List ℕ)) (found : Option X) → i < length words → IfNone found ((x : X) → names (get_or words i d).now x → ⊥) → found ≡ None → (xs : List X) → AllZip names (map text_of words) xs → ⊥
  not_any_named i d found within read none xs =
      let unnamed = subst (λ o. IfNone o ((x : X) → names (get_or words i d).now x → ⊥)) none read in
      not_all_named (λ x. true) i d None within (λ x fits. unnamed x) refl xs (each xs)
    where
      each : (xs : List X) → list_all (λ x. true) xs ≡ true
      each [] = refl
      each (x ∷ xs) = each xs
