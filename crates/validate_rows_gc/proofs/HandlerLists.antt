-- The handlers of a `resume`, one by one and all.
use Rattle.std.proofs.Common.{◌≡◌, ◌≤◌, ℕ, zero, suc, arith, Bool, true, false, ◌&&◌, List, [], ◌∷◌, ◌++◌, map, drop, length, Option, Some, None, refl, sym, ap, ◌∙◌}
use Rattle.std.specs.Option.{option_and_then, option_map}
use Rattle.validate_types.specs.Signatures.{is_each_below, is_signature_below}
use Rattle.validate_types.specs.declared.types.ValType.{ValType}
use Rattle.validate_visit.specs.declared.resume.Handle.{Handle}
use Rattle.validate_visit.specs.declared.resume.Handle.TheVariants.{OnLabel}
use Rattle.validation_rules.specs.Branches.{label_types_at}
use Rattle.validation_rules.specs.Casts.{split_last}
use Rattle.validation_rules.specs.Context.{Signature, Context}
use Rattle.validation_rules.specs.Continuations.{referenced_continuation, continues, suspension_clause, handler_clauses, all_clauses}
use Rattle.validation_rules.specs.Exceptions.{clause_to}
use Rattle.validation_rules.specs.Fits.{Known, all_fit}
use Rattle.validation_rules.specs.Rows.{Head, Clause, guard}
use Rattle.validation_rules.specs.Static.{clause_fits, clauses_fit}
use Rattle.validation_rules.proofs.Below.{true_and}
use Rattle.validation_rules.proofs.Pops.{and_false}
use Rattle.validate_rows_gc.specs.Handlers.{are_fitting_clauses, is_fitting_handler, are_fitting_handlers}

-- ---- lists

pub split_last_of : (ts : List ValType) (t : ValType) → split_last (ts ++ t ∷ []) ≡ Some (ts, t)
split_last_of [] t = refl
split_last_of (x ∷ []) t = refl
split_last_of (x ∷ y ∷ ts) t = ap (option_map (λ (p : List ValType × ValType). (x ∷ p.0, p.1))) (split_last_of (y ∷ ts) t)

pub none_left : (ts : List ValType) → length ts ≡ 0 → ts ≡ []
none_left [] h = refl
none_left (t ∷ ts) h = absurd cc

module _ (cx : Context) where
  pub each_fits : (ts us : List ValType) → is_each_below cx.of_module.below ts us ≡ all_fit cx (map Known ts) us
  each_fits [] [] = refl
  each_fits [] (u ∷ us) = refl
  each_fits (t ∷ ts) [] = refl
  each_fits (t ∷ ts) (u ∷ us) = ap (λ b. cx.of_module.below t u && b) (each_fits ts us)

  -- as what a function takes
  pub taken_below : (us ts : List ValType) → is_signature_below cx.of_module.below us [] ts [] ≡ all_fit cx (map Known ts) us
  taken_below us ts = one (is_each_below cx.of_module.below ts us) ∙ each_fits ts us
    where
      one : (b : Bool) → (b && true) ≡ b
      one true = refl
      one false = refl

  -- one more type on either side mends nothing
  pub last_not_fitting : (ts us : List ValType) (t u : ValType) → all_fit cx (map Known ts) us ≡ false → all_fit cx (map Known (ts ++ t ∷ [])) (us ++ u ∷ []) ≡ false
  last_not_fitting [] [] t u h = cc
  last_not_fitting [] (y ∷ []) t u h = and_false (cx.of_module.below t y)
  last_not_fitting [] (y ∷ z ∷ us) t u h = and_false (cx.of_module.below t y)
  last_not_fitting (x ∷ []) [] t u h = and_false (cx.of_module.below x u)
  last_not_fitting (x ∷ y ∷ ts) [] t u h = and_false (cx.of_module.below x u)
  last_not_fitting (x ∷ ts) (y ∷ us) t u h = by (cx.of_module.below x y) h (λ k. last_not_fitting ts us t u k)
    where
      by : (b : Bool) → (b && all_fit cx (map Known ts) us) ≡ false → (all_fit cx (map Known ts) us ≡ false → all_fit cx (map Known (ts ++ t ∷ [])) (us ++ u ∷ []) ≡ false) → (b && all_fit cx (map Known (ts ++ t ∷ [])) (us ++ u ∷ [])) ≡ false
      by true h next = next h
      by false h next = refl

  -- ---- a handler that goes to a label

  module _ (hs : List Head) (f s : Signature) (tag d : ℕ) where
    module _ (there : cx.of_module.tag_at tag ≡ Some s) where
      abbrev clauses_of : Option (List ValType × ValType) → Option (List Clause)
      clauses_of o = option_map (λ (c : Clause). c ∷ []) (option_and_then (suspension_clause cx.of_module f d s) o)

      with_tag : is_fitting_handler cx hs f (OnLabel tag d) ≡ are_fitting_clauses cx hs (clauses_of (split_last (label_types_at cx hs d)))
      with_tag =
          ap (λ o. are_fitting_clauses cx hs (option_and_then (λ (s : Signature). option_map (λ (c : Clause). c ∷ []) (option_and_then (suspension_clause cx.of_module f d s) (split_last (label_types_at cx hs d)))) o)) there

      pub label_empty : label_types_at cx hs d ≡ [] → is_fitting_handler cx hs f (OnLabel tag d) ≡ false
      label_empty n = with_tag ∙ ap (λ ts. are_fitting_clauses cx hs (clauses_of (split_last ts))) n

      module _ (others : List ValType) (last : ValType) (ends : label_types_at cx hs d ≡ others ++ last ∷ []) where
        -- it continues what is resumed, and the label takes what it carries
        pub label_ends : is_fitting_handler cx hs f (OnLabel tag d) ≡ (continues cx.of_module f s (referenced_continuation cx.of_module last) && clause_fits cx hs (clause_to d (s.params ++ last ∷ [])))
        label_ends =
            with_tag
            ∙ ap (λ ts. are_fitting_clauses cx hs (clauses_of (split_last ts))) ends
            ∙ ap (λ o. are_fitting_clauses cx hs (clauses_of o)) (split_last_of others last)
            ∙ by (continues cx.of_module f s (referenced_continuation cx.of_module last))
          where
            by : (b : Bool) → are_fitting_clauses cx hs (option_map (λ (c : Clause). c ∷ []) (guard b (Some (clause_to d (s.params ++ last ∷ []))))) ≡ (b && clause_fits cx hs (clause_to d (s.params ++ last ∷ [])))
            by true = one (clause_fits cx hs (clause_to d (s.params ++ last ∷ [])))
              where
                one : (b : Bool) → (b && true) ≡ b
                one true = refl
                one false = refl
            by false = refl

        pub not_continued : continues cx.of_module f s (referenced_continuation cx.of_module last) ≡ false → is_fitting_handler cx hs f (OnLabel tag d) ≡ false
        not_continued n = label_ends ∙ ap (λ b. b && clause_fits cx hs (clause_to d (s.params ++ last ∷ []))) n

        pub not_carried : clause_fits cx hs (clause_to d (s.params ++ last ∷ [])) ≡ false → is_fitting_handler cx hs f (OnLabel tag d) ≡ false
        not_carried n = label_ends ∙ ap (λ b. continues cx.of_module f s (referenced_continuation cx.of_module last) && b) n ∙ and_false (continues cx.of_module f s (referenced_continuation cx.of_module last))

        pub both_hold : continues cx.of_module f s (referenced_continuation cx.of_module last) ≡ true → clause_fits cx hs (clause_to d (s.params ++ last ∷ [])) ≡ true → is_fitting_handler cx hs f (OnLabel tag d) ≡ true
        both_hold h k = label_ends ∙ true_and _ _ h k

  -- ---- all handlers

  -- none is left
  pub handlers_done : (hs : List Head) (f : Signature) (handlers : List Handle) (i : ℕ) → length handlers ≤ i → are_fitting_handlers cx hs f (drop i handlers) ≡ true
  handlers_done hs f [] zero l = refl
  handlers_done hs f [] (suc i) l = refl
  handlers_done hs f (h ∷ handlers) zero l = absurd (omega (arith, l))
  handlers_done hs f (h ∷ handlers) (suc i) l = handlers_done hs f handlers i (omega (arith, l))

  -- the clauses of all, where each handler fits
  appended : (hs : List Head) (xs ys : List Clause) → clauses_fit cx hs (xs ++ ys) ≡ (clauses_fit cx hs xs && clauses_fit cx hs ys)
  appended hs [] ys = refl
  appended hs (x ∷ xs) ys = ap (λ b. clause_fits cx hs x && b) (appended hs xs ys) ∙ sym (assoc (clause_fits cx hs x) (clauses_fit cx hs xs) (clauses_fit cx hs ys))
    where
      assoc : (a b c : Bool) → ((a && b) && c) ≡ (a && (b && c))
      assoc true b c = refl
      assoc false b c = refl

  pub clauses_by : (hs : List Head) (f : Signature) (handlers : List Handle) → are_fitting_handlers cx hs f handlers ≡ are_fitting_clauses cx hs (all_clauses cx hs f handlers)
  clauses_by hs f [] = refl
  clauses_by hs f (h ∷ handlers) =
      ap (λ b. is_fitting_handler cx hs f h && b) (clauses_by hs f handlers)
      ∙ by (handler_clauses cx hs f h) (all_clauses cx hs f handlers)
    where
      by : (o p : Option (List Clause)) → (are_fitting_clauses cx hs o && are_fitting_clauses cx hs p) ≡ are_fitting_clauses cx hs (option_and_then (λ (clauses : List Clause). option_map (λ (others : List Clause). clauses ++ others) p) o)
      by None p = refl
      by (Some clauses) None = and_false (clauses_fit cx hs clauses)
      by (Some clauses) (Some others) = sym (appended hs clauses others)
