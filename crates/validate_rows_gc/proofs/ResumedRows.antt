-- The rows of what is resumed, once it was looked up.
use Rattle.std.proofs.Common.{◌≡◌, ℕ, true, false, List, [], ◌∷◌, ◌++◌, length, nat_eq, Option, Some, None, refl, sym, ap, ap₂, ◌∙◌}
use Rattle.std.specs.Option.{option_and_then, option_map}
use Rattle.validate_resources.specs.Context.{ModuleContext}
use Rattle.validate_types.specs.Refs.{nullable_reference}
use Rattle.validate_types.specs.declared.types.ValType.{ValType}
use Rattle.validate_visit.specs.declared.resume.Handle.{Handle}
use Rattle.validation_rules.specs.Context.{Signature, Context}
use Rattle.validation_rules.specs.Casts.{split_last}
use Rattle.validation_rules.specs.Continuations.{continuation_signature, all_clauses, resumed_row, resuming_row, referenced_continuation, switch_types, may_switch, switched_row, switch_row}
use Rattle.validation_rules.specs.Indirect.{type_reference}
use Rattle.validation_rules.specs.Operators.{plain_row, plain_row_if, lookup_row, lookups_row, staying_operator}
use Rattle.validation_rules.specs.Rows.{Head, Clause, Row, guard}
use Rattle.validation_rules.specs.Static.{Frame, State, step_in}
use Rattle.validate_stacks.specs.State.{BodyState, body_context}
use Rattle.validate_stacks.specs.Visits.{step_body}
use Rattle.validate_rows_gc.specs.Handlers.{are_fitting_clauses, are_fitting_handlers, IsNeverResumed}
use Rattle.validate_rows_gc.specs.Targets.{without_targets}
use Rattle.validate_rows_gc.proofs.HandlerLists.{split_last_of, clauses_by}

-- a row that two look-ups find, where the second finds nothing
never_second : {A B : Type 0} (o : Option A) (row : A → B → Row) → (lookups_row o None row).premise ≡ false
never_second None row = refl
never_second (Some x) row = refl

module _ (cx : Context) (hs : List Head) (i : ℕ) (handlers : List Handle) where
  pub not_a_continuation : continuation_signature cx i ≡ None → IsNeverResumed cx hs i handlers
  not_a_continuation n = record {
    barred = λ expected.
        ap (λ o. (lookups_row o (type_reference cx nullable_reference i) (λ (f : Signature) (t : ValType). lookups_row (expected f) (all_clauses cx hs f handlers) (λ ts clauses. resumed_row cx hs f ts t clauses))).premise) n;
  }

  pub not_a_reference : type_reference cx nullable_reference i ≡ None → IsNeverResumed cx hs i handlers
  not_a_reference n = record {
    barred = λ expected.
        let row : Signature → ValType → Row = λ f t. lookups_row (expected f) (all_clauses cx hs f handlers) (λ ts clauses. resumed_row cx hs f ts t clauses) in
        ap (λ o. (lookups_row (continuation_signature cx i) o row).premise) n ∙ never_second (continuation_signature cx i) row;
  }

  module _ (f : Signature) (is : continuation_signature cx i ≡ Some f) where
    pub not_handled : are_fitting_handlers cx hs f handlers ≡ false → IsNeverResumed cx hs i handlers
    not_handled n = record {
      barred = λ expected.
          ap (λ o. (lookups_row o (type_reference cx nullable_reference i) (λ (f : Signature) (t : ValType). lookups_row (expected f) (all_clauses cx hs f handlers) (λ ts clauses. resumed_row cx hs f ts t clauses))).premise) is
          ∙ referring (type_reference cx nullable_reference i) (expected f) (all_clauses cx hs f handlers) (sym (clauses_by cx hs f handlers) ∙ n);
    }
      where
        referring : (p : Option ValType) (o : Option (List ValType)) (q : Option (List Clause)) → are_fitting_clauses cx hs q ≡ false → (lookup_row p (λ (t : ValType). lookups_row o q (λ ts clauses. resumed_row cx hs f ts t clauses))).premise ≡ false
        referring None o q n = refl
        referring (Some t) None q n = refl
        referring (Some t) (Some ts) None n = refl
        referring (Some t) (Some ts) (Some clauses) n = n

    module _ (t : ValType) (refers : type_reference cx nullable_reference i ≡ Some t) (expected : Signature → Option (List ValType)) where
      abbrev row_for : Option (List ValType) → Option (List Clause) → Row
      row_for o q = lookups_row o q (λ ts clauses. resumed_row cx hs f ts t clauses)

      found_so_far : resuming_row cx hs expected i handlers ≡ row_for (expected f) (all_clauses cx hs f handlers)
      found_so_far =
          ap₂ (λ o p. lookups_row o p (λ (f : Signature) (t : ValType). lookups_row (expected f) (all_clauses cx hs f handlers) (λ ts clauses. resumed_row cx hs f ts t clauses))) is refers

      -- its step is that of a plain row
      pub resuming_is : (ts : List ValType) → expected f ≡ Some ts → are_fitting_handlers cx hs f handlers ≡ true → without_targets (resuming_row cx hs expected i handlers) ≡ plain_row (ts ++ t ∷ []) f.results
      resuming_is ts takes fit =
          ap without_targets (found_so_far ∙ ap (λ o. row_for o (all_clauses cx hs f handlers)) takes)
          ∙ by (all_clauses cx hs f handlers) (sym (clauses_by cx hs f handlers) ∙ fit)
        where
          by : (q : Option (List Clause)) → are_fitting_clauses cx hs q ≡ true → without_targets (row_for (Some ts) q) ≡ plain_row (ts ++ t ∷ []) f.results
          by None n = absurd cc
          by (Some clauses) h = ap (λ b. record (plain_row (ts ++ t ∷ []) f.results) { premise = b }) h

-- ---- `switch`

module _ (cx : Context) (i tag : ℕ) (f s : Signature) (is : continuation_signature cx i ≡ Some f) (there : cx.of_module.tag_at tag ≡ Some s) (takes_none : length s.params ≡ 0) (others : List ValType) (last : ValType) (ends : f.params ≡ others ++ last ∷ []) where
  abbrev switched : Option ValType → Row
  switched o = lookup_row o (λ t. switched_row cx s.results f t (others, last))

  switch_types_are : option_and_then switch_types (cx.of_module.tag_at tag) ≡ Some s.results
  switch_types_are = ap (option_and_then switch_types) there ∙ ap (λ n. guard (nat_eq n 0) (Some s.results)) takes_none

  switch_is : switch_row cx i tag ≡ switched (type_reference cx nullable_reference i)
  switch_is =
      ap (λ o. lookups_row o (type_reference cx nullable_reference i) (λ (f : Signature) (t : ValType). lookups_row (option_and_then switch_types (cx.of_module.tag_at tag)) (split_last f.params) (λ types p. switched_row cx types f t p))) is
      ∙ ap₂ (λ o p. lookup_row (type_reference cx nullable_reference i) (λ t. lookups_row o p (λ types p. switched_row cx types f t p))) switch_types_are (ap split_last ends ∙ split_last_of others last)

  pub no_other : referenced_continuation cx.of_module last ≡ None → (switch_row cx i tag).premise ≡ false
  no_other n =
      ap (λ (r : Row). r.premise) switch_is ∙ by (type_reference cx nullable_reference i)
    where
      by : (o : Option ValType) → (switched o).premise ≡ false
      by None = refl
      by (Some t) = ap (λ o. (lookup_row o (λ (g : Signature). plain_row_if (may_switch cx.of_module s.results f g) (others ++ t ∷ []) g.params)).premise) n

  module _ (g : Signature) (refers : referenced_continuation cx.of_module last ≡ Some g) where
    pub not_leading_back : may_switch cx.of_module s.results f g ≡ false → (switch_row cx i tag).premise ≡ false
    not_leading_back n =
        ap (λ (r : Row). r.premise) switch_is ∙ by (type_reference cx nullable_reference i)
      where
        by : (o : Option ValType) → (switched o).premise ≡ false
        by None = refl
        by (Some t) = ap (λ o. (lookup_row o (λ (g : Signature). plain_row_if (may_switch cx.of_module s.results f g) (others ++ t ∷ []) g.params)).premise) refers ∙ n

    pub leading_back : (t : ValType) → type_reference cx nullable_reference i ≡ Some t → may_switch cx.of_module s.results f g ≡ true → switch_row cx i tag ≡ plain_row (others ++ t ∷ []) g.params
    leading_back t e h =
        switch_is ∙ ap switched e
        ∙ ap (λ o. lookup_row o (λ (g : Signature). plain_row_if (may_switch cx.of_module s.results f g) (others ++ t ∷ []) g.params)) refers
        ∙ ap (λ b. plain_row_if b (others ++ t ∷ []) g.params) h

-- ---- the labels that a row may reach say nothing of its step

pub step_without : (md : ModuleContext) (v : BodyState) (row : Context → List Head → Row) → step_body md (λ c. staying_operator (λ hs. without_targets (row c hs))) v ≡ step_body md (λ c. staying_operator (row c)) v
step_without md v row = by v.present.frames
  where
    by : (fs : List Frame) → option_map (λ (s : State). record v { present = s }) (step_in (body_context md v) (staying_operator (λ hs. without_targets (row (body_context md v) hs))) fs v.present.left) ≡ option_map (λ (s : State). record v { present = s }) (step_in (body_context md v) (staying_operator (row (body_context md v))) fs v.present.left)
    by [] = refl
    by (f ∷ fs) = refl
