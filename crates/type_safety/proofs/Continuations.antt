-- Operators on continuations keep what the law asks of operators: what a handler carries lies below the types
-- of its label.
use Rattle.std.proofs.Common.{◌≡◌, ℕ, zero, suc, Bool, true, List, [], ◌∷◌, ◌++◌, drop, map, Option, Some, refl, subst, slice_get}
use Rattle.validate_resources.specs.Context.{IsLawful}
use Rattle.validate_types.specs.Refs.{nullable_reference, non_null_reference}
use Rattle.validate_types.specs.declared.heap.HeapType.TheVariants.{Concrete}
use Rattle.validate_visit.specs.declared.op.ContinuationOp.{ContinuationOp}
use Rattle.validate_visit.specs.declared.op.ContinuationOp.TheVariants.{ContNew, ContBind, Suspend, Resume, ResumeThrow, ResumeThrowRef, Switch}
use Rattle.validate_visit.specs.declared.resume.Handle.{Handle}
use Rattle.validation_rules.specs.Casts.{split_last}
use Rattle.validation_rules.specs.Context.{Signature, ValType, Ref, Context}
use Rattle.validation_rules.specs.Continuations.{continuation_type, continuation_signature, referenced_continuation, all_clauses, clause_target, resumed_row, resuming_row, continuation_row}
use Rattle.validation_rules.specs.Exceptions.{exception, exception_types}
use Rattle.validation_rules.specs.Indirect.{type_reference}
use Rattle.validation_rules.specs.Operators.{plain_row_if, lookups_row, staying_operator}
use Rattle.validation_rules.specs.Rows.{Head, Clause, Target, Row}
use Rattle.validation_rules.specs.Static.{label_accepts, clause_fits, clauses_fit}
use Rattle.validation_rules.proofs.Below.{and_true, below_of_fit}
use Rattle.validation_rules.proofs.Steps.{some_injective}
use Rattle.type_safety.proofs.Laws.{HeadAccepts, IsLawfulRow, IsLawfulOperator}
use Rattle.type_safety.proofs.Plain.{plain_monotone, no_target, found_lawful, flat_lawful}

module _ (cx : Context) (laws : IsLawful cx.of_module) where
  -- a label that takes a clause
  accepted : (hs : List Head) (types : List ValType) → label_accepts cx hs types ≡ true → HeadAccepts cx hs types
  accepted [] types h = absurd cc
  accepted (k ∷ hs) types h = below_of_fit cx types _ h

  -- each handler of them does
  handlers_reach : (hs : List Head) (ys : List ValType) (clauses : List Clause) → clauses_fit cx hs clauses ≡ true → (j : ℕ) (t : Target) → slice_get (map clause_target clauses) j ≡ Some t → HeadAccepts cx (drop t.depth hs) (t.carried ys)
  handlers_reach hs ys [] h j t e = absurd cc
  handlers_reach hs ys (c ∷ clauses) h zero t e =
      subst (λ (v : Target). HeadAccepts cx (drop v.depth hs) (v.carried ys)) (some_injective (clause_target c) t e)
      (accepted (drop c.depth hs) c.types (and_true (clause_fits cx hs c) _ h).0)
  handlers_reach hs ys (c ∷ clauses) h (suc j) t e = handlers_reach hs ys clauses (and_true (clause_fits cx hs c) _ h).1 j t e

  resumed_lawful : (hs : List Head) (f : Signature) (expected : List ValType) (t : ValType) (clauses : List Clause) → IsLawfulRow cx hs (resumed_row cx hs f expected t clauses)
  resumed_lawful hs f expected t clauses =
      record {
        monotone = plain_monotone cx laws (expected ++ t ∷ []) [] f.results;
        reaches = λ ys pushed p g j u e. handlers_reach hs ys clauses p j u e;
      }

  -- rows that reach no label
  plain_row_lawful : (hs : List Head) (premise : Bool) (expected push : List ValType) → IsLawfulRow cx hs (plain_row_if premise expected push)
  plain_row_lawful hs premise expected push = no_target cx laws hs _ refl (plain_monotone cx laws expected [] push)

  by_two : {A B : Type 0} (hs : List Head) (o : Option A) (p : Option B) (row : A → B → Row) → ((x : A) (y : B) → IsLawfulRow cx hs (row x y)) → IsLawfulRow cx hs (lookups_row o p row)
  by_two hs o p row h = found_lawful cx laws hs o _ (λ x. found_lawful cx laws hs p (row x) (λ y. h x y))

  resuming_lawful : (hs : List Head) (expected : Signature → Option (List ValType)) (i : ℕ) (handlers : List Handle) → IsLawfulRow cx hs (resuming_row cx hs expected i handlers)
  resuming_lawful hs expected i handlers =
      by_two hs (continuation_signature cx i) (type_reference cx nullable_reference i) _
      (λ f t. by_two hs (expected f) (all_clauses cx hs f handlers) _ (λ ts clauses. resumed_lawful hs f ts t clauses))

  row_lawful : (hs : List Head) (op : ContinuationOp) → IsLawfulRow cx hs (continuation_row cx hs op)
  row_lawful hs (ContNew i) =
      by_two hs (continuation_type cx i) (type_reference cx non_null_reference i) _
      (λ f t. plain_row_lawful hs _ (Ref (nullable_reference (Concrete f)) ∷ []) (t ∷ []))
  row_lawful hs (ContBind i j) =
      by_two hs (continuation_signature cx i) (continuation_signature cx j) _
      (λ f g. by_two hs (type_reference cx nullable_reference i) (type_reference cx non_null_reference j) _ (λ t u. plain_row_lawful hs _ _ _))
  row_lawful hs (Suspend tag) = found_lawful cx laws hs (cx.of_module.tag_at tag) _ (λ s. plain_row_lawful hs _ s.params s.results)
  row_lawful hs (Resume i table) = resuming_lawful hs (λ f. Some f.params) i table.handlers.now
  row_lawful hs (ResumeThrow i tag table) = resuming_lawful hs (λ f. exception_types cx.of_module tag) i table.handlers.now
  row_lawful hs (ResumeThrowRef i table) = resuming_lawful hs (λ f. Some (Ref (nullable_reference exception) ∷ [])) i table.handlers.now
  row_lawful hs (Switch i tag) =
      by_two hs (continuation_signature cx i) (type_reference cx nullable_reference i) _
      (λ f t. by_two hs _ (split_last f.params) _ (λ types p. found_lawful cx laws hs (referenced_continuation cx.of_module p.1) _ (λ g. plain_row_lawful hs _ (p.0 ++ t ∷ []) g.params)))

  pub continuations_lawful : (op : ContinuationOp) → IsLawfulOperator cx (staying_operator (λ hs. continuation_row cx hs op))
  continuations_lawful op = flat_lawful cx laws _ (λ hs. row_lawful hs op)
