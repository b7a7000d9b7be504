-- Operators on continuations keep the state valid.
use Rattle.std.proofs.Common.{◌≡◌, ℕ, Bool, true, List, [], ◌∷◌, ◌++◌, map, Option, Some, None, refl, subst}
use Rattle.std.specs.List.{AllByRecursion}
use Rattle.validate_resources.specs.Context.{IsLawful, Valid, AllValid, continued_signature, signature_of}
use Rattle.validate_types.specs.Refs.{nullable_reference, non_null_reference}
use Rattle.validate_types.specs.declared.heap.CoreTypeId.{CoreTypeId}
use Rattle.validate_types.specs.declared.heap.HeapType.TheVariants.{Concrete}
use Rattle.validate_types.specs.declared.heap.UnpackedIndex.{UnpackedIndex}
use Rattle.validate_types.specs.declared.heap.UnpackedIndex.TheVariants.{Module, Id}
use Rattle.validate_visit.specs.Arity.{id_in}
use Rattle.validate_visit.specs.declared.op.ContinuationOp.{ContinuationOp}
use Rattle.validate_visit.specs.declared.op.ContinuationOp.TheVariants.{ContNew, ContBind, Suspend, Resume}
use Rattle.validate_visit.specs.declared.op.ContinuationOp.TheVariants.{ResumeThrow, ResumeThrowRef, Switch}
use Rattle.validate_visit.specs.declared.resume.Handle.{Handle}
use Rattle.validation_rules.specs.Casts.{split_last}
use Rattle.validation_rules.specs.Context.{Signature, ValType, I32, I64, F32, F64, V128, Ref, Context}
use Rattle.validation_rules.specs.Continuations.{continuation_type, continuation_signature, named_continuation, referenced_continuation, all_clauses, may_bind, bound_count, resumed_row, resuming_row, switch_types, may_switch, switched_row, continuation_row}
use Rattle.validation_rules.specs.Exceptions.{exception, exception_types}
use Rattle.validation_rules.specs.Fits.{MaybeType, Known}
use Rattle.validation_rules.specs.Indirect.{type_reference}
use Rattle.validation_rules.specs.Rows.{Head, Plain, Row, pushed_for}
use Rattle.validation_rules.specs.Operators.{plain_row, plain_row_if, lookup_row, lookups_row, staying_operator}
use Rattle.validation_rules.specs.Valid.{IsValidOperand}
use Rattle.validation_rules.proofs.PushesValid.{PushesValid}
use Rattle.validation_rules.proofs.Steps.{some_injective, guard_some, and_then_given}
use Rattle.validation_rules.proofs.Valid.{all_known}
use Rattle.validation_rules.proofs.ValidAggregates.{made_valid}

module _ (cx : Context) (laws : IsLawful cx.of_module) where
  -- what a function type takes and gives is valid
  abbrev BothValid : Signature → Type 0
  BothValid f = AllValid cx.of_module f.params × AllValid cx.of_module f.results

  pub continued_valid : (u : UnpackedIndex) (f : Signature) → continued_signature cx.of_module u ≡ Some f → BothValid f
  continued_valid (Module i) f e = absurd cc
  continued_valid (Id id) f e =
      let s = and_then_given (cx.of_module.type_of_id id) signature_of f e in
      let v = laws.types_of_ids id s.0 s.1 in
      (v.params f s.2, v.results f s.2)

  pub continuation_valid : (i : ℕ) (f : Signature) → continuation_signature cx i ≡ Some f → BothValid f
  continuation_valid i f e =
      let u = and_then_given (continuation_type cx i) (continued_signature cx.of_module) f e in
      continued_valid u.0 f u.2

  pub referenced_valid : (t : ValType) (f : Signature) → referenced_continuation cx.of_module t ≡ Some f → BothValid f
  referenced_valid (Ref r) f e =
      let id = and_then_given (id_in r.heap_type) (named_continuation cx.of_module) f e in
      let u = and_then_given _ (continued_signature cx.of_module) f id.2 in
      continued_valid u.0 f u.2
  referenced_valid I32 f e = absurd cc
  referenced_valid I64 f e = absurd cc
  referenced_valid F32 f e = absurd cc
  referenced_valid F64 f e = absurd cc
  referenced_valid V128 f e = absurd cc

  -- ---- rows, one by one

  -- what the row pushes is valid
  abbrev GivesValid : Row → Type 0
  GivesValid r = (found pushed : List MaybeType) → r.premise ≡ true → pushed_for cx r.type found ≡ Some pushed → AllByRecursion (IsValidOperand cx.of_module) pushed

  plain_gives : (premise : Bool) (expected push : List ValType) → AllValid cx.of_module push → (found pushed : List MaybeType) → premise ≡ true → pushed_for cx (Plain expected [] push) found ≡ Some pushed → AllByRecursion (IsValidOperand cx.of_module) pushed
  plain_gives premise expected push v found pushed p g =
      subst (AllByRecursion (IsValidOperand cx.of_module)) (some_injective _ _ (guard_some _ _ _ g).1) (all_known cx.of_module push v)

  lookup_gives : {A : Type 0} (o : Option A) (row : A → Row) → ((x : A) → o ≡ Some x → GivesValid (row x)) → GivesValid (lookup_row o row)
  lookup_gives None row h = plain_gives _ [] [] tt
  lookup_gives (Some x) row h = h x refl

  lookups_give : {A B : Type 0} (o : Option A) (p : Option B) (row : A → B → Row) → ((x : A) (y : B) → o ≡ Some x → p ≡ Some y → GivesValid (row x y)) → GivesValid (lookups_row o p row)
  lookups_give o p row h = lookup_gives o _ (λ x e. lookup_gives p (row x) (λ y k. h x y e k))

  resuming_gives : (hs : List Head) (expected : Signature → Option (List ValType)) (i : ℕ) (handlers : List Handle) → GivesValid (resuming_row cx hs expected i handlers)
  resuming_gives hs expected i handlers =
      lookups_give (continuation_signature cx i) (type_reference cx nullable_reference i) _
      (λ f t e k. lookups_give (expected f) (all_clauses cx hs f handlers) _ (λ ts clauses w c. plain_gives _ (ts ++ t ∷ []) f.results (continuation_valid i f e).1))

  row_gives : (hs : List Head) (op : ContinuationOp) → GivesValid (continuation_row cx hs op)
  row_gives hs (ContNew i) =
      lookups_give (continuation_type cx i) (type_reference cx non_null_reference i) _
      (λ f t e k. plain_gives _ (Ref (nullable_reference (Concrete f)) ∷ []) (t ∷ []) (made_valid cx laws i t k, tt))
  row_gives hs (ContBind i j) =
      lookups_give (continuation_signature cx i) (continuation_signature cx j) _
      (λ f g e k. lookups_give (type_reference cx nullable_reference i) (type_reference cx non_null_reference j) _ (λ t u a b. plain_gives _ _ (u ∷ []) (made_valid cx laws j u b, tt)))
  row_gives hs (Suspend tag) =
      lookup_gives (cx.of_module.tag_at tag) _ (λ s e. plain_gives _ s.params s.results (laws.tags tag s e).1)
  row_gives hs (Resume i table) = resuming_gives hs (λ f. Some f.params) i table.handlers.now
  row_gives hs (ResumeThrow i tag table) = resuming_gives hs (λ f. exception_types cx.of_module tag) i table.handlers.now
  row_gives hs (ResumeThrowRef i table) = resuming_gives hs (λ f. Some (Ref (nullable_reference exception) ∷ [])) i table.handlers.now
  row_gives hs (Switch i tag) =
      lookups_give (continuation_signature cx i) (type_reference cx nullable_reference i) _
      (λ f t e k. lookups_give _ (split_last f.params) _ (λ types p a b. lookup_gives (referenced_continuation cx.of_module p.1) _ (λ g r. plain_gives _ (p.0 ++ t ∷ []) g.params (referenced_valid p.1 g r).0)))

  pub continuations_valid : (op : ContinuationOp) → PushesValid cx (staying_operator (λ hs. continuation_row cx hs op))
  continuations_valid op =
      record {
        pushed = λ hs found pushed p v f g. row_gives hs op found pushed p g;
        opened = λ hs h p e. absurd cc;
        begun = λ hs all types p e. absurd cc;
      }
