-- What operators on structs and arrays push is valid.
use Rattle.std.proofs.Common.{◌≡◌, ℕ, Bool, ◌&&◌, List, [], ◌∷◌, Option, Some, refl, ap, ◌∙◌, subst, slice_get, is_none}
use Rattle.std.specs.List.{AllByRecursion}
use Rattle.std.specs.Option.{option_map}
use Rattle.validate_types.specs.Features.{has}
use Rattle.validate_types.specs.declared.refs.RefType.{RefType}
use Rattle.validate_types.specs.declared.heap.AbstractHeapType.TheVariants.{Array as AnyArray}
use Rattle.validate_types.specs.declared.heap.HeapType.{HeapType}
use Rattle.validate_types.specs.declared.heap.HeapType.TheVariants.{Concrete}
use Rattle.validate_types.specs.declared.heap.UnpackedIndex.TheVariants.{Module}
use Rattle.validate_types.specs.declared.types.CompositeInnerType.{CompositeInnerType}
use Rattle.validate_types.specs.declared.types.CompositeInnerType.TheVariants.{Func as FuncKind, Array as ArrayKind, Struct as StructKind, Cont as ContKind}
use Rattle.validate_types.specs.declared.types.FieldType.{FieldType}
use Rattle.validate_types.specs.Refs.{nullable_reference, non_null_reference}
use Rattle.validate_types.specs.Types.{unpacked_type, unpacked_fields}
use Rattle.std.proofs.lemmas.Option.{slice_get-map}
use Rattle.validate_resources.specs.Context.{IsLawful, Valid, is_valid_heap, inner_fields}
use Rattle.validate_visit.specs.declared.op.FieldIndex.{FieldIndex}
use Rattle.validate_visit.specs.declared.op.StructOp.{StructOp}
use Rattle.validate_visit.specs.declared.op.StructOp.TheVariants.{StructNew, StructNewDefault, StructNewDesc, StructNewDefaultDesc, StructGet, StructGetPacked, StructSet}
use Rattle.validate_visit.specs.declared.op.ArrayOp.{ArrayOp}
use Rattle.validate_visit.specs.declared.op.ArrayOp.TheVariants.{ArrayNew, ArrayNewDefault, ArrayNewFixed, ArrayNewData, ArrayNewElem, ArrayGet, ArrayGetPacked, ArraySet, ArrayLen, ArrayFill, ArrayCopy, ArrayInitData, ArrayInitElem}
use Rattle.validation_rules.specs.Context.{Context, ValType, I32, Ref}
use Rattle.validation_rules.specs.Calls.{may_access}
use Rattle.validation_rules.specs.Indirect.{type_reference}
use Rattle.validation_rules.specs.Exact.{has_custom_descriptors, declared_heap, allocated_reference}
use Rattle.validation_rules.specs.Descriptors.{descriptor_at}
use Rattle.validation_rules.specs.Structs.{struct_fields, accessible_struct, struct_type, struct_field, field_value, is_packed_field, is_whole_field, struct_row}
use Rattle.validation_rules.specs.Arrays.{array_element, accessible_array, array_type, is_read_from_data, is_read_from_elements, may_be_copied, array_copy_row_for, array_row}
use Rattle.validation_rules.specs.Rows.{guard}
use Rattle.validation_rules.specs.Operators.{plain_row_if, row_operator, lookups_row}
use Rattle.validation_rules.proofs.PushesValid.{PushesValid}
use Rattle.validation_rules.proofs.Steps.{some_injective, guard_some, and_then_given, mapped_some}
use Rattle.validation_rules.proofs.Valid.{by_lookup_valid, get_valid, lookups_valid, measure_valid, plain_valid}

module _ (cx : Context) (laws : IsLawful cx.of_module) where
  type_reference_valid : (made : HeapType → RefType) → ((h : HeapType) → (made h).heap_type ≡ h) → (i : ℕ) (t : ValType) → type_reference cx made i ≡ Some t → Valid cx.of_module t
  type_reference_valid made same i t e =
      let m = mapped_some (λ h. Ref (made h)) (cx.of_module.canonical_heap (Concrete (Module i))) t e in
      subst (Valid cx.of_module) m.2 (ap (is_valid_heap cx.of_module) (same m.0) ∙ laws.checked_heap _ m.0 m.1)

  pub made_valid : (i : ℕ) (t : ValType) → type_reference cx non_null_reference i ≡ Some t → Valid cx.of_module t
  made_valid i t e = type_reference_valid non_null_reference (λ h. refl) i t e

  -- what is allocated
  pub allocated_valid : (i : ℕ) (t : ValType) → allocated_reference cx i ≡ Some t → Valid cx.of_module t
  allocated_valid i t e =
      let m = mapped_some (λ h. Ref (non_null_reference h)) (cx.of_module.canonical_heap (declared_heap (has_custom_descriptors cx) (Module i))) t e in
      subst (Valid cx.of_module) m.2 (laws.checked_heap _ m.0 m.1)

  pub struct_inner : (inner : CompositeInnerType) (fields : List FieldType) → struct_fields inner ≡ Some fields → inner_fields inner ≡ fields
  struct_inner (StructKind fs) fields e = some_injective _ _ e
  struct_inner (FuncKind f) fields e = absurd cc
  struct_inner (ArrayKind a) fields e = absurd cc
  struct_inner (ContKind c) fields e = absurd cc

  fields_valid : (i : ℕ) (fields : List FieldType) → struct_type cx i ≡ Some fields → AllByRecursion (Valid cx.of_module) (unpacked_fields fields)
  fields_valid i fields e =
      let b = and_then_given (cx.of_module.type_at i) (accessible_struct cx) fields e in
      let g = guard_some (may_access cx b.0.composite_type.shared) _ _ b.2 in
      subst (λ fs. AllByRecursion (Valid cx.of_module) (unpacked_fields fs)) (struct_inner _ fields g.1) (laws.types i b.0 b.1).fields

  pub field_in : (fields : List FieldType) (k : ℕ) (f : FieldType) → AllByRecursion (Valid cx.of_module) (unpacked_fields fields) → slice_get fields k ≡ Some f → Valid cx.of_module (field_value f)
  field_in fields k f v e =
      get_valid cx laws (unpacked_fields fields) k (field_value f) v
      (slice_get-map (λ (f : FieldType). unpacked_type f.element_type) fields k ∙ ap (option_map (λ (f : FieldType). unpacked_type f.element_type)) e)

  pub field_valid : (index : FieldIndex) (f : FieldType) → struct_field cx index ≡ Some f → Valid cx.of_module (field_value f)
  field_valid index f e =
      let b = and_then_given (struct_type cx index.struct_type_index) (λ fields. slice_get fields index.field_index) f e in
      field_in b.0 index.field_index f (fields_valid index.struct_type_index b.0 b.1) b.2

  pub array_inner : (inner : CompositeInnerType) (f : FieldType) → array_element inner ≡ Some f → inner_fields inner ≡ f ∷ []
  array_inner (ArrayKind a) f e = ap (λ (g : FieldType). g ∷ []) (some_injective _ _ e)
  array_inner (FuncKind s) f e = absurd cc
  array_inner (StructKind fs) f e = absurd cc
  array_inner (ContKind c) f e = absurd cc

  pub element_valid : (i : ℕ) (f : FieldType) → array_type cx i ≡ Some f → Valid cx.of_module (field_value f)
  element_valid i f e =
      let b = and_then_given (cx.of_module.type_at i) (accessible_array cx) f e in
      let g = guard_some (may_access cx b.0.composite_type.shared) _ _ b.2 in
      (subst (λ fs. AllByRecursion (Valid cx.of_module) (unpacked_fields fs)) (array_inner _ f g.1) (laws.types i b.0 b.1).fields).0

  abbrev struct_reference : FieldIndex → Option ValType
  struct_reference index = type_reference cx nullable_reference index.struct_type_index

  -- a row that makes a reference of this type
  made_pushed : {A : Type 0} (o : Option A) (i : ℕ) (premise : A → Bool) (expected : A → List ValType) → PushesValid cx (row_operator (lookups_row o (allocated_reference cx i) (λ a t. plain_row_if (premise a) (expected a) (t ∷ []))))
  made_pushed o i premise expected = lookups_valid cx laws o (allocated_reference cx i) (λ a t. plain_row_if (premise a) (expected a) (t ∷ [])) (λ a t e k. plain_valid cx laws _ _ _ _ (t ∷ []) _ (λ p. (allocated_valid i t k, tt)))

  -- a struct of this type, where it has no descriptor
  abbrev undescribed : ℕ → Option (List FieldType)
  undescribed i = guard (is_none (descriptor_at cx.of_module i)) (struct_type cx i)

  -- a row that reads a field
  value_pushed : (o : Option FieldType) (p : Option ValType) (premise : FieldType → Bool) (expected : ValType → List ValType) → ((f : FieldType) → o ≡ Some f → Valid cx.of_module (field_value f)) → PushesValid cx (row_operator (lookups_row o p (λ f t. plain_row_if (premise f) (expected t) (field_value f ∷ []))))
  value_pushed o p premise expected v = lookups_valid cx laws o p (λ f t. plain_row_if (premise f) (expected t) (field_value f ∷ [])) (λ f t e k. plain_valid cx laws _ _ _ _ (field_value f ∷ []) _ (λ q. (v f e, tt)))

  -- a row that pushes nothing
  nothing_left : (o : Option FieldType) (p : Option ValType) (premise : FieldType → Bool) (expected : FieldType → ValType → List ValType) → PushesValid cx (row_operator (lookups_row o p (λ f t. plain_row_if (premise f) (expected f t) [])))
  nothing_left o p premise expected = lookups_valid cx laws o p (λ f t. plain_row_if (premise f) (expected f t) []) (λ f t e k. plain_valid cx laws _ _ _ _ [] _ (λ q. tt))

  pub struct_valid : (op : StructOp) → PushesValid cx (row_operator (struct_row cx op))
  struct_valid (StructNew i) = made_pushed (undescribed i) i _ _
  struct_valid (StructNewDefault i) = made_pushed (undescribed i) i _ _
  struct_valid (StructNewDesc i) = by_lookup_valid cx laws (descriptor_at cx.of_module i) _ (λ d e. made_pushed (struct_type cx i) i _ _)
  struct_valid (StructNewDefaultDesc i) = by_lookup_valid cx laws (descriptor_at cx.of_module i) _ (λ d e. made_pushed (struct_type cx i) i _ _)
  struct_valid (StructGet index) = value_pushed (struct_field cx index) (struct_reference index) is_whole_field (λ t. t ∷ []) (field_valid index)
  struct_valid (StructGetPacked sign index) = value_pushed (struct_field cx index) (struct_reference index) is_packed_field (λ t. t ∷ []) (field_valid index)
  struct_valid (StructSet index) = nothing_left (struct_field cx index) (struct_reference index) (λ f. f.mutable) (λ f t. t ∷ field_value f ∷ [])

  abbrev array_reference : ℕ → Option ValType
  array_reference i = type_reference cx nullable_reference i

  pub array_valid : (op : ArrayOp) → PushesValid cx (row_operator (array_row cx op))
  array_valid (ArrayNew i) = made_pushed (array_type cx i) i _ _
  array_valid (ArrayNewDefault i) = made_pushed (array_type cx i) i _ _
  array_valid (ArrayNewFixed i n) = made_pushed (array_type cx i) i _ _
  array_valid (ArrayNewData i segment) = made_pushed (array_type cx i) i _ _
  array_valid (ArrayNewElem i segment) = made_pushed (array_type cx i) i _ _
  array_valid (ArrayGet i) = value_pushed (array_type cx i) (array_reference i) is_whole_field (λ t. t ∷ I32 ∷ []) (element_valid i)
  array_valid (ArrayGetPacked sign i) = value_pushed (array_type cx i) (array_reference i) is_packed_field (λ t. t ∷ I32 ∷ []) (element_valid i)
  array_valid (ArraySet i) = nothing_left (array_type cx i) (array_reference i) (λ f. f.mutable) (λ f t. t ∷ I32 ∷ field_value f ∷ [])
  array_valid ArrayLen = measure_valid cx laws AnyArray
  array_valid (ArrayFill i) = nothing_left (array_type cx i) (array_reference i) (λ f. f.mutable) (λ f t. t ∷ I32 ∷ field_value f ∷ I32 ∷ [])
  array_valid (ArrayCopy dst src) =
      lookups_valid cx laws (array_type cx dst) (array_reference dst) (array_copy_row_for cx src)
      (λ to d e k. nothing_left (array_type cx src) (array_reference src) (λ from. to.mutable && may_be_copied cx.of_module from.element_type to.element_type) (λ from s. d ∷ I32 ∷ s ∷ I32 ∷ I32 ∷ []))
  array_valid (ArrayInitData i segment) = nothing_left (array_type cx i) (array_reference i) (λ f. f.mutable && is_read_from_data cx.of_module segment f) (λ f t. t ∷ I32 ∷ I32 ∷ I32 ∷ [])
  array_valid (ArrayInitElem i segment) = nothing_left (array_type cx i) (array_reference i) (λ f. f.mutable && is_read_from_elements cx.of_module segment f) (λ f t. t ∷ I32 ∷ I32 ∷ I32 ∷ [])
