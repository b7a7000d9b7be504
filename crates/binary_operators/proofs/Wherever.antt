-- What bytes are read as doesn't depend on where the list lies by which indices of types are read.
use Rattle.std.proofs.Common.{◌≡◌, ℕ, ◌+◌, ◌*◌, ◌%◌, ◌/◌, List, [], ◌∷◌, Bool, true, false, if◌then◌else◌, nat_eq, nat_lt, Option, Some, None, is_some, slice_get, refl, sym, ap, ◌∙◌}
use Rattle.std.specs.Option.{option_and_then}
use Rattle.binary_operators.specs.Expressions.{AreOperators}
use Rattle.binary_operators.specs.Forms.{from, forms, forms_behind}
use Rattle.binary_operators.specs.Functions.{IsFunctionCode, locals}
use Rattle.binary_operators.specs.Immediates.{block_type, of_value, of_function, cast, cast_behind}
use Rattle.binary_operators.specs.Instructions.{operator, operator_of, operator_by, prefixed_op, type_op, typed_index_op, two_type_op, heap_op, cast_op, block_op, select_op, try_table_op, resume_op, resume_throw_op, field_op, array_op}
use Rattle.binary_operators.specs.Integers.{unsigned}
use Rattle.binary_operators.specs.Types.{name_of, named, unshared_heap, heap_type, reference_type, ref_type, value_of, value_type, type_number, abstract_type, number_type}
use Rattle.binary_operators.specs.Values.{list_of}
use Rattle.binary_operators.specs.declared.forms.Form.{Form}
use Rattle.binary_operators.specs.declared.forms.Form.TheVariants.{Illegal, Plain, Block, Index, TwoIndices, TypeIndex, TypedIndex, TwoTypes, Heap, Cast, Access, I32, I64, F32, F64, Conversion, Labels, Types, Clauses, Handlers, Thrown, Fence, Global, Field, Prefix, Vector}
use Rattle.binary_operators.specs.declared.forms.Form.TheVariants.{Atomic as OfAtomic, Numeric as OfNumeric, Table as OfTable, Array as OfArray}
use Rattle.binary_operators.specs.declared.types.CanonicalTypes.{CanonicalTypes}
use Rattle.binary_operators.specs.declared.types.GroupNames.{GroupNames}
use Rattle.validate_types.specs.declared.heap.AbstractHeapType.{AbstractHeapType}
use Rattle.validate_types.specs.declared.heap.HeapType.{HeapType}
use Rattle.validate_types.specs.declared.heap.HeapType.TheVariants.{Concrete, Exact}
use Rattle.validate_types.specs.declared.heap.UnpackedIndex.{UnpackedIndex}
use Rattle.validate_types.specs.declared.types.ValType.{ValType}
use Rattle.validate_visit.specs.declared.op.Op.{Op}

abbrev pub lying : ℕ × ℕ → List ℕ → GroupNames → CanonicalTypes
lying p l g = record { canonical = record { ref_ptr = p; now = l }; group = g }

if_same : {A : Type 0} → (b : Bool) (x x' y y' : A) → x ≡ x' → y ≡ y' → (if b then x else y) ≡ (if b then x' else y')
if_same true x x' y y' e f = e
if_same false x x' y y' e f = f

read_on : {A B : Type 0} → (o : Option A) (f g : A → Option B) → ((a : A) → f a ≡ g a) → option_and_then f o ≡ option_and_then g o
read_on None f g h = refl
read_on (Some a) f g h = h a

both_read : {A B : Type 0} → (o p : Option A) (f g : A → Option B) → o ≡ p → ((a : A) → f a ≡ g a) → option_and_then f o ≡ option_and_then g p
both_read o p f g e h = ap (option_and_then f) e ∙ read_on p f g h

module _ (p q : ℕ × ℕ) (l : List ℕ) (g : GroupNames) where
  abbrev pub s : CanonicalTypes
  s = lying p l g

  abbrev pub t : CanonicalTypes
  t = lying q l g

  name_same : (o : Option ℕ) (i : ℕ) → name_of o s i ≡ name_of o t i
  name_same None i = refl
  name_same (Some first) i = refl

  named_same : (heap : UnpackedIndex → HeapType) (o : Option (ℕ × List ℕ)) → named heap s o ≡ named heap t o
  named_same heap None = refl
  named_same heap (Some i) = ap (λ (u : UnpackedIndex). Some (heap u, i.1)) (name_same (slice_get l i.0) i.0)

  unshared_same : (o : Option AbstractHeapType) (code : ℕ) (bytes : List ℕ) → unshared_heap s o code bytes ≡ unshared_heap t o code bytes
  unshared_same (Some ty) code bytes = refl
  unshared_same None code bytes =
      if_same (nat_eq code 0x62) _ _ _ _ (named_same Exact (unsigned 32 bytes)) (named_same Concrete (type_number (code ∷ bytes)))

  heap_same : (bytes : List ℕ) → heap_type s bytes ≡ heap_type t bytes
  unfolding heap_type
  heap_same [] = refl
  heap_same (code ∷ bytes) = if_same (nat_eq code 0x65) _ _ _ _ refl (unshared_same (abstract_type code) code bytes)

  reference_same : (nullable : Bool) (bytes : List ℕ) → reference_type s nullable bytes ≡ reference_type t nullable bytes
  unfolding reference_type
  reference_same nullable bytes = ap (option_and_then _) (heap_same bytes)

  ref_same : (bytes : List ℕ) → ref_type s bytes ≡ ref_type t bytes
  unfolding ref_type
  ref_same [] = refl
  ref_same (code ∷ bytes) =
      if_same (nat_eq code 0x63) _ _ _ _ (reference_same true bytes)
      (if_same (nat_eq code 0x64) _ _ _ _ (reference_same false bytes)
      (if_same (nat_eq code 0x65) _ _ _ _ (reference_same true (code ∷ bytes))
      (if_same (is_some (abstract_type code)) _ _ None None (reference_same true (code ∷ bytes)) refl)))

  of_type_same : (o : Option ValType) (bytes : List ℕ) → value_of s o bytes ≡ value_of t o bytes
  of_type_same (Some ty) bytes = refl
  of_type_same None bytes = ap (option_and_then _) (ref_same bytes)

  value_same : (bytes : List ℕ) → value_type s bytes ≡ value_type t bytes
  unfolding value_type
  value_same [] = refl
  value_same (code ∷ bytes) = of_type_same (number_type code) (code ∷ bytes)

  of_function_same : (o : Option (ℕ × List ℕ)) → of_function s o ≡ of_function t o
  of_function_same None = refl
  of_function_same (Some i) = refl

  block_same : (bytes : List ℕ) → block_type s bytes ≡ block_type t bytes
  unfolding block_type
  block_same [] = refl
  block_same (code ∷ bytes) =
      if_same (nat_eq code 0x40) _ _ _ _ refl
      (if_same _ _ _ _ _ (ap of_value (value_same (code ∷ bytes))) (of_function_same (type_number (code ∷ bytes))))

  cast_behind_same : (flags : ℕ) (bytes : List ℕ) → cast_behind s flags bytes ≡ cast_behind t flags bytes
  cast_behind_same flags bytes =
      read_on (unsigned 32 bytes) _ _ (λ label.
      both_read (reference_type s (nat_eq (flags % 2) 1) label.1) (reference_type t (nat_eq (flags % 2) 1) label.1) _ _ (reference_same (nat_eq (flags % 2) 1) label.1)
      (λ source. ap (option_and_then _) (reference_same (nat_eq (flags / 2) 1) source.1)))

  cast_same : (bytes : List ℕ) → cast s bytes ≡ cast t bytes
  unfolding cast
  cast_same [] = refl
  cast_same (flags ∷ bytes) = if_same (nat_lt flags 4) _ _ _ _ (cast_behind_same flags bytes) refl

  form_same : (form : Form) (code : ℕ) (bytes : List ℕ) → operator_by form code s bytes ≡ operator_by form code t bytes
  unfolding type_op typed_index_op two_type_op heap_op cast_op block_op select_op try_table_op resume_op resume_throw_op field_op array_op
  form_same Illegal code bytes = refl
  form_same Plain code bytes = refl
  form_same Block code bytes = ap (option_and_then _) (block_same bytes)
  form_same Index code bytes = refl
  form_same TwoIndices code bytes = refl
  form_same TypeIndex code bytes = refl
  form_same TypedIndex code bytes = refl
  form_same TwoTypes code bytes = refl
  form_same Heap code bytes = ap (option_and_then _) (heap_same bytes)
  form_same Cast code bytes = ap (option_and_then _) (cast_same bytes)
  form_same Access code bytes = refl
  form_same OfAtomic code bytes = refl
  form_same I32 code bytes = refl
  form_same I64 code bytes = refl
  form_same F32 code bytes = refl
  form_same F64 code bytes = refl
  form_same OfNumeric code bytes = refl
  form_same Conversion code bytes = refl
  form_same Labels code bytes = refl
  form_same Types code bytes =
      ap (option_and_then _) (ap (λ (r : List ℕ → Option (ValType × List ℕ)). list_of r bytes) (λ i bs. value_same bs i))
  form_same Clauses code bytes = ap (option_and_then _) (block_same bytes)
  form_same Handlers code bytes = refl
  form_same Thrown code bytes = refl
  form_same Fence code bytes = refl
  form_same Global code bytes = refl
  form_same OfTable code bytes = refl
  form_same Field code bytes = refl
  form_same OfArray code bytes = refl
  form_same Prefix code bytes = refl
  form_same Vector code bytes = refl

  prefixed_same : (prefix : ℕ) (bytes : List ℕ) → prefixed_op prefix s bytes ≡ prefixed_op prefix t bytes
  unfolding prefixed_op
  prefixed_same prefix bytes =
      read_on (unsigned 32 bytes) _ _ (λ code.
      read_on (from 0 (forms_behind prefix) code.0) _ _ (λ form. form_same form (prefix * 0x100 + code.0) code.1))

  of_form_same : (form : Option Form) (code : ℕ) (bytes : List ℕ) → operator_of form code s bytes ≡ operator_of form code t bytes
  of_form_same None code bytes = refl
  of_form_same (Some Prefix) code bytes = prefixed_same code bytes
  of_form_same (Some form) code bytes = form_same form code bytes

  operator_same : (bytes : List ℕ) → operator s bytes ≡ operator t bytes
  unfolding operator
  operator_same [] = refl
  operator_same (code ∷ bytes) = of_form_same (from 0 forms code) code bytes

  pub operators_same : (ops : List Op) (bytes rest : List ℕ) → AreOperators s bytes ops rest → AreOperators t bytes ops rest
  operators_same [] bytes rest h = h
  operators_same (op ∷ ops) bytes rest h = (h.0, sym (operator_same bytes) ∙ h.1, operators_same ops h.0 rest h.2)

  locals_same : (bytes : List ℕ) → locals s bytes ≡ locals t bytes
  locals_same bytes = read_on (unsigned 32 bytes) _ _ (λ count. ap (option_and_then _) (value_same count.1))

  pub function_same : (bytes : List ℕ) (groups : List (ℕ × ValType)) (ops : List Op) → IsFunctionCode s bytes groups ops → IsFunctionCode t bytes groups ops
  function_same bytes groups ops c = record {
    behind = c.behind;
    has_locals = sym (ap (λ (r : List ℕ → Option ((ℕ × ValType) × List ℕ)). list_of r bytes) (λ i bs. locals_same bs i)) ∙ c.has_locals;
    has_operators = operators_same ops c.behind [] c.has_operators;
  }
