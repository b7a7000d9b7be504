-- What a validator knows of a lookup in which two indices name each type of another one (the crate's own): 2i and
-- 2i + 1 name its type i, with one id, and the second of the two tells a function's type. All else is the other
-- one's, and so are the laws.
use Rattle.std.specs.Prelude.{◌≡◌, ℕ, ◌+◌, ◌*◌, ◌/◌, true, List, [], ◌∷◌, is_some, refl}
use Rattle.std.specs.Option.{option_map}
use Rattle.std.proofs.Common.{sym, ap, ◌∙◌, subst}
use Rattle.validate_types.specs.Refs.{reference}
use Rattle.validate_types.specs.Types.{unpacked_fields}
use Rattle.validate_types.specs.declared.heap.HeapType.{HeapType}
use Rattle.validate_types.specs.declared.heap.HeapType.TheVariants.{Abstract, Concrete, Exact}
use Rattle.validate_types.specs.declared.heap.UnpackedIndex.{UnpackedIndex}
use Rattle.validate_types.specs.declared.heap.UnpackedIndex.TheVariants.{Module, Id}
use Rattle.validate_types.specs.declared.refs.RefType.{RefType}
use Rattle.validate_types.specs.declared.types.SubType.{SubType}
use Rattle.validate_types.specs.declared.types.ValType.{ValType}
use Rattle.validate_types.specs.declared.types.ValType.TheVariants.{I32, I64, F32, F64, V128, Ref}
use Rattle.validate_resources.specs.Context.{ModuleContext, IsLawful, IsBelowReference, IsTop, IsValidType, IsContinuation}
use Rattle.validate_resources.specs.Context.{IsBelowExact, IsCheckedIndex, type_named}
use Rattle.validate_resources.specs.Context.{Valid, AllValid, is_valid, is_valid_index, is_valid_heap}
use Rattle.validate_resources.specs.Context.{continued_signature, fields_of}
use Rattle.validate_resources.specs.Order.{kind_bottom}

-- ---- the index of a type in the other lookup

abbrev pub halved_index : UnpackedIndex → UnpackedIndex
halved_index (Module i) = Module (i / 2)
halved_index (Id id) = Id id

abbrev pub halved_heap : HeapType → HeapType
halved_heap (Abstract shared ty) = Abstract shared ty
halved_heap (Concrete u) = Concrete (halved_index u)
halved_heap (Exact u) = Exact (halved_index u)

abbrev pub halved_ref : RefType → RefType
halved_ref r = reference r.nullable (halved_heap r.heap_type)

abbrev pub halved_type : ValType → ValType
halved_type I32 = I32
halved_type I64 = I64
halved_type F32 = F32
halved_type F64 = F64
halved_type V128 = V128
halved_type (Ref r) = Ref (halved_ref r)

-- the second of the two indices of a type
abbrev pub second_index : ℕ → ℕ
second_index t = 2 * t + 1

abbrev pub paired_context : ModuleContext → ModuleContext
paired_context md = record md {
  type_at = λ i. md.type_at (i / 2);
  type_index_of = λ f. option_map second_index (md.type_index_of f);
  canonical_type = λ features t. md.canonical_type features (halved_type t);
  canonical_ref = λ r. md.canonical_ref (halved_ref r);
  canonical_heap = λ h. md.canonical_heap (halved_heap h);
}

-- ---- the laws

module _ (md : ModuleContext) where
  abbrev ours : ModuleContext
  ours = paired_context md

  -- ids name what they named, so the same types are valid

  index : (u : UnpackedIndex) → is_valid_index ours u ≡ is_valid_index md u
  index (Module i) = refl
  index (Id id) = refl

  heap : (h : HeapType) → is_valid_heap ours h ≡ is_valid_heap md h
  heap (Abstract shared ty) = refl
  heap (Concrete u) = index u
  heap (Exact u) = index u

  type : (t : ValType) → is_valid ours t ≡ is_valid md t
  type I32 = refl
  type I64 = refl
  type F32 = refl
  type F64 = refl
  type V128 = refl
  type (Ref r) = heap r.heap_type

  valid : (t : ValType) → Valid md t → Valid ours t
  valid t v = type t ∙ v

  all_valid : (ts : List ValType) → AllValid md ts → AllValid ours ts
  all_valid [] v = tt
  all_valid (t ∷ ts) v = (valid t v.0, all_valid ts v.1)

  signature : (u : UnpackedIndex) → continued_signature ours u ≡ continued_signature md u
  signature (Module i) = refl
  signature (Id id) = refl

  continuation : (u : UnpackedIndex) → IsContinuation md u → IsContinuation ours u
  continuation u c = record { valid = index u ∙ c.valid; function = ap is_some (signature u) ∙ c.function }

  valid_type : (s : SubType) → IsValidType md s → IsValidType ours s
  valid_type s v = record {
    params = λ f e. all_valid f.params (v.params f e);
    results = λ f e. all_valid f.results (v.results f e);
    fields = all_valid (unpacked_fields (fields_of s)) v.fields;
    continuation = λ u e. continuation u (v.continuation u e);
    supertype = λ u e. index u ∙ v.supertype u e;
    descriptor = λ u e. let d = v.descriptor u e in record { valid = index u ∙ d.valid; on_struct = d.on_struct };
    described = λ u e. index u ∙ v.described u e;
  }

  below_reference : (t : ValType) (r : RefType) → IsBelowReference md t r → IsBelowReference ours t r
  below_reference t r b = record {
    lower = b.lower;
    is = b.is;
    same_sharedness = b.same_sharedness;
    without_null = b.without_null;
  }

  top : (r : RefType) (h : HeapType) → IsTop md r h → IsTop ours r h
  top r h t = record { shared = t.shared; ty = t.ty; is = t.is; same_sharedness = t.same_sharedness }

  -- a type is named by what names it in the other lookup, and a valid index in both by the same

  named : (u : UnpackedIndex) → type_named ours u ≡ type_named md (halved_index u)
  named (Module i) = refl
  named (Id id) = refl

  named_validly : (u : UnpackedIndex) → is_valid_index md u ≡ true → type_named ours u ≡ type_named md u
  named_validly (Module i) v = absurd cc
  named_validly (Id id) v = refl

  below_exact : (h : HeapType) (u : UnpackedIndex) → is_valid_index md u ≡ true → IsBelowExact md h u → IsBelowExact ours h u
  below_exact (Exact v) u e b = b
  below_exact (Concrete v) u e b = b
  below_exact (Abstract shared ty) u e b = ap (option_map (λ (s : SubType). kind_bottom s.composite_type.inner)) (named_validly u e) ∙ b

  checked_index : (u : UnpackedIndex) (h : HeapType) → is_valid_heap md h ≡ true → IsCheckedIndex md (halved_index u) h → IsCheckedIndex ours u h
  checked_index u h v c =
      let e : is_valid_index md c.index ≡ true = subst (λ (k : HeapType). is_valid_heap md k ≡ true) c.is v in
      record {
        index = c.index;
        is = c.is;
        same_type = named_validly c.index e ∙ c.same_type ∙ sym (named u);
        exact = c.exact;
      }

  pub lawful_paired : IsLawful md → IsLawful (paired_context md)
  lawful_paired laws = record {
    both_valid = λ t u e. let b = laws.both_valid t u e in (valid t b.0, valid u b.1);
    reflexive = λ t h. laws.reflexive t (sym (type t) ∙ h);
    transitive = laws.transitive;
    number = laws.number;
    below_reference = λ t r e. below_reference t r (laws.below_reference t r e);
    non_null_keeps = laws.non_null_keeps;
    non_null_below = λ r h. laws.non_null_below r (sym (type (Ref r)) ∙ h);
    below_with_null = λ r h. laws.below_with_null r (sym (type (Ref r)) ∙ h);
    top = λ r h. top r (md.top_type r.heap_type) (laws.top r (sym (type (Ref r)) ∙ h));
    below_exact = λ r n u e. below_exact r.heap_type u (laws.both_valid (Ref r) (Ref (reference n (Exact u))) e).1 (laws.below_exact r n u e);
    exact_below = λ n u e. laws.exact_below n u (sym (index u) ∙ e);
    checked_exact = λ u h e. checked_index u h (laws.checked_heap (Concrete (halved_index u)) h e) (laws.checked_exact (halved_index u) h e);
    types = λ i s e. valid_type s (laws.types (i / 2) s e);
    types_of_ids = λ id s e. valid_type s (laws.types_of_ids id s e);
    functions = λ f id e. index (Id id) ∙ laws.functions f id e;
    tables = λ i t e. valid (Ref t.element_type) (laws.tables i t e);
    globals = λ i g e. valid g.content_type (laws.globals i g e);
    tags = λ i f e. let p = laws.tags i f e in (all_valid f.params p.0, all_valid f.results p.1);
    elements = λ i r e. valid (Ref r) (laws.elements i r e);
    checked = λ features t u e. valid u (laws.checked features (halved_type t) u e);
    checked_ref = λ r s e. valid (Ref s) (laws.checked_ref (halved_ref r) s e);
    checked_heap = λ h k e. heap k ∙ laws.checked_heap (halved_heap h) k e;
  }
