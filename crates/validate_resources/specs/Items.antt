-- Look-ups of one's own over types that another lookup declares (the crate's own): the types and their
-- order stay, and so do their laws; what is left to prove is of what the own look-ups hand out.
use Rattle.std.specs.Prelude.{◌≡◌, ℕ, Bool, List, [], ◌∷◌, true, Option, Some, is_some, refl}
use Rattle.std.specs.Option.{option_map}
use Rattle.std.proofs.Common.{sym, ap, ◌∙◌}
use Rattle.validate_types.specs.Types.{Signature, unpacked_fields}
use Rattle.validate_types.specs.declared.heap.CoreTypeId.{CoreTypeId}
use Rattle.validate_types.specs.declared.heap.HeapType.{HeapType}
use Rattle.validate_types.specs.declared.heap.HeapType.TheVariants.{Abstract, Concrete, Exact}
use Rattle.validate_types.specs.declared.heap.UnpackedIndex.{UnpackedIndex}
use Rattle.validate_types.specs.declared.heap.UnpackedIndex.TheVariants.{Module, Id}
use Rattle.validate_types.specs.declared.refs.RefType.{RefType}
pub use Rattle.validate_types.specs.declared.types.GlobalType.{GlobalType}
pub use Rattle.validate_types.specs.declared.types.MemoryType.{MemoryType}
use Rattle.validate_types.specs.declared.types.SubType.{SubType}
pub use Rattle.validate_types.specs.declared.types.TableType.{TableType}
pub use Rattle.validate_types.specs.declared.types.ValType.{ValType}
pub use Rattle.validate_types.specs.declared.types.ValType.TheVariants.{I32, I64, F32, F64, V128, Ref}
use Rattle.validate_resources.specs.Context.{ModuleContext, IsLawful, IsBelowReference, IsTop, IsValidType, IsContinuation}
use Rattle.validate_resources.specs.Context.{IsBelowExact, IsCheckedIndex, type_named}
use Rattle.validate_resources.specs.Context.{Valid, AllValid, is_valid, is_valid_index, is_valid_heap}
use Rattle.validate_resources.specs.Context.{continued_signature, fields_of}
use Rattle.validate_resources.specs.Order.{kind_bottom}

-- what a module has besides its types
pub record Items : Type 0 where
  pub type_index_of : ℕ → Option ℕ
  pub type_id_of : ℕ → Option CoreTypeId
  pub is_referenced : ℕ → Bool
  pub has_exact_type : ℕ → Bool
  pub table_at : ℕ → Option TableType
  pub memory_at : ℕ → Option MemoryType
  pub global_at : ℕ → Option GlobalType
  pub tag_at : ℕ → Option Signature
  pub element_at : ℕ → Option RefType
  pub data_count : Option ℕ

-- those that a lookup has
abbrev pub items_of : ModuleContext → Items
items_of md = record {
  type_index_of = md.type_index_of;
  type_id_of = md.type_id_of;
  is_referenced = md.is_referenced;
  has_exact_type = md.has_exact_type;
  table_at = md.table_at;
  memory_at = md.memory_at;
  global_at = md.global_at;
  tag_at = md.tag_at;
  element_at = md.element_at;
  data_count = md.data_count;
}

-- the types of the one, with these items in the place of its own
abbrev pub with_items : ModuleContext → Items → ModuleContext
with_items md items = record md {
  type_index_of = items.type_index_of;
  type_id_of = items.type_id_of;
  is_referenced = items.is_referenced;
  has_exact_type = items.has_exact_type;
  table_at = items.table_at;
  memory_at = items.memory_at;
  global_at = items.global_at;
  tag_at = items.tag_at;
  element_at = items.element_at;
  data_count = items.data_count;
}

-- what they hand out is valid and canonical
pub record AreValid (md : ModuleContext) (items : Items) : Type 0 where
  pub functions : (f : ℕ) (id : CoreTypeId) → items.type_id_of f ≡ Some id → is_valid_index md (Id id) ≡ true
  pub tables : (i : ℕ) (t : TableType) → items.table_at i ≡ Some t → Valid md (Ref t.element_type)
  pub globals : (i : ℕ) (g : GlobalType) → items.global_at i ≡ Some g → Valid md g.content_type
  pub tags : (i : ℕ) (f : Signature) → items.tag_at i ≡ Some f → AllValid md f.params × AllValid md f.results
  pub elements : (i : ℕ) (r : RefType) → items.element_at i ≡ Some r → Valid md (Ref r)

-- ---- proofs, which need no belief

module _ (md : ModuleContext) (items : Items) where
  abbrev ours : ModuleContext
  ours = with_items md items

  index : (u : UnpackedIndex) → is_valid_index ours u ≡ is_valid_index md u
  index (Module i) = refl
  index (Id id) = refl

  heap : (h : HeapType) → is_valid_heap ours h ≡ is_valid_heap md h
  heap (Abstract shared ty) = refl
  heap (Concrete u) = index u
  heap (Exact u) = index u

  type : (t : ValType) → is_valid ours t ≡ is_valid md t
  type I32 = refl
  type I64 = refl
  type F32 = refl
  type F64 = refl
  type V128 = refl
  type (Ref r) = heap r.heap_type

  valid : (t : ValType) → Valid md t → Valid ours t
  valid t v = type t ∙ v

  all_valid : (ts : List ValType) → AllValid md ts → AllValid ours ts
  all_valid [] v = tt
  all_valid (t ∷ ts) v = (valid t v.0, all_valid ts v.1)

  signature : (u : UnpackedIndex) → continued_signature ours u ≡ continued_signature md u
  signature (Module i) = refl
  signature (Id id) = refl

  continuation : (u : UnpackedIndex) → IsContinuation md u → IsContinuation ours u
  continuation u c = record { valid = index u ∙ c.valid; function = ap is_some (signature u) ∙ c.function }

  valid_type : (s : SubType) → IsValidType md s → IsValidType ours s
  valid_type s v = record {
    params = λ f e. all_valid f.params (v.params f e);
    results = λ f e. all_valid f.results (v.results f e);
    fields = all_valid (unpacked_fields (fields_of s)) v.fields;
    continuation = λ u e. continuation u (v.continuation u e);
    supertype = λ u e. index u ∙ v.supertype u e;
    descriptor = λ u e. let d = v.descriptor u e in record { valid = index u ∙ d.valid; on_struct = d.on_struct };
    described = λ u e. index u ∙ v.described u e;
  }

  below_reference : (t : ValType) (r : RefType) → IsBelowReference md t r → IsBelowReference ours t r
  below_reference t r b = record {
    lower = b.lower;
    is = b.is;
    same_sharedness = b.same_sharedness;
    without_null = b.without_null;
  }

  named : (u : UnpackedIndex) → type_named ours u ≡ type_named md u
  named (Module i) = refl
  named (Id id) = refl

  below_exact : (h : HeapType) (u : UnpackedIndex) → IsBelowExact md h u → IsBelowExact ours h u
  below_exact (Exact v) u b = b
  below_exact (Concrete v) u b = b
  below_exact (Abstract shared ty) u b = ap (option_map (λ (s : SubType). kind_bottom s.composite_type.inner)) (named u) ∙ b

  checked_index : (u : UnpackedIndex) (h : HeapType) → IsCheckedIndex md u h → IsCheckedIndex ours u h
  checked_index u h c = record {
    index = c.index;
    is = c.is;
    same_type = named c.index ∙ c.same_type ∙ sym (named u);
    exact = c.exact;
  }

  top : (r : RefType) (h : HeapType) → IsTop md r h → IsTop ours r h
  top r h t = record { shared = t.shared; ty = t.ty; is = t.is; same_sharedness = t.same_sharedness }

  -- the laws of the types are kept, so those of the items are what is left
  pub lawful_with_items : IsLawful md → AreValid md items → IsLawful (with_items md items)
  lawful_with_items laws v = record {
    both_valid = λ t u e. let b = laws.both_valid t u e in (valid t b.0, valid u b.1);
    reflexive = λ t h. laws.reflexive t (sym (type t) ∙ h);
    transitive = laws.transitive;
    number = laws.number;
    below_reference = λ t r e. below_reference t r (laws.below_reference t r e);
    non_null_keeps = laws.non_null_keeps;
    non_null_below = λ r h. laws.non_null_below r (sym (type (Ref r)) ∙ h);
    below_with_null = λ r h. laws.below_with_null r (sym (type (Ref r)) ∙ h);
    top = λ r h. top r (md.top_type r.heap_type) (laws.top r (sym (type (Ref r)) ∙ h));
    below_exact = λ r n u e. below_exact r.heap_type u (laws.below_exact r n u e);
    exact_below = λ n u e. laws.exact_below n u (sym (index u) ∙ e);
    checked_exact = λ u h e. checked_index u h (laws.checked_exact u h e);
    types = λ i s e. valid_type s (laws.types i s e);
    types_of_ids = λ id s e. valid_type s (laws.types_of_ids id s e);
    functions = v.functions;
    tables = λ i t e. valid (Ref t.element_type) (v.tables i t e);
    globals = λ i g e. valid g.content_type (v.globals i g e);
    tags = λ i f e. let p = v.tags i f e in (all_valid f.params p.0, all_valid f.results p.1);
    elements = λ i r e. valid (Ref r) (v.elements i r e);
    checked = λ features t u e. valid u (laws.checked features t u e);
    checked_ref = λ r s e. valid (Ref s) (laws.checked_ref r s e);
    checked_heap = λ h k e. heap k ∙ laws.checked_heap h k e;
  }
