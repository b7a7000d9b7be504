-- Types that `==` holds of are one, and so are lists of types that their order takes for equal.
use Rattle.std.proofs.Common.{◌≡◌, ◌∙◌, Bool, true, List, Option, Some, None, refl, ap, sym}
use Rattle.std.specs.Bool.{Decides}
use Rattle.std.specs.Cmp.{IsEquivalence, booleans_Decides}
use Rattle.std.specs.Cmp.Lexicographic.{pointwise, pointwise_decides, slice_cmp, lists_ties}
use Rattle.std.specs.Option.{option_eq}
use Rattle.std.specs.Ordering.{is_eq}
use borrow.Author.Tests.{clash}
use denote.Enum.Bare.{same_true}
use Rattle.std.proofs.lemmas.Bool.{and_parts}
use Rattle.std.proofs.lemmas.Bool.Decides.{Decides-eqb}
use Rattle.validate_types.specs.contracts.heap.UnpackedIndexPartialEq.TheImpl as index_eq
use Rattle.validate_types.specs.contracts.heap.AbstractHeapType.{the_type}
use Rattle.validate_types.specs.contracts.heap.HeapTypePartialEq.TheImpl as heap_eq
use Rattle.validate_types.specs.contracts.heap.PackedIndexPartialEq.TheImpl as packed_eq
use Rattle.validate_types.specs.contracts.refs.RefTypePartialEq.TheImpl as ref_eq
use Rattle.validate_types.specs.contracts.types.ValTypePartialEq.TheImpl as value_eq
use Rattle.validate_types.specs.contracts.types.ValTypeEq.TheImpl.Laws.{laws-law as value_laws}
use Rattle.validate_types.specs.contracts.types.StorageTypePartialEq.TheImpl as storage_eq
use Rattle.validate_types.specs.contracts.types.FieldTypePartialEq.TheImpl as field_eq
use Rattle.validate_types.specs.contracts.types.FieldTypeEq.TheImpl.Laws.{laws-law as field_laws}
use Rattle.validate_types.specs.contracts.types.FuncTypePartialEq.TheImpl as func_eq
use Rattle.validate_types.specs.contracts.types.ArrayTypePartialEq.TheImpl as array_eq
use Rattle.validate_types.specs.contracts.types.ContTypePartialEq.TheImpl as cont_eq
use Rattle.validate_types.specs.contracts.types.CompositeInnerTypePartialEq.TheImpl as inner_eq
use Rattle.validate_types.specs.contracts.types.CompositeTypePartialEq.TheImpl as composite_eq
use Rattle.validate_types.specs.contracts.types.SubTypePartialEq.TheImpl as sub_eq
use Rattle.validate_types.specs.contracts.types.SubTypeEq.TheImpl.Laws.{laws-law as sub_laws}
use Rattle.validate_types.specs.contracts.types.SubTypeOrd.TheImpl as sub_ord
use Rattle.validate_types.specs.contracts.types.SubTypeOrd.TheImpl.Laws.{matches_eq-law as sub_ties}
use Rattle.validate_types.specs.declared.heap.UnpackedIndex.{UnpackedIndex}
use Rattle.validate_types.specs.declared.heap.UnpackedIndex.TheVariants.{Module, Id}
use Rattle.validate_types.specs.declared.heap.HeapType.{HeapType}
use Rattle.validate_types.specs.declared.heap.HeapType.TheVariants.{Abstract, Concrete, Exact}
use Rattle.validate_types.specs.declared.refs.RefType.{RefType}
use Rattle.validate_types.specs.Types.{Signature}
use Rattle.validate_types.specs.declared.types.ArrayType.{ArrayType}
use Rattle.validate_types.specs.declared.types.CompositeInnerType.{CompositeInnerType}
use Rattle.validate_types.specs.declared.types.CompositeInnerType.TheVariants.{Func, Array, Struct, Cont}
use Rattle.validate_types.specs.declared.types.CompositeType.{CompositeType}
use Rattle.validate_types.specs.declared.types.ContType.{ContType}
use Rattle.validate_types.specs.declared.types.FieldType.{FieldType}
use Rattle.validate_types.specs.declared.types.StorageType.{StorageType}
use Rattle.validate_types.specs.declared.types.StorageType.TheVariants.{I8, I16, Val}
use Rattle.validate_types.specs.declared.types.SubType.{SubType}
use Rattle.validate_types.specs.declared.types.ValType.{ValType}
use Rattle.validate_types.specs.declared.types.ValType.TheVariants.{I32, I64, F32, F64, V128, Ref}

-- an equivalence of which only one value is equal to each decides whether two are one
decided : {A : Type 0} {E : A → A → Bool} → IsEquivalence E → ((a b : A) → E a b ≡ true → a ≡ b) → (a b : A) → Decides (E a b) (a ≡ b)
decided {A} {E} laws exact a b = (exact a b, λ e. sym (ap (λ x. E a x) e) ∙ laws.refl a)

index_exact : (a b : UnpackedIndex) → (index_eq.ghosts).eq a b ≡ true → a ≡ b
index_exact (Module m) (Module n) e = ap Module ((Decides-eqb m n).0 e)
index_exact (Id m) (Id n) e = ap (λ i. Id (record { index = i })) ((Decides-eqb m.index n.index).0 e)
index_exact (Module m) (Id n) e = absurd (clash e)
index_exact (Id m) (Module n) e = absurd (clash e)

heap_exact : (a b : HeapType) → (heap_eq.ghosts).eq a b ≡ true → a ≡ b
heap_exact (Abstract s a) (Abstract t b) e =
    let p = and_parts _ _ e in
    let m : s ≡ t = (booleans_Decides s t).0 p.0 in
    let h : a ≡ b = same_true the_type tt a b p.1 in
    λ i. Abstract (m i) (h i)
heap_exact (Concrete i) (Concrete j) e = ap Concrete (index_exact i j e)
heap_exact (Exact i) (Exact j) e = ap Exact (index_exact i j e)
heap_exact _ _ e = absurd (clash e)

ref_exact : (a b : RefType) → (ref_eq.ghosts).eq a b ≡ true → a ≡ b
ref_exact a b e =
    let p = and_parts _ _ e in
    let n : a.nullable ≡ b.nullable = (booleans_Decides a.nullable b.nullable).0 p.0 in
    let h : a.heap_type ≡ b.heap_type = heap_exact a.heap_type b.heap_type p.1 in
    λ i. record { nullable = n i; heap_type = h i }

value_exact : (a b : ValType) → (value_eq.ghosts).eq a b ≡ true → a ≡ b
value_exact I32 I32 e = refl
value_exact I64 I64 e = refl
value_exact F32 F32 e = refl
value_exact F64 F64 e = refl
value_exact V128 V128 e = refl
value_exact (Ref a) (Ref b) e = ap Ref (ref_exact a b e)
value_exact _ _ e = absurd (clash e)

storage_exact : (a b : StorageType) → (storage_eq.ghosts).eq a b ≡ true → a ≡ b
storage_exact I8 I8 e = refl
storage_exact I16 I16 e = refl
storage_exact (Val t) (Val u) e = ap Val (value_exact t u e)
storage_exact _ _ e = absurd (clash e)

field_exact : (a b : FieldType) → (field_eq.ghosts).eq a b ≡ true → a ≡ b
field_exact a b e =
    let p = and_parts _ _ e in
    let t : a.element_type ≡ b.element_type = storage_exact a.element_type b.element_type p.0 in
    let m : a.mutable ≡ b.mutable = (booleans_Decides a.mutable b.mutable).0 p.1 in
    λ i. record { element_type = t i; mutable = m i }

values_exact : (ts us : List ValType) → pointwise (value_eq.ghosts).eq ts us ≡ true → ts ≡ us
values_exact ts us e = (pointwise_decides (decided value_laws value_exact) ts us).0 e

fields_exact : (fs gs : List FieldType) → pointwise (field_eq.ghosts).eq fs gs ≡ true → fs ≡ gs
fields_exact fs gs e = (pointwise_decides (decided field_laws field_exact) fs gs).0 e

signature_exact : (f g : Signature) → (func_eq.ghosts).eq f g ≡ true → f ≡ g
signature_exact f g e =
    let p = and_parts _ _ e in
    let s = values_exact f.params g.params p.0 in
    let t = values_exact f.results g.results p.1 in
    λ i. record { params = s i; results = t i }

array_exact : (a b : ArrayType) → (array_eq.ghosts).eq a b ≡ true → a ≡ b
array_exact a b e = let f = field_exact a.0 b.0 e in λ i. record { 0 = f i }

cont_exact : (a b : ContType) → (cont_eq.ghosts).eq a b ≡ true → a ≡ b
cont_exact a b e = let n = index_exact a.0 b.0 e in λ i. record { 0 = n i }

inner_exact : (a b : CompositeInnerType) → (inner_eq.ghosts).eq a b ≡ true → a ≡ b
inner_exact (Func f) (Func g) e = ap Func (signature_exact f g e)
inner_exact (Array a) (Array b) e = ap Array (array_exact a b e)
inner_exact (Struct fs) (Struct gs) e = ap Struct (fields_exact fs gs e)
inner_exact (Cont a) (Cont b) e = ap Cont (cont_exact a b e)
inner_exact _ _ e = absurd (clash e)

option_exact : (a b : Option UnpackedIndex) → option_eq (packed_eq.ghosts).eq a b ≡ true → a ≡ b
option_exact None None e = refl
option_exact (Some i) (Some j) e = ap Some (index_exact i j e)
option_exact _ _ e = absurd (clash e)

composite_exact : (a b : CompositeType) → (composite_eq.ghosts).eq a b ≡ true → a ≡ b
composite_exact a b e =
    let p = and_parts _ _ e in
    let q = and_parts _ _ p.1 in
    let r = and_parts _ _ q.1 in
    let n = inner_exact a.inner b.inner p.0 in
    let s : a.shared ≡ b.shared = (booleans_Decides a.shared b.shared).0 q.0 in
    let d = option_exact a.descriptor_idx b.descriptor_idx r.0 in
    let c = option_exact a.describes_idx b.describes_idx r.1 in
    λ i. record { inner = n i; shared = s i; descriptor_idx = d i; describes_idx = c i }

sub_exact : (a b : SubType) → (sub_eq.ghosts).eq a b ≡ true → a ≡ b
sub_exact a b e =
    let p = and_parts _ _ e in
    let q = and_parts _ _ p.1 in
    let f : a.is_final ≡ b.is_final = (booleans_Decides a.is_final b.is_final).0 p.0 in
    let s = option_exact a.supertype_idx b.supertype_idx q.0 in
    let c = composite_exact a.composite_type b.composite_type q.1 in
    λ i. record { is_final = f i; supertype_idx = s i; composite_type = c i }

-- ---- lists of types

types_decided : (ts us : List SubType) → Decides (pointwise (sub_eq.ghosts).eq ts us) (ts ≡ us)
types_decided = pointwise_decides (decided sub_laws sub_exact)

-- their order takes them for equal
pub types_exact : (ts us : List SubType) → is_eq (slice_cmp (sub_ord.ghosts).cmp ts us) ≡ true → ts ≡ us
types_exact ts us e = (types_decided ts us).0 (lists_ties (sub_ord.ghosts).cmp sub_ties ts us ∙ e)

-- and the other way round
pub types_tied : (ts us : List SubType) → ts ≡ us → is_eq (slice_cmp (sub_ord.ghosts).cmp ts us) ≡ true
types_tied ts us e = sym (lists_ties (sub_ord.ghosts).cmp sub_ties ts us) ∙ (types_decided ts us).1 e
