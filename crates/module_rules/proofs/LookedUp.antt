-- A lookup over the declarations of a valid module is there: it finds no cause of a refusal.
use Rattle.std.proofs.Common.{◌≡◌, ◌∙◌, ℕ, ◌+◌, ◌-◌, ◌<◌, ◌≤◌, Bool, true, false, ◌&&◌, ◌||◌, not, List, [], ◌∷◌, ◌++◌, length}
use Rattle.std.proofs.Common.{Option, Some, None, take, drop, refl, ap, sym, arith, nat_le}
use Rattle.std.specs.Bool.{beq}
use Rattle.std.specs.Prelude.{is_some, slice_get, slice_range, if◌then◌else◌}
use Rattle.std.specs.List.{list_all, enumerate_from, zip}
use Rattle.std.specs.Option.{option_and_then}
use Rattle.std.proofs.lemmas.Bool.{and_parts, and_from, leb-true, eqb-true, ltb-true, lt-ltb}
use Rattle.std.proofs.lemmas.List.{drop-drop, drop_all, take-append-drop}
use Rattle.std.proofs.lemmas.List.Folds.{list_all-append}
use Rattle.validate_types.specs.Features.{has, gc}
use Rattle.validate_types.specs.Heap.{number_of}
use Rattle.validate_types.specs.Kinds.{signature_of, is_struct}
use Rattle.validate_types.specs.Types.{Signature}
use Rattle.validate_types.specs.declared.heap.HeapType.{HeapType}
use Rattle.validate_types.specs.declared.heap.HeapType.TheVariants.{Abstract, Concrete, Exact}
use Rattle.validate_types.specs.declared.heap.UnpackedIndex.{UnpackedIndex}
use Rattle.validate_types.specs.declared.types.CompositeInnerType.{CompositeInnerType}
use Rattle.validate_types.specs.declared.types.CompositeInnerType.TheVariants.{Func, Array, Struct, Cont}
use Rattle.validate_types.specs.declared.types.CompositeType.{CompositeType}
use Rattle.validate_types.specs.declared.types.FieldType.{FieldType}
use Rattle.validate_types.specs.declared.types.StorageType.{StorageType}
use Rattle.validate_types.specs.declared.types.StorageType.TheVariants.{I8, I16, Val}
use Rattle.validate_types.specs.declared.types.SubType.{SubType}
use Rattle.validate_types.specs.declared.types.ValType.{ValType}
use Rattle.validate_types.specs.declared.types.ValType.TheVariants.{I32, I64, F32, F64, V128, Ref}
use Rattle.validate_resources.specs.Indices.{is_known, heap_indices_pass, type_indices_pass, storage_indices_pass, field_indices_pass}
use Rattle.validate_resources.specs.Indices.{option_index_passes, inner_indices_pass, composite_indices_pass, sub_indices_pass}
use Rattle.validate_resources.specs.Lists.{is_func_type}
use Rattle.validate_resources.specs.Order.{is_same_kind, is_same_sort, has_supertype_of_its_sort}
use Rattle.module_rules.specs.Descriptors.{has_valid_descriptor}
use Rattle.module_rules.specs.Functions.{is_tag_signature}
use Rattle.module_rules.specs.Matching.{is_inner_below, is_descriptor_below}
use Rattle.module_rules.specs.Types.{is_earlier, matches_type, matches_supertype, named_below, are_valid_groups}
use Rattle.module_rules.specs.declared.features.ModuleFeatures.{ModuleFeatures}
use Rattle.module_rules.specs.declared.items.RecGroup.{RecGroup}

-- ---- tests of each item

-- what passes a test passes a weaker one
pub all-weaker : {X : Type 0} (p q : X → Bool) → ((x : X) → p x ≡ true → q x ≡ true) → (xs : List X) → list_all p xs ≡ true → list_all q xs ≡ true
all-weaker p q w [] h = refl
all-weaker p q w (x ∷ xs) h =
    let a = and_parts (p x) _ h in
    and_from _ _ (w x a.0) (all-weaker p q w xs a.1)

-- without the index
pub unnumbered : {X : Type 0} (p : ℕ × X → Bool) (q : X → Bool) → ((k : ℕ) (x : X) → p (k, x) ≡ true → q x ≡ true) → (n : ℕ) (xs : List X) → list_all p (enumerate_from n xs) ≡ true → list_all q xs ≡ true
unnumbered p q w n [] h = refl
unnumbered p q w n (x ∷ xs) h =
    let a = and_parts (p (n, x)) _ h in
    and_from _ _ (w n x a.0) (unnumbered p q w (n + 1) xs a.1)

-- of pairs, where there are as many of both
pub unpaired : {X Y : Type 0} (p : X × Y → Bool) (q : X → Bool) → ((x : X) (y : Y) → p (x, y) ≡ true → q x ≡ true) → (xs : List X) (ys : List Y) → length ys ≡ length xs → list_all p (zip xs ys) ≡ true → list_all q xs ≡ true
unpaired p q w [] ys l h = refl
unpaired p q w (x ∷ xs) [] l h = cc
unpaired p q w (x ∷ xs) (y ∷ ys) l h =
    let same : length ys ≡ length xs = cc in
    let a = and_parts (p (x, y)) _ h in
    and_from _ _ (w x y a.0) (unpaired p q w xs ys same a.1)

-- ---- indices

module _ (p q : UnpackedIndex → Bool) (w : (i : UnpackedIndex) → p i ≡ true → q i ≡ true) where
  heap : (h : HeapType) → heap_indices_pass p h ≡ true → heap_indices_pass q h ≡ true
  heap (Abstract shared ty) e = refl
  heap (Concrete i) e = w i e
  heap (Exact i) e = w i e

  type : (t : ValType) → type_indices_pass p t ≡ true → type_indices_pass q t ≡ true
  type I32 e = refl
  type I64 e = refl
  type F32 e = refl
  type F64 e = refl
  type V128 e = refl
  type (Ref r) e = heap r.heap_type e

  storage : (s : StorageType) → storage_indices_pass p s ≡ true → storage_indices_pass q s ≡ true
  storage I8 e = refl
  storage I16 e = refl
  storage (Val t) e = type t e

  field : (f : FieldType) → field_indices_pass p f ≡ true → field_indices_pass q f ≡ true
  field f e = storage f.element_type e

  option : (o : Option UnpackedIndex) → option_index_passes p o ≡ true → option_index_passes q o ≡ true
  option None e = refl
  option (Some i) e = w i e

  inner : (i : CompositeInnerType) → inner_indices_pass p i ≡ true → inner_indices_pass q i ≡ true
  inner (Func f) e =
      let a = and_parts (list_all (type_indices_pass p) f.params) _ e in
      and_from _ _ (all-weaker (type_indices_pass p) (type_indices_pass q) type f.params a.0)
      (all-weaker (type_indices_pass p) (type_indices_pass q) type f.results a.1)
  inner (Array a) e = field a.0 e
  inner (Struct fields) e = all-weaker (field_indices_pass p) (field_indices_pass q) field fields e
  inner (Cont c) e = w c.0 e

  composite : (c : CompositeType) → composite_indices_pass p c ≡ true → composite_indices_pass q c ≡ true
  composite c e =
      let a = and_parts (inner_indices_pass p c.inner && option_index_passes p c.descriptor_idx) _ e in
      let b = and_parts (inner_indices_pass p c.inner) _ a.0 in
      and_from _ _ (and_from _ _ (inner c.inner b.0) (option c.descriptor_idx b.1)) (option c.describes_idx a.1)

  pub indices-weaker : (s : SubType) → sub_indices_pass p s ≡ true → sub_indices_pass q s ≡ true
  indices-weaker s e =
      let a = and_parts (option_index_passes p s.supertype_idx) _ e in
      and_from _ _ (option s.supertype_idx a.0) (composite s.composite_type a.1)

-- an index below the end of a group is one below the number of types
known-within : (e n : ℕ) → e ≤ n → (i : UnpackedIndex) → is_known e i ≡ true → is_known n i ≡ true
known-within e n h i k =
    let below : number_of i < e = ltb-true (number_of i) e k in
    let within : number_of i < n = omega arith in
    lt-ltb (number_of i) n within

-- a group names types up to its end at most
up-to-the-end : (b : Bool) (e n : ℕ) → n ≤ e → (if b then e else n) ≤ e
up-to-the-end true e n h = omega arith
up-to-the-end false e n h = h

-- the types from a group's first on name types that are there
pub groups-known : (features : ModuleFeatures) (types : List SubType) (first : ℕ) (gs : List RecGroup) → are_valid_groups features types first gs ≡ true → list_all (sub_indices_pass (is_known (length types))) (drop first types) ≡ true
groups-known features types first [] h =
    let end : length types ≤ first = (let e = eqb-true first (length types) h in omega arith) in
    ap (list_all (sub_indices_pass (is_known (length types)))) (drop_all first types end)
groups-known features types first (g ∷ gs) h =
    let a = and_parts ((_ && nat_le (first + g.count) (length types)) && list_all (sub_indices_pass (is_known (named_below features first (first + g.count)))) (slice_range types first (first + g.count))) _ h in
    let b = and_parts (_ && nat_le (first + g.count) (length types)) _ a.0 in
    let within = leb-true (first + g.count) (length types) (and_parts _ (nat_le (first + g.count) (length types)) b.0).1 in
    let count : (first + g.count) - first ≡ g.count = omega arith in
    let below = named_below features first (first + g.count) in
    let most : below ≤ first + g.count = up-to-the-end (has features.operators gc) (first + g.count) first (omega arith) in
    let all : below ≤ length types = omega arith in
    let here = all-weaker _ _ (indices-weaker (is_known below) (is_known (length types)) (known-within below (length types) all))
    (take ((first + g.count) - first) (drop first types)) b.1 in
    let rest = groups-known features types (first + g.count) gs a.1 in
    let split : take ((first + g.count) - first) (drop first types) ++ drop (first + g.count) types ≡ drop first types =
    ap (λ n. take n (drop first types) ++ drop (first + g.count) types) count
    ∙ ap (λ xs. take g.count (drop first types) ++ xs) (sym (drop-drop g.count first types))
    ∙ take-append-drop g.count (drop first types) in
    ap (list_all (sub_indices_pass (is_known (length types)))) (sym split)
    ∙ list_all-append (sub_indices_pass (is_known (length types))) (take ((first + g.count) - first) (drop first types)) (drop (first + g.count) types)
    ∙ and_from _ _ here rest

-- ---- supertypes

kind-of-inner : (types : List SubType) (a b : CompositeInnerType) → is_inner_below types a b ≡ true → is_same_kind a b ≡ true
kind-of-inner types (Func f) (Func g) h = refl
kind-of-inner types (Array a) (Array b) h = refl
kind-of-inner types (Struct fs) (Struct gs) h = refl
kind-of-inner types (Cont c) (Cont d) h = refl
kind-of-inner types _ _ h = cc

sort-of-match : (types : List SubType) (c : CompositeType) (i : UnpackedIndex) (o : Option SubType) → slice_get types (number_of i) ≡ o → matches_supertype types c (Some i) ≡ true → is_same_sort c o ≡ true
sort-of-match types c i None e h = let none = sym (ap (λ o. matches_type types c o) e) ∙ h in cc
sort-of-match types c i (Some s) e h =
    let fits = sym (ap (λ o. matches_type types c o) e) ∙ h in
    let below = (and_parts (not s.is_final) _ fits).1 in
    let parts = (and_parts ((beq c.shared s.composite_type.shared && is_inner_below types c.inner s.composite_type.inner) && is_descriptor_below types c.descriptor_idx s.composite_type.descriptor_idx) _ below).0 in
    let both = (and_parts (beq c.shared s.composite_type.shared && is_inner_below types c.inner s.composite_type.inner) _ parts).0 in
    let p = and_parts (beq c.shared s.composite_type.shared) _ both in
    and_from _ _ (kind-of-inner types c.inner s.composite_type.inner p.1) p.0

pub supertype-sort : (types : List SubType) (k : ℕ) (c : CompositeType) (o : Option UnpackedIndex) → is_earlier k o ≡ true → matches_supertype types c o ≡ true → has_supertype_of_its_sort types k c o ≡ true
supertype-sort types k c None e h = refl
supertype-sort types k c (Some i) e h = and_from _ _ e (sort-of-match types c i (slice_get types (number_of i)) refl h)

-- ---- tags and descriptors

tag-of-functions : (features : ModuleFeatures) (o : Option Signature) → is_tag_signature features o ≡ true → is_some o ≡ true
tag-of-functions features None h = cc
tag-of-functions features (Some f) h = refl

pub tag-type : (features : ModuleFeatures) (o : Option SubType) → is_tag_signature features (option_and_then signature_of o) ≡ true → is_func_type o ≡ true
tag-type features None h = cc
tag-type features (Some s) h = tag-of-functions features (signature_of s) h

pub fitting : (types : List SubType) (n : ℕ) (c : CompositeType) (o : Option UnpackedIndex) → has_valid_descriptor types n c o ≡ true → (not (is_some o) || is_struct c.inner) ≡ true
fitting types n c None h = refl
fitting types n c (Some d) h = (and_parts (is_struct c.inner) _ h).0
