-- A type that is read where no type of its group can be named is read so however they are named. And what bytes are read
-- as doesn't depend on where the list lies by which indices of types are read.
use Rattle.std.proofs.Common.{◌≡◌, ◌⊎◌, inl, inr, ◌∙◌, ℕ, zero, suc, ◌+◌, ◌-◌, ◌^◌, List, [], ◌∷◌, Bool, true, false, if◌then◌else◌, nat_eq, nat_lt, Option, Some, None, is_some, slice_get, min, refl, sym, ap, subst, arith}
use Rattle.std.specs.Option.{option_and_then}
use Rattle.binary_operators.proofs.Wherever.{lying}
use Rattle.binary_operators.specs.Integers.{unsigned}
use Rattle.binary_operators.specs.Types.{name_in_group, name_of, type_count, type_name, named, unshared_heap, shared_heap, heap_type, reference_type, ref_type, value_of, value_type, type_number, abstract_type, number_type}
use Rattle.binary_operators.specs.Values.{byte, so_many, list_of}
use Rattle.binary_operators.specs.declared.types.CanonicalTypes.{CanonicalTypes}
use Rattle.binary_operators.specs.declared.types.GroupNames.{GroupNames}
use Rattle.binary_operators.specs.declared.types.GroupNames.TheVariants.{Indices}
use Rattle.validate_types.specs.Heap.{packed_index}
use Rattle.validate_types.specs.Refs.{reference_to}
use Rattle.validate_types.specs.declared.heap.AbstractHeapType.{AbstractHeapType}
use Rattle.validate_types.specs.declared.heap.HeapType.{HeapType}
use Rattle.validate_types.specs.declared.heap.HeapType.TheVariants.{Concrete, Exact}
use Rattle.validate_types.specs.declared.heap.UnpackedIndex.{UnpackedIndex}
use Rattle.validate_types.specs.declared.heap.UnpackedIndex.TheVariants.{Module}
use Rattle.validate_types.specs.declared.refs.RefType.{RefType}
use Rattle.validate_types.specs.declared.types.SubType.{SubType}
use Rattle.validate_types.specs.declared.types.ValType.{ValType}
use Rattle.binary_modules.specs.Parts.{marked, if_so}
use Rattle.binary_modules.specs.Read.{ReadsAnyhow}
use Rattle.binary_modules.specs.SubTypes.{type_index, of_value, storage_type, mutability, field_type, func_type, struct_type, array_type, cont_type, inner_behind, composite_inner_type, marked_index, composite_type, supertype_of, supertype, with_supertype, below_supertype, sub_type}

-- what the one reading gives, the other does
abbrev Gives : {A : Type 0} → Option A → Option A → Type 0
Gives None p = Unit {0}
Gives (Some x) p = p ≡ Some x

given : {A : Type 0} → (o p : Option A) (x : A) → Gives o p → o ≡ Some x → p ≡ Some x
given None p x h e = cc
given (Some y) p x h e = h ∙ e

both_give : {A : Type 0} → (o p : Option A) → Gives o p → Gives p o → o ≡ p
both_give None None h k = refl
both_give None (Some y) h k = k
both_give (Some x) p h k = sym h

same : {A : Type 0} → (o : Option A) → Gives o o
same None = tt
same (Some x) = refl

both : {A B : Type 0} → (o p : Option A) (f g : A → Option B) → Gives o p → ((x : A) → Gives (f x) (g x)) → Gives (option_and_then f o) (option_and_then g p)
both None p f g h next = tt
both (Some x) p f g h next =
    let P : Option _ → Type 0 = λ q. Gives (f x) (option_and_then g q) in
    subst P (sym h) (next x)

either : {A : Type 0} → (b : Bool) (o o' p p' : Option A) → Gives o o' → Gives p p' → Gives (if b then o else p) (if b then o' else p')
either true o o' p p' h k = h
either false o o' p p' h k = k

-- the same, where something is read behind
chosen : {A B : Type 0} → (f : A → Option B) (b : Bool) (o o' p p' : Option A) → Gives (option_and_then f o) (option_and_then f o') → Gives (option_and_then f p) (option_and_then f p') → Gives (option_and_then f (if b then o else p)) (option_and_then f (if b then o' else p'))
chosen f true o o' p p' h k = h
chosen f false o o' p p' h k = k

-- ---- lists

many_give : {A : Type 0} → (item item' : List ℕ → Option (A × List ℕ)) → ((bytes : List ℕ) → Gives (item bytes) (item' bytes)) → (count : ℕ) (bytes : List ℕ) → Gives (so_many item count bytes) (so_many item' count bytes)
many_give item item' each zero bytes = refl
many_give item item' each (suc count) bytes =
    both (item bytes) (item' bytes) _ _ (each bytes) (λ x. both (so_many item count x.1) (so_many item' count x.1) _ _ (many_give item item' each count x.1) (λ others. refl))

lists_give : {A : Type 0} → (item item' : List ℕ → Option (A × List ℕ)) → ((bytes : List ℕ) → Gives (item bytes) (item' bytes)) → (bytes : List ℕ) → Gives (list_of item bytes) (list_of item' bytes)
unfolding list_of
lists_give item item' each bytes =
    both (unsigned 32 bytes) (unsigned 32 bytes) _ _ (same (unsigned 32 bytes)) (λ count. many_give item item' each count.0 count.1)

-- ---- names

-- a type of the group is named the same by both, or can't be named by the first
abbrev Alike : GroupNames → GroupNames → ℕ → Type 0
Alike f g place = (name_in_group f place ≡ name_in_group g place) ⊎ (name_in_group f place ≡ Module (2 ^ 32 - 1))

too_large : (place : ℕ) → min (2 ^ 32 - 1 + place) (2 ^ 32 - 1) ≡ 2 ^ 32 - 1
too_large place = omega arith

names_give : {A : Type 0} → (f g : GroupNames) (named_so : UnpackedIndex → Option A) → named_so (Module (2 ^ 32 - 1)) ≡ None → (place : ℕ) → Alike f g place → Gives (named_so (name_in_group f place)) (named_so (name_in_group g place))
names_give f g named_so none place (inl e) =
    let P : UnpackedIndex → Type 0 = λ n. Gives (named_so (name_in_group f place)) (named_so n) in
    subst P e (same (named_so (name_in_group f place)))
names_give f g named_so none place (inr e) =
    let P : Option _ → Type 0 = λ o. Gives o (named_so (name_in_group g place)) in
    subst P (sym (ap named_so e ∙ none)) tt

module _ (p q : ℕ × ℕ) (l : List ℕ) (f g : GroupNames) (alike : (place : ℕ) → Alike f g place) where
  abbrev s : CanonicalTypes
  s = lying p l f

  abbrev t : CanonicalTypes
  t = lying q l g

  abbrev place_of : ℕ → ℕ
  place_of i = i - type_count s

  packed_gives : (o : Option ℕ) (i : ℕ) → Gives (packed_index (name_of o s i)) (packed_index (name_of o t i))
  packed_gives (Some first) i = same (packed_index (Module first))
  packed_gives None i = names_give f g packed_index refl (place_of i) (alike (place_of i))

  index_gives : (bytes : List ℕ) → Gives (type_index s bytes) (type_index t bytes)
  unfolding type_index
  index_gives bytes =
      both (unsigned 32 bytes) (unsigned 32 bytes) _ _ (same (unsigned 32 bytes))
      (λ i. both (packed_index (type_name s i.0)) (packed_index (type_name t i.0)) _ _ (packed_gives (slice_get l i.0) i.0) (λ name. refl))

  -- ---- references

  abbrev refer : Bool → HeapType × List ℕ → Option (RefType × List ℕ)
  refer nullable heap = option_and_then {U = RefType × List ℕ} (λ (ty : RefType). Some (ty, heap.1)) (reference_to nullable heap.0)

  concrete_gives : (nullable : Bool) (o : Option ℕ) (i : ℕ) (rest : List ℕ) → Gives (refer nullable (Concrete (name_of o s i), rest)) (refer nullable (Concrete (name_of o t i), rest))
  concrete_gives nullable (Some first) i rest = same (refer nullable (Concrete (Module first), rest))
  concrete_gives nullable None i rest = names_give f g (λ n. refer nullable (Concrete n, rest)) refl (place_of i) (alike (place_of i))

  exact_gives : (nullable : Bool) (o : Option ℕ) (i : ℕ) (rest : List ℕ) → Gives (refer nullable (Exact (name_of o s i), rest)) (refer nullable (Exact (name_of o t i), rest))
  exact_gives nullable (Some first) i rest = same (refer nullable (Exact (Module first), rest))
  exact_gives nullable None i rest = names_give f g (λ n. refer nullable (Exact n, rest)) refl (place_of i) (alike (place_of i))

  by_number_gives : (nullable : Bool) (o : Option (ℕ × List ℕ)) → Gives (option_and_then (refer nullable) (named Concrete s o)) (option_and_then (refer nullable) (named Concrete t o))
  by_number_gives nullable None = tt
  by_number_gives nullable (Some i) = concrete_gives nullable (slice_get l i.0) i.0 i.1

  exactly_gives : (nullable : Bool) (o : Option (ℕ × List ℕ)) → Gives (option_and_then (refer nullable) (named Exact s o)) (option_and_then (refer nullable) (named Exact t o))
  exactly_gives nullable None = tt
  exactly_gives nullable (Some i) = exact_gives nullable (slice_get l i.0) i.0 i.1

  unshared_gives : (nullable : Bool) (o : Option AbstractHeapType) (code : ℕ) (bytes : List ℕ) → Gives (option_and_then (refer nullable) (unshared_heap s o code bytes)) (option_and_then (refer nullable) (unshared_heap t o code bytes))
  unshared_gives nullable (Some ty) code bytes = same (option_and_then (refer nullable) (unshared_heap s (Some ty) code bytes))
  unshared_gives nullable None code bytes =
      chosen (refer nullable) (nat_eq code 0x62) _ _ _ _ (exactly_gives nullable (unsigned 32 bytes))
      (by_number_gives nullable (type_number (code ∷ bytes)))

  heap_gives : (nullable : Bool) (bytes : List ℕ) → Gives (option_and_then (refer nullable) (heap_type s bytes)) (option_and_then (refer nullable) (heap_type t bytes))
  unfolding heap_type
  heap_gives nullable [] = tt
  heap_gives nullable (code ∷ bytes) =
      chosen (refer nullable) (nat_eq code 0x65) _ _ _ _ (same (option_and_then (refer nullable) (shared_heap bytes)))
      (unshared_gives nullable (abstract_type code) code bytes)

  reference_gives : (nullable : Bool) (bytes : List ℕ) → Gives (reference_type s nullable bytes) (reference_type t nullable bytes)
  unfolding reference_type
  reference_gives nullable bytes = heap_gives nullable bytes

  ref_gives : (bytes : List ℕ) → Gives (ref_type s bytes) (ref_type t bytes)
  unfolding ref_type
  ref_gives [] = tt
  ref_gives (code ∷ bytes) =
      either (nat_eq code 0x63) _ _ _ _ (reference_gives true bytes)
      (either (nat_eq code 0x64) _ _ _ _ (reference_gives false bytes)
      (either (nat_eq code 0x65) _ _ _ _ (reference_gives true (code ∷ bytes))
      (either (is_some (abstract_type code)) _ _ None None (reference_gives true (code ∷ bytes)) tt)))

  -- ---- values and fields

  of_type_gives : (o : Option ValType) (bytes : List ℕ) → Gives (value_of s o bytes) (value_of t o bytes)
  of_type_gives (Some ty) bytes = refl
  of_type_gives None bytes = both (ref_type s bytes) (ref_type t bytes) _ _ (ref_gives bytes) (λ ty. refl)

  value_gives : (bytes : List ℕ) → Gives (value_type s bytes) (value_type t bytes)
  unfolding value_type
  value_gives [] = tt
  value_gives (code ∷ bytes) = of_type_gives (number_type code) (code ∷ bytes)

  stored_gives : (o o' : Option (ValType × List ℕ)) → Gives o o' → Gives (of_value o) (of_value o')
  stored_gives None o' h = tt
  stored_gives (Some ty) o' h = ap of_value h

  storage_gives : (bytes : List ℕ) → Gives (storage_type s bytes) (storage_type t bytes)
  unfolding storage_type
  storage_gives [] = tt
  storage_gives (code ∷ bytes) =
      either (nat_eq code 0x78) _ _ _ _ refl
      (either (nat_eq code 0x77) _ _ _ _ refl (stored_gives _ _ (value_gives (code ∷ bytes))))

  field_gives : (bytes : List ℕ) → Gives (field_type s bytes) (field_type t bytes)
  unfolding field_type
  field_gives bytes =
      both (storage_type s bytes) (storage_type t bytes) _ _ (storage_gives bytes)
      (λ storage. same (option_and_then _ (mutability storage.1)))

  -- ---- what types are made of

  func_gives : (bytes : List ℕ) → Gives (func_type s bytes) (func_type t bytes)
  unfolding func_type
  func_gives bytes =
      both (list_of (value_type s) bytes) (list_of (value_type t) bytes) _ _ (lists_give (value_type s) (value_type t) value_gives bytes)
      (λ params. both (list_of (value_type s) params.1) (list_of (value_type t) params.1) _ _ (lists_give (value_type s) (value_type t) value_gives params.1) (λ results. refl))

  struct_gives : (bytes : List ℕ) → Gives (struct_type s bytes) (struct_type t bytes)
  unfolding struct_type
  struct_gives bytes =
      both (list_of (field_type s) bytes) (list_of (field_type t) bytes) _ _ (lists_give (field_type s) (field_type t) field_gives bytes) (λ fields. refl)

  array_gives : (bytes : List ℕ) → Gives (array_type s bytes) (array_type t bytes)
  unfolding array_type
  array_gives bytes = both (field_type s bytes) (field_type t bytes) _ _ (field_gives bytes) (λ field. refl)

  cont_gives : (bytes : List ℕ) → Gives (cont_type s bytes) (cont_type t bytes)
  unfolding cont_type
  cont_gives bytes =
      both (type_number bytes) (type_number bytes) _ _ (same (type_number bytes))
      (λ i. both (packed_index (type_name s i.0)) (packed_index (type_name t i.0)) _ _ (packed_gives (slice_get l i.0) i.0) (λ name. refl))

  inner_gives : (code : ℕ) (bytes : List ℕ) → Gives (inner_behind code s bytes) (inner_behind code t bytes)
  inner_gives code bytes =
      either (nat_eq code 0x60) _ _ _ _ (func_gives bytes)
      (either (nat_eq code 0x5f) _ _ _ _ (struct_gives bytes)
      (either (nat_eq code 0x5e) _ _ _ _ (array_gives bytes)
      (either (nat_eq code 0x5d) _ _ None None (cont_gives bytes) tt)))

  composite_inner_gives : (bytes : List ℕ) → Gives (composite_inner_type s bytes) (composite_inner_type t bytes)
  unfolding composite_inner_type
  composite_inner_gives bytes =
      both (byte bytes) (byte bytes) _ _ (same (byte bytes)) (λ code. inner_gives code.0 code.1)

  -- ---- types

  if_so_gives : (b : Bool) (bytes : List ℕ) → Gives (if_so b (type_index s) bytes) (if_so b (type_index t) bytes)
  if_so_gives true bytes = both (type_index s bytes) (type_index t bytes) _ _ (index_gives bytes) (λ name. refl)
  if_so_gives false bytes = refl

  marked_gives : (code : ℕ) (bytes : List ℕ) → Gives (marked_index code s bytes) (marked_index code t bytes)
  unfolding marked_index
  marked_gives code bytes =
      both (marked code bytes) (marked code bytes) _ _ (same (marked code bytes)) (λ mark. if_so_gives mark.0 mark.1)

  composite_gives : (bytes : List ℕ) → Gives (composite_type s bytes) (composite_type t bytes)
  unfolding composite_type
  composite_gives bytes =
      both (marked 0x65 bytes) (marked 0x65 bytes) _ _ (same (marked 0x65 bytes))
      (λ shared. both (marked_index 0x4c s shared.1) (marked_index 0x4c t shared.1) _ _ (marked_gives 0x4c shared.1)
      (λ describes. both (marked_index 0x4d s describes.1) (marked_index 0x4d t describes.1) _ _ (marked_gives 0x4d describes.1)
      (λ descriptor. both (composite_inner_type s descriptor.1) (composite_inner_type t descriptor.1) _ _ (composite_inner_gives descriptor.1)
      (λ inner. refl))))

  supertype_of_gives : (count : ℕ) (bytes : List ℕ) → Gives (supertype_of count s bytes) (supertype_of count t bytes)
  supertype_of_gives count bytes = either (nat_lt 1 count) None None _ _ tt (if_so_gives (nat_eq count 1) bytes)

  supertype_gives : (bytes : List ℕ) → Gives (supertype s bytes) (supertype t bytes)
  unfolding supertype
  supertype_gives bytes =
      both (unsigned 32 bytes) (unsigned 32 bytes) _ _ (same (unsigned 32 bytes)) (λ count. supertype_of_gives count.0 count.1)

  with_supertype_gives : (is_final : Bool) (above : Option UnpackedIndex) (bytes : List ℕ) → Gives (with_supertype is_final above s bytes) (with_supertype is_final above t bytes)
  unfolding with_supertype
  with_supertype_gives is_final above bytes =
      both (composite_type s bytes) (composite_type t bytes) _ _ (composite_gives bytes) (λ composite. refl)

  below_supertype_gives : (is_final : Bool) (bytes : List ℕ) → Gives (below_supertype is_final s bytes) (below_supertype is_final t bytes)
  unfolding below_supertype
  below_supertype_gives is_final bytes =
      both (supertype s bytes) (supertype t bytes) _ _ (supertype_gives bytes)
      (λ above. with_supertype_gives is_final above.0 above.1)

  sub_type_gives : (bytes : List ℕ) → Gives (sub_type s bytes) (sub_type t bytes)
  unfolding sub_type
  sub_type_gives [] = tt
  sub_type_gives (code ∷ bytes) =
      either (nat_eq code 0x50) _ _ _ _ (below_supertype_gives false bytes)
      (either (nat_eq code 0x4f) _ _ _ _ (below_supertype_gives true bytes) (with_supertype_gives true None (code ∷ bytes)))

pub reads_anyhow : (names : CanonicalTypes) (canonical bytes rest : List ℕ) (ty : SubType) → names.canonical.now ≡ canonical → names.group ≡ Indices (2 ^ 32 - 1) → sub_type names bytes ≡ Some (ty, rest) → ReadsAnyhow canonical bytes ty rest
reads_anyhow names canonical bytes rest ty here last e = λ types there.
    let p = names.canonical.ref_ptr in
    let q = types.canonical.ref_ptr in
    let l = names.canonical.now in
    let alike : (place : ℕ) → Alike (Indices (2 ^ 32 - 1)) types.group place = λ place. inr (ap Module (too_large place)) in
    let G : GroupNames → Type 0 = λ g. sub_type (lying p l g) bytes ≡ Some (ty, rest) in
    let L : List ℕ → Type 0 = λ c. sub_type (lying q c types.group) bytes ≡ Some (ty, rest) in
    let read = given (sub_type (lying p l (Indices (2 ^ 32 - 1))) bytes) (sub_type (lying q l types.group) bytes) (ty, rest)
    (sub_type_gives p q l (Indices (2 ^ 32 - 1)) types.group alike bytes) (subst G last e) in
    subst L (here ∙ sym there) read

pub reads_wherever : (s t : CanonicalTypes) → s.canonical.now ≡ t.canonical.now → s.group ≡ t.group → (bytes : List ℕ) → sub_type s bytes ≡ sub_type t bytes
reads_wherever s t here own bytes =
    let p = s.canonical.ref_ptr in
    let q = t.canonical.ref_ptr in
    let l = s.canonical.now in
    let g = s.group in
    let alike : (place : ℕ) → Alike g g place = λ place. inl refl in
    let L : List ℕ → Type 0 = λ c. sub_type (lying p l g) bytes ≡ sub_type (lying q c g) bytes in
    let G : GroupNames → Type 0 = λ h. sub_type (lying p l g) bytes ≡ sub_type (lying q t.canonical.now h) bytes in
    let same_there = both_give (sub_type (lying p l g) bytes) (sub_type (lying q l g) bytes) (sub_type_gives p q l g g alike bytes) (sub_type_gives q p l g g alike bytes) in
    subst G own (subst L here same_there)
