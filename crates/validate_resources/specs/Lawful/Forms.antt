-- Proofs, which need no belief: canonical forms, and the types that are valid in a context of lists.
use Rattle.std.specs.Prelude.{◌≡◌, ℕ, ◌+◌, ◌≤◌, Bool, List, [], ◌∷◌, true, false, ◌&&◌, ◌||◌, not, map, nat_lt, nat_le}
use Rattle.std.specs.Prelude.{length, is_some, slice_get, option_map, option_and_then, Option, Some, None, refl, if◌then◌else◌}
use Rattle.std.specs.Bool.{beq}
use Rattle.std.specs.List.{list_all, enumerate_from}
use Rattle.std.proofs.Common.{arith, ap, ap₂, sym, subst, ◌∙◌, ⊎_elim, lt-ltb, le-ltb}
use Rattle.std.proofs.lemmas.Bool.{and_parts, and_from}
use Rattle.std.proofs.lemmas.List.{length-map}
use Rattle.std.proofs.lemmas.Option.{slice_get_cases, slice_get-map}
use Rattle.validate_types.specs.Heap.{number_of}
use Rattle.validate_types.specs.declared.heap.TheConstants.PackedIndex.{LIMIT}
use Rattle.validate_types.specs.declared.heap.HeapType.{HeapType}
use Rattle.validate_types.specs.declared.heap.HeapType.TheVariants.{Abstract, Concrete, Exact}
use Rattle.validate_types.specs.declared.heap.UnpackedIndex.{UnpackedIndex}
use Rattle.validate_types.specs.declared.heap.UnpackedIndex.TheVariants.{Module, Id}
use Rattle.validate_types.specs.declared.types.CompositeInnerType.{CompositeInnerType}
use Rattle.validate_types.specs.declared.types.CompositeInnerType.TheVariants.{Func, Array, Struct, Cont}
use Rattle.validate_types.specs.declared.types.CompositeType.{CompositeType}
use Rattle.validate_types.specs.declared.types.FieldType.{FieldType}
use Rattle.validate_types.specs.declared.types.StorageType.{StorageType}
use Rattle.validate_types.specs.declared.types.StorageType.TheVariants.{I8, I16, Val}
use Rattle.validate_types.specs.declared.types.SubType.{SubType}
use Rattle.validate_types.specs.declared.types.ValType.{ValType}
use Rattle.validate_types.specs.declared.types.ValType.TheVariants.{I32, I64, F32, F64, V128, Ref}
use Rattle.validate_resources.specs.declared.lists.FuncDecl.{FuncDecl}
use Rattle.validate_resources.specs.declared.lists.TheConstants.{MAX_TYPES}
use Rattle.validate_resources.specs.Context.{IsValidType, IsContinuation, Valid, is_struct, descriptor_of}
use Rattle.validate_resources.specs.Context.{AllValid, is_valid, is_valid_index, is_valid_heap}
use Rattle.validate_resources.specs.Context.{inner_signature, inner_fields, signature_of, inner_continuation, continued_signature}
use Rattle.validate_types.specs.Types.{Signature, unpacked_type, unpacked_fields}
use Rattle.validate_resources.specs.Indices.{is_known, is_id, heap_indices_pass, type_indices_pass, option_index_passes, composite_indices_pass}
use Rattle.validate_resources.specs.Indices.{storage_indices_pass, field_indices_pass, storage_with_id, field_with_id, inner_indices_pass, sub_indices_pass, index_with_id, heap_with_id, ref_with_id}
use Rattle.validate_resources.specs.Indices.{type_with_id, table_with_id, global_with_id, inner_with_ids, composite_with_ids, sub_with_ids}
use Rattle.validate_resources.specs.Order.{is_same_kind, is_same_sort, has_supertype_of_its_sort}
use Rattle.validate_resources.specs.Order.{have_supertypes_of_their_sort}
use Rattle.validate_resources.specs.Order.{is_type_below}
use Rattle.validate_resources.specs.Lists.{Declared, context_of, is_valid_below, list_indices_pass, is_func_type, is_of_func_type, continues_function, have_func_types, has_fitting_descriptor}
use Rattle.validate_resources.specs.Lists.{may_be_looked_up, module_of, canonical_lists}

-- ---- validity in a context of lists

-- of the ids that the lists know each fits a reference, since there are at most 1,000,000
id-valid : (d : Declared) → length d.types ≤ MAX_TYPES → (i : ℕ) → (is_some (slice_get d.types i) && nat_lt i LIMIT) ≡ nat_lt i (length d.types)
id-valid d small i =
    ⊎_elim (λ (x, lt, is, at). ap (λ o. is_some o && nat_lt i LIMIT) is ∙ lt-ltb i LIMIT (omega arith) ∙ sym (lt-ltb i (length d.types) lt))
    (λ (le, is). ap (λ o. is_some o && nat_lt i LIMIT) is ∙ sym (le-ltb i (length d.types) le))
    (slice_get_cases d.types i).1

pub index-valid : (d : Declared) → length d.types ≤ MAX_TYPES → (i : UnpackedIndex) → is_valid_index (context_of d) i ≡ is_id (length d.types) i
index-valid d small (Module i) = refl
index-valid d small (Id id) = id-valid d small id.index

pub heap-valid : (d : Declared) → length d.types ≤ MAX_TYPES → (h : HeapType) → is_valid_heap (context_of d) h ≡ heap_indices_pass (is_id (length d.types)) h
heap-valid d small (Abstract s a) = refl
heap-valid d small (Concrete i) = index-valid d small i
heap-valid d small (Exact i) = index-valid d small i

pub type-valid : (d : Declared) → length d.types ≤ MAX_TYPES → (t : ValType) → is_valid (context_of d) t ≡ type_indices_pass (is_id (length d.types)) t
type-valid d small I32 = refl
type-valid d small I64 = refl
type-valid d small F32 = refl
type-valid d small F64 = refl
type-valid d small V128 = refl
type-valid d small (Ref r) = heap-valid d small r.heap_type

all-valid : (d : Declared) → length d.types ≤ MAX_TYPES → (ts : List ValType) → list_all (type_indices_pass (is_id (length d.types))) ts ≡ true → AllValid (context_of d) ts
all-valid d small [] h = tt
all-valid d small (t ∷ ts) h =
    let p = and_parts (type_indices_pass (is_id (length d.types)) t) _ h in (type-valid d small t ∙ p.0, all-valid d small ts p.1)

signature-valid : (d : Declared) → length d.types ≤ MAX_TYPES → (i : CompositeInnerType) → inner_indices_pass (is_id (length d.types)) i ≡ true
    → (s : Signature) → inner_signature i ≡ Some s → AllValid (context_of d) s.params × AllValid (context_of d) s.results
signature-valid d small (Func f) h s is =
    let p = and_parts (list_all (type_indices_pass (is_id (length d.types))) f.params) _ h in
    let same : f ≡ s = cc in
    subst (λ (t : Signature). AllValid (context_of d) t.params × AllValid (context_of d) t.results) same
    (all-valid d small f.params p.0, all-valid d small f.results p.1)
signature-valid d small (Array a) h s is = cc
signature-valid d small (Struct fields) h s is = cc
signature-valid d small (Cont c) h s is = cc

storage-valid : (d : Declared) → length d.types ≤ MAX_TYPES → (t : StorageType) → storage_indices_pass (is_id (length d.types)) t ≡ true → Valid (context_of d) (unpacked_type t)
storage-valid d small I8 h = refl
storage-valid d small I16 h = refl
storage-valid d small (Val t) h = type-valid d small t ∙ h

fields-valid : (d : Declared) → length d.types ≤ MAX_TYPES → (fields : List FieldType) → list_all (field_indices_pass (is_id (length d.types))) fields ≡ true → AllValid (context_of d) (unpacked_fields fields)
fields-valid d small [] h = tt
fields-valid d small (f ∷ fields) h =
    let p = and_parts (field_indices_pass (is_id (length d.types)) f) _ h in (storage-valid d small f.element_type p.0, fields-valid d small fields p.1)

inner-fields-valid : (d : Declared) → length d.types ≤ MAX_TYPES → (i : CompositeInnerType) → inner_indices_pass (is_id (length d.types)) i ≡ true → AllValid (context_of d) (unpacked_fields (inner_fields i))
inner-fields-valid d small (Func f) h = tt
inner-fields-valid d small (Array a) h = (storage-valid d small a.0.element_type h, tt)
inner-fields-valid d small (Struct fields) h = fields-valid d small fields h
inner-fields-valid d small (Cont c) h = tt

-- the index of a continuation's function type is an id, and that of a type of functions
continuation-valid : (d : Declared) → length d.types ≤ MAX_TYPES → (i : CompositeInnerType) → inner_indices_pass (is_id (length d.types)) i ≡ true
    → is_of_func_type d.types (inner_continuation i) ≡ true → (u : UnpackedIndex) → inner_continuation i ≡ Some u → IsContinuation (context_of d) u
continuation-valid d small (Cont c) h e u is =
    let same : c.0 ≡ u = cc in
    subst (IsContinuation (context_of d)) same (record { valid = index-valid d small c.0 ∙ h; function = of_id c.0 h e })
  where
    of_some : (o : Option SubType) → is_func_type o ≡ true → is_some (option_and_then signature_of o) ≡ true
    of_some None k = cc
    of_some (Some s) k = k

    of_id : (i : UnpackedIndex) → is_id (length d.types) i ≡ true → is_func_type (slice_get d.types (number_of i)) ≡ true → is_some (continued_signature (context_of d) i) ≡ true
    of_id (Module i) k e = cc
    of_id (Id id) k e = of_some (slice_get d.types id.index) e
continuation-valid d small (Func f) h e u is = cc
continuation-valid d small (Array a) h e u is = cc
continuation-valid d small (Struct fields) h e u is = cc

-- an index that a type has
option-valid : (d : Declared) → length d.types ≤ MAX_TYPES → (o : Option UnpackedIndex) → option_index_passes (is_id (length d.types)) o ≡ true → (u : UnpackedIndex) → o ≡ Some u → is_valid_index (context_of d) u ≡ true
option-valid d small o h u is = index-valid d small u ∙ (ap (option_index_passes (is_id (length d.types))) (sym is) ∙ h)

descriptor-fits : (s : SubType) (u : UnpackedIndex) → has_fitting_descriptor s ≡ true → descriptor_of s ≡ Some u → is_struct s.composite_type.inner ≡ true
descriptor-fits s u h is = sym (ap (λ o. not (is_some o) || is_struct s.composite_type.inner) is) ∙ h

pub type-is-valid : (d : Declared) → length d.types ≤ MAX_TYPES → (s : SubType) → sub_indices_pass (is_id (length d.types)) s ≡ true → continues_function d.types s ≡ true → has_fitting_descriptor s ≡ true → IsValidType (context_of d) s
type-is-valid d small s h e k =
    let (super, composite) = and_parts (option_index_passes (is_id (length d.types)) s.supertype_idx) _ h in
    let (made, described) = and_parts (inner_indices_pass (is_id (length d.types)) s.composite_type.inner && option_index_passes (is_id (length d.types)) s.composite_type.descriptor_idx) _ composite in
    let (inner, descriptor) = and_parts (inner_indices_pass (is_id (length d.types)) s.composite_type.inner) _ made in
    record {
      params = λ f is. (signature-valid d small s.composite_type.inner inner f is).0;
      results = λ f is. (signature-valid d small s.composite_type.inner inner f is).1;
      fields = inner-fields-valid d small s.composite_type.inner inner;
      continuation = continuation-valid d small s.composite_type.inner inner e;
      supertype = option-valid d small s.supertype_idx super;
      descriptor = λ u is. record { valid = option-valid d small s.composite_type.descriptor_idx descriptor u is; on_struct = descriptor-fits s u k is };
      described = option-valid d small s.composite_type.describes_idx described;
    }

-- of valid types the order is that of types
pub below-valid : (d : Declared) → length d.types ≤ MAX_TYPES → (t u : ValType) → Valid (context_of d) t → Valid (context_of d) u → is_type_below d.types t u ≡ is_valid_below d.types t u
below-valid d small t u h k = let v = sym (type-valid d small t) ∙ h in let w = sym (type-valid d small u) ∙ k in
    sym (ap (λ b. b && is_type_below d.types t u) (and_from _ _ v w))

-- ---- the indices of a canonical form are ids

pub heap-ids : (n : ℕ) (h : HeapType) → heap_indices_pass (is_id n) (heap_with_id h) ≡ heap_indices_pass (is_known n) h
heap-ids n (Abstract s a) = refl
heap-ids n (Concrete i) = refl
heap-ids n (Exact i) = refl

pub type-ids : (n : ℕ) (t : ValType) → type_indices_pass (is_id n) (type_with_id t) ≡ type_indices_pass (is_known n) t
type-ids n I32 = refl
type-ids n I64 = refl
type-ids n F32 = refl
type-ids n F64 = refl
type-ids n V128 = refl
type-ids n (Ref r) = heap-ids n r.heap_type

-- ---- the canonical lists are a module where what is declared is one

all-same : {X Y : Type 0} (p : Y → Bool) (q : X → Bool) (f : X → Y) → ((x : X) → p (f x) ≡ q x) → (xs : List X) → list_all p (map f xs) ≡ list_all q xs
all-same p q f same [] = refl
all-same p q f same (x ∷ xs) = ap₂ (λ a b. a && b) (same x) (all-same p q f same xs)

option-ids : (n : ℕ) (o : Option UnpackedIndex) → option_index_passes (is_id n) (option_map index_with_id o) ≡ option_index_passes (is_known n) o
option-ids n None = refl
option-ids n (Some i) = refl

storage-ids : (n : ℕ) (t : StorageType) → storage_indices_pass (is_id n) (storage_with_id t) ≡ storage_indices_pass (is_known n) t
storage-ids n I8 = refl
storage-ids n I16 = refl
storage-ids n (Val t) = type-ids n t

inner-ids : (n : ℕ) (i : CompositeInnerType) → inner_indices_pass (is_id n) (inner_with_ids i) ≡ inner_indices_pass (is_known n) i
inner-ids n (Func f) = ap₂ (λ a b. a && b) (all-same _ _ type_with_id (type-ids n) f.params) (all-same _ _ type_with_id (type-ids n) f.results)
inner-ids n (Array a) = storage-ids n a.0.element_type
inner-ids n (Struct fields) = all-same _ _ field_with_id (λ f. storage-ids n f.element_type) fields
inner-ids n (Cont c) = refl

composite-ids : (n : ℕ) (c : CompositeType) → composite_indices_pass (is_id n) (composite_with_ids c) ≡ composite_indices_pass (is_known n) c
composite-ids n c =
    ap₂ (λ a b. a && b) (ap₂ (λ a b. a && b) (inner-ids n c.inner) (option-ids n c.descriptor_idx)) (option-ids n c.describes_idx)

sub-ids : (n : ℕ) (s : SubType) → sub_indices_pass (is_id n) (sub_with_ids s) ≡ sub_indices_pass (is_known n) s
sub-ids n s = ap₂ (λ a b. a && b) (option-ids n s.supertype_idx) (composite-ids n s.composite_type)

kinds-same : (a b : CompositeInnerType) → is_same_kind (inner_with_ids a) (inner_with_ids b) ≡ is_same_kind a b
kinds-same (Func f) (Func g) = refl
kinds-same (Func f) (Array b) = refl
kinds-same (Func f) (Struct t) = refl
kinds-same (Func f) (Cont d) = refl
kinds-same (Array a) (Func g) = refl
kinds-same (Array a) (Array b) = refl
kinds-same (Array a) (Struct t) = refl
kinds-same (Array a) (Cont d) = refl
kinds-same (Struct s) (Func g) = refl
kinds-same (Struct s) (Array b) = refl
kinds-same (Struct s) (Struct t) = refl
kinds-same (Struct s) (Cont d) = refl
kinds-same (Cont c) (Func g) = refl
kinds-same (Cont c) (Array b) = refl
kinds-same (Cont c) (Struct t) = refl
kinds-same (Cont c) (Cont d) = refl

sort-same : (s : SubType) (o : Option SubType) → is_same_sort (sub_with_ids s).composite_type (option_map sub_with_ids o) ≡ is_same_sort s.composite_type o
sort-same s None = refl
sort-same s (Some t) = ap (λ b. b && beq s.composite_type.shared t.composite_type.shared) (kinds-same s.composite_type.inner t.composite_type.inner)

fits-same : (types : List SubType) (k : ℕ) (s : SubType) (o : Option UnpackedIndex) → has_supertype_of_its_sort (map sub_with_ids types) k (sub_with_ids s).composite_type (option_map index_with_id o) ≡ has_supertype_of_its_sort types k s.composite_type o
fits-same types k s None = refl
fits-same types k s (Some i) =
    ap (λ b. nat_lt (number_of i) k && b)
    (ap (is_same_sort (sub_with_ids s).composite_type) (slice_get-map sub_with_ids types (number_of i)) ∙ sort-same s (slice_get types (number_of i)))

func-same : (o : Option SubType) → is_func_type (option_map sub_with_ids o) ≡ is_func_type o
func-same None = refl
func-same (Some s) = inner_same s.composite_type.inner
  where
    inner_same : (i : CompositeInnerType) → is_some (inner_signature (inner_with_ids i)) ≡ is_some (inner_signature i)
    inner_same (Func f) = refl
    inner_same (Array a) = refl
    inner_same (Struct fields) = refl
    inner_same (Cont c) = refl

continued-same : (types : List SubType) (s : SubType) → continues_function (map sub_with_ids types) (sub_with_ids s) ≡ continues_function types s
continued-same types s = inner_same s.composite_type.inner
  where
    inner_same : (i : CompositeInnerType) → is_of_func_type (map sub_with_ids types) (inner_continuation (inner_with_ids i)) ≡ is_of_func_type types (inner_continuation i)
    inner_same (Func f) = refl
    inner_same (Array a) = refl
    inner_same (Struct fields) = refl
    inner_same (Cont c) = ap is_func_type (slice_get-map sub_with_ids types (number_of c.0)) ∙ func-same (slice_get types (number_of c.0))

descriptor-same : (s : SubType) → has_fitting_descriptor (sub_with_ids s) ≡ has_fitting_descriptor s
descriptor-same s = ap₂ (λ a b. not a || b) (some_same s.composite_type.descriptor_idx) (struct_same s.composite_type.inner)
  where
    some_same : (o : Option UnpackedIndex) → is_some (option_map index_with_id o) ≡ is_some o
    some_same None = refl
    some_same (Some i) = refl

    struct_same : (i : CompositeInnerType) → is_struct (inner_with_ids i) ≡ is_struct i
    struct_same (Func f) = refl
    struct_same (Array a) = refl
    struct_same (Struct fields) = refl
    struct_same (Cont c) = refl

-- of all that name a type by its index
functions-same : {A : Type 0} (index : A → ℕ) (types : List SubType) (xs : List A)
    → list_all (λ (x : A). is_func_type (slice_get (map sub_with_ids types) (index x))) xs ≡ list_all (λ (x : A). is_func_type (slice_get types (index x))) xs
functions-same index types [] = refl
functions-same index types (x ∷ xs) =
    ap₂ (λ a b. a && b) (ap is_func_type (slice_get-map sub_with_ids types (index x)) ∙ func-same (slice_get types (index x))) (functions-same index types xs)

enumerated-same : {X Y : Type 0} (p : ℕ × Y → Bool) (q : ℕ × X → Bool) (f : X → Y) → ((k : ℕ) (x : X) → p (k, f x) ≡ q (k, x)) → (n : ℕ) (xs : List X) → list_all p (enumerate_from n (map f xs)) ≡ list_all q (enumerate_from n xs)
enumerated-same p q f same n [] = refl
enumerated-same p q f same n (x ∷ xs) = ap₂ (λ a b. a && b) (same n x) (enumerated-same p q f same (n + 1) xs)

supertypes-same : (types : List SubType) → have_supertypes_of_their_sort (map sub_with_ids types) ≡ have_supertypes_of_their_sort types
supertypes-same types = enumerated-same _ _ sub_with_ids (λ k s. fits-same types k s s.supertype_idx) 0 types

indices-same : (n : ℕ) (d : Declared) → list_indices_pass (is_id n) (map sub_with_ids d.types) (map table_with_id d.tables) (map global_with_id d.globals) (map ref_with_id d.elements) ≡ list_indices_pass (is_known n) d.types d.tables d.globals d.elements
indices-same n d =
    ap₂ (λ a b. a && b)
    (ap₂ (λ a b. a && b)
    (ap₂ (λ a b. a && b) (all-same _ _ sub_with_ids (sub-ids n) d.types) (all-same _ _ table_with_id (λ t. heap-ids n t.element_type.heap_type) d.tables))
    (all-same _ _ global_with_id (λ g. type-ids n g.content_type) d.globals))
    (all-same _ _ ref_with_id (λ r. heap-ids n r.heap_type) d.elements)

pub module-same : (d : Declared) → may_be_looked_up is_id (canonical_lists d) ≡ may_be_looked_up is_known d
module-same d =
    let n : ℕ = length d.types in
    let at : ℕ → Bool = λ m. nat_le m MAX_TYPES && list_indices_pass (is_id m) (map sub_with_ids d.types) (map table_with_id d.tables) (map global_with_id d.globals) (map ref_with_id d.elements) && have_supertypes_of_their_sort (map sub_with_ids d.types) && have_func_types (canonical_lists d) && list_all has_fitting_descriptor (map sub_with_ids d.types) in
    ap at (length-map d.types sub_with_ids)
    ∙ ap₂ (λ a b. nat_le n MAX_TYPES && a && b && have_func_types (canonical_lists d) && list_all has_fitting_descriptor (map sub_with_ids d.types)) (indices-same n d) (supertypes-same d.types)
    ∙ ap₂ (λ b c. nat_le n MAX_TYPES && list_indices_pass (is_known n) d.types d.tables d.globals d.elements && have_supertypes_of_their_sort d.types && b && c)
    (ap₂ (λ a b. a && b) (ap₂ (λ a b. a && b) (functions-same (λ (f : FuncDecl). f.type_index) d.types d.functions) (functions-same (λ (i : ℕ). i) d.types d.tags)) (all-same _ _ sub_with_ids (continued-same d.types) d.types))
    (all-same _ _ sub_with_ids descriptor-same d.types)

-- ---- a function whose type is one of functions is of one of the types

known-at : (types : List SubType) (i : ℕ) → is_func_type (slice_get types i) ≡ true → nat_lt i (length types) ≡ true
known-at types i h =
    ⊎_elim (λ (x, lt, is, at). lt-ltb i (length types) lt)
    (λ (le, is). let none : false ≡ true = sym (ap is_func_type is) ∙ h in absurd cc)
    (slice_get_cases types i).1

pub known-types : {A : Type 0} (index : A → ℕ) (types : List SubType) (xs : List A) → list_all (λ (x : A). is_func_type (slice_get types (index x))) xs ≡ true → list_all (λ (x : A). nat_lt (index x) (length types)) xs ≡ true
known-types index types [] h = refl
known-types index types (x ∷ xs) h =
    let p = and_parts (is_func_type (slice_get types (index x))) _ h in
    and_from _ _ (known-at types (index x) p.0) (known-types index types xs p.1)

false-by : (b : Bool) → (b ≡ true → true ≡ false) → b ≡ false
false-by true k = k refl
false-by false k = refl

-- the type of each function and of each tag is there
abbrev pub have_known_types : Declared → Bool
have_known_types d = list_all (λ (f : FuncDecl). nat_lt f.type_index (length d.types)) d.functions && list_all (λ i. nat_lt i (length d.types)) d.tags

known-in : (d : Declared) → have_func_types d ≡ true → have_known_types d ≡ true
known-in d h =
    let k = and_parts (list_all (λ (f : FuncDecl). is_func_type (slice_get d.types f.type_index)) d.functions && list_all (λ i. is_func_type (slice_get d.types i)) d.tags) _ h in
    let p = and_parts (list_all (λ (f : FuncDecl). is_func_type (slice_get d.types f.type_index)) d.functions) _ k.0 in
    and_from _ _ (known-types (λ (f : FuncDecl). f.type_index) d.types d.functions p.0) (known-types (λ (i : ℕ). i) d.types d.tags p.1)

-- what the lists of a module pass, up to the supertypes, and up to the kinds of functions
abbrev up_to_supertypes : Declared → Bool
up_to_supertypes d = nat_le (length d.types) MAX_TYPES && list_indices_pass (is_known (length d.types)) d.types d.tables d.globals d.elements && have_supertypes_of_their_sort d.types

abbrev up_to_functions : Declared → Bool
up_to_functions d = up_to_supertypes d && have_func_types d

functions-of : (d : Declared) → may_be_looked_up is_known d ≡ true → have_func_types d ≡ true
functions-of d e = (and_parts (up_to_supertypes d) _ (and_parts (up_to_functions d) _ e).0).1

no-module-by : (d : Declared) → (may_be_looked_up is_known d ≡ true → true ≡ false) → module_of d ≡ None
no-module-by d h = ap (λ b. if b then Some (canonical_lists d) else None) (false-by (may_be_looked_up is_known d) h)

-- where one isn't of functions, the lists are no module
pub no-functions : (d : Declared) → have_func_types d ≡ false → module_of d ≡ None
no-functions d h = no-module-by d (λ e. sym (functions-of d e) ∙ h)

-- where one has a descriptor and is none of structs, neither
pub no-descriptors : (d : Declared) → list_all has_fitting_descriptor d.types ≡ false → module_of d ≡ None
no-descriptors d h = no-module-by d (λ e. sym (and_parts (up_to_functions d) _ e).1 ∙ h)

-- where one isn't there, neither
pub no-module : (d : Declared) → have_known_types d ≡ false → module_of d ≡ None
no-module d h = no-module-by d (λ e. sym (known-in d (functions-of d e)) ∙ h)
