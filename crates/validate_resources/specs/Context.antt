-- What a validator knows of a module: its meaning, and the laws of the order on types
-- (WebAssembly core specification, "Types" and "Validation: Matching"; exact types and descriptors are of a
-- proposal, "Custom Descriptors").
use Rattle.std.specs.Prelude.{◌≡◌, ℕ, Bool, List, [], ◌∷◌, true, false, ◌&&◌, Option, Some, None, is_some}
use Rattle.std.specs.List.{AllByRecursion}
use Rattle.std.specs.Option.{option_map, option_and_then}
use Rattle.validate_types.specs.Heap.{is_small}
use Rattle.validate_types.specs.Refs.{reference, without_null, with_null}
use Rattle.validate_types.specs.Types.{Signature, unpacked_fields}
pub use Rattle.validate_types.specs.Kinds.{inner_signature, signature_of, inner_continuation, continuation_of}
pub use Rattle.validate_types.specs.Kinds.{is_struct, descriptor_of}
use Rattle.validate_types.specs.declared.features.WasmFeatures.{WasmFeatures}
use Rattle.validate_types.specs.declared.heap.AbstractHeapType.{AbstractHeapType}
use Rattle.validate_types.specs.declared.heap.CoreTypeId.{CoreTypeId}
use Rattle.validate_types.specs.declared.heap.HeapType.{HeapType}
use Rattle.validate_types.specs.declared.heap.HeapType.TheVariants.{Abstract, Concrete, Exact}
use Rattle.validate_types.specs.declared.heap.UnpackedIndex.{UnpackedIndex}
use Rattle.validate_types.specs.declared.heap.UnpackedIndex.TheVariants.{Module, Id}
use Rattle.validate_types.specs.declared.refs.RefType.{RefType}
use Rattle.validate_types.specs.declared.types.CompositeInnerType.{CompositeInnerType}
use Rattle.validate_types.specs.declared.types.CompositeInnerType.TheVariants.{Func, Array, Struct, Cont}
use Rattle.validate_types.specs.declared.types.FieldType.{FieldType}
use Rattle.validate_types.specs.declared.types.GlobalType.{GlobalType}
use Rattle.validate_types.specs.declared.types.MemoryType.{MemoryType}
use Rattle.validate_types.specs.declared.types.SubType.{SubType}
use Rattle.validate_types.specs.declared.types.TableType.{TableType}
use Rattle.validate_types.specs.declared.types.ValType.{ValType}
use Rattle.validate_types.specs.declared.types.ValType.TheVariants.{I32, I64, F32, F64, V128, Ref}
use Rattle.validate_resources.specs.Order.{kind_bottom}

-- The look-ups by index, the types that ids name, the order on types, the top types of its hierarchies,
-- and the canonical forms of types of the module, of value types under some features.
pub record ModuleContext : Type 0 where
  pub type_at : ℕ → Option SubType
  -- the type that an id names, where the lookup knows the id
  pub type_of_id : CoreTypeId → Option SubType
  -- the index and the id of a function's type
  pub type_index_of : ℕ → Option ℕ
  pub type_id_of : ℕ → Option CoreTypeId
  -- `ref.func` may name the function
  pub is_referenced : ℕ → Bool
  -- a reference to the function is exact in the function's type
  pub has_exact_type : ℕ → Bool
  pub table_at : ℕ → Option TableType
  pub memory_at : ℕ → Option MemoryType
  pub global_at : ℕ → Option GlobalType
  -- what an exception with the tag at an index carries, and what is given back for it
  pub tag_at : ℕ → Option Signature
  -- the type of an element segment
  pub element_at : ℕ → Option RefType
  -- how many data segments there are, where the module says so
  pub data_count : Option ℕ
  -- false where either side isn't valid and canonical
  pub below : ValType → ValType → Bool
  -- the reference is to something shared
  pub is_shared : RefType → Bool
  -- the top type of the hierarchy that a heap type is in
  pub top_type : HeapType → HeapType
  pub canonical_type : WasmFeatures → ValType → Option ValType
  pub canonical_ref : RefType → Option RefType
  pub canonical_heap : HeapType → Option HeapType

-- ---- types that are valid and canonical: each index in them is the id of a type

-- an id that the lookup knows, and to which a reference can be made
abbrev pub is_valid_index : ModuleContext → UnpackedIndex → Bool
is_valid_index md (Module i) = false
is_valid_index md (Id id) = is_some (md.type_of_id id) && is_small (Id id)

abbrev pub is_valid_heap : ModuleContext → HeapType → Bool
is_valid_heap md (Abstract shared ty) = true
is_valid_heap md (Concrete i) = is_valid_index md i
is_valid_heap md (Exact i) = is_valid_index md i

-- a number or vector type has no index
abbrev pub is_valid : ModuleContext → ValType → Bool
is_valid md (Ref r) = is_valid_heap md r.heap_type
is_valid md _ = true

abbrev pub Valid : ModuleContext → ValType → Type 0
Valid md t = is_valid md t ≡ true

abbrev pub AllValid : ModuleContext → List ValType → Type 0
AllValid md ts = AllByRecursion (Valid md) ts

abbrev pub IsValidBelow : ModuleContext → ValType → ValType → Type 0
IsValidBelow md t u = md.below t u ≡ true

-- a number or vector type
abbrev pub is_number_or_vector : ValType → Bool
is_number_or_vector (Ref r) = false
is_number_or_vector _ = true

-- twice the same number or vector type
abbrev pub is_same_number_or_vector : ValType → ValType → Bool
is_same_number_or_vector I32 I32 = true
is_same_number_or_vector I64 I64 = true
is_same_number_or_vector F32 F32 = true
is_same_number_or_vector F64 F64 = true
is_same_number_or_vector V128 V128 = true
is_same_number_or_vector _ _ = false

-- a type of addresses
abbrev pub is_address_type : ValType → Bool
is_address_type I32 = true
is_address_type I64 = true
is_address_type _ = false

-- what the type at an index takes and gives, if it is one of functions
abbrev pub signature_at : ModuleContext → ℕ → Option Signature
signature_at md i = option_and_then signature_of (md.type_at i)

-- the same of the type that an id names
abbrev pub signature_of_id : ModuleContext → CoreTypeId → Option Signature
signature_of_id md id = option_and_then signature_of (md.type_of_id id)

-- the same of the function type of a continuation
abbrev pub continued_signature : ModuleContext → UnpackedIndex → Option Signature
continued_signature md (Module i) = None
continued_signature md (Id id) = signature_of_id md id

-- the type that an index of either kind names
abbrev pub type_named : ModuleContext → UnpackedIndex → Option SubType
type_named md (Module i) = md.type_at i
type_named md (Id id) = md.type_of_id id

-- the bottom type of the kind of that type
abbrev pub bottom_of : ModuleContext → UnpackedIndex → Option AbstractHeapType
bottom_of md u = option_map (λ (s : SubType). kind_bottom s.composite_type.inner) (type_named md u)

-- the fields of a struct, or the one that an array has in each place; a function or a continuation has none
abbrev pub inner_fields : CompositeInnerType → List FieldType
inner_fields (Func f) = []
inner_fields (Array a) = a.0 ∷ []
inner_fields (Struct fields) = fields
inner_fields (Cont c) = []

abbrev pub fields_of : SubType → List FieldType
fields_of s = inner_fields s.composite_type.inner

-- ---- the laws of a lookup

-- a type below a reference: a reference of the same sharedness, without null where that has none
pub record IsBelowReference (md : ModuleContext) (t : ValType) (r : RefType) : Type 0 where
  pub lower : RefType
  pub is : t ≡ Ref lower
  pub same_sharedness : md.is_shared lower ≡ md.is_shared r
  pub without_null : r.nullable ≡ false → lower.nullable ≡ false

-- the index of a continuation's function type: it is valid and canonical, and names a type of functions
pub record IsContinuation (md : ModuleContext) (u : UnpackedIndex) : Type 0 where
  pub valid : is_valid_index md u ≡ true
  pub function : is_some (continued_signature md u) ≡ true

-- the index of the type of a type's descriptors: it is valid and canonical, and the type is one of structs
pub record IsDescriptor (md : ModuleContext) (s : SubType) (u : UnpackedIndex) : Type 0 where
  pub valid : is_valid_index md u ≡ true
  pub on_struct : is_struct s.composite_type.inner ≡ true

-- what a declared type is made of is valid and canonical: what a function takes and gives, what fields
-- hold, what a continuation has still to run, its supertype, the type of its descriptors, and the one whose
-- values its own describe
pub record IsValidType (md : ModuleContext) (s : SubType) : Type 0 where
  pub params : (f : Signature) → signature_of s ≡ Some f → AllValid md f.params
  pub results : (f : Signature) → signature_of s ≡ Some f → AllValid md f.results
  pub fields : AllValid md (unpacked_fields (fields_of s))
  pub continuation : (u : UnpackedIndex) → continuation_of s ≡ Some u → IsContinuation md u
  pub supertype : (u : UnpackedIndex) → s.supertype_idx ≡ Some u → is_valid_index md u ≡ true
  pub descriptor : (u : UnpackedIndex) → descriptor_of s ≡ Some u → IsDescriptor md s u
  pub described : (u : UnpackedIndex) → s.composite_type.describes_idx ≡ Some u → is_valid_index md u ≡ true

-- a heap type below one that is exact: exact in the same type, or the bottom type of its kind
abbrev pub IsBelowExact : ModuleContext → HeapType → UnpackedIndex → Type 0
IsBelowExact md (Exact v) u = v ≡ u
IsBelowExact md (Concrete v) u = ⊥
IsBelowExact md (Abstract shared ty) u = bottom_of md u ≡ Some ty

-- the canonical form of the type at an index: an index that names the same type; the exact one passes the check
-- too, in the same type
pub record IsCheckedIndex (md : ModuleContext) (u : UnpackedIndex) (h : HeapType) : Type 0 where
  pub index : UnpackedIndex
  pub is : h ≡ Concrete index
  pub same_type : type_named md index ≡ type_named md u
  pub exact : md.canonical_heap (Exact u) ≡ Some (Exact index)

-- what stands for the top type of the hierarchy of a reference's type: it is abstract, and a reference to
-- it is of the same sharedness
pub record IsTop (md : ModuleContext) (r : RefType) (top : HeapType) : Type 0 where
  pub shared : Bool
  pub ty : AbstractHeapType
  pub is : top ≡ Abstract shared ty
  pub same_sharedness : md.is_shared (record r { heap_type = top }) ≡ md.is_shared r

pub record IsLawful (md : ModuleContext) : Type 0 where
  -- the order is one of valid and canonical types, reflexive and transitive
  pub both_valid : (t u : ValType) → IsValidBelow md t u → Valid md t × Valid md u
  pub reflexive : (t : ValType) → Valid md t → IsValidBelow md t t
  pub transitive : (t u v : ValType) → IsValidBelow md t u → IsValidBelow md u v → IsValidBelow md t v
  -- a number or vector type has only itself below it
  pub number : (t u : ValType) → IsValidBelow md t u → is_number_or_vector u ≡ true → t ≡ u
  pub below_reference : (t : ValType) (r : RefType) → IsValidBelow md t (Ref r) → IsBelowReference md t r
  -- taking null away keeps the order and goes down, adding it goes up
  pub non_null_keeps : (r s : RefType) → IsValidBelow md (Ref r) (Ref s)
      → IsValidBelow md (Ref (without_null r)) (Ref (without_null s))
  pub non_null_below : (r : RefType) → Valid md (Ref r) → IsValidBelow md (Ref (without_null r)) (Ref r)
  pub below_with_null : (r : RefType) → Valid md (Ref r) → IsValidBelow md (Ref r) (Ref (with_null r))
  pub top : (r : RefType) → Valid md (Ref r) → IsTop md r (md.top_type r.heap_type)
  -- below an exact reference lie references exact in the same type and those of its kind's bottom type; it lies
  -- below the one that isn't exact, and can be had where that can
  pub below_exact : (r : RefType) (n : Bool) (u : UnpackedIndex) → IsValidBelow md (Ref r) (Ref (reference n (Exact u)))
      → IsBelowExact md r.heap_type u
  pub exact_below : (n : Bool) (u : UnpackedIndex) → is_valid_index md u ≡ true
      → IsValidBelow md (Ref (reference n (Exact u))) (Ref (reference n (Concrete u)))
  pub checked_exact : (u : UnpackedIndex) (h : HeapType) → md.canonical_heap (Concrete u) ≡ Some h
      → IsCheckedIndex md u h
  -- whatever a look-up hands out is valid and canonical: a declared type, by its index or its id, and the
  -- types of functions, tables, globals, tags and element segments
  pub types : (i : ℕ) (s : SubType) → md.type_at i ≡ Some s → IsValidType md s
  pub types_of_ids : (id : CoreTypeId) (s : SubType) → md.type_of_id id ≡ Some s → IsValidType md s
  pub functions : (f : ℕ) (id : CoreTypeId) → md.type_id_of f ≡ Some id → is_valid_index md (Id id) ≡ true
  pub tables : (i : ℕ) (t : TableType) → md.table_at i ≡ Some t → Valid md (Ref t.element_type)
  pub globals : (i : ℕ) (g : GlobalType) → md.global_at i ≡ Some g → Valid md g.content_type
  pub tags : (i : ℕ) (f : Signature) → md.tag_at i ≡ Some f → AllValid md f.params × AllValid md f.results
  pub elements : (i : ℕ) (r : RefType) → md.element_at i ≡ Some r → Valid md (Ref r)
  -- where a check passes, it writes a valid and canonical form
  pub checked : (features : WasmFeatures) (t u : ValType) → md.canonical_type features t ≡ Some u → Valid md u
  pub checked_ref : (r s : RefType) → md.canonical_ref r ≡ Some s → Valid md (Ref s)
  pub checked_heap : (h k : HeapType) → md.canonical_heap h ≡ Some k → is_valid_heap md k ≡ true
