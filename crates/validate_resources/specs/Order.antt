-- The order on the types of a module (WebAssembly core specification, "Matching"; exact types are of a
-- proposal, "Custom Descriptors").
use Rattle.std.specs.Prelude.{ℕ, Bool, List, [], ◌∷◌, ◌++◌, true, false, zero, suc, ◌&&◌, ◌||◌, ◌==◌, not}
use Rattle.std.specs.Prelude.{nat_lt, slice_get, slice_index_or, Option, Some, None, if◌then◌else◌}
use Rattle.std.specs.Bool.{beq}
use Rattle.std.specs.List.{list_all, list_any, enumerate_from}
use Rattle.validate_types.specs.Abstract.{is_abstract_below, abstract_top}
use Rattle.validate_types.specs.Heap.{number_of}
use Rattle.validate_types.specs.declared.heap.AbstractHeapType.{AbstractHeapType}
use Rattle.validate_types.specs.declared.heap.AbstractHeapType.TheVariants.{Func as AnyFunc, NoFunc}
use Rattle.validate_types.specs.declared.heap.AbstractHeapType.TheVariants.{Array as AnyArray, Any}
use Rattle.validate_types.specs.declared.heap.AbstractHeapType.TheVariants.{Struct as AnyStruct}
use Rattle.validate_types.specs.declared.heap.AbstractHeapType.TheVariants.{None as NoAny}
use Rattle.validate_types.specs.declared.heap.AbstractHeapType.TheVariants.{Cont as AnyCont, NoCont}
use Rattle.validate_types.specs.declared.heap.HeapType.{HeapType}
use Rattle.validate_types.specs.declared.heap.HeapType.TheVariants.{Abstract, Concrete, Exact}
use Rattle.validate_types.specs.declared.heap.UnpackedIndex.{UnpackedIndex}
use Rattle.validate_types.specs.declared.refs.RefType.{RefType}
use Rattle.validate_types.specs.declared.types.CompositeInnerType.{CompositeInnerType}
use Rattle.validate_types.specs.declared.types.CompositeInnerType.TheVariants.{Func, Array, Struct, Cont}
use Rattle.validate_types.specs.declared.types.CompositeType.{CompositeType}
use Rattle.validate_types.specs.declared.types.SubType.{SubType}
use Rattle.validate_types.specs.declared.types.ValType.{ValType}
use Rattle.validate_types.specs.declared.types.ValType.TheVariants.{I32, I64, F32, F64, V128, Ref}

-- ---- sharedness (a proposal, "Shared-Everything Threads")

-- a type is marked as shared; false where there is none
abbrev pub is_shared_type : Option SubType → Bool
is_shared_type None = false
is_shared_type (Some s) = s.composite_type.shared

abbrev pub is_shared_at : List SubType → ℕ → Bool
is_shared_at types i = is_shared_type (slice_get types i)

-- a heap type is shared
abbrev pub is_heap_shared : List SubType → HeapType → Bool
is_heap_shared types (Abstract shared ty) = shared
is_heap_shared types (Concrete i) = is_shared_at types (number_of i)
is_heap_shared types (Exact i) = is_shared_at types (number_of i)

-- ---- kinds (Specification, "Composite Types")

-- both are of functions, of arrays, of structs or of continuations
abbrev pub is_same_kind : CompositeInnerType → CompositeInnerType → Bool
is_same_kind (Func f) (Func g) = true
is_same_kind (Array a) (Array b) = true
is_same_kind (Struct fields) (Struct others) = true
is_same_kind (Cont c) (Cont d) = true
is_same_kind _ _ = false

-- the abstract type that each type of the kind is below
abbrev pub abstract_kind : CompositeInnerType → AbstractHeapType
abstract_kind (Func f) = AnyFunc
abstract_kind (Array a) = AnyArray
abstract_kind (Struct fields) = AnyStruct
abstract_kind (Cont c) = AnyCont

-- the bottom type below each type of the kind
abbrev pub kind_bottom : CompositeInnerType → AbstractHeapType
kind_bottom (Func f) = NoFunc
kind_bottom (Array a) = NoAny
kind_bottom (Struct fields) = NoAny
kind_bottom (Cont c) = NoCont

-- ---- supertypes (Specification, "Validation: Types", sub types)

-- a type is declared, and is of this kind and sharedness
abbrev pub is_same_sort : CompositeType → Option SubType → Bool
is_same_sort c None = false
is_same_sort c (Some s) =
    is_same_kind c.inner s.composite_type.inner && beq c.shared s.composite_type.shared

-- the supertype of type k is an earlier one of the same kind and sharedness, if it has one
abbrev pub has_supertype_of_its_sort : List SubType → ℕ → CompositeType → Option UnpackedIndex → Bool
has_supertype_of_its_sort types k c None = true
has_supertype_of_its_sort types k c (Some i) =
    nat_lt (number_of i) k && is_same_sort c (slice_get types (number_of i))

abbrev pub have_supertypes_of_their_sort : List SubType → Bool
have_supertypes_of_their_sort types =
    list_all (λ (e : ℕ × SubType). has_supertype_of_its_sort types e.0 e.1.composite_type e.1.supertype_idx)
    (enumerate_from 0 types)

-- the supertype that a type declares, where that is an earlier one than type k
abbrev pub earlier_index : ℕ → Option UnpackedIndex → Option ℕ
earlier_index k None = None
earlier_index k (Some i) = if nat_lt (number_of i) k then Some (number_of i) else None

abbrev pub declared_supertype : ℕ → Option SubType → Option ℕ
declared_supertype k None = None
declared_supertype k (Some s) = earlier_index k s.supertype_idx

abbrev pub supertype_of : List SubType → ℕ → Option ℕ
supertype_of types k = declared_supertype k (slice_get types k)

-- ---- chains of supertypes (Specification, "Matching: Defined Types")

-- a supertype, and above it the chain from it, which stands among those of the types before
abbrev pub chain_by : List (List ℕ) → Option ℕ → List ℕ
chain_by before None = []
chain_by before (Some u) = u ∷ slice_index_or before u []

-- the chain of one more type
abbrev pub with_chain : Option ℕ → List (List ℕ) → List (List ℕ)
with_chain supertype before = before ++ chain_by before supertype ∷ []

-- the chains of the first n types: a supertype is an earlier type, so the chain from it is there already
abbrev pub chains : List SubType → ℕ → List (List ℕ)
chains types zero = []
chains types (suc n) = with_chain (supertype_of types n) (chains types n)

-- the supertype of type i, the supertype of that, and so on
abbrev pub supertypes : List SubType → ℕ → List ℕ
supertypes types i = chain_by (chains types i) (supertype_of types i)

-- type j is on the chain of supertypes of type i
abbrev pub is_on_chain : List SubType → ℕ → ℕ → Bool
is_on_chain types i j = list_any (λ k. k == j) (supertypes types i)

-- type i lies below type j where j is i or is on its chain of supertypes
abbrev pub is_index_below : List SubType → ℕ → ℕ → Bool
is_index_below types i j = i == j || is_on_chain types i j

-- ---- matching

-- a declared type is below what the abstract type of its kind is below, in its sharedness
abbrev pub is_declared_below : Option SubType → Bool → AbstractHeapType → Bool
is_declared_below None z b = false
is_declared_below (Some s) z b =
    beq s.composite_type.shared z && is_abstract_below (abstract_kind s.composite_type.inner) b

-- and above what is below the bottom type of its kind
abbrev pub is_below_declared : Bool → AbstractHeapType → Option SubType → Bool
is_below_declared s a None = false
is_below_declared s a (Some d) =
    beq s d.composite_type.shared && is_abstract_below a (kind_bottom d.composite_type.inner)

-- (Specification, "Matching: Heap Types"). An exact type lies below the one that it is exact in, and has the
-- same below it but for what is declared.
abbrev pub is_heap_below : List SubType → HeapType → HeapType → Bool
is_heap_below types (Abstract s a) (Abstract z b) = beq s z && is_abstract_below a b
is_heap_below types (Abstract s a) (Concrete j) = is_below_declared s a (slice_get types (number_of j))
is_heap_below types (Concrete i) (Abstract z b) = is_declared_below (slice_get types (number_of i)) z b
is_heap_below types (Concrete i) (Concrete j) = is_index_below types (number_of i) (number_of j)
is_heap_below types (Concrete i) (Exact j) = false
is_heap_below types (Abstract s a) (Exact j) = is_below_declared s a (slice_get types (number_of j))
is_heap_below types (Exact i) (Abstract z b) = is_declared_below (slice_get types (number_of i)) z b
is_heap_below types (Exact i) (Concrete j) = is_index_below types (number_of i) (number_of j)
is_heap_below types (Exact i) (Exact j) = number_of i == number_of j

-- (Specification, "Matching: Reference Types")
abbrev pub is_ref_below : List SubType → RefType → RefType → Bool
is_ref_below types r s = is_heap_below types r.heap_type s.heap_type && (s.nullable || not r.nullable)

-- (Specification, "Matching: Value Types")
abbrev pub is_type_below : List SubType → ValType → ValType → Bool
is_type_below types I32 I32 = true
is_type_below types I64 I64 = true
is_type_below types F32 F32 = true
is_type_below types F64 F64 = true
is_type_below types V128 V128 = true
is_type_below types (Ref r) (Ref s) = is_ref_below types r s
is_type_below types _ _ = false

-- ---- top types (Specification, "Matching: Heap Types": the hierarchies)

-- the top type of the hierarchy of a declared type's kind; `any`, where there is no such type
abbrev pub declared_top : Option SubType → AbstractHeapType
declared_top None = Any
declared_top (Some s) = abstract_top (abstract_kind s.composite_type.inner)

-- the top type of the hierarchy that a heap type is in, of its sharedness
abbrev pub heap_top : List SubType → HeapType → HeapType
heap_top types (Abstract shared ty) = Abstract shared (abstract_top ty)
heap_top types (Concrete i) =
    Abstract (is_shared_at types (number_of i)) (declared_top (slice_get types (number_of i)))
heap_top types (Exact i) =
    Abstract (is_shared_at types (number_of i)) (declared_top (slice_get types (number_of i)))
