-- Reference types (WebAssembly core specification, "Reference Types"; exact ones are of a proposal, "Custom
-- Descriptors").
use Rattle.validate_types.specs.declared.refs.RefType.{RefType}
use Rattle.std.specs.Prelude.{ℕ, Bool, true, false, List, ◌++◌, codes, Option, Some, None, if◌then◌else◌}
use Rattle.validate_types.specs.declared.heap.AbstractHeapType.TheVariants.{None as NoAny}
use Rattle.validate_types.specs.declared.heap.HeapType.{HeapType}
use Rattle.validate_types.specs.declared.heap.HeapType.TheVariants.{Abstract, Concrete, Exact}
use Rattle.validate_types.specs.Abstract.{plain_name, heap_name}
use Rattle.validate_types.specs.Heap.{is_small}

abbrev pub reference : Bool → HeapType → RefType
reference n h = record { nullable = n; heap_type = h }

-- the references to a heap type, and null
abbrev pub nullable_reference : HeapType → RefType
nullable_reference h = reference true h

-- the references to it, without null
abbrev pub non_null_reference : HeapType → RefType
non_null_reference h = reference false h

-- a reference packs the type index in it, if it has one
abbrev pub fits_reference : HeapType → Bool
fits_reference (Abstract shared ty) = true
fits_reference (Concrete i) = is_small i
fits_reference (Exact i) = is_small i

-- the reference to a heap type, where one can be made
abbrev pub reference_to : Bool → HeapType → Option RefType
reference_to n h = if fits_reference h then Some (reference n h) else None

-- null is no value of it
abbrev pub without_null : RefType → RefType
without_null r = record r { nullable = false }

-- null is a value of it
abbrev pub with_null : RefType → RefType
with_null r = record r { nullable = true }

-- what is left of the one without the values of the other (Specification, `br_on_cast`: t₁ ∖ t₂)
abbrev pub difference : RefType → RefType → RefType
difference a b = if b.nullable then without_null a else a

-- a type of the module, exact or not
abbrev pub is_concrete : HeapType → Bool
is_concrete (Abstract shared ty) = false
is_concrete (Concrete i) = true
is_concrete (Exact i) = true

-- a type of the module without those declared below it
abbrev pub is_exact : HeapType → Bool
is_exact (Exact i) = true
is_exact _ = false

-- `none` or its shared copy
abbrev pub is_none_heap : HeapType → Bool
is_none_heap (Abstract shared NoAny) = true
is_none_heap _ = false

-- the reference to the shared copy of an abstract type
abbrev pub shared_of : Bool → HeapType → Option RefType
shared_of n (Abstract shared ty) = Some (reference n (Abstract true ty))
shared_of n (Concrete i) = None
shared_of n (Exact i) = None

-- its text, as in `funcref`, `(ref func)` and `(ref null (shared func))`
abbrev pub wat_of : Bool → HeapType → List ℕ
wat_of true (Abstract false ty) = heap_name true ty ++ codes "ref"
wat_of false (Abstract false ty) = codes "(ref " ++ plain_name ty ++ codes ")"
wat_of true (Abstract true ty) = codes "(ref null (shared " ++ plain_name ty ++ codes "))"
wat_of false (Abstract true ty) = codes "(ref (shared " ++ plain_name ty ++ codes "))"
wat_of true (Concrete i) = codes "(ref null (type))"
wat_of false (Concrete i) = codes "(ref (type))"
wat_of true (Exact i) = codes "(ref null (exact type))"
wat_of false (Exact i) = codes "(ref (exact type))"

abbrev pub wat : RefType → List ℕ
wat r = wat_of r.nullable r.heap_type
