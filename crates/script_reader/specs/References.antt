-- Reference types, as a script writes them (the crate's own).
use Rattle.std.specs.Prelude.{◌≡◌, ◌⊎◌, ◌++◌, ℕ, List, Bool, true, false, codes}
use Rattle.validate_types.specs.Abstract.{plain_name, heap_name}
use Rattle.validate_types.specs.declared.heap.HeapType.{HeapType}
use Rattle.validate_types.specs.declared.heap.HeapType.TheVariants.{Abstract, Concrete, Exact}
use Rattle.validate_types.specs.declared.heap.UnpackedIndex.{UnpackedIndex}
use Rattle.validate_types.specs.declared.heap.UnpackedIndex.TheVariants.{Module, Id}
use Rattle.validate_types.specs.declared.refs.RefType.{RefType}
use Rattle.script_reader.specs.Numbers.{WritesIndex}

-- the word is the index of a type in the module; no word is an id
abbrev pub IsIndexOf : List ℕ → UnpackedIndex → Type 0
IsIndexOf word (Module n) = WritesIndex word n
IsIndexOf word (Id id) = ⊥

-- the word names the heap type
abbrev pub IsHeapName : List ℕ → HeapType → Type 0
IsHeapName word (Abstract false ty) = word ≡ plain_name ty
IsHeapName word (Abstract true ty) = word ≡ codes "shared-" ++ plain_name ty
IsHeapName word (Concrete i) = IsIndexOf word i
IsHeapName word (Exact i) = (digits : List ℕ) × (word ≡ codes "exact-" ++ digits) × IsIndexOf digits i

-- the word is the short name of a reference with null to an unshared abstract type
abbrev pub IsShortName : List ℕ → Bool → HeapType → Type 0
IsShortName word true (Abstract false ty) = word ≡ heap_name true ty ++ codes "ref"
IsShortName word _ _ = ⊥

-- what stands before the heap type
abbrev pub prefix_of : Bool → List ℕ
prefix_of true = codes "refnull:"
prefix_of false = codes "ref:"

-- the word is a prefix and the name of the heap type
abbrev pub IsLongName : List ℕ → RefType → Type 0
IsLongName word r = (name : List ℕ) × (word ≡ prefix_of r.nullable ++ name) × IsHeapName name r.heap_type

-- the word names the reference type
abbrev pub IsReferenceName : List ℕ → RefType → Type 0
IsReferenceName word r = IsShortName word r.nullable r.heap_type ⊎ IsLongName word r
