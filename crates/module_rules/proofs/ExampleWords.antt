-- The words that examples are written in: proposals, types, and what a module declares.
use Rattle.std.proofs.Common.{ℕ, ◌-◌, zero, suc, Bool, true, false, List, [], ◌∷◌, ◌++◌, map, Some, None}
use Rattle.validate_types.specs.Refs.{reference}
use Rattle.validate_types.specs.declared.heap.AbstractHeapType.TheVariants.{Func as AnyFunc, Extern as AnyExtern}
use Rattle.validate_types.specs.declared.heap.HeapType.{HeapType}
use Rattle.validate_types.specs.declared.heap.HeapType.TheVariants.{Abstract, Concrete}
use Rattle.validate_types.specs.declared.heap.UnpackedIndex.{UnpackedIndex}
use Rattle.validate_types.specs.declared.heap.UnpackedIndex.TheVariants.{Module}
use Rattle.validate_types.specs.declared.types.CompositeInnerType.{CompositeInnerType}
use Rattle.validate_types.specs.declared.types.CompositeInnerType.TheVariants.{Func, Array, Struct, Cont}
use Rattle.validate_types.specs.declared.types.CompositeType.{CompositeType}
use Rattle.validate_types.specs.declared.types.FieldType.{FieldType}
use Rattle.validate_types.specs.declared.types.StorageType.TheVariants.{I8, Val}
use Rattle.validate_types.specs.declared.types.SubType.{SubType}
use Rattle.validate_types.specs.declared.types.ValType.{ValType}
use Rattle.validate_types.specs.declared.types.ValType.TheVariants.{Ref}
use Rattle.module_rules.specs.declared.features.ModuleFeatures.{ModuleFeatures}
use Rattle.module_rules.specs.declared.items.Limits.{Limits}
use Rattle.module_rules.specs.declared.items.RecGroup.{RecGroup}

-- ---- proposals

abbrev pub every : ModuleFeatures
every =
    record {
      operators = record { 0 = 2097151 };
      mutable_global = true;
      memory64 = true;
      multi_memory = true;
      extended_const = true;
      custom_page_sizes = true;
    }

-- all but one of those that operators ask for
abbrev pub without : ℕ → ModuleFeatures
without bit = record every { operators = record { 0 = 2097151 - bit } }

-- ---- references

abbrev pub func : HeapType
func = Abstract false AnyFunc

abbrev pub shared_func : HeapType
shared_func = Abstract true AnyFunc

abbrev pub extern : HeapType
extern = Abstract false AnyExtern

-- the type at an index
abbrev pub index : ℕ → UnpackedIndex
index i = Module i

abbrev pub concrete : ℕ → HeapType
concrete i = Concrete (index i)

abbrev pub null : HeapType → ValType
null h = Ref (reference true h)

abbrev pub no_null : HeapType → ValType
no_null h = Ref (reference false h)

-- ---- types

-- fields that can't be written, and such as can
abbrev pub constant : ValType → FieldType
constant t = record { element_type = Val t; mutable = false }

abbrev pub written : ValType → FieldType
written t = record { element_type = Val t; mutable = true }

abbrev pub packed : FieldType
packed = record { element_type = I8; mutable = false }

abbrev pub functions : List ValType → List ValType → CompositeInnerType
functions params results = Func (record { params = params; results = results })

abbrev pub arrays : FieldType → CompositeInnerType
arrays f = Array (record { 0 = f })

abbrev pub structs : List FieldType → CompositeInnerType
structs fields = Struct fields

abbrev pub continuations : ℕ → CompositeInnerType
continuations i = Cont (record { 0 = index i })

abbrev pub composite : Bool → CompositeInnerType → CompositeType
composite shared inner = record { inner = inner; shared = shared; descriptor_idx = None; describes_idx = None }

-- final, without a supertype
abbrev pub final : CompositeInnerType → SubType
final inner = record { is_final = true; supertype_idx = None; composite_type = composite false inner }

abbrev pub final_shared : CompositeInnerType → SubType
final_shared inner = record { is_final = true; supertype_idx = None; composite_type = composite true inner }

-- open, without a supertype and below a type
abbrev pub open_type : CompositeInnerType → SubType
open_type inner = record { is_final = false; supertype_idx = None; composite_type = composite false inner }

abbrev pub below : ℕ → CompositeInnerType → SubType
below i inner = record { is_final = false; supertype_idx = Some (index i); composite_type = composite false inner }

abbrev pub shared_below : ℕ → CompositeInnerType → SubType
shared_below i inner = record { is_final = false; supertype_idx = Some (index i); composite_type = composite true inner }

-- with a descriptor, and as one
abbrev pub with_descriptor : ℕ → SubType → SubType
with_descriptor d s = record s { composite_type = record s.composite_type { descriptor_idx = Some (index d) } }

abbrev pub describing : ℕ → SubType → SubType
describing b s = record s { composite_type = record s.composite_type { describes_idx = Some (index b) } }

-- type 0, and so many types, each below the one before
abbrev pub chain : ℕ → List SubType
chain zero = open_type (structs []) ∷ []
chain (suc n) = chain n ++ below n (structs []) ∷ []

-- ---- groups

-- so many types, written as a group
abbrev pub a_group : ℕ → RecGroup
a_group n = record { count = n; explicit = true; offset = 0 }

-- one type
abbrev pub alone : RecGroup
alone = record { count = 1; explicit = false; offset = 0 }

-- each type in a group of its own
abbrev pub each_alone : List SubType → List RecGroup
each_alone types = map (λ s. alone) types

-- ---- limits

abbrev pub from : ℕ → Limits
from n = record { initial = n; maximum = None }

abbrev pub between : ℕ → ℕ → Limits
between n m = record { initial = n; maximum = Some m }
