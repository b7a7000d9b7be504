-- The types that a module declares (WebAssembly core specification, "Validation: Types").
use Rattle.std.specs.Prelude.{ℕ, ◌+◌, Bool, true, false, List, [], ◌∷◌, ◌&&◌, ◌||◌, ◌==◌, not, nat_lt}
use Rattle.std.specs.Prelude.{nat_le, length, if◌then◌else◌}
use Rattle.std.specs.Prelude.{Option, Some, None, is_none, slice_get, slice_range}
use Rattle.std.specs.List.{list_all, enumerate_from}
use Rattle.validate_types.specs.Features.{has, multi_value, shared_everything_threads, gc, custom_descriptors}
use Rattle.validate_types.specs.Features.{stack_switching, is_type_enabled}
use Rattle.validate_types.specs.Heap.{number_of}
use Rattle.validate_types.specs.Types.{unpacked_type}
use Rattle.validate_types.specs.declared.heap.UnpackedIndex.{UnpackedIndex}
use Rattle.validate_types.specs.declared.types.CompositeInnerType.{CompositeInnerType}
use Rattle.validate_types.specs.declared.types.CompositeInnerType.TheVariants.{Func, Array, Struct, Cont}
use Rattle.validate_types.specs.declared.types.CompositeType.{CompositeType}
use Rattle.validate_types.specs.declared.types.FieldType.{FieldType}
use Rattle.validate_types.specs.declared.types.SubType.{SubType}
use Rattle.validate_types.specs.declared.types.ValType.{ValType}
use Rattle.validate_types.specs.declared.types.ValType.TheVariants.{Ref}
use Rattle.validate_resources.specs.Indices.{is_known, sub_indices_pass}
use Rattle.validate_resources.specs.Lists.{continues_function}
use Rattle.validate_resources.specs.Order.{is_heap_shared, supertypes}
use Rattle.module_rules.specs.Descriptors.{have_valid_descriptors}
use Rattle.module_rules.specs.Features.{operator_features}
use Rattle.module_rules.specs.Matching.{is_composite_below}
use Rattle.module_rules.specs.declared.features.ModuleFeatures.{ModuleFeatures}
use Rattle.module_rules.specs.declared.items.RecGroup.{RecGroup}

-- ---- composite types (Specification, "Composite Types")

-- a value type is shared: a reference where what it points to is (a proposal, "Shared-Everything Threads")
abbrev pub is_type_shared : List SubType → ValType → Bool
is_type_shared types (Ref r) = is_heap_shared types r.heap_type
is_type_shared types _ = true

-- a test of each value type that it is made of
abbrev pub value_types_pass : (ValType → Bool) → CompositeInnerType → Bool
value_types_pass p (Func f) = list_all p f.params && list_all p f.results
value_types_pass p (Array a) = p (unpacked_type a.0.element_type)
value_types_pass p (Struct fields) = list_all (λ (f : FieldType). p (unpacked_type f.element_type)) fields
value_types_pass p (Cont c) = true

-- its proposal is on, and in a shared type it is shared
abbrev pub may_stand_in : ModuleFeatures → List SubType → Bool → ValType → Bool
may_stand_in features types shared t =
    is_type_enabled (operator_features features) t && (not shared || is_type_shared types t)

-- the proposal of its kind is on
abbrev pub is_kind_enabled : ModuleFeatures → CompositeInnerType → Bool
is_kind_enabled features (Func f) = nat_le (length f.results) 1 || has features.operators multi_value
is_kind_enabled features (Array a) = has features.operators gc
is_kind_enabled features (Struct fields) = has features.operators gc
is_kind_enabled features (Cont c) = has features.operators stack_switching

-- sharedness and descriptors are of proposals of their own
abbrev pub is_composite_enabled : ModuleFeatures → CompositeType → Bool
is_composite_enabled features c =
    is_kind_enabled features c.inner && (not c.shared || has features.operators shared_everything_threads)
    && (is_none c.descriptor_idx && is_none c.describes_idx || has features.operators custom_descriptors)

abbrev pub is_valid_composite : ModuleFeatures → List SubType → CompositeType → Bool
is_valid_composite features types c =
    is_composite_enabled features c && value_types_pass (may_stand_in features types c.shared) c.inner

-- ---- sub types (Specification, "Recursive Types")

-- the supertype is there, is not final, and the type matches it
abbrev pub matches_type : List SubType → CompositeType → Option SubType → Bool
matches_type types c None = false
matches_type types c (Some s) = not s.is_final && is_composite_below types c s.composite_type

abbrev pub matches_supertype : List SubType → CompositeType → Option UnpackedIndex → Bool
matches_supertype types c None = true
matches_supertype types c (Some i) = matches_type types c (slice_get types (number_of i))

-- what is not final, or has a supertype, is of the proposal that brings supertypes
abbrev pub is_sub_type_enabled : ModuleFeatures → SubType → Bool
is_sub_type_enabled features s = s.is_final && is_none s.supertype_idx || has features.operators gc

abbrev pub is_valid_sub_type : ModuleFeatures → List SubType → SubType → Bool
is_valid_sub_type features types s =
    is_sub_type_enabled features s && is_valid_composite features types s.composite_type
    && continues_function types s && matches_supertype types s.composite_type s.supertype_idx

-- ---- chains of supertypes

-- the supertype of type k is an earlier one
abbrev pub is_earlier : ℕ → Option UnpackedIndex → Bool
is_earlier k None = true
is_earlier k (Some i) = nat_lt (number_of i) k

-- type k is valid, and its supertype is an earlier one
abbrev pub is_valid_type : ModuleFeatures → List SubType → ℕ → SubType → Bool
is_valid_type features types k s = is_earlier k s.supertype_idx && is_valid_sub_type features types s

-- so many supertypes lie above type k, one above the other
abbrev pub subtyping_depth : List SubType → ℕ → ℕ
subtyping_depth types k = length (supertypes types k)

-- ---- recursion groups (Specification, "Recursive Types")

-- below which index the types of a group may name types: its own, and so themselves, need the proposal that brings
-- recursive types
abbrev pub named_below : ModuleFeatures → ℕ → ℕ → ℕ
named_below features first end = if has features.operators gc then end else first

-- it is written as a group only where that proposal is on; its types are there, and name types that they may name
abbrev pub is_valid_group : ModuleFeatures → List SubType → ℕ → RecGroup → Bool
is_valid_group features types first g =
    (not g.explicit || has features.operators gc) && nat_le (first + g.count) (length types)
    && list_all (sub_indices_pass (is_known (named_below features first (first + g.count))))
    (slice_range types first (first + g.count))

-- the groups from this index on, up to the last type
abbrev pub are_valid_groups : ModuleFeatures → List SubType → ℕ → List RecGroup → Bool
are_valid_groups features types first [] = first == length types
are_valid_groups features types first (g ∷ gs) =
    is_valid_group features types first g && are_valid_groups features types (first + g.count) gs

-- each group, each type and each descriptor is valid; each type has a name
abbrev pub are_valid_types : ModuleFeatures → List SubType → List RecGroup → List ℕ → Bool
are_valid_types features types groups names =
    are_valid_groups features types 0 groups
    && list_all (λ (e : ℕ × SubType). is_valid_type features types e.0 e.1) (enumerate_from 0 types)
    && have_valid_descriptors types names
