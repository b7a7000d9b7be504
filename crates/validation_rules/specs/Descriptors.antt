-- The rows of operators that read the descriptor of a struct, or cast by it (a proposal, "Custom Descriptors":
-- validation of ref.get_desc, ref.cast_desc_eq, br_on_cast_desc_eq and br_on_cast_desc_eq_fail).
use Rattle.std.specs.Prelude.{ℕ, Bool, true, false, not, ◌&&◌, ◌||◌, suc, List, [], ◌∷◌, ◌++◌, Option, Some, None}
use Rattle.std.specs.Prelude.{length, map}
use Rattle.std.specs.Option.{option_and_then}
use Rattle.validate_resources.specs.Context.{descriptor_of}
use Rattle.validate_types.specs.Heap.{module_index, index_in}
use Rattle.validate_types.specs.Refs.{nullable_reference, non_null_reference, is_exact, is_none_heap}
use Rattle.validate_types.specs.declared.heap.HeapType.{HeapType}
use Rattle.validate_types.specs.declared.heap.HeapType.TheVariants.{Exact}
use Rattle.validate_types.specs.declared.heap.UnpackedIndex.{UnpackedIndex}
use Rattle.validate_types.specs.declared.heap.UnpackedIndex.TheVariants.{Module}
use Rattle.validate_types.specs.declared.refs.RefType.{RefType}
use Rattle.validate_visit.specs.declared.op.BranchCast.{BranchCast}
use Rattle.validation_rules.specs.Branches.{has_label, label_types_at}
use Rattle.validation_rules.specs.Casts.{CastTypes, cast_type, cast_operand, checked_cast, split_last, with_last}
use Rattle.validation_rules.specs.Casts.{types_on_cast, types_on_cast_fail}
use Rattle.validation_rules.specs.Context.{ModuleContext, ValType, Ref, Context}
use Rattle.validation_rules.specs.Exact.{declared_heap}
use Rattle.validation_rules.specs.Fits.{MaybeType, Bottom, UnknownRef, Known, fits}
use Rattle.validation_rules.specs.Indirect.{type_reference}
use Rattle.validation_rules.specs.Rows.{Head, Row, guard}
use Rattle.validation_rules.specs.Shapes.{lookup_row, lookups_row, looking_row, looking_row_if}

-- ---- what is looked up

-- the type of the descriptors of the type at this index, if it has one
abbrev pub descriptor_at : ModuleContext → ℕ → Option UnpackedIndex
descriptor_at md i = option_and_then descriptor_of (md.type_at i)

-- the same of the type that a cast leads to, named by its index
abbrev pub descriptor_in : ModuleContext → HeapType → Option UnpackedIndex
descriptor_in md h = option_and_then (descriptor_at md) (option_and_then module_index (index_in h))

-- a descriptor of this type, exact or not, or null
abbrev pub descriptor : Bool → UnpackedIndex → ValType
descriptor exact d = Ref (nullable_reference (declared_heap exact d))

-- ---- the descriptor of what is found

-- A found operand is known to be of this exact type, if it is anything: what is below it is exact too, or null's
-- type. Anything at all and an unknown reference may be.
abbrev pub is_found_exact : ModuleContext → HeapType → MaybeType → Bool
is_found_exact md h Bottom = true
is_found_exact md h (UnknownRef None) = true
is_found_exact md h (UnknownRef (Some a)) = false
is_found_exact md h (Known (Ref r)) =
    (is_exact r.heap_type || is_none_heap r.heap_type) && md.below (Ref r) (Ref (nullable_reference h))
is_found_exact md h (Known _) = false

-- a reference of this type, and its descriptor of type d: exact where the reference is exact in h
abbrev pub get_desc_pushes :
    Context → ValType → HeapType → UnpackedIndex → List MaybeType → Option (List MaybeType)
get_desc_pushes cx t h d (x ∷ []) =
    guard (fits cx x t)
    (Some (Known (Ref (non_null_reference (declared_heap (is_found_exact cx.of_module h x) d))) ∷ []))
get_desc_pushes cx t h d _ = None

abbrev pub ref_get_desc_row : Context → ℕ → Row
ref_get_desc_row cx i =
    lookup_row (descriptor_at cx.of_module i)
    (λ d. lookups_row (type_reference cx nullable_reference i) (cx.of_module.canonical_heap (Exact (Module i)))
    (λ t h. looking_row 1 (get_desc_pushes cx t h d)))

-- ---- casts by a descriptor

-- operands that fit these types, and above them one that passes the test
abbrev pub fit_under : Context → (MaybeType → Bool) → List ValType → List MaybeType → Bool
fit_under cx test [] (x ∷ []) = test x
fit_under cx test (t ∷ ts) (x ∷ xs) = fits cx x t && fit_under cx test ts xs
fit_under cx test _ _ = false

abbrev pub tested_pushes :
    Context → (MaybeType → Bool) → List ValType → List ValType → List MaybeType → Option (List MaybeType)
tested_pushes cx test expected pushed found =
    guard (fit_under cx test expected found) (Some (map Known pushed))

abbrev pub tested_row_if : Bool → Context → (MaybeType → Bool) → List ValType → List ValType → Row
tested_row_if premise cx test expected pushed =
    looking_row_if premise (suc (length expected)) (tested_pushes cx test expected pushed)

-- an operand whose type is known lies below this one
abbrev pub is_below_if_known : ModuleContext → ValType → MaybeType → Bool
is_below_if_known md u (Known t) = md.below t u
is_below_if_known md u _ = true

-- a found descriptor by which something is cast: of type d, or null; to an exact type, where it is known, exact
abbrev pub is_cast_descriptor : Context → Bool → UnpackedIndex → MaybeType → Bool
is_cast_descriptor cx exact d x =
    fits cx x (descriptor false d) && (not exact || is_below_if_known cx.of_module (descriptor true d) x)

-- the operand is cast to a type of the module, by a descriptor above it
abbrev pub ref_cast_desc_eq_row : Context → Bool → HeapType → Row
ref_cast_desc_eq_row cx nullable h =
    lookups_row (descriptor_in cx.of_module h) (cast_type cx nullable h)
    (λ d r. tested_row_if true cx (is_cast_descriptor cx (is_exact h) d) (cast_operand cx.of_module r ∷ [])
    (Ref r ∷ []))

-- all but the last
abbrev pub without_last : List ValType → List ValType
without_last [] = []
without_last (t ∷ []) = []
without_last (t ∷ u ∷ ts) = t ∷ without_last (u ∷ ts)

-- a branch by a cast, by a descriptor above the operand
abbrev pub descriptor_branch_row_for :
    Context → (MaybeType → Bool) → ℕ → CastTypes → (List ValType × ValType) → Row
descriptor_branch_row_for cx test d types p =
    record
    (tested_row_if (cx.of_module.below (Ref types.carried) p.1) cx test
    (p.0 ++ Ref types.from ∷ []) (p.0 ++ Ref types.left ∷ [])) {
      targets = record { depth = d; carried = λ found. with_last (Ref types.carried) (without_last found) } ∷ [];
    }

abbrev pub descriptor_branch_row : Context → List Head → (MaybeType → Bool) → ℕ → CastTypes → Row
descriptor_branch_row cx hs test d types =
    lookup_row (guard (has_label hs d) (split_last (label_types_at cx hs d)))
    (descriptor_branch_row_for cx test d types)

-- to the label, with what the cast gives there, of the types that it has
abbrev pub cast_desc_eq_branch_row :
    Context → List Head → (RefType × RefType → CastTypes) → BranchCast → Row
cast_desc_eq_branch_row cx hs types cast =
    lookups_row (descriptor_in cx.of_module cast.to_ref_type.heap_type) (checked_cast cx cast)
    (λ d p. descriptor_branch_row cx hs (is_cast_descriptor cx (is_exact cast.to_ref_type.heap_type) d)
    cast.relative_depth (types p))

abbrev pub br_on_cast_desc_eq_row : Context → List Head → BranchCast → Row
br_on_cast_desc_eq_row cx hs cast = cast_desc_eq_branch_row cx hs types_on_cast cast

abbrev pub br_on_cast_desc_eq_fail_row : Context → List Head → BranchCast → Row
br_on_cast_desc_eq_fail_row cx hs cast = cast_desc_eq_branch_row cx hs types_on_cast_fail cast
