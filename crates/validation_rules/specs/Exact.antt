-- Exact references: to values of a type of the module that aren't of one declared below it (a proposal, "Custom
-- Descriptors": exact types).
use Rattle.std.specs.Prelude.{ℕ, Bool, true, false, ◌&&◌, Option}
use Rattle.std.specs.Option.{option_map}
use Rattle.validate_types.specs.Features.{has, custom_descriptors}
use Rattle.validate_types.specs.Refs.{non_null_reference}
use Rattle.validate_types.specs.declared.heap.HeapType.{HeapType}
use Rattle.validate_types.specs.declared.heap.HeapType.TheVariants.{Concrete, Exact}
use Rattle.validate_types.specs.declared.heap.UnpackedIndex.{UnpackedIndex}
use Rattle.validate_types.specs.declared.heap.UnpackedIndex.TheVariants.{Module}
use Rattle.validation_rules.specs.Context.{ValType, Ref, Context}

-- references are exact where their type is known exactly
abbrev pub has_custom_descriptors : Context → Bool
has_custom_descriptors cx = has cx.features custom_descriptors

-- a type of the module, exact or not
abbrev pub declared_heap : Bool → UnpackedIndex → HeapType
declared_heap true u = Exact u
declared_heap false u = Concrete u

-- a reference to what is allocated, of the type at this index, made of its canonical form
abbrev pub allocated_reference : Context → ℕ → Option ValType
allocated_reference cx i =
    option_map (λ h. Ref (non_null_reference h))
    (cx.of_module.canonical_heap (declared_heap (has_custom_descriptors cx) (Module i)))

-- what a reference to the function at this index points to, whose type this index names
abbrev pub function_heap : Context → ℕ → UnpackedIndex → HeapType
function_heap cx f u = declared_heap (has_custom_descriptors cx && cx.of_module.has_exact_type f) u
