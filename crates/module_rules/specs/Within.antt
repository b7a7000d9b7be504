-- The limits of this implementation (WebAssembly core specification, appendix "Implementation Limitations", "Syntactic
-- Limits"). The standard lets an implementation have them, and sets none. They are no part of validity.
use Rattle.std.specs.Prelude.{◌≡◌, ℕ, ◌+◌, Bool, true, List, ◌&&◌, nat_le, length}
use Rattle.std.specs.List.{list_all, enumerate_from}
use Rattle.validate_types.specs.declared.types.CompositeInnerType.{CompositeInnerType}
use Rattle.validate_types.specs.declared.types.CompositeInnerType.TheVariants.{Struct}
use Rattle.validate_types.specs.declared.types.SubType.{SubType}
use Rattle.module_rules.specs.Declarations.{Declarations}
use Rattle.module_rules.specs.Segments.{item_count}
use Rattle.module_rules.specs.Types.{subtyping_depth}
use Rattle.module_rules.specs.declared.module.Imports.{Imports}
use Rattle.module_rules.specs.declared.segments.Element.{Element}
use Rattle.module_rules.specs.declared.limits.TheConstants.{MAX_WASM_TYPES, MAX_WASM_IMPORTS}
use Rattle.module_rules.specs.declared.limits.TheConstants.{MAX_WASM_SUBTYPING_DEPTH, MAX_WASM_STRUCT_FIELDS}
use Rattle.module_rules.specs.declared.limits.TheConstants.{MAX_WASM_FUNCTIONS, MAX_WASM_TABLES}
use Rattle.module_rules.specs.declared.limits.TheConstants.{MAX_WASM_MEMORIES, MAX_WASM_TAGS, MAX_WASM_GLOBALS}
use Rattle.module_rules.specs.declared.limits.TheConstants.{MAX_WASM_EXPORTS, MAX_WASM_TABLE_ENTRIES}
use Rattle.module_rules.specs.declared.limits.TheConstants.{MAX_WASM_ELEMENT_SEGMENTS, MAX_WASM_DATA_SEGMENTS}

-- so many items are imported
abbrev pub import_count : Imports → ℕ
import_count i = i.functions + i.tables + i.memories + i.globals + i.tags

-- ---- each type: the fields of a struct, and the supertypes above a type, one above the other

abbrev pub has_few_fields : CompositeInnerType → Bool
has_few_fields (Struct fields) = nat_le (length fields) MAX_WASM_STRUCT_FIELDS
has_few_fields _ = true

abbrev pub is_type_within : List SubType → ℕ → SubType → Bool
is_type_within types k s =
    nat_le (subtyping_depth types k) MAX_WASM_SUBTYPING_DEPTH && has_few_fields s.composite_type.inner

abbrev pub are_types_within : List SubType → Bool
are_types_within types = list_all (λ (e : ℕ × SubType). is_type_within types e.0 e.1) (enumerate_from 0 types)

-- ---- items, imported ones among them

abbrev pub are_items_within : Declarations → Bool
are_items_within d =
    nat_le (length d.functions) MAX_WASM_FUNCTIONS
    && nat_le (length d.tables) MAX_WASM_TABLES
    && nat_le (length d.memories) MAX_WASM_MEMORIES
    && nat_le (length d.tags) MAX_WASM_TAGS
    && nat_le (length d.globals) MAX_WASM_GLOBALS

-- ---- segments, and the items of each

abbrev pub is_element_within : Element → Bool
is_element_within e = nat_le (item_count e.items) MAX_WASM_TABLE_ENTRIES

abbrev pub are_elements_within : List Element → Bool
are_elements_within elements =
    nat_le (length elements) MAX_WASM_ELEMENT_SEGMENTS && list_all is_element_within elements

abbrev pub are_uses_within : Declarations → Bool
are_uses_within d =
    nat_le (length d.exports) MAX_WASM_EXPORTS
    && (are_elements_within d.elements && nat_le (length d.data_segments) MAX_WASM_DATA_SEGMENTS)

-- ---- the whole

abbrev pub is_within : Declarations → Bool
is_within d =
    nat_le (length d.types) MAX_WASM_TYPES
    && nat_le (import_count d.imports) MAX_WASM_IMPORTS
    && are_types_within d.types
    && are_items_within d
    && are_uses_within d

-- the declarations of a module are within the limits
abbrev pub IsWithin : Declarations → Type 0
IsWithin d = is_within d ≡ true
