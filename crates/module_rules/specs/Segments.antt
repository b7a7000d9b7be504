-- The element and data segments of a module (WebAssembly core specification, "Modules": element segments,
-- data segments). What their constant expressions are is a matter of its own.
use Rattle.std.specs.Prelude.{ℕ, Bool, true, false, List, ◌&&◌, ◌==◌, nat_lt, length}
use Rattle.std.specs.Prelude.{Option, Some, None, slice_get}
use Rattle.std.specs.List.{list_all}
use Rattle.validate_types.specs.Features.{has, bulk_memory}
use Rattle.validate_types.specs.Refs.{non_null_reference}
use Rattle.validate_types.specs.declared.heap.AbstractHeapType.TheVariants.{Func}
use Rattle.validate_types.specs.declared.heap.HeapType.TheVariants.{Abstract}
use Rattle.validate_types.specs.declared.refs.RefType.{RefType}
use Rattle.validate_types.specs.declared.types.SubType.{SubType}
use Rattle.validate_resources.specs.Order.{is_ref_below}
use Rattle.module_rules.specs.Tables.{is_valid_element_type}
use Rattle.module_rules.specs.declared.features.ModuleFeatures.{ModuleFeatures}
use Rattle.module_rules.specs.declared.items.DeclaredTable.{DeclaredTable}
use Rattle.module_rules.specs.declared.segments.Data.{Data}
use Rattle.module_rules.specs.declared.segments.DataCount.{DataCount}
use Rattle.module_rules.specs.declared.segments.DataKind.{DataKind}
use Rattle.module_rules.specs.declared.segments.DataKind.TheVariants.{Passive as PassiveData}
use Rattle.module_rules.specs.declared.segments.DataKind.TheVariants.{Active as ActiveData}
use Rattle.module_rules.specs.declared.segments.Element.{Element}
use Rattle.module_rules.specs.declared.segments.ElementItems.{ElementItems}
use Rattle.module_rules.specs.declared.segments.ElementItems.TheVariants.{Functions, Expressions}
use Rattle.module_rules.specs.declared.segments.ElementKind.{ElementKind}
use Rattle.module_rules.specs.declared.segments.ElementKind.TheVariants.{Passive, Active, Declared}

-- ---- element segments

-- the type of its items: functions are no null
abbrev pub item_type : ElementItems → RefType
item_type (Functions fs) = non_null_reference (Abstract false Func)
item_type (Expressions ty count) = ty

-- so many items
abbrev pub item_count : ElementItems → ℕ
item_count (Functions fs) = length fs
item_count (Expressions ty count) = count

-- the functions are there, of which a module has so many; or the type of the expressions is valid
abbrev pub are_valid_items : ModuleFeatures → List SubType → ℕ → ElementItems → Bool
are_valid_items features types functions (Functions fs) = list_all (λ i. nat_lt i functions) fs
are_valid_items features types functions (Expressions ty count) = is_valid_element_type features types ty

-- a table is there, and may have elements of this type
abbrev pub takes_elements : List SubType → RefType → Option DeclaredTable → Bool
takes_elements types r None = false
takes_elements types r (Some t) = is_ref_below types r t.ty.element_type

-- segments that operators name are of a proposal
abbrev pub is_valid_element_kind :
    ModuleFeatures → List SubType → List DeclaredTable → RefType → ElementKind → Bool
is_valid_element_kind features types tables r Passive = has features.operators bulk_memory
is_valid_element_kind features types tables r Declared = has features.operators bulk_memory
is_valid_element_kind features types tables r (Active table) = takes_elements types r (slice_get tables table)

abbrev pub is_valid_element : ModuleFeatures → List SubType → ℕ → List DeclaredTable → Element → Bool
is_valid_element features types functions tables e =
    are_valid_items features types functions e.items
    && is_valid_element_kind features types tables (item_type e.items) e.kind

abbrev pub are_valid_elements : ModuleFeatures → List SubType → ℕ → List DeclaredTable → List Element → Bool
are_valid_elements features types functions tables elements =
    list_all (is_valid_element features types functions tables) elements

-- ---- data segments

-- the memory is there, of which a module has so many
abbrev pub is_valid_data_kind : ModuleFeatures → ℕ → DataKind → Bool
is_valid_data_kind features memories PassiveData = has features.operators bulk_memory
is_valid_data_kind features memories (ActiveData memory) = nat_lt memory memories

-- where the module says how many there are, there are as many (Specification, "Binary Format: Modules", data
-- count)
abbrev pub is_data_count : ℕ → Option DataCount → Bool
is_data_count n None = true
is_data_count n (Some said) = said.count == n

abbrev pub are_valid_data : ModuleFeatures → ℕ → Option DataCount → List Data → Bool
are_valid_data features memories count segments =
    is_data_count (length segments) count
    && list_all (λ (s : Data). is_valid_data_kind features memories s.kind) segments
