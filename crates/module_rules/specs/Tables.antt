-- The tables of a module (WebAssembly core specification, "Table Types", and "Modules": tables).
use Rattle.std.specs.Prelude.{ℕ, Bool, true, false, List, ◌&&◌, ◌||◌, not, nat_lt, nat_le, length}
use Rattle.std.specs.List.{list_all, enumerate_from}
use Rattle.validate_types.specs.Features.{has, reference_types, shared_everything_threads}
use Rattle.validate_types.specs.Features.{function_references, is_ref_enabled}
use Rattle.validate_types.specs.declared.heap.AbstractHeapType.TheVariants.{Func}
use Rattle.validate_types.specs.declared.heap.HeapType.{HeapType}
use Rattle.validate_types.specs.declared.heap.HeapType.TheVariants.{Abstract}
use Rattle.validate_types.specs.declared.refs.RefType.{RefType}
use Rattle.validate_types.specs.declared.types.SubType.{SubType}
use Rattle.validate_resources.specs.Indices.{is_known, ref_indices_pass}
use Rattle.validate_resources.specs.Order.{is_heap_shared}
use Rattle.module_rules.specs.Features.{operator_features}
use Rattle.module_rules.specs.Limits.{are_within, table_bound}
use Rattle.module_rules.specs.declared.features.ModuleFeatures.{ModuleFeatures}
use Rattle.module_rules.specs.declared.items.DeclaredTable.{DeclaredTable}
use Rattle.module_rules.specs.declared.items.TableInit.{TableInit}
use Rattle.module_rules.specs.declared.items.TableInit.TheVariants.{RefNull, Expr}

-- every unshared function
abbrev pub is_any_function : HeapType → Bool
is_any_function (Abstract false Func) = true
is_any_function _ = false

-- `funcref`, the one reference type of the standard's version 1.0
abbrev pub is_funcref : RefType → Bool
is_funcref r = r.nullable && is_any_function r.heap_type

-- the type of the elements of a table or a segment: its proposal is on, and the type that it names is there
abbrev pub is_valid_element_type : ModuleFeatures → List SubType → RefType → Bool
is_valid_element_type features types r =
    (is_funcref r || is_ref_enabled (operator_features features) r)
    && ref_indices_pass (is_known (length types)) r

-- ---- types of tables

-- addresses of 64 bits are of a proposal; so are shared tables, of which the elements are shared too
abbrev pub is_table_enabled : ModuleFeatures → List SubType → DeclaredTable → Bool
is_table_enabled features types t =
    (not t.ty.table64 || features.memory64)
    && (not t.ty.shared
    || has features.operators shared_everything_threads && is_heap_shared types t.ty.element_type.heap_type)

abbrev pub is_valid_table_type : ModuleFeatures → List SubType → DeclaredTable → Bool
is_valid_table_type features types t =
    is_valid_element_type features types t.ty.element_type && is_table_enabled features types t
    && are_within (table_bound t.ty.table64) t.limits

-- ---- tables

-- elements without a default value have an initializer
abbrev pub may_begin_so : ModuleFeatures → RefType → TableInit → Bool
may_begin_so features r RefNull = r.nullable
may_begin_so features r Expr = has features.operators function_references

-- table i, where so many are imported
abbrev pub is_valid_table : ModuleFeatures → List SubType → ℕ → ℕ → DeclaredTable → Bool
is_valid_table features types imported i t =
    is_valid_table_type features types t
    && (nat_lt i imported || may_begin_so features t.ty.element_type t.init)

-- several tables are of a proposal
abbrev pub may_be_so_many : ModuleFeatures → ℕ → Bool
may_be_so_many features tables = nat_le tables 1 || has features.operators reference_types

abbrev pub are_valid_tables : ModuleFeatures → List SubType → ℕ → List DeclaredTable → Bool
are_valid_tables features types imported tables =
    may_be_so_many features (length tables)
    && list_all (λ (e : ℕ × DeclaredTable). is_valid_table features types imported e.0 e.1)
    (enumerate_from 0 tables)
