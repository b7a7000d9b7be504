-- The exports of a module (WebAssembly core specification, "Modules": exports).
use Rattle.std.specs.Prelude.{ℕ, Bool, true, List, [], ◌∷◌, ◌&&◌, ◌||◌, not, nat_lt, length, map}
use Rattle.std.specs.Prelude.{Option, Some, None, slice_get}
use Rattle.std.specs.List.{list_all, list_any}
use Rattle.std.specs.Str.{bytes_eq}
use Rattle.module_rules.specs.Declarations.{Declarations}
use Rattle.module_rules.specs.Exported.{Exported}
use Rattle.module_rules.specs.declared.features.ModuleFeatures.{ModuleFeatures}
use Rattle.module_rules.specs.declared.items.DeclaredGlobal.{DeclaredGlobal}
use Rattle.module_rules.specs.declared.items.ExternalKind.{ExternalKind}
use Rattle.module_rules.specs.declared.items.ExternalKind.TheVariants.{Func, Table, Memory, Global, Tag}

-- so many items of a kind are there
abbrev pub item_count : Declarations → ExternalKind → ℕ
item_count d Func = length d.functions
item_count d Table = length d.tables
item_count d Memory = length d.memories
item_count d Global = length d.globals
item_count d Tag = length d.tags

-- that an exported global can be written is of a proposal
abbrev pub is_read_only : Option DeclaredGlobal → Bool
is_read_only None = true
is_read_only (Some g) = not g.ty.mutable

abbrev pub is_export_enabled : ModuleFeatures → List DeclaredGlobal → ExternalKind → ℕ → Bool
is_export_enabled features globals Global i =
    features.mutable_global || is_read_only (slice_get globals i)
is_export_enabled features globals _ i = true

abbrev pub is_valid_export : ModuleFeatures → Declarations → Exported → Bool
is_valid_export features d e =
    nat_lt e.index (item_count d e.kind) && is_export_enabled features d.globals e.kind e.index

-- no name is one of those behind it
abbrev pub are_distinct : List (List ℕ) → Bool
are_distinct [] = true
are_distinct (name ∷ names) = not (list_any (bytes_eq name) names) && are_distinct names

abbrev pub names_of : List Exported → List (List ℕ)
names_of exports = map (λ (e : Exported). e.name) exports

abbrev pub are_valid_exports : ModuleFeatures → Declarations → Bool
are_valid_exports features d =
    list_all (is_valid_export features d) d.exports
    && are_distinct (names_of d.exports)
