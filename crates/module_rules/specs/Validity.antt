-- A module whose declarations are valid (WebAssembly core specification, "Validation: Modules"). That each
-- body and each constant expression is valid too is asked of those. Limits of an implementation are no part of it.
use Rattle.std.specs.Prelude.{◌≡◌, Bool, true, ◌&&◌, length}
use Rattle.module_rules.specs.Declarations.{Declarations}
use Rattle.module_rules.specs.Exports.{are_valid_exports}
use Rattle.module_rules.specs.Functions.{are_valid_functions, are_valid_tags, is_valid_start}
use Rattle.module_rules.specs.Globals.{are_valid_globals}
use Rattle.module_rules.specs.Memories.{are_valid_memories}
use Rattle.module_rules.specs.Segments.{are_valid_elements, are_valid_data}
use Rattle.module_rules.specs.Tables.{are_valid_tables}
use Rattle.module_rules.specs.Types.{are_valid_types}
use Rattle.module_rules.specs.declared.features.ModuleFeatures.{ModuleFeatures}

-- functions, tables, memories, tags and globals
abbrev pub are_valid_items : ModuleFeatures → Declarations → Bool
are_valid_items features d =
    are_valid_functions features d.types d.imports.functions d.functions
    && are_valid_tables features d.types d.imports.tables d.tables
    && are_valid_memories features d.memories
    && are_valid_tags features d.types d.tags
    && are_valid_globals features d.types d.imports.globals d.globals

-- exports, the start function and segments, which name them
abbrev pub are_valid_uses : ModuleFeatures → Declarations → Bool
are_valid_uses features d =
    are_valid_exports features d
    && is_valid_start d.types d.functions d.start
    && are_valid_elements features d.types (length d.functions) d.tables d.elements
    && are_valid_data features (length d.memories) d.data_count d.data_segments

abbrev pub is_valid_module : ModuleFeatures → Declarations → Bool
is_valid_module features d =
    are_valid_types features d.types d.groups d.canonical
    && are_valid_items features d
    && are_valid_uses features d

-- the declarations of a module are valid under the proposals that are on
abbrev pub IsValidModule : ModuleFeatures → Declarations → Type 0
IsValidModule features d = is_valid_module features d ≡ true
