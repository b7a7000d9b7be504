-- What the bytes of a module declare (WebAssembly core specification, "Binary Format: Modules").
use Rattle.std.specs.Prelude.{◌≡◌, ℕ, ◌-◌, ◌^◌, List, [], ◌∷◌, ◌++◌, length, map, flat_map, min}
use Rattle.std.specs.Prelude.{Bool, true, ◌&&◌, nat_eq, Option, Some, None, option_map, if◌then◌else◌}
use Rattle.binary_operators.specs.Values.{◌>>=◌}
use Rattle.binary_operators.specs.declared.types.CanonicalTypes.{CanonicalTypes}
use Rattle.binary_operators.specs.declared.types.GroupNames.TheVariants.{Indices}
use Rattle.module_rules.specs.Declarations.{Declarations}
use Rattle.module_rules.specs.Exported.{Exported}
use Rattle.module_rules.specs.declared.items.DeclaredFunction.{DeclaredFunction}
use Rattle.module_rules.specs.declared.items.DeclaredGlobal.{DeclaredGlobal}
use Rattle.module_rules.specs.declared.items.DeclaredMemory.{DeclaredMemory}
use Rattle.module_rules.specs.declared.items.DeclaredTable.{DeclaredTable}
use Rattle.module_rules.specs.declared.items.DeclaredTag.{DeclaredTag}
use Rattle.module_rules.specs.declared.items.RecGroup.{RecGroup}
use Rattle.module_rules.specs.declared.items.Start.{Start}
use Rattle.module_rules.specs.declared.module.Imports.{Imports}
use Rattle.module_rules.specs.declared.module.Place.{Place}
use Rattle.module_rules.specs.declared.segments.Data.{Data}
use Rattle.module_rules.specs.declared.segments.DataCount.{DataCount}
use Rattle.module_rules.specs.declared.segments.Element.{Element}
use Rattle.binary_modules.specs.Groups.{Group, groups, types_of, canonical_of, naming}
use Rattle.binary_modules.specs.Initializers.{Expression}
use Rattle.binary_modules.specs.Items.{Item, declared_items, placed, own_function, table, memory, tag, global}
use Rattle.binary_modules.specs.declared.imports.Import.{Import}
use Rattle.binary_modules.specs.declared.imports.Import.TheVariants.{Function as ImportedFunction}
use Rattle.binary_modules.specs.declared.imports.Import.TheVariants.{Table as ImportedTable}
use Rattle.binary_modules.specs.declared.imports.Import.TheVariants.{Memory as ImportedMemory}
use Rattle.binary_modules.specs.declared.imports.Import.TheVariants.{Global as ImportedGlobal}
use Rattle.binary_modules.specs.declared.imports.Import.TheVariants.{Tag as ImportedTag}
use Rattle.binary_modules.specs.Items.{import_item, exported}
use Rattle.binary_modules.specs.Parts.{sized, whole}
use Rattle.binary_modules.specs.Sections.{Section, contents_of, items_of, number_of, module_sections}
use Rattle.binary_modules.specs.Segments.{element, data_segment}

-- ---- imported items

abbrev pub function_in : Import → List DeclaredFunction
function_in (ImportedFunction f) = f ∷ []
function_in i = []

abbrev pub table_in : Import → List DeclaredTable
table_in (ImportedTable t) = t ∷ []
table_in i = []

abbrev pub memory_in : Import → List DeclaredMemory
memory_in (ImportedMemory m) = m ∷ []
memory_in i = []

abbrev pub global_in : Import → List DeclaredGlobal
global_in (ImportedGlobal g) = g ∷ []
global_in i = []

abbrev pub tag_in : Import → List DeclaredTag
tag_in (ImportedTag t) = t ∷ []
tag_in i = []

-- ---- the contents of the sections

-- what stands in the sections of a module besides types, item by item
pub record Contents : Type 0 where
  pub imports : List Import
  pub functions : List (Item DeclaredFunction)
  pub tables : List (Item DeclaredTable)
  pub memories : List (Item DeclaredMemory)
  pub tags : List (Item DeclaredTag)
  pub globals : List (Item DeclaredGlobal)
  pub exports : List (Item Exported)
  pub start : Option ℕ
  pub elements : List (Item Element)
  pub data_count : Option ℕ
  pub bodies : List (List ℕ)
  pub data_segments : List (Item Data)

-- as many data segments as are counted
abbrev pub are_counted : Option ℕ → ℕ → Bool
are_counted None segments = true
are_counted (Some count) segments = nat_eq count segments

-- What stands in these sections, where types are named so. There are as many bodies as functions of the module's
-- own, and as many data segments as are counted.
unfoldable pub contents : CanonicalTypes → List Section → Option Contents
contents types sections = do
  imports ← items_of (import_item types) 2 sections
  functions ← items_of (own_function types) 3 sections
  tables ← items_of (table types) 4 sections
  memories ← items_of memory 5 sections
  tags ← items_of (tag types) 13 sections
  globals ← items_of (global types) 6 sections
  exports ← items_of exported 7 sections
  start ← number_of 8 sections
  elements ← items_of (element types) 9 sections
  data_count ← number_of 12 sections
  bodies ← items_of sized 10 sections
  data_segments ← items_of (data_segment types) 11 sections
  if nat_eq (length bodies) (length functions) && are_counted data_count (length data_segments)
      then Some (record {
        imports = imports;
        functions = functions;
        tables = tables;
        memories = memories;
        tags = tags;
        globals = globals;
        exports = exports;
        start = start;
        elements = elements;
        data_count = data_count;
        bodies = bodies;
        data_segments = data_segments;
      }) else None

-- ---- what they declare

-- the constant expressions of a module, each with what it is for: items of its own stand behind imported ones
abbrev pub expressions_of : Contents → List (Place × Expression)
expressions_of c =
    placed (length (flat_map table_in c.imports)) c.tables
    ++ (placed (length (flat_map global_in c.imports)) c.globals
    ++ (placed 0 c.elements ++ placed 0 c.data_segments))

-- so many items of each kind are imported
abbrev pub imports_of : List Import → Imports
imports_of imports = record {
  functions = length (flat_map function_in imports);
  tables = length (flat_map table_in imports);
  memories = length (flat_map memory_in imports);
  globals = length (flat_map global_in imports);
  tags = length (flat_map tag_in imports);
  offset = 0;
}

abbrev pub group_of : Group → RecGroup
group_of g = record { count = length g.types; explicit = g.explicit; offset = 0 }

-- What these groups and contents declare: imported items first, and then the module's own. Where in the module
-- that stands says nothing, so each offset is 0.
abbrev pub declarations : List Group → Contents → Declarations
declarations groups c = record {
  types = types_of groups;
  groups = map group_of groups;
  canonical = canonical_of groups;
  imports = imports_of c.imports;
  functions = flat_map function_in c.imports ++ declared_items c.functions;
  tables = flat_map table_in c.imports ++ declared_items c.tables;
  memories = flat_map memory_in c.imports ++ declared_items c.memories;
  globals = flat_map global_in c.imports ++ declared_items c.globals;
  tags = flat_map tag_in c.imports ++ declared_items c.tags;
  exports = declared_items c.exports;
  start = option_map (λ function. record { function = function; offset = 0 }) c.start;
  elements = declared_items c.elements;
  data_count = option_map (λ count. record { count = count; offset = 0 }) c.data_count;
  data_segments = declared_items c.data_segments;
  expression_functions = flat_map (λ (e : Place × Expression). e.1.functions) (expressions_of c);
}

-- ---- a module

-- What a module declares, its bodies, one for each function of its own in their order, and its constant
-- expressions, each with what it is for.
pub record DecodedModule : Type 0 where
  pub declared : Declarations
  pub bodies : List (List ℕ)
  pub expressions : List (Place × List ℕ)

abbrev pub decoded_of : List Group → Contents → DecodedModule
decoded_of groups c = record {
  declared = declarations groups c;
  bodies = c.bodies;
  expressions = map (λ (e : Place × Expression). (e.0, e.1.bytes)) (expressions_of c);
}

-- indices of types are read as those of the types that stand for these, which are all
abbrev pub naming_all : List ℕ → CanonicalTypes
naming_all canonical = naming canonical (Indices (min (length canonical) (2 ^ 32 - 1)))

-- the module that has these sections
unfoldable pub module_in : List Section → Option DecodedModule
module_in sections = do
  groups ← whole (groups (contents_of 1 sections))
  contents ← contents (naming_all (canonical_of groups)) sections
  Some (decoded_of groups contents)

-- the module that these bytes are, if they are one's
unfoldable pub decode : List ℕ → Option DecodedModule
decode bytes = do
  sections ← module_sections bytes
  module_in sections

-- the same declarations, as if all stood at offset 0
abbrev pub unplaced : Declarations → Declarations
unplaced d = record d {
  groups = map (λ (g : RecGroup). record g { offset = 0 }) d.groups;
  imports = record d.imports { offset = 0 };
  functions = map (λ (f : DeclaredFunction). record f { offset = 0 }) d.functions;
  tables = map (λ (t : DeclaredTable). record t { offset = 0 }) d.tables;
  memories = map (λ (m : DeclaredMemory). record m { offset = 0 }) d.memories;
  globals = map (λ (g : DeclaredGlobal). record g { offset = 0 }) d.globals;
  tags = map (λ (t : DeclaredTag). record t { offset = 0 }) d.tags;
  exports = map (λ (e : Exported). record e { offset = 0 }) d.exports;
  start = option_map (λ (s : Start). record s { offset = 0 }) d.start;
  elements = map (λ (e : Element). record e { offset = 0 }) d.elements;
  data_count = option_map (λ (c : DataCount). record c { offset = 0 }) d.data_count;
  data_segments = map (λ (s : Data). record s { offset = 0 }) d.data_segments;
}

-- a module that declares this, as if all stood at offset 0, and has these bodies and constant expressions
abbrev pub unplaced_module : Declarations → List (List ℕ) → List (Place × List ℕ) → DecodedModule
unplaced_module d bodies expressions =
    record { declared = unplaced d; bodies = bodies; expressions = expressions }

-- The bytes are those of a module that declares this, wherever in it that stands. It has these bodies and
-- these constant expressions.
abbrev pub IsModule : List ℕ → Declarations → List (List ℕ) → List (Place × List ℕ) → Type 0
IsModule bytes d bodies expressions = decode bytes ≡ Some (unplaced_module d bodies expressions)

-- no module has these bytes
abbrev pub IsNoModule : List ℕ → Type 0
IsNoModule bytes = decode bytes ≡ None
