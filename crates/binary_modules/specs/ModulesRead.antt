-- What stands in the sections of a module, as their readers go through them (the crate's own).
use Rattle.std.specs.Prelude.{◌≡◌, ℕ, ◌-◌, ◌^◌, List, [], ◌++◌, length, map, flat_map, min, Some, option_map, IfSome}
use Rattle.binary_operators.specs.Values.{list_of}
use Rattle.binary_operators.specs.declared.types.CanonicalTypes.{CanonicalTypes}
use Rattle.binary_operators.specs.declared.types.GroupNames.TheVariants.{Indices}
use Rattle.module_rules.specs.Declarations.{Declarations}
use Rattle.module_rules.specs.Exported.{Exported}
use Rattle.module_rules.specs.declared.items.DeclaredFunction.{DeclaredFunction}
use Rattle.module_rules.specs.declared.items.DeclaredGlobal.{DeclaredGlobal}
use Rattle.module_rules.specs.declared.items.DeclaredMemory.{DeclaredMemory}
use Rattle.module_rules.specs.declared.items.DeclaredTable.{DeclaredTable}
use Rattle.module_rules.specs.declared.items.DeclaredTag.{DeclaredTag}
use Rattle.module_rules.specs.declared.items.Start.{Start}
use Rattle.module_rules.specs.declared.module.Imports.{Imports}
use Rattle.module_rules.specs.declared.module.Place.{Place}
use Rattle.module_rules.specs.declared.segments.Data.{Data}
use Rattle.module_rules.specs.declared.segments.DataCount.{DataCount}
use Rattle.module_rules.specs.declared.segments.Element.{Element}
use Rattle.binary_modules.specs.GroupsRead.{AreTypes}
use Rattle.binary_modules.specs.Initializers.{Expression}
use Rattle.binary_modules.specs.Items.{import_item, own_function, table, memory, tag, global, exported, declared_items}
use Rattle.binary_modules.specs.Modules.{Contents, expressions_of, function_in, table_in, memory_in, global_in, tag_in}
use Rattle.binary_modules.specs.Parts.{sized}
use Rattle.binary_modules.specs.Sections.{Section, contents_of, section_contents}
use Rattle.binary_modules.specs.SectionsRead.{IsNumber}
use Rattle.binary_modules.specs.Segments.{element, data_segment}
use Rattle.binary_modules.specs.declared.imports.Import.{Import}

-- The sections have these contents, where types are named so. There are as many bodies as functions of the
-- module's own, and as many data segments as are counted.
pub record AreContents (types : CanonicalTypes) (sections : List Section) (c : Contents) : Type 0 where
  pub imports : list_of (import_item types) (contents_of 2 sections) ≡ Some (c.imports, [])
  pub functions : list_of (own_function types) (contents_of 3 sections) ≡ Some (c.functions, [])
  pub tables : list_of (table types) (contents_of 4 sections) ≡ Some (c.tables, [])
  pub memories : list_of memory (contents_of 5 sections) ≡ Some (c.memories, [])
  pub tags : list_of (tag types) (contents_of 13 sections) ≡ Some (c.tags, [])
  pub globals : list_of (global types) (contents_of 6 sections) ≡ Some (c.globals, [])
  pub exports : list_of exported (contents_of 7 sections) ≡ Some (c.exports, [])
  pub start : IsNumber (section_contents 8 sections) c.start
  pub elements : list_of (element types) (contents_of 9 sections) ≡ Some (c.elements, [])
  pub data_count : IsNumber (section_contents 12 sections) c.data_count
  pub bodies : list_of sized (contents_of 10 sections) ≡ Some (c.bodies, [])
  pub data_segments : list_of (data_segment types) (contents_of 11 sections) ≡ Some (c.data_segments, [])
  pub a_body_each : length c.bodies ≡ length c.functions
  pub are_counted : IfSome c.data_count (λ count. count ≡ length c.data_segments)

-- so many items of each kind are imported
pub record AreImported (imports : List Import) (i : Imports) : Type 0 where
  pub functions : i.functions ≡ length (flat_map function_in imports)
  pub tables : i.tables ≡ length (flat_map table_in imports)
  pub memories : i.memories ≡ length (flat_map memory_in imports)
  pub globals : i.globals ≡ length (flat_map global_in imports)
  pub tags : i.tags ≡ length (flat_map tag_in imports)

-- The contents are what is declared, wherever in the module that stands: imported items first, and then the
-- module's own.
pub record AreDeclared (c : Contents) (d : Declarations) : Type 0 where
  pub imports : AreImported c.imports d.imports
  pub functions :
      map (λ (f : DeclaredFunction). record f { offset = 0 }) d.functions
      ≡ flat_map function_in c.imports ++ declared_items c.functions
  pub tables :
      map (λ (t : DeclaredTable). record t { offset = 0 }) d.tables
      ≡ flat_map table_in c.imports ++ declared_items c.tables
  pub memories :
      map (λ (m : DeclaredMemory). record m { offset = 0 }) d.memories
      ≡ flat_map memory_in c.imports ++ declared_items c.memories
  pub globals :
      map (λ (g : DeclaredGlobal). record g { offset = 0 }) d.globals
      ≡ flat_map global_in c.imports ++ declared_items c.globals
  pub tags :
      map (λ (t : DeclaredTag). record t { offset = 0 }) d.tags
      ≡ flat_map tag_in c.imports ++ declared_items c.tags
  pub exports : map (λ (e : Exported). record e { offset = 0 }) d.exports ≡ declared_items c.exports
  pub start : option_map (λ (s : Start). s.function) d.start ≡ c.start
  pub elements : map (λ (e : Element). record e { offset = 0 }) d.elements ≡ declared_items c.elements
  pub data_count : option_map (λ (n : DataCount). n.count) d.data_count ≡ c.data_count
  pub data_segments :
      map (λ (s : Data). record s { offset = 0 }) d.data_segments ≡ declared_items c.data_segments
  pub expression_functions :
      d.expression_functions ≡ flat_map (λ (e : Place × Expression). e.1.functions) (expressions_of c)

-- indices of types are read as those of the types that stand for these, which are all
pub record AreAllTypes (canonical : List ℕ) (types : CanonicalTypes) : Type 0 where
  pub are_named : types.canonical.now ≡ canonical
  pub are_behind : types.group ≡ Indices (min (length canonical) (2 ^ 32 - 1))

-- The sections have contents that declare this. The bodies and the constant expressions, each with what it is
-- for, are these.
pub record HasContents
    (sections : List Section) (d : Declarations) (bodies : List (List ℕ))
    (expressions : List (Place × List ℕ)) : Type 0 where
  pub are_types : AreTypes (contents_of 1 sections) d.types d.canonical d.groups []
  pub types : CanonicalTypes
  pub are_all_types : AreAllTypes d.canonical types
  pub contents : Contents
  pub are_contents : AreContents types sections contents
  pub are_declared : AreDeclared contents d
  pub are_bodies : bodies ≡ contents.bodies
  pub are_expressions :
      expressions ≡ map (λ (e : Place × Expression). (e.0, e.1.bytes)) (expressions_of contents)
