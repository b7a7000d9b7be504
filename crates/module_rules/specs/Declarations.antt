-- What a module declares, as contracts see it (WebAssembly core specification, "Modules").
use Rattle.std.specs.Prelude.{ℕ, List, [], Option, None}
use Rattle.validate_types.specs.declared.types.SubType.{SubType}
use Rattle.module_rules.specs.Exported.{Exported}
use Rattle.module_rules.specs.declared.items.DeclaredFunction.{DeclaredFunction}
use Rattle.module_rules.specs.declared.items.DeclaredGlobal.{DeclaredGlobal}
use Rattle.module_rules.specs.declared.items.DeclaredMemory.{DeclaredMemory}
use Rattle.module_rules.specs.declared.items.DeclaredTable.{DeclaredTable}
use Rattle.module_rules.specs.declared.items.DeclaredTag.{DeclaredTag}
use Rattle.module_rules.specs.declared.items.RecGroup.{RecGroup}
use Rattle.module_rules.specs.declared.items.Start.{Start}
use Rattle.module_rules.specs.declared.module.DeclaredModule.{DeclaredModule}
use Rattle.module_rules.specs.declared.module.Imports.{Imports}
use Rattle.module_rules.specs.declared.segments.Data.{Data}
use Rattle.module_rules.specs.declared.segments.DataCount.{DataCount}
use Rattle.module_rules.specs.declared.segments.Element.{Element}

-- its lists, each with imported items first
pub record Declarations : Type 0 where
  pub types : List SubType
  -- the recursion groups that the types stand in
  pub groups : List RecGroup
  -- of each type the index that it is named by: that of the first type that it is equal to
  pub canonical : List ℕ
  pub imports : Imports
  pub functions : List DeclaredFunction
  pub tables : List DeclaredTable
  pub memories : List DeclaredMemory
  pub globals : List DeclaredGlobal
  pub tags : List DeclaredTag
  pub exports : List Exported
  pub start : Option Start
  pub elements : List Element
  pub data_count : Option DataCount
  pub data_segments : List Data
  -- the functions that `ref.func` names in constant expressions
  pub expression_functions : List ℕ

abbrev pub declarations_of : DeclaredModule → Declarations
declarations_of m = record {
  types = m.types.items;
  groups = m.groups.items;
  canonical = m.canonical.items;
  imports = m.imports;
  functions = m.functions.items;
  tables = m.tables.items;
  memories = m.memories.items;
  globals = m.globals.items;
  tags = m.tags.items;
  exports = m.exports.items;
  start = m.start;
  elements = m.elements.items;
  data_count = m.data_count;
  data_segments = m.data_segments.items;
  expression_functions = m.expression_functions.items;
}

abbrev pub no_imports : Imports
no_imports = record { functions = 0; tables = 0; memories = 0; globals = 0; tags = 0; offset = 0 }

-- nothing at all
abbrev pub nothing_declared : Declarations
nothing_declared = record {
  types = [];
  groups = [];
  canonical = [];
  imports = no_imports;
  functions = [];
  tables = [];
  memories = [];
  globals = [];
  tags = [];
  exports = [];
  start = None;
  elements = [];
  data_count = None;
  data_segments = [];
  expression_functions = [];
}
