-- The imported items that a reader of a module keeps (the crate's own).
use Rattle.std.specs.Prelude.{◌≡◌, ℕ, List, ◌++◌, length, map, flat_map, Some}
use Rattle.module_rules.specs.declared.module.Imports.{Imports}
use Rattle.binary_operators.specs.Values.{list_of}
use Rattle.binary_operators.specs.declared.types.CanonicalTypes.{CanonicalTypes}
use Rattle.module_rules.specs.declared.items.DeclaredFunction.{DeclaredFunction}
use Rattle.module_rules.specs.declared.items.DeclaredGlobal.{DeclaredGlobal}
use Rattle.module_rules.specs.declared.items.DeclaredMemory.{DeclaredMemory}
use Rattle.module_rules.specs.declared.items.DeclaredTable.{DeclaredTable}
use Rattle.module_rules.specs.declared.items.DeclaredTag.{DeclaredTag}
use Rattle.binary_modules.specs.Items.{import_item}
use Rattle.binary_modules.specs.Modules.{function_in, table_in, memory_in, global_in, tag_in}
use Rattle.binary_modules.specs.declared.imports.Import.{Import}
use Rattle.binary_modules.specs.declared.imports.Imported.{Imported}

-- ---- items as if they stood at offset 0

abbrev pub unplaced_functions : List DeclaredFunction → List DeclaredFunction
unplaced_functions functions = map (λ (f : DeclaredFunction). record f { offset = 0 }) functions

abbrev pub unplaced_tables : List DeclaredTable → List DeclaredTable
unplaced_tables tables = map (λ (t : DeclaredTable). record t { offset = 0 }) tables

abbrev pub unplaced_memories : List DeclaredMemory → List DeclaredMemory
unplaced_memories memories = map (λ (m : DeclaredMemory). record m { offset = 0 }) memories

abbrev pub unplaced_globals : List DeclaredGlobal → List DeclaredGlobal
unplaced_globals globals = map (λ (g : DeclaredGlobal). record g { offset = 0 }) globals

abbrev pub unplaced_tags : List DeclaredTag → List DeclaredTag
unplaced_tags tags = map (λ (t : DeclaredTag). record t { offset = 0 }) tags

-- the items of these imports stand behind those that were there
pub record AddsImports (before : Imported) (imports : List Import) (after : Imported) : Type 0 where
  pub functions :
      unplaced_functions after.functions.items
      ≡ unplaced_functions before.functions.items ++ flat_map function_in imports
  pub tables :
      unplaced_tables after.tables.items ≡ unplaced_tables before.tables.items ++ flat_map table_in imports
  pub memories :
      unplaced_memories after.memories.items
      ≡ unplaced_memories before.memories.items ++ flat_map memory_in imports
  pub globals :
      unplaced_globals after.globals.items
      ≡ unplaced_globals before.globals.items ++ flat_map global_in imports
  pub tags : unplaced_tags after.tags.items ≡ unplaced_tags before.tags.items ++ flat_map tag_in imports

-- these are the items of these imports
pub record AreImports (imports : List Import) (i : Imported) : Type 0 where
  pub functions : unplaced_functions i.functions.items ≡ flat_map function_in imports
  pub tables : unplaced_tables i.tables.items ≡ flat_map table_in imports
  pub memories : unplaced_memories i.memories.items ≡ flat_map memory_in imports
  pub globals : unplaced_globals i.globals.items ≡ flat_map global_in imports
  pub tags : unplaced_tags i.tags.items ≡ flat_map tag_in imports

-- the bytes begin with a list of imports, which are these, and these bytes are behind it
pub record HasImports (types : CanonicalTypes) (bytes : List ℕ) (i : Imported) (rest : List ℕ) : Type 0 where
  pub imports : List Import
  pub are_read : list_of (import_item types) bytes ≡ Some (imports, rest)
  pub are_imports : AreImports imports i

-- so many items of each kind are there
pub record AreCounted (i : Imported) (n : Imports) : Type 0 where
  pub functions : n.functions ≡ length i.functions.items
  pub tables : n.tables ≡ length i.tables.items
  pub memories : n.memories ≡ length i.memories.items
  pub globals : n.globals ≡ length i.globals.items
  pub tags : n.tags ≡ length i.tags.items
