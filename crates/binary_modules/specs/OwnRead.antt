-- What a reader of a module keeps of its own items and segments (the crate's own).
use Rattle.std.specs.Prelude.{List, [], ◌++◌, length}
use Rattle.binary_operators.specs.declared.types.CanonicalTypes.{CanonicalTypes}
use Rattle.module_rules.specs.declared.items.DeclaredFunction.{DeclaredFunction}
use Rattle.module_rules.specs.declared.items.DeclaredGlobal.{DeclaredGlobal}
use Rattle.module_rules.specs.declared.items.DeclaredMemory.{DeclaredMemory}
use Rattle.module_rules.specs.declared.items.DeclaredTable.{DeclaredTable}
use Rattle.module_rules.specs.declared.items.DeclaredTag.{DeclaredTag}
use Rattle.module_rules.specs.declared.segments.Data.{Data}
use Rattle.module_rules.specs.declared.segments.Element.{Element}
use Rattle.binary_modules.specs.ContentsRead.{IsList}
use Rattle.binary_modules.specs.Items.{Item, placed, own_function, table, memory, tag, global}
use Rattle.binary_modules.specs.Kept.{Adds}
use Rattle.binary_modules.specs.Sections.{Section}
use Rattle.binary_modules.specs.Segments.{element, data_segment}
use Rattle.binary_modules.specs.declared.imports.Imported.{Imported}
use Rattle.binary_modules.specs.declared.initializers.Initializers.{Initializers}
use Rattle.binary_modules.specs.declared.own.Segments.{Segments}

-- the items of the module's own stand behind those that were there
pub record HasOwnItems
    (types : CanonicalTypes) (sections : List Section) (before after : Imported)
    (initial final : Initializers) : Type 0 where
  pub functions : List (Item DeclaredFunction)
  pub are_functions :
      IsList (own_function types) (λ f. record f { offset = 0 }) 3 sections before.functions.items
      after.functions.items functions
  pub tables : List (Item DeclaredTable)
  pub are_tables :
      IsList (table types) (λ t. record t { offset = 0 }) 4 sections before.tables.items after.tables.items
      tables
  pub memories : List (Item DeclaredMemory)
  pub are_memories :
      IsList memory (λ m. record m { offset = 0 }) 5 sections before.memories.items after.memories.items
      memories
  pub tags : List (Item DeclaredTag)
  pub are_tags :
      IsList (tag types) (λ t. record t { offset = 0 }) 13 sections before.tags.items after.tags.items tags
  pub globals : List (Item DeclaredGlobal)
  pub are_globals :
      IsList (global types) (λ g. record g { offset = 0 }) 6 sections before.globals.items after.globals.items
      globals
  pub have_initializers :
      Adds initial
      (placed (length before.tables.items) tables ++ placed (length before.globals.items) globals) final

-- the segments of the module
pub record HasSegments
    (types : CanonicalTypes) (sections : List Section) (s : Segments) (initial final : Initializers) :
    Type 0 where
  pub elements : List (Item Element)
  pub are_elements :
      IsList (element types) (λ e. record e { offset = 0 }) 9 sections [] s.elements.items elements
  pub data_items : List (Item Data)
  pub are_data :
      IsList (data_segment types) (λ d. record d { offset = 0 }) 11 sections [] s.data_segments.items
      data_items
  pub have_initializers : Adds initial (placed 0 elements ++ placed 0 data_items) final
