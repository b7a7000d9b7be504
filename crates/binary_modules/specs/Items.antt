-- What a module imports and declares besides types and segments, in its bytes (WebAssembly core
-- specification, "Binary Format: Modules" and "Types", "External Types"; exact imports are of a proposal,
-- "Custom Descriptors"). Where an item stands says nothing of it.
use Rattle.std.specs.Prelude.{◌+◌, ◌++◌, map, ℕ, Bool, true, false, List, [], ◌∷◌, Option, Some, None}
use Rattle.std.specs.Prelude.{nat_eq, nat_lt, slice_get, if◌then◌else◌}
use Rattle.binary_operators.specs.Integers.{unsigned}
use Rattle.binary_operators.specs.Types.{canonical, value_type}
use Rattle.binary_operators.specs.Values.{◌>>=◌, byte}
use Rattle.binary_operators.specs.declared.types.CanonicalTypes.{CanonicalTypes}
use Rattle.module_rules.specs.Exported.{Exported}
use Rattle.module_rules.specs.declared.items.DeclaredFunction.{DeclaredFunction}
use Rattle.module_rules.specs.declared.items.DeclaredGlobal.{DeclaredGlobal}
use Rattle.module_rules.specs.declared.items.DeclaredMemory.{DeclaredMemory}
use Rattle.module_rules.specs.declared.items.DeclaredTable.{DeclaredTable}
use Rattle.module_rules.specs.declared.items.DeclaredTag.{DeclaredTag}
use Rattle.module_rules.specs.declared.items.ExternalKind.{ExternalKind}
use Rattle.module_rules.specs.declared.items.ExternalKind.TheVariants.{Func, Table, Memory, Global, Tag}
use Rattle.module_rules.specs.declared.items.TableInit.TheVariants.{RefNull, Expr}
use Rattle.module_rules.specs.declared.module.Place.{Place}
use Rattle.module_rules.specs.declared.module.Place.TheVariants.{Table as OfTable, Global as OfGlobal}
use Rattle.binary_modules.specs.declared.imports.Import.{Import}
use Rattle.binary_modules.specs.declared.imports.Import.TheVariants.{Function as ImportedFunction}
use Rattle.binary_modules.specs.declared.imports.Import.TheVariants.{Table as ImportedTable}
use Rattle.binary_modules.specs.declared.imports.Import.TheVariants.{Memory as ImportedMemory}
use Rattle.binary_modules.specs.declared.imports.Import.TheVariants.{Global as ImportedGlobal}
use Rattle.binary_modules.specs.declared.imports.Import.TheVariants.{Tag as ImportedTag}
use Rattle.binary_modules.specs.Initializers.{Expression, expression}
use Rattle.binary_modules.specs.Limits.{has_flag, table_type, memory_type}
use Rattle.binary_modules.specs.Parts.{marked, name}

-- ---- items and their constant expressions

-- a constant expression, with what it is for in an item at some index
pub record Initializer : Type 0 where
  pub place : ℕ → Place
  pub expression : Expression

-- an item, with its constant expressions
pub record Item (A : Type 0) : Type 0 where
  pub declared : A
  pub initializers : List Initializer

abbrev pub alone : {A : Type 0} → A → Item A
alone x = record { declared = x; initializers = [] }

abbrev pub declared_items : {A : Type 0} → List (Item A) → List A
declared_items items = map (λ (i : Item _). i.declared) items

-- constant expressions of the item at this index, each with what it is for
abbrev pub placed_at : ℕ → List Initializer → List (Place × Expression)
placed_at i initializers = map (λ (v : Initializer). (v.place i, v.expression)) initializers

-- the same of items, of which the first has this index
abbrev pub placed : {A : Type 0} → ℕ → List (Item A) → List (Place × Expression)
placed i [] = []
placed i (x ∷ items) = placed_at i x.initializers ++ placed (i + 1) items

-- an item that has none
abbrev pub alone_item : {A : Type 0} → Option (A × List ℕ) → Option (Item A × List ℕ)
alone_item None = None
alone_item (Some x) = Some (alone x.0, x.1)

-- ---- types of items

-- a function of the type at this index; a reference to it is exact or not
unfoldable pub function : Bool → CanonicalTypes → List ℕ → Option (DeclaredFunction × List ℕ)
function exact types bytes = do
  i ← unsigned 32 bytes
  Some (record { type_index = canonical types i.0; exact = exact; offset = 0 }, i.1)

-- Flag 1 says that it can be written, and flag 2 that it is shared.
unfoldable pub global_type : CanonicalTypes → List ℕ → Option (DeclaredGlobal × List ℕ)
global_type types bytes = do
  content ← value_type types bytes
  flags ← byte content.1
  if nat_lt 3 flags.0 then None else Some (
    record {
      ty = record {
        content_type = content.0;
        mutable = has_flag 1 flags.0;
        shared = has_flag 2 flags.0;
      };
      offset = 0;
    },
    flags.1,
  )

-- a tag, whose attribute 0 says that it is one of exceptions
unfoldable pub tag_type : CanonicalTypes → List ℕ → Option (DeclaredTag × List ℕ)
tag_type types bytes = do
  attribute ← byte bytes
  i ← unsigned 32 attribute.1
  if nat_eq attribute.0 0x00 then Some (record { func_type_idx = canonical types i.0; offset = 0 }, i.1)
      else None

-- ---- items of the module's own

-- a function, to which references are exact
unfoldable pub own_function : CanonicalTypes → List ℕ → Option (Item DeclaredFunction × List ℕ)
own_function types bytes = alone_item (function true types bytes)

unfoldable pub memory : List ℕ → Option (Item DeclaredMemory × List ℕ)
memory bytes = alone_item (memory_type bytes)

unfoldable pub tag : CanonicalTypes → List ℕ → Option (Item DeclaredTag × List ℕ)
tag types bytes = alone_item (tag_type types bytes)

-- a table, and what its elements are at first, where bytes 0x40 and 0x00 say that it follows
unfoldable pub initialized_table : CanonicalTypes → List ℕ → Option (Item DeclaredTable × List ℕ)
initialized_table types bytes = do
  reserved ← byte bytes
  table ← table_type Expr types reserved.1
  value ← expression types table.1
  if nat_eq reserved.0 0x00 then Some (
    record {
      declared = table.0;
      initializers = record { place = λ i. OfTable i; expression = value.0 } ∷ [];
    },
    value.1,
  ) else None

abbrev pub default_table : CanonicalTypes → List ℕ → Option (Item DeclaredTable × List ℕ)
default_table types bytes = alone_item (table_type RefNull types bytes)

unfoldable pub table : CanonicalTypes → List ℕ → Option (Item DeclaredTable × List ℕ)
table types bytes = do
  mark ← marked 0x40 bytes
  if mark.0 then initialized_table types mark.1 else default_table types mark.1

-- a global, and its first value
unfoldable pub global : CanonicalTypes → List ℕ → Option (Item DeclaredGlobal × List ℕ)
global types bytes = do
  ty ← global_type types bytes
  value ← expression types ty.1
  Some (
    record {
      declared = ty.0;
      initializers = record { place = λ i. OfGlobal i; expression = value.0 } ∷ [];
    },
    value.1,
  )

-- ---- imports

abbrev pub imported : {A : Type 0} → (A → Import) → Option (A × List ℕ) → Option (Import × List ℕ)
imported kind None = None
imported kind (Some x) = Some (kind x.0, x.1)

-- what is imported: a function by code 0x00, or by 0x20 where references to it are exact
abbrev pub import_behind : ℕ → CanonicalTypes → List ℕ → Option (Import × List ℕ)
import_behind code types bytes =
    if nat_eq code 0x00 then imported ImportedFunction (function false types bytes)
    else (if nat_eq code 0x20 then imported ImportedFunction (function true types bytes)
    else (if nat_eq code 0x01 then imported ImportedTable (table_type RefNull types bytes)
    else (if nat_eq code 0x02 then imported ImportedMemory (memory_type bytes)
    else (if nat_eq code 0x03 then imported ImportedGlobal (global_type types bytes)
    else (if nat_eq code 0x04 then imported ImportedTag (tag_type types bytes) else None)))))

-- the names of a module and of what it exports, and what that is
unfoldable pub import_item : CanonicalTypes → List ℕ → Option (Import × List ℕ)
import_item types bytes = do
  from ← name bytes
  item ← name from.1
  code ← byte item.1
  import_behind code.0 types code.1

-- the same, as if it stood at offset 0
abbrev pub unplaced_import : Import → Import
unplaced_import (ImportedFunction f) = ImportedFunction (record f { offset = 0 })
unplaced_import (ImportedTable t) = ImportedTable (record t { offset = 0 })
unplaced_import (ImportedMemory m) = ImportedMemory (record m { offset = 0 })
unplaced_import (ImportedGlobal g) = ImportedGlobal (record g { offset = 0 })
unplaced_import (ImportedTag t) = ImportedTag (record t { offset = 0 })

-- ---- exports

abbrev pub external_kinds : List ExternalKind
external_kinds = Func ∷ Table ∷ Memory ∷ Global ∷ Tag ∷ []

unfoldable pub export : List ℕ → Option (Exported × List ℕ)
export bytes = do
  text ← name bytes
  code ← byte text.1
  kind ← slice_get external_kinds code.0
  i ← unsigned 32 code.1
  Some (record { name = text.0; kind = kind; index = i.0; offset = 0 }, i.1)

unfoldable pub exported : List ℕ → Option (Item Exported × List ℕ)
exported bytes = alone_item (export bytes)
