-- Element and data segments in the bytes of a module (WebAssembly core specification, "Binary Format:
-- Modules", "Element Section" and "Data Section"). Where a segment stands says nothing of it.
use Rattle.std.specs.Prelude.{ℕ, ◌%◌, Bool, true, false, List, [], ◌∷◌, ◌++◌, length, map}
use Rattle.std.specs.Prelude.{Option, Some, None, nat_eq, nat_lt, if◌then◌else◌}
use Rattle.binary_operators.specs.Integers.{unsigned}
use Rattle.binary_operators.specs.Types.{ref_type}
use Rattle.binary_operators.specs.Values.{◌>>=◌, byte, list_of}
use Rattle.binary_operators.specs.declared.types.CanonicalTypes.{CanonicalTypes}
use Rattle.module_rules.specs.declared.module.Place.TheVariants.{ElementOffset, Element as ElementItem}
use Rattle.module_rules.specs.declared.module.Place.TheVariants.{DataOffset}
use Rattle.module_rules.specs.declared.segments.Data.{Data}
use Rattle.module_rules.specs.declared.segments.DataKind.{DataKind}
use Rattle.module_rules.specs.declared.segments.DataKind.TheVariants.{Passive as PassiveData}
use Rattle.module_rules.specs.declared.segments.DataKind.TheVariants.{Active as ActiveData}
use Rattle.module_rules.specs.declared.segments.Element.{Element}
use Rattle.module_rules.specs.declared.segments.ElementItems.{ElementItems}
use Rattle.module_rules.specs.declared.segments.ElementItems.TheVariants.{Functions, Expressions}
use Rattle.module_rules.specs.declared.segments.ElementKind.{ElementKind}
use Rattle.module_rules.specs.declared.segments.ElementKind.TheVariants.{Passive, Active, Declared}
use Rattle.validate_types.specs.Refs.{nullable_reference}
use Rattle.validate_types.specs.declared.heap.AbstractHeapType.TheVariants.{Func}
use Rattle.validate_types.specs.declared.heap.HeapType.TheVariants.{Abstract}
use Rattle.validate_types.specs.declared.refs.RefType.{RefType}
use Rattle.binary_modules.specs.Initializers.{Expression, expression}
use Rattle.binary_modules.specs.Items.{Initializer, Item}
use Rattle.binary_modules.specs.Parts.{sized}

-- ---- where a segment goes

-- the index of a table or a memory, if it is written, and else 0
abbrev pub index_if : Bool → List ℕ → Option (ℕ × List ℕ)
index_if true bytes = unsigned 32 bytes
index_if false bytes = Some (0, bytes)

-- what becomes of a segment, and the expression that says where it goes
pub record Target (A : Type 0) : Type 0 where
  pub kind : A
  pub initializers : List Initializer

abbrev pub nowhere_to : {A : Type 0} → A → Target A
nowhere_to kind = record { kind = kind; initializers = [] }

-- ---- element segments

-- it is written to the table at an index, from an offset on
unfoldable pub active_elements : Bool → CanonicalTypes → List ℕ → Option (Target ElementKind × List ℕ)
active_elements has_table types bytes = do
  table ← index_if has_table bytes
  offset ← expression types table.1
  Some (
    record {
      kind = Active table.0;
      initializers = record { place = λ i. ElementOffset i; expression = offset.0 } ∷ [];
    },
    offset.1,
  )

-- Of its flags the first bit says that it isn't written to a table at first. Then the second says that it
-- only declares functions, and else that the index of the table is written.
abbrev pub element_target : ℕ → CanonicalTypes → List ℕ → Option (Target ElementKind × List ℕ)
element_target flags types bytes =
    if nat_eq (flags % 4) 1 then Some (nowhere_to Passive, bytes)
    else (if nat_eq (flags % 4) 3 then Some (nowhere_to Declared, bytes)
    else active_elements (nat_eq (flags % 4) 2) types bytes)

-- what an element segment lists, and its constant expressions
pub record Listed : Type 0 where
  pub items : ElementItems
  pub initializers : List Initializer

-- functions, by their indices
unfoldable pub function_items : List ℕ → Option (Listed × List ℕ)
function_items bytes = do
  indices ← list_of (unsigned 32) bytes
  Some (record { items = Functions indices.0; initializers = [] }, indices.1)

-- constant expressions of this type
abbrev pub expression_item : Expression → Initializer
expression_item e = record { place = λ i. ElementItem i; expression = e }

abbrev pub with_type : RefType → Option (List Expression × List ℕ) → Option (Listed × List ℕ)
with_type ty None = None
with_type ty (Some values) = Some (
  record { items = Expressions ty (length values.0); initializers = map expression_item values.0 },
  values.1,
)

unfoldable pub expression_items : RefType → CanonicalTypes → List ℕ → Option (Listed × List ℕ)
expression_items ty types bytes = with_type ty (list_of (expression types) bytes)

-- the kind of the elements, 0x00 for functions, and then these
unfoldable pub kind_and_functions : List ℕ → Option (Listed × List ℕ)
kind_and_functions bytes = do
  kind ← byte bytes
  items ← function_items kind.1
  if nat_eq kind.0 0x00 then Some items else None

unfoldable pub type_and_expressions : CanonicalTypes → List ℕ → Option (Listed × List ℕ)
type_and_expressions types bytes = do
  ty ← ref_type types bytes
  expression_items ty.0 types ty.1

-- The third bit of the flags says that the items are expressions. Their type, or the kind of functions, is
-- written unless the other bits are clear: then they are any functions.
abbrev pub element_items : ℕ → CanonicalTypes → List ℕ → Option (Listed × List ℕ)
element_items flags types bytes =
    if nat_eq flags 0 then function_items bytes
    else (if nat_lt flags 4 then kind_and_functions bytes
    else (if nat_eq flags 4 then expression_items (nullable_reference (Abstract false Func)) types bytes
    else type_and_expressions types bytes))

unfoldable pub element_behind : ℕ → CanonicalTypes → List ℕ → Option (Item Element × List ℕ)
element_behind flags types bytes = do
  target ← element_target flags types bytes
  listed ← element_items flags types target.1
  Some (
    record {
      declared = record { kind = target.0.kind; items = listed.0.items; offset = 0 };
      initializers = target.0.initializers ++ listed.0.initializers;
    },
    listed.1,
  )

unfoldable pub element : CanonicalTypes → List ℕ → Option (Item Element × List ℕ)
element types bytes = do
  flags ← unsigned 32 bytes
  if nat_lt 7 flags.0 then None else element_behind flags.0 types flags.1

-- ---- data segments

unfoldable pub active_data : Bool → CanonicalTypes → List ℕ → Option (Target DataKind × List ℕ)
active_data has_memory types bytes = do
  memory ← index_if has_memory bytes
  offset ← expression types memory.1
  Some (
    record {
      kind = ActiveData memory.0;
      initializers = record { place = λ i. DataOffset i; expression = offset.0 } ∷ [];
    },
    offset.1,
  )

-- 1 says that it isn't written to a memory at first, and 2 that the index of the memory is written
abbrev pub data_target : ℕ → CanonicalTypes → List ℕ → Option (Target DataKind × List ℕ)
data_target flags types bytes =
    if nat_eq flags 1 then Some (nowhere_to PassiveData, bytes)
    else active_data (nat_eq flags 2) types bytes

-- the bytes of a segment say nothing of whether it is valid
unfoldable pub data_behind : ℕ → CanonicalTypes → List ℕ → Option (Item Data × List ℕ)
data_behind flags types bytes = do
  target ← data_target flags types bytes
  written ← sized target.1
  Some (
    record {
      declared = record { kind = target.0.kind; offset = 0 };
      initializers = target.0.initializers;
    },
    written.1,
  )

unfoldable pub data_segment : CanonicalTypes → List ℕ → Option (Item Data × List ℕ)
data_segment types bytes = do
  flags ← unsigned 32 bytes
  if nat_lt 2 flags.0 then None else data_behind flags.0 types flags.1
