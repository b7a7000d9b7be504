-- The rows of operators on tables and element segments (WebAssembly core specification, "Validation:
-- Table Instructions"; the shared marks are those of the shared-everything-threads proposal).
-- Addresses, sizes, places and lengths are of the type of the table's addresses; a place and a length in a
-- segment are i32. A length that two tables share is an i64 where both have addresses of 64 bits, else an
-- i32. What is put into a table lies below its element type.
use Rattle.std.specs.Prelude.{ℕ, [], ◌∷◌, Option, Some}
use Rattle.std.specs.Option.{option_and_then}
use Rattle.validate_types.specs.Types.{address_type_of_table}
use Rattle.validate_types.specs.declared.refs.RefType.{RefType}
use Rattle.validate_types.specs.declared.types.TableType.{TableType}
use Rattle.validate_visit.specs.declared.op.TableOp.{TableOp}
use Rattle.validate_visit.specs.declared.op.TableOp.TheVariants.{TableGet, TableSet, TableGrow, TableSize}
use Rattle.validate_visit.specs.declared.op.TableOp.TheVariants.{TableFill, TableInit, ElemDrop, TableCopy}
use Rattle.validation_rules.specs.Calls.{may_access}
use Rattle.validation_rules.specs.Context.{ValType, I32, Ref, Context}
use Rattle.validation_rules.specs.Memories.{narrower_type}
use Rattle.validation_rules.specs.Rows.{Row, guard}
use Rattle.validation_rules.specs.Shapes.{plain_row, plain_row_if, lookup_row}

abbrev pub accessible_table : Context → TableType → Option TableType
accessible_table cx t = guard (may_access cx t.shared) (Some t)

-- a table that the function may access
abbrev pub table_type : Context → ℕ → Option TableType
table_type cx i = option_and_then (accessible_table cx) (cx.of_module.table_at i)

-- what it holds
abbrev pub element_of_table : TableType → ValType
element_of_table t = Ref t.element_type

abbrev pub table_get_row : Context → ℕ → Row
table_get_row cx i =
    lookup_row (table_type cx i) (λ t. plain_row (address_type_of_table t ∷ []) (element_of_table t ∷ []))

abbrev pub table_set_row : Context → ℕ → Row
table_set_row cx i =
    lookup_row (table_type cx i) (λ t. plain_row (address_type_of_table t ∷ element_of_table t ∷ []) [])

-- by so many places, each with this element
abbrev pub table_grow_row : Context → ℕ → Row
table_grow_row cx i =
    lookup_row (table_type cx i)
    (λ t. plain_row (element_of_table t ∷ address_type_of_table t ∷ []) (address_type_of_table t ∷ []))

abbrev pub table_size_row : Context → ℕ → Row
table_size_row cx i = lookup_row (table_type cx i) (λ t. plain_row [] (address_type_of_table t ∷ []))

-- from this place on, with this element, so many
abbrev pub table_fill_row : Context → ℕ → Row
table_fill_row cx i =
    lookup_row (table_type cx i)
    (λ t. plain_row (address_type_of_table t ∷ element_of_table t ∷ address_type_of_table t ∷ []) [])

-- to a place of the table, from one of the segment, so many
abbrev pub table_init_row_for : Context → TableType → RefType → Row
table_init_row_for cx t r =
    plain_row_if (cx.of_module.below (Ref r) (element_of_table t))
    (address_type_of_table t ∷ I32 ∷ I32 ∷ []) []

abbrev pub table_init_row : Context → ℕ → ℕ → Row
table_init_row cx segment i =
    lookup_row (table_type cx i)
    (λ t. lookup_row (cx.of_module.element_at segment) (table_init_row_for cx t))

abbrev pub elem_drop_row : Context → ℕ → Row
elem_drop_row cx segment = lookup_row (cx.of_module.element_at segment) (λ r. plain_row [] [])

-- to a place, from a place, so many: a number that fits both tables
abbrev pub table_copy_row_for : Context → TableType → TableType → Row
table_copy_row_for cx from to =
    let place = address_type_of_table to in
    let source = address_type_of_table from in
    plain_row_if (cx.of_module.below (element_of_table from) (element_of_table to))
    (place ∷ source ∷ narrower_type place source ∷ []) []

abbrev pub table_copy_row : Context → ℕ → ℕ → Row
table_copy_row cx dst src =
    lookup_row (table_type cx src)
    (λ from. lookup_row (table_type cx dst) (table_copy_row_for cx from))

abbrev pub table_row : Context → TableOp → Row
table_row cx (TableGet i) = table_get_row cx i
table_row cx (TableSet i) = table_set_row cx i
table_row cx (TableGrow i) = table_grow_row cx i
table_row cx (TableSize i) = table_size_row cx i
table_row cx (TableFill i) = table_fill_row cx i
table_row cx (TableInit segment i) = table_init_row cx segment i
table_row cx (ElemDrop segment) = elem_drop_row cx segment
table_row cx (TableCopy dst src) = table_copy_row cx dst src
