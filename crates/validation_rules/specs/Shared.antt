-- The rows of operators of shared-everything threads: atomic accesses to globals, tables, structs and arrays,
-- and `ref.i31_shared` (proposal "shared-everything-threads").
-- `get`, `set` and `xchg` access integers and references below `any`, `cmpxchg` integers and references
-- below `eq`, the others integers alone. `set` writes packed integers too; `get_s` and `get_u` read nothing
-- else.
use Rattle.std.specs.Prelude.{ℕ, Bool, true, false, ◌&&◌, ◌||◌, List, [], ◌∷◌, ◌++◌}
use Rattle.validate_types.specs.Refs.{nullable_reference, non_null_reference}
use Rattle.validate_types.specs.Types.{is_packed, address_type_of_table}
use Rattle.validate_types.specs.declared.heap.AbstractHeapType.{AbstractHeapType}
use Rattle.validate_types.specs.declared.heap.AbstractHeapType.TheVariants.{Any, Eq, I31}
use Rattle.validate_types.specs.declared.heap.HeapType.TheVariants.{Abstract}
use Rattle.validate_types.specs.declared.types.FieldType.{FieldType}
use Rattle.validate_types.specs.declared.types.GlobalType.{GlobalType}
use Rattle.validate_types.specs.declared.types.StorageType.{StorageType}
use Rattle.validate_types.specs.declared.types.StorageType.TheVariants.{Val}
use Rattle.validate_types.specs.declared.types.TableType.{TableType}
use Rattle.validate_visit.specs.declared.shared.FieldAccess.{FieldAccess}
use Rattle.validate_visit.specs.declared.shared.FieldAccess.TheVariants.{Whole, GetPacked}
use Rattle.validate_visit.specs.declared.op.FieldIndex.{FieldIndex}
use Rattle.validate_visit.specs.declared.shared.Update.{Update}
use Rattle.validate_visit.specs.declared.shared.Update.TheVariants.{Value, Rmw}
use Rattle.validate_visit.specs.declared.shared.SharedOp.{SharedOp}
use Rattle.validate_visit.specs.declared.shared.SharedOp.TheVariants.{Global, Table, Struct, Array}
use Rattle.validate_visit.specs.declared.shared.SharedOp.TheVariants.{RefI31Shared}
use Rattle.validate_visit.specs.declared.shared.Exchange.{Exchange}
use Rattle.validate_visit.specs.declared.shared.Exchange.TheVariants.{Get, Set, Xchg, Cmpxchg}
use Rattle.validation_rules.specs.Arrays.{array_row_for}
use Rattle.validation_rules.specs.Calls.{global_type}
use Rattle.validation_rules.specs.Context.{ModuleContext, ValType, I32, I64, Ref, Context}
use Rattle.validation_rules.specs.Rows.{Row}
use Rattle.validation_rules.specs.Shapes.{plain_row_if, lookup_row, conversion_row}
use Rattle.validation_rules.specs.Structs.{field_value, struct_row_for}
use Rattle.validation_rules.specs.Tables.{table_type, element_of_table}

-- ---- what is held

-- an integer as it is
abbrev pub is_integer : StorageType → Bool
is_integer (Val I32) = true
is_integer (Val I64) = true
is_integer _ = false

-- references to this abstract type, of this sharedness, or to types below it
abbrev pub is_below : ModuleContext → Bool → AbstractHeapType → StorageType → Bool
is_below md shared a (Val t) = md.below t (Ref (nullable_reference (Abstract shared a)))
is_below md shared a _ = false

-- either of the two
abbrev pub is_integer_or_below : ModuleContext → Bool → AbstractHeapType → StorageType → Bool
is_integer_or_below md shared a s = is_integer s || is_below md shared a s

-- ---- what is done with it

-- what this can be done with
abbrev pub is_allowed : ModuleContext → Bool → FieldAccess → StorageType → Bool
is_allowed md shared (Whole (Value Get)) s = is_integer_or_below md shared Any s
is_allowed md shared (Whole (Value Set)) s = is_packed s || is_integer_or_below md shared Any s
is_allowed md shared (Whole (Value Xchg)) s = is_integer_or_below md shared Any s
is_allowed md shared (Whole (Value Cmpxchg)) s = is_integer_or_below md shared Eq s
is_allowed md shared (Whole (Rmw op)) s = is_integer s
is_allowed md shared (GetPacked sign) s = is_packed s

-- it leaves what is held as it is
abbrev pub is_read : FieldAccess → Bool
is_read (Whole (Value Get)) = true
is_read (GetPacked sign) = true
is_read _ = false

-- what it takes, of the values that are held: one to be written, and before it one to be compared with
abbrev pub expected_by : FieldAccess → ValType → List ValType
expected_by (Whole (Value Get)) t = []
expected_by (Whole (Value Set)) t = t ∷ []
expected_by (Whole (Value Xchg)) t = t ∷ []
expected_by (Whole (Value Cmpxchg)) t = t ∷ t ∷ []
expected_by (Whole (Rmw op)) t = t ∷ []
expected_by (GetPacked sign) t = []

-- what it gives: the value that was held
abbrev pub pushed_by : FieldAccess → ValType → List ValType
pushed_by (Whole (Value Set)) t = []
pushed_by _ t = t ∷ []

-- it can be done with a place that holds this, which is written only where it can be
abbrev pub is_accessible : ModuleContext → Bool → FieldAccess → FieldType → Bool
is_accessible md shared access f =
    (is_read access || f.mutable) && is_allowed md shared access f.element_type

-- a row for a place that holds this, named by these operands; the references in it are of this sharedness
abbrev pub place_row : Context → Bool → FieldAccess → List ValType → FieldType → Row
place_row cx shared access place f =
    plain_row_if (is_accessible cx.of_module shared access f)
    (place ++ expected_by access (field_value f)) (pushed_by access (field_value f))

-- ---- places

-- a global, as a field
abbrev pub held_by_global : GlobalType → FieldType
held_by_global g = record { element_type = Val g.content_type; mutable = g.mutable }

-- a place of a table, as a field that can be written
abbrev pub held_by_table : TableType → FieldType
held_by_table t = record { element_type = Val (element_of_table t); mutable = true }

-- ---- the group

-- The references of a global are unshared ones, whether it is shared or not; those of other places are
-- shared.
abbrev pub shared_global_row : Context → Update → ℕ → Row
shared_global_row cx access i =
    lookup_row (global_type cx i) (λ g. place_row cx false (Whole access) [] (held_by_global g))

abbrev pub shared_table_row : Context → Exchange → ℕ → Row
shared_table_row cx access i =
    lookup_row (table_type cx i)
    (λ t. place_row cx true (Whole (Value access)) (address_type_of_table t ∷ []) (held_by_table t))

abbrev pub shared_struct_row : Context → FieldAccess → FieldIndex → Row
shared_struct_row cx access index = struct_row_for cx index (λ f t. place_row cx true access (t ∷ []) f)

abbrev pub shared_array_row : Context → FieldAccess → ℕ → Row
shared_array_row cx access i =
    array_row_for cx i (λ f t. place_row cx true access (t ∷ I32 ∷ []) f)

-- a reference to a shared integer of 31 bits
abbrev pub shared_i31 : ValType
shared_i31 = Ref (non_null_reference (Abstract true I31))

-- how an access is ordered among others asks for nothing
abbrev pub shared_row : Context → SharedOp → Row
shared_row cx (Global access ordering i) = shared_global_row cx access i
shared_row cx (Table access ordering i) = shared_table_row cx access i
shared_row cx (Struct access ordering index) = shared_struct_row cx access index
shared_row cx (Array access ordering i) = shared_array_row cx access i
shared_row cx RefI31Shared = conversion_row shared_i31 I32
