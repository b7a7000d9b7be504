-- The rows of calls of a function that an operand names: by its place in a table, or by a reference
-- (WebAssembly core specification, "Validation: Control Instructions").
-- The operand is a place in a table whose elements lie below `funcref`, or a nullable reference to the
-- type, which is looked up as a declared one.
use Rattle.std.specs.Prelude.{ℕ, false, List, [], ◌∷◌, ◌++◌, Option, Some}
use Rattle.std.specs.Option.{option_map}
use Rattle.std.specs.Option.{option_and_then}
use Rattle.validate_types.specs.Refs.{nullable_reference}
use Rattle.validate_types.specs.Types.{address_type_of_table}
use Rattle.validate_types.specs.declared.heap.AbstractHeapType.TheVariants.{Func}
use Rattle.validate_types.specs.declared.heap.HeapType.{HeapType}
use Rattle.validate_types.specs.declared.heap.HeapType.TheVariants.{Abstract, Concrete}
use Rattle.validate_types.specs.declared.heap.UnpackedIndex.TheVariants.{Module}
use Rattle.validate_types.specs.declared.refs.RefType.{RefType}
use Rattle.validate_types.specs.declared.types.TableType.{TableType}
use Rattle.validation_rules.specs.Calls.{accessible_signature, tail_call_row}
use Rattle.validation_rules.specs.Context.{Signature, ValType, Ref, Context}
use Rattle.validation_rules.specs.Rows.{Head, Row, guard}
use Rattle.validation_rules.specs.Shapes.{plain_row, lookup_row}
use Rattle.validation_rules.specs.Tables.{table_type, element_of_table}

-- ---- the operand that names the function

abbrev pub funcref : ValType
funcref = Ref (nullable_reference (Abstract false Func))

-- where the table holds functions, a place in it
abbrev pub place_type_of : Context → TableType → Option ValType
place_type_of cx t = guard (cx.of_module.below (element_of_table t) funcref) (Some (address_type_of_table t))

-- a place in a table of functions that the function may access
abbrev pub function_place : Context → ℕ → Option ValType
function_place cx i = option_and_then (place_type_of cx) (table_type cx i)

-- a reference to the type at this index, with null or without, made of its canonical form
abbrev pub type_reference : Context → (HeapType → RefType) → ℕ → Option ValType
type_reference cx reference_to_heap i =
    option_map (λ h. Ref (reference_to_heap h)) (cx.of_module.canonical_heap (Concrete (Module i)))

-- a reference, perhaps null, to the function type at this index
abbrev pub function_reference : Context → ℕ → Option ValType
function_reference cx i = type_reference cx nullable_reference i

-- what a function of the type at this index takes and gives
abbrev pub typed_callee : Context → ℕ → Option Signature
typed_callee cx i = option_and_then (accessible_signature cx) (cx.of_module.type_at i)

-- ---- rows: what the function takes, and above it the operand that names it

abbrev pub call_operand_row : Context → Option ValType → ℕ → Row
call_operand_row cx names i =
    lookup_row names
    (λ t. lookup_row (typed_callee cx i) (λ s. plain_row (s.params ++ t ∷ []) s.results))

abbrev pub return_call_operand_row : Context → List Head → Option ValType → ℕ → Row
return_call_operand_row cx hs names i =
    lookup_row names
    (λ t. lookup_row (typed_callee cx i) (λ s. tail_call_row cx hs (s.params ++ t ∷ []) s.results))

abbrev pub call_indirect_row : Context → ℕ → ℕ → Row
call_indirect_row cx type table = call_operand_row cx (function_place cx table) type

abbrev pub return_call_indirect_row : Context → List Head → ℕ → ℕ → Row
return_call_indirect_row cx hs type table = return_call_operand_row cx hs (function_place cx table) type

abbrev pub call_ref_row : Context → ℕ → Row
call_ref_row cx type = call_operand_row cx (function_reference cx type) type

abbrev pub return_call_ref_row : Context → List Head → ℕ → Row
return_call_ref_row cx hs type = return_call_operand_row cx hs (function_reference cx type) type
