-- The table of operators: the row of each, in the context of a body (WebAssembly core specification,
-- "Validation: Instructions").
pub use Rattle.validation_rules.specs.Shapes.{lookup_row, lookups_row, plain_row, plain_row_if, never_row}
pub use Rattle.validation_rules.specs.Shapes.{ending_row, ending_row_if}
pub use Rattle.validation_rules.specs.Shapes.{looking_row, looking_row_if, staying_operator}
pub use Rattle.validation_rules.specs.Shapes.{row_operator, delimiter_operator, constant_row, test_row}
pub use Rattle.validation_rules.specs.Shapes.{unary_row, binary_row, comparison_row, conversion_row}
pub use Rattle.validation_rules.specs.Shapes.{wide_binary_row, wide_multiply_row, gated_row, gated_operator}
use Rattle.std.specs.Prelude.{ℕ, Bool, true, false, List, [], ◌∷◌, Option, Some}
use Rattle.std.specs.Prelude.{None, map, slice_get}
use Rattle.std.specs.Option.{option_map}
use Rattle.validate_resources.specs.Context.{is_number_or_vector, is_same_number_or_vector}
use Rattle.validate_visit.specs.Gates.{gate_of}
use Rattle.validate_visit.specs.declared.op.Op.{Op}
use Rattle.validate_visit.specs.declared.op.Op.TheVariants.{Control, Numeric, Convert, Memory, Atomic}
use Rattle.validate_visit.specs.declared.op.Op.TheVariants.{Reference, Table, Struct, Array, Exception}
use Rattle.validate_visit.specs.declared.op.Op.TheVariants.{Continuation}
use Rattle.validate_visit.specs.declared.op.Op.TheVariants.{Shared}
use Rattle.validate_visit.specs.declared.op.ControlOp.{ControlOp}
use Rattle.validate_visit.specs.declared.op.ControlOp.TheVariants.{Unreachable, Nop, Block as BlockOp}
use Rattle.validate_visit.specs.declared.op.ControlOp.TheVariants.{Loop as LoopOp, If as IfOp}
use Rattle.validate_visit.specs.declared.op.ControlOp.TheVariants.{Else as ElseOp, End, Br, BrIf, BrTable}
use Rattle.validate_visit.specs.declared.op.ControlOp.TheVariants.{Return, Call, ReturnCall, CallIndirect}
use Rattle.validate_visit.specs.declared.op.ControlOp.TheVariants.{ReturnCallIndirect, CallRef}
use Rattle.validate_visit.specs.declared.op.ControlOp.TheVariants.{ReturnCallRef, Drop, Select, TypedSelect}
use Rattle.validate_visit.specs.declared.op.ControlOp.TheVariants.{TypedSelectMulti, LocalGet, LocalSet}
use Rattle.validate_visit.specs.declared.op.ControlOp.TheVariants.{LocalTee, GlobalGet, GlobalSet}
pub use Rattle.validation_rules.specs.Blocks.{is_accessible_func_type, checked_block, opening_operator_if}
pub use Rattle.validation_rules.specs.Blocks.{opening_operator, opener}
pub use Rattle.validation_rules.specs.Numeric.{numeric_row}
pub use Rattle.validation_rules.specs.Convert.{convert_row}
pub use Rattle.validation_rules.specs.Memory.{memory_row}
pub use Rattle.validation_rules.specs.Atomic.{atomic_row}
pub use Rattle.validation_rules.specs.References.{reference_row}
pub use Rattle.validation_rules.specs.Tables.{table_row}
pub use Rattle.validation_rules.specs.Structs.{struct_row}
pub use Rattle.validation_rules.specs.Arrays.{array_row}
pub use Rattle.validation_rules.specs.Exceptions.{exception_operator}
pub use Rattle.validation_rules.specs.Continuations.{continuation_row}
pub use Rattle.validation_rules.specs.Shared.{shared_row}
use Rattle.validation_rules.specs.Branches.{br_row, br_if_row, br_table_row, return_row}
use Rattle.validation_rules.specs.Calls.{call_row, return_call_row, global_get_row}
use Rattle.validation_rules.specs.Calls.{global_set_row}
use Rattle.validation_rules.specs.Indirect.{call_indirect_row, return_call_indirect_row, call_ref_row}
use Rattle.validation_rules.specs.Indirect.{return_call_ref_row}
use Rattle.validation_rules.specs.Context.{ValType, I32, Context}
use Rattle.validation_rules.specs.Fits.{MaybeType, Bottom, UnknownRef, Known, fits}
use Rattle.validation_rules.specs.Rows.{Block, If, Loop, BeginsElse, Ends, guard, Row}
use Rattle.validation_rules.specs.Rows.{Operator}

-- ---- variables

abbrev pub local_get_row : Context → ℕ → Row
local_get_row cx i =
    lookup_row (slice_get cx.locals i) (λ t. record (plain_row [] (t ∷ [])) { reads = Some i })

abbrev pub local_set_row : Context → ℕ → Row
local_set_row cx i =
    lookup_row (slice_get cx.locals i) (λ t. record (plain_row (t ∷ []) []) { sets = Some i })

abbrev pub local_tee_row : Context → ℕ → Row
local_tee_row cx i =
    lookup_row (slice_get cx.locals i) (λ t. record (plain_row (t ∷ []) (t ∷ [])) { sets = Some i })

-- ---- any operand

abbrev pub drop_pushes : List MaybeType → Option (List MaybeType)
drop_pushes (x ∷ []) = Some []
drop_pushes _ = None

-- `select` takes no reference
abbrev pub is_selectable : MaybeType → Bool
is_selectable Bottom = true
is_selectable (UnknownRef a) = false
is_selectable (Known t) = is_number_or_vector t

-- what `select` gives for its two operands: an unknown one gives way to the other, and known ones
-- have to be of one type
abbrev pub select_result : MaybeType → MaybeType → Option MaybeType
select_result Bottom b = guard (is_selectable b) (Some b)
select_result (UnknownRef a) b = None
select_result (Known t) Bottom = guard (is_number_or_vector t) (Some (Known t))
select_result (Known t) (UnknownRef b) = None
select_result (Known t) (Known u) = guard (is_same_number_or_vector t u) (Some (Known t))

-- the test lies on top
abbrev pub select_pushes : Context → List MaybeType → Option (List MaybeType)
select_pushes cx (a ∷ b ∷ c ∷ []) = guard (fits cx c I32) (option_map (λ x. x ∷ []) (select_result a b))
select_pushes cx _ = None

-- with its type written, which has to pass the check of value types
abbrev pub typed_select_row : Context → ValType → Row
typed_select_row cx t =
    lookup_row (cx.of_module.canonical_type cx.features t) (λ u. plain_row (u ∷ u ∷ I32 ∷ []) (u ∷ []))

-- ---- the groups

abbrev pub control_operator : Context → ControlOp → Operator
control_operator cx Unreachable = row_operator (ending_row [])
control_operator cx Nop = row_operator (plain_row [] [])
control_operator cx (BlockOp bt) = opener cx Block [] bt (checked_block cx bt)
control_operator cx (LoopOp bt) = opener cx Loop [] bt (checked_block cx bt)
control_operator cx (IfOp bt) = opener cx If (I32 ∷ []) bt (checked_block cx bt)
control_operator cx ElseOp = delimiter_operator BeginsElse
control_operator cx End = delimiter_operator Ends
control_operator cx (Br d) = staying_operator (λ hs. br_row cx hs d)
control_operator cx (BrIf d) = staying_operator (λ hs. br_if_row cx hs d)
control_operator cx (BrTable table) =
    staying_operator (λ hs. br_table_row cx hs table.complete table.targets.now table.default)
control_operator cx Return = staying_operator (λ hs. return_row cx hs)
control_operator cx (Call f) = row_operator (call_row cx f)
control_operator cx (ReturnCall f) = staying_operator (λ hs. return_call_row cx hs f)
control_operator cx (CallIndirect type table) = row_operator (call_indirect_row cx type table)
control_operator cx (ReturnCallIndirect type table) =
    staying_operator (λ hs. return_call_indirect_row cx hs type table)
control_operator cx (CallRef type) = row_operator (call_ref_row cx type)
control_operator cx (ReturnCallRef type) = staying_operator (λ hs. return_call_ref_row cx hs type)
control_operator cx Drop = row_operator (looking_row 1 drop_pushes)
control_operator cx Select = row_operator (looking_row 3 (select_pushes cx))
control_operator cx (TypedSelect t) = row_operator (typed_select_row cx t)
control_operator cx (TypedSelectMulti ts) = row_operator never_row
control_operator cx (LocalGet i) = row_operator (local_get_row cx i)
control_operator cx (LocalSet i) = row_operator (local_set_row cx i)
control_operator cx (LocalTee i) = row_operator (local_tee_row cx i)
control_operator cx (GlobalGet i) = row_operator (global_get_row cx i)
control_operator cx (GlobalSet i) = row_operator (global_set_row cx i)

-- the row of each, but for its gate
abbrev pub ungated_operator : Context → Op → Operator
ungated_operator cx (Control op) = control_operator cx op
ungated_operator cx (Numeric op) = row_operator (numeric_row op)
ungated_operator cx (Convert op) = row_operator (convert_row op)
ungated_operator cx (Memory op) = row_operator (memory_row cx op)
ungated_operator cx (Atomic op) = row_operator (atomic_row cx op)
ungated_operator cx (Reference op) = staying_operator (λ hs. reference_row cx hs op)
ungated_operator cx (Table op) = row_operator (table_row cx op)
ungated_operator cx (Struct op) = row_operator (struct_row cx op)
ungated_operator cx (Array op) = row_operator (array_row cx op)
ungated_operator cx (Exception op) = exception_operator cx op
ungated_operator cx (Continuation op) = staying_operator (λ hs. continuation_row cx hs op)
ungated_operator cx (Shared op) = row_operator (shared_row cx op)

abbrev pub operator : Context → Op → Operator
operator cx op = gated_operator cx (gate_of op) (ungated_operator cx op)

-- a body, as the rules see it
abbrev pub operators : Context → List Op → List Operator
operators cx ops = map (operator cx) ops
