-- Operators as a script writes them: plain, or in a `try` line (the crate's own).
use Rattle.std.specs.Prelude.{ℕ, Bool, true, false, not, ◌&&◌, ◌||◌, List, [], ◌∷◌, ◌++◌}
use Rattle.std.specs.Prelude.{Option, Some, None}
use Rattle.validate_visit.specs.Order.{Nesting, nesting, Stays}
use Rattle.validate_types.specs.declared.types.ValType.{ValType}
use Rattle.validate_visit.specs.declared.catch.Catch.{Catch}
use Rattle.validate_visit.specs.declared.frame.BlockType.{BlockType}
use Rattle.validate_visit.specs.declared.op.ExceptionOp.TheVariants.{TryTable as TryTableOp}
use Rattle.validate_visit.specs.declared.op.ControlOp.TheVariants.{BrTable, TypedSelectMulti}
use Rattle.validate_visit.specs.declared.op.Op.{Op}
use Rattle.validate_visit.specs.declared.op.Op.TheVariants.{Control, Exception, Continuation}
use Rattle.validate_visit.specs.declared.op.ContinuationOp.{ContinuationOp}
use Rattle.validate_visit.specs.declared.op.ContinuationOp.TheVariants.{Resume, ResumeThrow, ResumeThrowRef}
use Rattle.validate_visit.specs.declared.resume.Handle.{Handle}

abbrev pub is_staying : Nesting → Bool
is_staying Stays = true
is_staying _ = false

-- it opens no part of a body, and ends or begins none: only such an operator may be attempted
abbrev pub may_be_attempted : Op → Bool
may_be_attempted op = is_staying (nesting op)

-- each of these operators that is attempted may be
abbrev pub may_all_be_attempted : List (Op × ℕ) → List Bool → Bool
may_all_be_attempted (p ∷ ops) (attempted ∷ attempts) =
    (not attempted || may_be_attempted p.0) && may_all_be_attempted ops attempts
may_all_be_attempted _ _ = true

-- the labels of a table, the default last
abbrev pub labels_of : Op → List ℕ
labels_of (Control (BrTable table)) = table.targets.now ++ table.default ∷ []
labels_of _ = []

-- the types of a `select` of several values
abbrev pub select_types : Op → List ValType
select_types (Control (TypedSelectMulti types)) = types.now
select_types _ = []

-- the type and the clauses of a `try_table`
abbrev pub try_table_of : Op → Option (BlockType × List Catch)
try_table_of (Exception (TryTableOp table)) = Some (table.ty, table.catches.now)
try_table_of _ = None

-- the handlers of a `resume`
abbrev pub handlers_in : ContinuationOp → List Handle
handlers_in (Resume type table) = table.handlers.now
handlers_in (ResumeThrow type tag table) = table.handlers.now
handlers_in (ResumeThrowRef type table) = table.handlers.now
handlers_in _ = []

abbrev pub handlers_of : Op → List Handle
handlers_of (Continuation op) = handlers_in op
handlers_of _ = []

-- none of the labels of a table is missing
abbrev pub is_complete : Op → Bool
is_complete (Control (BrTable table)) = table.complete
is_complete _ = true
