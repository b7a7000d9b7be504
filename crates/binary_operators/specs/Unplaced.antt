-- Operators as they are told from bytes, which say the items of a list, and not where it lies (the crate's
-- own).
use Rattle.std.specs.Prelude.{ℕ}
use Rattle.validate_visit.specs.declared.op.ContinuationOp.{ContinuationOp}
use Rattle.validate_visit.specs.declared.op.ContinuationOp.TheVariants.{Resume, ResumeThrow, ResumeThrowRef}
use Rattle.validate_visit.specs.declared.op.ControlOp.{ControlOp}
use Rattle.validate_visit.specs.declared.op.ControlOp.TheVariants.{BrTable, TypedSelectMulti}
use Rattle.validate_visit.specs.declared.op.ExceptionOp.{ExceptionOp}
use Rattle.validate_visit.specs.declared.op.ExceptionOp.TheVariants.{TryTable}
use Rattle.validate_visit.specs.declared.op.Op.{Op}
use Rattle.validate_visit.specs.declared.op.Op.TheVariants.{Control, Exception, Continuation}
use Rattle.validate_visit.specs.declared.resume.ResumeTable.{ResumeTable}

abbrev pub nowhere : ℕ × ℕ
nowhere = (0, 0)

abbrev pub unplaced_control : ControlOp → ControlOp
unplaced_control (BrTable t) =
    BrTable (record t { targets = record { ref_ptr = nowhere; now = t.targets.now } })
unplaced_control (TypedSelectMulti ts) = TypedSelectMulti (record { ref_ptr = nowhere; now = ts.now })
unplaced_control op = op

abbrev pub unplaced_exception : ExceptionOp → ExceptionOp
unplaced_exception (TryTable t) =
    TryTable (record t { catches = record { ref_ptr = nowhere; now = t.catches.now } })
unplaced_exception op = op

abbrev pub unplaced_table : ResumeTable → ResumeTable
unplaced_table t = record { handlers = record { ref_ptr = nowhere; now = t.handlers.now } }

abbrev pub unplaced_continuation : ContinuationOp → ContinuationOp
unplaced_continuation (Resume i t) = Resume i (unplaced_table t)
unplaced_continuation (ResumeThrow i j t) = ResumeThrow i j (unplaced_table t)
unplaced_continuation (ResumeThrowRef i t) = ResumeThrowRef i (unplaced_table t)
unplaced_continuation op = op

-- the same operator, as if its list lay nowhere
abbrev pub unplaced : Op → Op
unplaced (Control op) = Control (unplaced_control op)
unplaced (Exception op) = Exception (unplaced_exception op)
unplaced (Continuation op) = Continuation (unplaced_continuation op)
unplaced op = op
