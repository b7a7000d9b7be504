-- Which operators take no memory but for the text of a refusal: they are accepted exactly where the row
-- holds (the crate's own; the standard's algorithm has memory without end).
use Rattle.std.specs.Prelude.{◌≡◌, Bool, true, false, None, Result, OnErr}
use Rattle.validate_resources.specs.Context.{ModuleContext}
use Rattle.validate_visit.specs.declared.op.Op.{Op}
use Rattle.validate_visit.specs.declared.op.Op.TheVariants.{Control, Exception}
use Rattle.validate_visit.specs.declared.op.ControlOp.TheVariants.{Unreachable, Nop, Br, BrTable, Return}
use Rattle.validate_visit.specs.declared.op.ControlOp.TheVariants.{Drop}
use Rattle.validate_visit.specs.declared.op.ExceptionOp.TheVariants.{Throw, ThrowRef, Rethrow}
use Rattle.validation_rules.specs.Operators.{operator}
use Rattle.validate_stacks.specs.State.{BodyState}
use Rattle.validate_stacks.specs.Visits.{step_body}
use Rattle.validation_rules.specs.Static.{RowFails}

abbrev pub takes_no_memory : Op → Bool
takes_no_memory (Control Unreachable) = true
takes_no_memory (Control Nop) = true
takes_no_memory (Control (Br depth)) = true
takes_no_memory (Control (BrTable table)) = true
takes_no_memory (Control Return) = true
takes_no_memory (Control Drop) = true
takes_no_memory (Exception (Throw tag)) = true
takes_no_memory (Exception ThrowRef) = true
takes_no_memory (Exception (Rethrow depth)) = true
takes_no_memory _ = false

-- where no attempt is pending: refused only where the row doesn't hold
abbrev pub TakesNoMemory : {E : Type 0} → ModuleContext → Op → BodyState → Result (Unit {0}) E → Type 0
TakesNoMemory md op v answer =
    takes_no_memory op ≡ true → v.undone ≡ None → OnErr answer (RowFails (step_body md (λ cx. operator cx op) v))
