-- Runs of pops of one type, counted (the crate's own).
use Rattle.std.specs.Prelude.{ℕ, ◌+◌, min, length}
use Rattle.validate_stacks.specs.State.{BodyState}
use Rattle.validate_stacks.specs.Steps.{innermost_operands}

-- how many pops a run of n makes: all of them, or as many as reach below the innermost frame's own operands
abbrev pub pops_of_run : ℕ → BodyState → ℕ
pops_of_run n v = min n (length (innermost_operands v.present.frames) + 1)
