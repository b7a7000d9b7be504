-- The types so far are in the runs, and there is room for the others.
use Rattle.std.proofs.Common.{◌≡◌, ℕ, ◌≤◌, ◌+◌, vec_len, vec_capacity, length, take}
use Rattle.validate_locals.specs.Runs.{AreRuns, AreLongerRuns, end_of}
use Rattle.validate_locals.proofs.locals.add_runs.Given as goal

abbrev pub invariant-loop-index : goal.invariant-loop-index
invariant-loop-index l = record {
  longer : (begin : ℕ) → AreRuns begin l.fn.runs.items → end_of begin l.fn.runs.items ≡ l.from → AreLongerRuns begin l.fn.runs.items l.runs.items (take l.index l.types);
  len : vec_len l.runs ≤ vec_len l.fn.runs + l.index;
  room : vec_len l.fn.runs + length l.types ≤ vec_capacity l.runs;
}
