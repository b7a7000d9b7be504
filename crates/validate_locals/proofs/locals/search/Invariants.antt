-- The runs before the place end below the index, so there is one at the place.
use Rattle.std.proofs.Common.{◌-◌, ◌<◌, length}
use Rattle.validate_locals.specs.Runs.{EndBelow}
use Rattle.validate_locals.proofs.locals.search.Given as goal

abbrev pub invariant-loop-place : goal.invariant-loop-place
invariant-loop-place l = record {
  passed : EndBelow l.runs l.place l.index;
  within : l.place < length l.runs;
}

abbrev pub decreases-loop-place : goal.decreases-loop-place
decreases-loop-place l = length l.runs - l.place
