-- Each turn adds the mark of a block.
use Rattle.std.proofs.Common.{◌-◌, vec_len}
use Rattle.validate_locals.proofs.locals.begin_blocks.Given as goal

abbrev pub decreases-loop-runs_before : goal.decreases-loop-runs_before
decreases-loop-runs_before l = l.blocks - vec_len l.runs_before
