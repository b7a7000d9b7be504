use Rattle.std.proofs.Common.{◌≡◌}
use Rattle.module_check.specs.EmptySections.{empty_segments}
use Rattle.module_check.proofs.unbodied.empty_segments.Given as goal

abbrev pub invariant-loop : goal.invariant-loop
invariant-loop l = l.segments.items ≡ empty_segments l.counter
