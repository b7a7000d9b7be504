use Rattle.std.proofs.Common.{◌≡◌}
use Rattle.validate_resources.specs.Order.{is_index_below}
use Rattle.validate_resources.proofs.order.is_index_below.Given as goal

abbrev pub invariant-loop-at : goal.invariant-loop-at
invariant-loop-at l = is_index_below l.types l.at l.high ≡ is_index_below l.types l.fn.low l.high

abbrev pub decreases-loop-at : goal.decreases-loop-at
decreases-loop-at l = l.at
