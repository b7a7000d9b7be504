-- What is recorded, so far, are those from `left` on.
use Rattle.std.proofs.Common.{◌≡◌, ◌+◌, ◌≤◌, ◌++◌, Some, length, map, drop}
use Rattle.validate_transaction.proofs.log.put_popped.Given as goal

abbrev pub invariant-loop-left : goal.invariant-loop-left
invariant-loop-left l = record {
  within : l.left ≤ length l.popped;
  put : l.trace.items ≡ map Some (drop l.left l.popped) ++ l.fn.trace.items;
  fits : length l.trace.items + l.left ≤ l.trace.room;
  room : l.fn.trace.room ≤ l.trace.room;
}

abbrev pub decreases-loop-left : goal.decreases-loop-left
decreases-loop-left l = l.left
