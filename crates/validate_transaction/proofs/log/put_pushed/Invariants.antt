use Rattle.std.proofs.Common.{◌≡◌, ◌+◌, ◌-◌, ◌≤◌, ◌++◌, None, length, replicate}
use Rattle.validate_transaction.proofs.log.put_pushed.Given as goal

abbrev pub invariant-loop-pushed : goal.invariant-loop-pushed
invariant-loop-pushed l = record {
  within : l._pushed ≤ l.count;
  put : l.trace.items ≡ replicate l._pushed None ++ l.fn.trace.items;
  fits : length l.trace.items + (l.count - l._pushed) ≤ l.trace.room;
}
