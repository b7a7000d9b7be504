use Rattle.std.proofs.Common.{ℕ, ◌+◌, ◌-◌, ◌<◌, ◌≤◌, length, slice_index}
use Rattle.module_rules.proofs.names.is_increasing.Given as goal

abbrev pub decreases-loop-next : goal.decreases-loop-next
decreases-loop-next l = length l.numbers - l.next

abbrev pub invariant-loop-next : goal.invariant-loop-next
invariant-loop-next l = record {
  begun : 1 ≤ l.next;
  rises : (k : ℕ) → k + 1 < l.next → slice_index l.numbers k < slice_index l.numbers (k + 1);
}
