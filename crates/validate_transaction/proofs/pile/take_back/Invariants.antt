use Rattle.std.proofs.Common.{◌≡◌, length, ◌≤◌}
use Rattle.validate_transaction.specs.TakeBack.{items_taken_back, CanTakeBack}
use Rattle.validate_transaction.proofs.pile.take_back.Given as goal

abbrev pub decreases-loop-entry : goal.decreases-loop-entry
decreases-loop-entry g l = length l.trace.items

abbrev pub invariant-loop-entry : goal.invariant-loop-entry
invariant-loop-entry g l = record {
  back : items_taken_back l.items.items l.trace.items ≡ items_taken_back l.fn.items.items l.fn.trace.items;
  fits : CanTakeBack l.items.room l.items.items l.trace.items;
  room : l.fn.items.room ≤ l.items.room;
}
