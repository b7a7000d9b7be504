use Rattle.std.proofs.Common.{◌≡◌, length, ◌≤◌}
use Rattle.validate_transaction.specs.TakeBack.{items_taken_back, CanTakeBack}
use Rattle.validate_stacks.specs.Flat.{inits_in_frames}
use Rattle.validate_stacks.proofs.stacks.take_back_frames.Given as goal

abbrev pub decreases-loop-entry : goal.decreases-loop-entry
decreases-loop-entry l = length l.trace.items

abbrev pub invariant-loop-entry : goal.invariant-loop-entry
invariant-loop-entry l = record {
  back : items_taken_back l.control.items l.trace.items ≡ items_taken_back l.fn.control.items l.fn.trace.items;
  inits : inits_in_frames l.control.items l.inits.order l.trace.items ≡ inits_in_frames l.fn.control.items l.fn.inits.order l.fn.trace.items;
  fits : CanTakeBack l.control.room l.control.items l.trace.items;
  room : l.fn.control.room ≤ l.control.room;
  inits_room : l.inits.room ≡ l.fn.inits.room;
  set_at_entry : l.inits.set_at_entry ≡ l.fn.inits.set_at_entry;
}
