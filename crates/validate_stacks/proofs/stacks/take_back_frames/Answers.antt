use Rattle.std.proofs.Common.{rules, ◌∷◌, arith}
use Rattle.validate_transaction.proofs.Room.{CanTakeBack-more}
use Rattle.validate_stacks.proofs.stacks.take_back_frames.Goals as goal

pub loop-entry-preserved-in-Some-entry : goal.loop-entry-preserved-in-Some-entry
loop-entry-preserved-in-Some-entry c =
    let before = rw (c.in-Some.ensures.items, c.in-Some-entry.is) at c.loop-entry.invariant.fits in
    record {
      back = search rules;
      inits = search rules;
      fits = rw c.put.ensures.items (CanTakeBack-more c.loop-entry.control.room c.put.new.self.room (c.in-Some-entry.frame ∷ c.loop-entry.control.items) c.pop.new.self.items c.put.ensures.never_less before.1);
      room = omega arith;
      inits_room = search rules;
      set_at_entry = search rules;
    }
