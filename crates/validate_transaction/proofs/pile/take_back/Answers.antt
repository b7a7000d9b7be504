use Rattle.std.proofs.Common.{rules, ◌∷◌, arith}
use Rattle.validate_transaction.proofs.Room.{CanTakeBack-more}
use Rattle.validate_transaction.proofs.pile.take_back.Goals as goal

pub loop-entry-preserved-in-Some-entry : goal.loop-entry-preserved-in-Some-entry
loop-entry-preserved-in-Some-entry g c =
    let before = rw (c.in-Some.ensures.items, c.in-Some-entry.is) at c.loop-entry.invariant.fits in
    record {
      back = search rules;
      fits = rw c.put.ensures.items (CanTakeBack-more c.loop-entry.items.room c.put.new.self.room (c.in-Some-entry.item ∷ c.loop-entry.items.items) c.pop.new.self.items c.put.ensures.never_less before.1);
      room = omega arith;
    }
