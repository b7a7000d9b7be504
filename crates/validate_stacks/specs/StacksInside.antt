-- What the fields of `Stacks` are in flat lists (the crate's own).
use Rattle.validate_stacks.specs.Flat.{FlatStacks}
use Rattle.validate_stacks.specs.declared.stacks.Stacks.TheInside.{Inside}

abbrev pub flat_of : Inside → FlatStacks
flat_of s =
    record {
      frames = s.control.items;
      operands = s.operands.items;
      order = s.inits.order;
      set_at_entry = s.inits.set_at_entry;
      locals = s.locals;
      transaction = s.transaction;
      shared = s.shared;
      features = s.features;
      frames_room = s.control.room;
      operands_room = s.operands.room;
      order_room = s.inits.room;
    }
