use Rattle.std.proofs.Common.{◌∙◌, ap}
use Rattle.validate_stacks.specs.Attempts.{stacks_rolled_back}
use Rattle.validate_stacks.specs.StacksInside.{flat_of}
use Rattle.validate_stacks.proofs.Undone.{log_there, undo_at, sound_idle, rolled_back_is}
use Rattle.validate_stacks.proofs.stacks.Stacks.rollback.Goals as goal

pub take-log-requires : goal.take-log-requires
take-log-requires c = log_there (flat_of c.self.inside) (rw (← c.self.view_is) at c.requires)

pub take_back-requires : goal.take_back-requires
take_back-requires c =
    let s = flat_of c.self.inside in
    let undo =
    rw (← c.log.view_is) at (undo_at s c.take-log.result c.take-log.ensures.log c.self.invariant) in
    undo.operands

pub take_back_frames-requires : goal.take_back_frames-requires
take_back_frames-requires c =
    let s = flat_of c.self.inside in
    let undo =
    rw (← c.log.view_is) at (undo_at s c.take-log.result c.take-log.ensures.log c.self.invariant) in
    rw (c.unmark.ensures.items, c.unmark.ensures.room) undo.frames

pub put_back-requires-clause-room : goal.put_back-requires-clause-room
put_back-requires-clause-room c =
    let s = flat_of c.self.inside in
    let undo =
    rw (← c.log.view_is) at (undo_at s c.take-log.result c.take-log.ensures.log c.self.invariant) in
    rw (
      c.take_back_frames.ensures.order,
      c.unmark.ensures.items,
      undo.still,
      c.deref.ensures.value,
      c.take_back_frames.ensures.inits_room,
    ) undo.inits.room

pub put_back-requires-clause-fresh : goal.put_back-requires-clause-fresh
put_back-requires-clause-fresh c =
    let s = flat_of c.self.inside in
    let undo =
    rw (← c.log.view_is) at (undo_at s c.take-log.result c.take-log.ensures.log c.self.invariant) in
    rw (
      c.take_back_frames.ensures.order,
      c.take_back_frames.ensures.set_at_entry,
      c.unmark.ensures.items,
      undo.still,
      c.deref.ensures.value,
    ) undo.inits.fresh

pub invariant_of-self : goal.invariant_of-self
invariant_of-self c =
    let s = flat_of c.self.inside in
    let undo =
    rw (← c.log.view_is) at (undo_at s c.take-log.result c.take-log.ensures.log c.self.invariant) in
    rw (
      c.drop_ctrl.ensures.order,
      c.drop_ctrl.ensures.set_at_entry,
      c.put_back.ensures.order,
      c.put_back.ensures.set_at_entry,
      c.take_back_frames.ensures.order,
      c.take_back_frames.ensures.set_at_entry,
      c.take_back_frames.ensures.frames,
      c.unmark.ensures.items,
      c.deref.ensures.value,
      c.take_back.ensures.items,
    )
    (sound_idle c.keep.ensures undo.shape c.self.invariant.marks)

pub returns : goal.returns
returns c =
    let s = flat_of c.self.inside in
    let log_is = rw (← c.log.view_is) at c.take-log.ensures.log in
    rw (
      c.drop_ctrl.ensures.order,
      c.drop_ctrl.ensures.set_at_entry,
      c.put_back.ensures.order,
      c.put_back.ensures.set_at_entry,
      c.take_back_frames.ensures.order,
      c.take_back_frames.ensures.set_at_entry,
      c.take_back_frames.ensures.frames,
      c.unmark.ensures.items,
      c.deref.ensures.value,
      c.take_back.ensures.items,
    )
    (rolled_back_is s c.keep.new.self _ log_is c.keep.ensures ∙ ap stacks_rolled_back c.self.view_is)
