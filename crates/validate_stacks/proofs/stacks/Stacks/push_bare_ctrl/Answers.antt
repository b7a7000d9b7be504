use Rattle.std.proofs.Common.{arith, ◌∙◌, ap}
use Rattle.validate_stacks.specs.Attempts.{body_of}
use Rattle.validate_stacks.specs.Steps.{body_with_frame}
use Rattle.validate_stacks.specs.StacksInside.{flat_of}
use Rattle.validate_stacks.proofs.Undone.{sound_open, sound_room, body_open, frames_open}
use Rattle.validate_stacks.proofs.stacks.Stacks.push_bare_ctrl.Goals as goal

pub invariant_of-self : goal.invariant_of-self
invariant_of-self c =
    let s = flat_of c.self.inside in
    rw c.take_room.ensures.items
    (sound_room s c.take_room.new.self.room s.operands_room s.order_room c.take_room.ensures.never_less
    (omega arith)
    (omega arith) c.self.invariant)

pub invariant_of-self-in_err-push_ctrl : goal.invariant_of-self-in_err-push_ctrl
invariant_of-self-in_err-push_ctrl c =
    let s = flat_of c.self.inside in
    rw (c.take_room.ensures.items, c.in_err-push_ctrl.ensures.exact)
    (sound_room s c.take_room.new.self.room s.operands_room s.order_room c.take_room.ensures.never_less
    (omega arith)
    (omega arith) c.self.invariant)

pub invariant_of-self-2 : goal.invariant_of-self-2
invariant_of-self-2 c =
    let s = flat_of c.self.inside in
    let may = rw (← c.self.view_is) at c.requires in
    rw (
      c.put.ensures.items,
      c.take_room.ensures.items,
      c.in_ok-push_ctrl.ensures.exact,
      c.live_frame.ensures,
      c.len-height.ensures.value,
      c.height-init_height.ensures.value,
    )
    (sound_open c.args.kind c.args.block_type s c.put.new.self.room may (omega arith) c.self.invariant)

pub returns-clause-exact : goal.returns-clause-exact
returns-clause-exact c =
    let s = flat_of c.self.inside in
    let may = rw (← c.self.view_is) at c.requires in
    rw (
      c.put.ensures.items,
      c.take_room.ensures.items,
      c.in_ok-push_ctrl.ensures.exact,
      c.live_frame.ensures,
      c.len-height.ensures.value,
      c.height-init_height.ensures.value,
    )
    (body_open c.args.kind c.args.block_type s may
    ∙ ap (body_with_frame c.args.kind c.args.block_type) (ap body_of c.self.view_is))

pub returns-clause-frames : goal.returns-clause-frames
returns-clause-frames c =
    let s = flat_of c.self.inside in
    let may = rw (← c.self.view_is) at c.requires in
    rw (
      c.put.ensures.items,
      c.take_room.ensures.items,
      c.in_ok-push_ctrl.ensures.exact,
      c.live_frame.ensures,
      c.len-height.ensures.value,
      c.height-init_height.ensures.value,
    )
    (frames_open c.args.kind c.args.block_type s may)
