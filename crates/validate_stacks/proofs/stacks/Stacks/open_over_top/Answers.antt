use Rattle.std.proofs.Common.{sym, ◌∙◌, ap}
use Rattle.validate_stacks.specs.Attempts.{body_of}
use Rattle.validate_stacks.specs.Flat.{FlatStacks}
use Rattle.validate_stacks.specs.Steps.{body_with_frame, body_popped}
use Rattle.validate_stacks.specs.StacksInside.{flat_of}
use Rattle.validate_stacks.proofs.Idle.{no_log, quiet_opened, quiet_frame, sound_taken, body_taken}
use Rattle.validate_stacks.proofs.Idle.{taken_there}
use Rattle.validate_stacks.proofs.Undone.{sound_open, body_open}
use Rattle.validate_stacks.proofs.stacks.Stacks.open_over_top.Goals as goal

pub invariant_of-self : goal.invariant_of-self
invariant_of-self c =
    let s = flat_of c.self.inside in
    let log = no_log s.transaction (sym c.is_active.ensures ∙ c.if-is_active.false) in
    let own = rw (← c.self.view_is) at c.requires in
    let top = c.pop-top in
    let whole = taken_there s.frames s.operands s.order own top.result top.new.self.items top.ensures.items in
    let left : FlatStacks =
    record s { operands = top.new.self.items; operands_room = top.new.self.room } in
    let taken = sound_taken s whole.0 left.operands left.operands_room log whole.1 own c.self.invariant in
    let sound =
    sound_open c.args.kind c.args.block_type left c.put.new.self.room (quiet_frame left log)
    c.put.ensures.never_less taken in
    rw (
      c.put.ensures.items,
      c.live_frame.ensures,
      c.len-height.ensures.value,
      c.height-init_height.ensures.value,
    )
    (rw (quiet_opened s.transaction log) at sound)

pub returns : goal.returns
returns c =
    let s = flat_of c.self.inside in
    let log = no_log s.transaction (sym c.is_active.ensures ∙ c.if-is_active.false) in
    let own = rw (← c.self.view_is) at c.requires in
    let top = c.pop-top in
    let whole = taken_there s.frames s.operands s.order own top.result top.new.self.items top.ensures.items in
    let left : FlatStacks = record s { operands = top.new.self.items } in
    let opens = body_open c.args.kind c.args.block_type left (quiet_frame left log) in
    rw (
      c.put.ensures.items,
      c.live_frame.ensures,
      c.len-height.ensures.value,
      c.height-init_height.ensures.value,
    )
    (rw (quiet_opened s.transaction log) at opens
    ∙ ap (body_with_frame c.args.kind c.args.block_type)
    (body_taken s whole.0 left.operands log whole.1 own ∙ ap body_popped (ap body_of c.self.view_is)))
