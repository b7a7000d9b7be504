use Rattle.std.proofs.Common.{sym, ◌∙◌, ap, arith}
use Rattle.validate_stacks.specs.AtOnce.{body_with_frame_over}
use Rattle.validate_stacks.specs.Attempts.{body_of}
use Rattle.validate_stacks.specs.StacksInside.{flat_of}
use Rattle.validate_stacks.proofs.Idle.{no_log, own_within, taken_over}
use Rattle.validate_stacks.proofs.stacks.Stacks.open_over_own.Goals as goal

pub overflow_sub-height : goal.overflow_sub-height
overflow_sub-height c =
    let s = flat_of c.self.inside in
    let own = rw (← c.self.view_is) at c.requires in
    omega (arith, own, own_within s.frames s.operands s.order, c.len.ensures.value)

pub invariant_of-self : goal.invariant_of-self
invariant_of-self c =
    let s = flat_of c.self.inside in
    let log = no_log s.transaction (sym c.is_active.ensures ∙ c.if-is_active.false) in
    let own = rw (← c.self.view_is) at c.requires in
    let a = c.args in
    rw (c.put.ensures.items, c.live_frame.ensures, c.len.ensures.value, c.height-init_height.ensures.value)
    (taken_over a.count a.kind a.block_type s c.put.new.self.room log own c.self.invariant).0

pub returns : goal.returns
returns c =
    let s = flat_of c.self.inside in
    let log = no_log s.transaction (sym c.is_active.ensures ∙ c.if-is_active.false) in
    let own = rw (← c.self.view_is) at c.requires in
    let a = c.args in
    rw (c.put.ensures.items, c.live_frame.ensures, c.len.ensures.value, c.height-init_height.ensures.value)
    ((taken_over a.count a.kind a.block_type s c.put.new.self.room log own c.self.invariant).1
    ∙ ap (body_with_frame_over a.count a.kind a.block_type) (ap body_of c.self.view_is))
