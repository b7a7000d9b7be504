use Rattle.std.proofs.Common.{sym, ◌∙◌, ap}
use Rattle.validate_stacks.specs.Attempts.{body_of}
use Rattle.validate_stacks.specs.Steps.{body_with_frame}
use Rattle.validate_stacks.specs.StacksInside.{flat_of}
use Rattle.validate_stacks.proofs.Idle.{no_log, quiet_opened, quiet_frame}
use Rattle.validate_stacks.proofs.Undone.{sound_open, body_open}
use Rattle.validate_stacks.proofs.stacks.Stacks.open_at_once.Goals as goal

pub invariant_of-self : goal.invariant_of-self
invariant_of-self c =
    let s = flat_of c.self.inside in
    let log = no_log s.transaction (sym c.is_active.ensures ∙ c.if-is_active.false) in
    let sound =
    sound_open c.args.kind c.args.block_type s c.put.new.self.room (quiet_frame s log)
    c.put.ensures.never_less
    c.self.invariant in
    rw (
      c.put.ensures.items,
      c.live_frame.ensures,
      c.len-height.ensures.value,
      c.height-init_height.ensures.value,
    )
    (rw (quiet_opened s.transaction log) at sound)

pub returns : goal.returns
returns c =
    let s = flat_of c.self.inside in
    let log = no_log s.transaction (sym c.is_active.ensures ∙ c.if-is_active.false) in
    let opens = body_open c.args.kind c.args.block_type s (quiet_frame s log) in
    rw (
      c.put.ensures.items,
      c.live_frame.ensures,
      c.len-height.ensures.value,
      c.height-init_height.ensures.value,
    )
    (rw (quiet_opened s.transaction log) at opens
    ∙ ap (body_with_frame c.args.kind c.args.block_type) (ap body_of c.self.view_is))
