use Rattle.std.proofs.Common.{length, sym, ◌∙◌, ap}
use Rattle.std.specs.Option.{option_copied}
use Rattle.validate_stacks.specs.AtOnce.{body_given}
use Rattle.validate_stacks.specs.Attempts.{body_of}
use Rattle.validate_stacks.specs.Flat.{FlatStacks}
use Rattle.validate_stacks.specs.State.{BodyState}
use Rattle.validate_stacks.specs.Steps.{body_with_frame}
use Rattle.validate_stacks.specs.StacksInside.{flat_of}
use Rattle.validate_stacks.proofs.Idle.{quiet_opened, quiet_frame, given_off, sound_given, idle_given}
use Rattle.validate_stacks.proofs.AtOnce.{given_none}
use Rattle.validate_stacks.proofs.Idle.{frameless}
use Rattle.validate_stacks.proofs.Undone.{popped_top, idle_log, sound_open, body_open}
use Rattle.validate_stacks.proofs.stacks.Stacks.reopen.Goals as goal

pub unreachable-requires : goal.unreachable-requires
unreachable-requires c =
    let s = flat_of c.self.inside in
    let none = frameless s.frames s.operands s.order (sym c.get.ensures ∙ ap option_copied c.in_default.is) in
    c.requires.open (sym (ap (λ (v : BodyState). v.present.frames) (ap body_of c.self.view_is)) ∙ none)

pub invariant_of-self : goal.invariant_of-self
invariant_of-self c =
    let s = flat_of c.self.inside in
    let f = c.in-Some.innermost.now in
    let fs = c.pop.new.self.items in
    let log = idle_log s c.self.view_is c.requires.idle in
    let found = sym c.get.ensures ∙ ap option_copied c.in-Some.is in
    let whole = popped_top c.pop.result s.frames fs f found c.pop.ensures.items in
    let left : FlatStacks =
    record (given_off f fs s) {
      frames_room = c.pop.new.self.room;
      order_room = c.drop_ctrl.new.self.room;
    } in
    let given = sound_given s f fs left.frames_room left.order_room log whole c.self.invariant in
    let sound =
    sound_open c.args.kind c.args.block_type left c.put.new.self.room (quiet_frame left log)
    c.put.ensures.never_less given in
    rw (
      c.put.ensures.items,
      c.live_frame.ensures,
      c.len-height.ensures.value,
      c.height-init_height.ensures.value,
      c.drop_ctrl.ensures.order,
      c.drop_ctrl.ensures.set_at_entry,
    )
    (rw (quiet_opened s.transaction log) at sound)

pub returns : goal.returns
returns c =
    let s = flat_of c.self.inside in
    let f = c.in-Some.innermost.now in
    let fs = c.pop.new.self.items in
    let log = idle_log s c.self.view_is c.requires.idle in
    let found = sym c.get.ensures ∙ ap option_copied c.in-Some.is in
    let whole = popped_top c.pop.result s.frames fs f found c.pop.ensures.items in
    let left : FlatStacks = given_off f fs s in
    let opens = body_open c.args.kind c.args.block_type left (quiet_frame left log) in
    rw (
      c.put.ensures.items,
      c.live_frame.ensures,
      c.len-height.ensures.value,
      c.height-init_height.ensures.value,
      c.drop_ctrl.ensures.order,
      c.drop_ctrl.ensures.set_at_entry,
    )
    (rw (quiet_opened s.transaction log) at opens
    ∙ ap (body_with_frame c.args.kind c.args.block_type)
    (idle_given s f fs log whole c.self.invariant
    ∙ ap body_given (ap body_of c.self.view_is)
    ∙ given_none c.args.self.now.body (ap length c.requires.own)))
