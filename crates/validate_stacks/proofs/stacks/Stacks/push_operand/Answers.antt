use Rattle.std.proofs.Common.{length, ◌∙◌, ap, arith}
use Rattle.validate_stacks.specs.Attempts.{body_of, Stacked, phase_moved}
use Rattle.validate_stacks.specs.Steps.{body_pushed}
use Rattle.validate_stacks.specs.StacksInside.{flat_of}
use Rattle.validate_stacks.proofs.Undone.{sound_room, sound_push, body_push, phase_push}
use Rattle.validate_stacks.proofs.stacks.Stacks.push_operand.Goals as goal

pub invariant_of-self : goal.invariant_of-self
invariant_of-self g c =
    let s = flat_of c.self.inside in
    rw (c.prepare_push.ensures.items, c.in_err-prepare_push.ensures.recorded)
    (sound_room s s.frames_room c.prepare_push.new.operands.room s.order_room (omega arith)
    c.prepare_push.ensures.never_less (omega arith) c.self.invariant)

pub invariant_of-self-2 : goal.invariant_of-self-2
invariant_of-self-2 g c =
    let s = flat_of c.self.inside in
    rw (c.put.ensures.items, c.prepare_push.ensures.items, c.in_ok-prepare_push.ensures.recorded)
    (sound_push s c.args.ty c.put.new.self.room (omega arith) c.self.invariant)

pub returns-clause-exact : goal.returns-clause-exact
returns-clause-exact g c =
    let s = flat_of c.self.inside in
    rw (c.put.ensures.items, c.prepare_push.ensures.items, c.in_ok-prepare_push.ensures.recorded)
    (body_push s c.args.ty c.self.invariant ∙ ap (body_pushed c.args.ty) (ap body_of c.self.view_is))

pub returns-clause-phase : goal.returns-clause-phase
returns-clause-phase g c =
    let s = flat_of c.self.inside in
    rw c.in_ok-prepare_push.ensures.recorded
    (phase_push (length s.order) s.transaction ∙ ap (λ (v : Stacked). phase_moved v.phase) c.self.view_is)
