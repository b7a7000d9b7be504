use Rattle.std.proofs.Common.{sym, ◌∙◌, ap}
use Rattle.validate_stacks.specs.Attempts.{body_of}
use Rattle.validate_stacks.specs.Steps.{body_pushed}
use Rattle.validate_stacks.specs.StacksInside.{flat_of}
use Rattle.validate_stacks.proofs.Idle.{no_log, quiet_push}
use Rattle.validate_stacks.proofs.Undone.{sound_push, body_push}
use Rattle.validate_stacks.proofs.stacks.Stacks.push_at_once.Goals as goal

pub invariant_of-self : goal.invariant_of-self
invariant_of-self c =
    let s = flat_of c.self.inside in
    let quiet =
    quiet_push s.transaction (no_log s.transaction (sym c.is_active.ensures ∙ c.if-is_active.false)) in
    let sound = sound_push s c.args.ty c.put.new.self.room c.put.ensures.never_less c.self.invariant in
    rw c.put.ensures.items (rw quiet at sound)

pub returns-clause-exact : goal.returns-clause-exact
returns-clause-exact c =
    let s = flat_of c.self.inside in
    let quiet =
    quiet_push s.transaction (no_log s.transaction (sym c.is_active.ensures ∙ c.if-is_active.false)) in
    let pushed = body_push s c.args.ty c.self.invariant in
    rw c.put.ensures.items (rw quiet at pushed ∙ ap (body_pushed c.args.ty) (ap body_of c.self.view_is))
