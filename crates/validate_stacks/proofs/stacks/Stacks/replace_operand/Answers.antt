use Rattle.std.proofs.Common.{◌∙◌, ap}
use Rattle.validate_stacks.specs.Attempts.{body_of}
use Rattle.validate_stacks.specs.Steps.{body_pushed, body_popped}
use Rattle.validate_stacks.specs.StacksInside.{flat_of}
use Rattle.validate_stacks.proofs.Idle.{own_there, sound_replaced, body_replaced}
use Rattle.validate_stacks.proofs.Undone.{idle_log}
use Rattle.validate_stacks.proofs.stacks.Stacks.replace_operand.Goals as goal

pub replace_top-requires : goal.replace_top-requires
replace_top-requires c =
    let s = flat_of c.self.inside in
    let own = rw (← c.self.view_is) at c.requires.own in
    own_there s.frames s.operands s.order own

pub invariant_of-self : goal.invariant_of-self
invariant_of-self c =
    let s = flat_of c.self.inside in
    let own = rw (← c.self.view_is) at c.requires.own in
    let log = idle_log s c.self.view_is c.requires.idle in
    let some = own_there s.frames s.operands s.order own in
    rw c.replace_top.ensures.items
    (sound_replaced s c.args.ty c.replace_top.new.self.room log some c.self.invariant)

pub returns-clause-replaced : goal.returns-clause-replaced
returns-clause-replaced c =
    let s = flat_of c.self.inside in
    let own = rw (← c.self.view_is) at c.requires.own in
    let log = idle_log s c.self.view_is c.requires.idle in
    rw c.replace_top.ensures.items
    (body_replaced s c.args.ty log own
    ∙ ap (λ v. body_pushed c.args.ty (body_popped v)) (ap body_of c.self.view_is))
