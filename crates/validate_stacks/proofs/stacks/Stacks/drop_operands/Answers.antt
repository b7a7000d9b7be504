use Rattle.std.proofs.Common.{◌≡◌, ◌-◌, length, drop, ◌∙◌, ap, arith}
use Rattle.validate_stacks.specs.AtOnce.{body_dropped}
use Rattle.validate_stacks.specs.Attempts.{body_of}
use Rattle.validate_stacks.specs.StacksInside.{flat_of}
use Rattle.validate_stacks.proofs.Idle.{own_within, dropped_whole}
use Rattle.validate_stacks.proofs.Undone.{idle_log}
use Rattle.validate_stacks.proofs.stacks.Stacks.drop_operands.Goals as goal

pub overflow_sub-all : goal.overflow_sub-all
overflow_sub-all c =
    let s = flat_of c.self.inside in
    let own = rw (← c.self.view_is) at c.requires.own in
    omega (arith, own, own_within s.frames s.operands s.order, c.len-all.ensures.value)

pub invariant_of-self : goal.invariant_of-self
invariant_of-self c =
    let s = flat_of c.self.inside in
    let own = rw (← c.self.view_is) at c.requires.own in
    let log = idle_log s c.self.view_is c.requires.idle in
    let within = own_within s.frames s.operands s.order in
    let count : length s.operands - (c.len-all.result - c.args.count) ≡ c.args.count =
    omega (arith, own, within, c.len-all.ensures.value) in
    let items = c.truncate.ensures.items ∙ ap (λ k. drop k s.operands) count in
    rw (items, c.truncate.ensures.room) (dropped_whole c.args.count s log own c.self.invariant).0

pub returns-clause-dropped : goal.returns-clause-dropped
returns-clause-dropped c =
    let s = flat_of c.self.inside in
    let own = rw (← c.self.view_is) at c.requires.own in
    let log = idle_log s c.self.view_is c.requires.idle in
    let within = own_within s.frames s.operands s.order in
    let count : length s.operands - (c.len-all.result - c.args.count) ≡ c.args.count =
    omega (arith, own, within, c.len-all.ensures.value) in
    let items = c.truncate.ensures.items ∙ ap (λ k. drop k s.operands) count in
    rw items
    ((dropped_whole c.args.count s log own c.self.invariant).1
    ∙ ap (body_dropped c.args.count) (ap body_of c.self.view_is))
