use Rattle.std.proofs.Common.{take, reverse, ap, ◌∙◌, arith}
use Rattle.validate_stacks.specs.Attempts.{body_of}
use Rattle.validate_stacks.specs.State.{BodyState}
use Rattle.validate_stacks.specs.Steps.{innermost_operands}
use Rattle.validate_stacks.specs.StacksInside.{flat_of}
use Rattle.validate_stacks.proofs.Idle.{own_taken, own_within}
use Rattle.validate_stacks.proofs.stacks.Stacks.top_operands.Goals as goal

pub newest-requires : goal.newest-requires
newest-requires c =
    let s = flat_of c.self.inside in
    let own = rw (← c.self.view_is) at c.requires in
    omega (arith, own, own_within s.frames s.operands s.order)

pub returns : goal.returns
returns c =
    let s = flat_of c.self.inside in
    let own = rw (← c.self.view_is) at c.requires in
    c.newest.ensures
    ∙ ap reverse (own_taken c.args.count s.frames s.operands s.order own)
    ∙ ap (λ (v : BodyState). reverse (take c.args.count (innermost_operands v.present.frames)))
    (ap body_of c.self.view_is)
