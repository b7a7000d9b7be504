use Rattle.std.proofs.Common.{length, sym, ◌∙◌, ap}
use Rattle.validate_stacks.specs.Attempts.{body_of}
use Rattle.validate_stacks.specs.State.{BodyState}
use Rattle.validate_stacks.specs.Steps.{setting_order}
use Rattle.validate_stacks.specs.StacksInside.{flat_of}
use Rattle.validate_stacks.proofs.Cuts.{order-cut}
use Rattle.validate_stacks.proofs.stacks.Stacks.inits.Goals as goal

pub returns-clause-order : goal.returns-clause-order
returns-clause-order c =
    let s = flat_of c.self.inside in
    sym (order-cut s.frames s.operands s.order (length s.operands) c.self.invariant.shape)
    ∙ ap (λ (v : BodyState). setting_order v.present.frames) (ap body_of c.self.view_is)
