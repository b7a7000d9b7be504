use Rattle.std.proofs.Common.{◌<◌, length, sym, ap, subst, ◌∙◌}
use Rattle.validate_stacks.specs.Attempts.{body_of}
use Rattle.validate_stacks.specs.State.{BodyState}
use Rattle.validate_stacks.specs.Steps.{innermost_operands, found_after_pops_in_body}
use Rattle.validate_stacks.specs.StacksInside.{flat_of}
use Rattle.validate_stacks.proofs.Looks.{own_found_there}
use Rattle.validate_stacks.proofs.stacks.Stacks.own_operand.Goals as goal

pub returns : goal.returns
returns c =
    let s = flat_of c.self.inside in
    let own =
    subst (λ (v : BodyState). c.args.depth < length (innermost_operands v.present.frames))
    (sym (ap body_of c.self.view_is)) c.requires in
    c.get.ensures
    ∙ (own_found_there s.frames s.operands s.order c.args.depth own
    ∙ ap (found_after_pops_in_body c.args.depth) (ap body_of c.self.view_is))
