use Rattle.std.proofs.Common.{ap, ◌∙◌}
use Rattle.validate_stacks.specs.State.{BodyState}
use Rattle.script_runs.proofs.timing.visit_each.Goals as goal

pub loop-pair-preserved : goal.loop-pair-preserved
loop-pair-preserved g c =
    record {
      valid = c.is_visited.ensures.valid;
      idle = ap (λ (u : BodyState). u.undone) c.is_visited.ensures.kept ∙ c.loop-pair.invariant.idle;
    }
