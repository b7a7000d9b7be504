-- What is left to match fits exactly where all of the run does; and each pop that was tried is counted.
use Rattle.std.proofs.Common.{◌≡◌, ◌+◌, ◌≤◌, ◌-◌, replicate, take, reverse}
use Rattle.validation_rules.specs.Fits.{all_fit}
use Rattle.validate_stacks.specs.State.{body_context}
use Rattle.validate_stacks.specs.Pops.{has_operands_fitting}
use Rattle.validate_stacks.proofs.MatchedOperands.{after_in}
use Rattle.validate_stacks.proofs.stacks.Stacks.expect_own_run.Given as goal

abbrev pub decreases-loop-left : goal.decreases-loop-left
decreases-loop-left g l = l.left

abbrev pub invariant-loop-left : goal.invariant-loop-left
invariant-loop-left g l =
    let cx = body_context (g.R.WasmModuleResources.context l.resources) l.initial.self.body in
    let run = replicate l.count l.elem in
    record {
      within : l.left ≤ l.count;
      rest : all_fit cx (after_in l.left (l.count - l.left) l.initial.self.body.present.frames) (reverse (take l.left run)) ≡ has_operands_fitting cx run l.initial.self.body;
      counted : l.pops + l.left ≡ l.fn.pops + l.count;
    }
