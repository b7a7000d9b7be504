-- What is left to match fits exactly where all of the list does.
use Rattle.std.proofs.Common.{◌≡◌, ◌≤◌, ◌-◌, length, take, reverse}
use Rattle.validation_rules.specs.Fits.{all_fit}
use Rattle.validate_stacks.specs.AtOnce.{body_dropped}
use Rattle.validate_stacks.specs.State.{body_context}
use Rattle.validate_stacks.specs.Pops.{has_operands_fitting}
use Rattle.validate_stacks.proofs.MatchedOperands.{after_in}
use Rattle.validate_stacks.proofs.stacks.Stacks.expect_among.Given as goal

abbrev pub decreases-loop-left : goal.decreases-loop-left
decreases-loop-left g l = l.left

abbrev pub invariant-loop-left : goal.invariant-loop-left
invariant-loop-left g l =
    let cx = body_context (g.R.WasmModuleResources.context l.resources) l.initial.self.body in
    let v = body_dropped l.above l.initial.self.body in
    record {
      within : l.left ≤ length l.expected;
      rest : all_fit cx (after_in l.left (length l.expected - l.left) v.present.frames) (reverse (take l.left l.expected)) ≡ has_operands_fitting cx l.expected v;
    }
