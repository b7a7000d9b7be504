-- Where what is left to match fits, all of the list does; and what was matched last is known.
use Rattle.std.proofs.Common.{◌≡◌, ◌<◌, ◌≤◌, ◌-◌, drop, length, slice_get, take, reverse}
use Rattle.std.specs.Option.{option_map}
use Rattle.validation_rules.specs.Fits.{Known, all_fit}
use Rattle.validate_stacks.specs.State.{body_context}
use Rattle.validate_stacks.specs.AtOnce.{body_dropped}
use Rattle.validate_stacks.specs.Pops.{body_pushed_each, has_operands_fitting}
use Rattle.validate_stacks.specs.Steps.{found_after_pops_in_body}
use Rattle.validate_stacks.proofs.MatchedOperands.{after_in}
use Rattle.validate_stacks.proofs.stacks.Stacks.has_same_numbers.Given as goal

abbrev pub decreases-loop-left : goal.decreases-loop-left
decreases-loop-left g l = l.left

abbrev pub invariant-loop-left : goal.invariant-loop-left
invariant-loop-left g l =
    let cx = body_context (g.R.WasmModuleResources.context l.resources) l.initial.self.body in
    record {
      within : l.left ≤ length l.expected;
      rest : all_fit cx (after_in l.left (length l.expected - l.left) l.initial.self.body.present.frames) (reverse (take l.left l.expected)) ≡ has_operands_fitting cx l.expected l.initial.self.body;
      known : body_pushed_each (drop l.left l.expected) (body_dropped (length l.expected - l.left) l.initial.self.body) ≡ l.initial.self.body;
      lowest : l.left < length l.expected → found_after_pops_in_body (length l.expected - 1 - l.left) l.initial.self.body ≡ option_map Known (slice_get l.expected l.left);
    }
