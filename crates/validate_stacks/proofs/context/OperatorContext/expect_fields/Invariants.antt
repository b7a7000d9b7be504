-- What is left to match fits exactly where the values of all fields do.
use Rattle.std.proofs.Common.{◌≡◌, ◌≤◌, ◌-◌, length, take, reverse}
use Rattle.validate_types.specs.Types.{unpacked_fields}
use Rattle.validation_rules.specs.Fits.{all_fit}
use Rattle.validate_stacks.specs.AtOnce.{body_dropped}
use Rattle.validate_stacks.specs.State.{body_context}
use Rattle.validate_stacks.specs.Pops.{has_operands_fitting}
use Rattle.validate_stacks.proofs.MatchedOperands.{after_in}
use Rattle.validate_stacks.proofs.context.OperatorContext.expect_fields.Given as goal

abbrev pub decreases-loop-left : goal.decreases-loop-left
decreases-loop-left g l = l.left

abbrev pub invariant-loop-left : goal.invariant-loop-left
invariant-loop-left g l =
    let cx = body_context (g.R.WasmModuleResources.context l.self.resources.now) l.initial.self.stacks.now.body in
    let values = unpacked_fields l.fields in
    let v = body_dropped l.above l.initial.self.stacks.now.body in
    record {
      within : l.left ≤ length l.fields;
      rest : all_fit cx (after_in l.left (length l.fields - l.left) v.present.frames) (reverse (take l.left values)) ≡ has_operands_fitting cx values v;
    }
