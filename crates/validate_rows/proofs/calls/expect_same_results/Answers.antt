use Rattle.std.proofs.Common.{◌≡◌, ℕ, pred, ◌&&◌, length, map, Some, refl, sym, ap, ap₂, ◌∙◌}
use Rattle.std.specs.Option.{option_copied}
use Rattle.validate_resources.specs.Context.{ModuleContext}
use Rattle.validation_rules.specs.Branches.{has_label, label_types_at, return_row}
use Rattle.validation_rules.specs.Context.{Context}
use Rattle.validation_rules.specs.Fits.{Known, all_fit}
use Rattle.validation_rules.specs.Static.{heads}
use Rattle.validate_stacks.specs.State.{body_context}
use Rattle.validate_stacks.specs.Steps.{label_at}
use Rattle.validate_shapes.proofs.BranchSteps.{label_there, label_valid, types_there, some_outermost, outermost_label}
use Rattle.validate_rows.proofs.calls.expect_same_results.Given.{Over}
use Rattle.validate_rows.proofs.calls.expect_same_results.Goals.{After-label_types-expected}
use Rattle.validate_rows.proofs.calls.expect_same_results.Goals as goal

module _ (g : Over) (c : After-label_types-expected g) where
  abbrev md : ModuleContext
  md = g.R.WasmModuleResources.context c.args.context.now.resources.now

  abbrev cx : Context
  cx = body_context md c.args.context.now.stacks.now.body

  abbrev outermost : ℕ
  outermost = pred (length (heads c.args.context.now.stacks.now.body.present.frames))

  outermost_there : label_at c.args.context.now.stacks.now.body outermost ≡ Some (c.in-Some.frame.now.block_type, c.in-Some.frame.now.kind)
  outermost_there = outermost_label c.args.context.now.stacks.now.body c.control_stack_height-outermost.result c.in-Some.frame.now c.control_stack_height-outermost.ensures (sym c.get_frame.ensures ∙ ap option_copied c.in-Some.is)

  expected_is_of_label : c.label_types-expected.result.now ≡ label_types_at cx (heads c.args.context.now.stacks.now.body.present.frames) outermost
  expected_is_of_label = types_there md c.args.context.now.stacks.now.body c.requires.visit.open_frame (λ cx hs. return_row cx hs) outermost refl _ _ c.label_types-expected.result.now outermost_there (c.label_types-expected.ensures cx refl)

  fit_label_as_expected : (has_label (heads c.args.context.now.stacks.now.body.present.frames) outermost && all_fit cx (map Known c.args.results.now) (label_types_at cx (heads c.args.context.now.stacks.now.body.present.frames) outermost)) ≡ all_fit cx (map Known c.args.results.now) c.label_types-expected.result.now
  fit_label_as_expected = ap₂ (λ b ts. b && all_fit cx (map Known c.args.results.now) ts) (label_there cx (heads c.args.context.now.stacks.now.body.present.frames) outermost _ _ outermost_there).0 (sym expected_is_of_label)

pub unreachable-requires : goal.unreachable-requires
unreachable-requires g c =
    some_outermost c.args.context.now.stacks.now.body c.control_stack_height-outermost.result _ c.requires.visit.open_frame c.control_stack_height-outermost.ensures refl (sym c.get_frame.ensures ∙ ap option_copied c.in_default.is)

pub are_below-requires-clause-above : goal.are_below-requires-clause-above
are_below-requires-clause-above g c =
    let at = (goal.at.are_below-requires-clause-above g c).After-label_types-expected in
    label_valid (md g at) c.args.context.now.stacks.now.body (outermost g at) _ (g.met.R.WasmModuleResources.lawful c.args.context.now.resources.now) c.requires.visit.valid (expected_is_of_label g at)

pub returns-then-are_below-clause-below : goal.returns-then-are_below-clause-below
returns-then-are_below-clause-below g c =
    let at = (goal.at.returns-then-are_below-clause-below g c).After-label_types-expected in
    fit_label_as_expected g at ∙ (sym (c.are_below.ensures (cx g at) refl) ∙ c.if-are_below.true)

pub returns-else-are_below-clause-other : goal.returns-else-are_below-clause-other
returns-else-are_below-clause-other g c =
    let at = (goal.at.returns-else-are_below-clause-other g c).After-label_types-expected in
    fit_label_as_expected g at ∙ (sym (c.are_below.ensures (cx g at) refl) ∙ c.if-are_below.false)
