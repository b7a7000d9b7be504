use Rattle.std.proofs.Common.{rules, ◌≡◌, ℕ, pred, length, true, false, Some, None, reverse, refl, sym, ap, ◌∙◌}
use Rattle.std.specs.Option.{option_copied, option_map}
use Rattle.validate_resources.specs.Context.{ModuleContext}
use Rattle.validation_rules.specs.Branches.{return_row}
use Rattle.validation_rules.specs.Operators.{staying_operator}
use Rattle.validation_rules.specs.Static.{heads}
use Rattle.validate_stacks.specs.AtOnce.{body_dropped}
use Rattle.validate_stacks.specs.Pops.{body_popped_each, has_operands_fitting}
use Rattle.validate_stacks.specs.State.{body_context}
use Rattle.validate_stacks.specs.Steps.{body_unreachable, label_at}
use Rattle.validate_stacks.specs.Visits.{step_body}
use Rattle.validate_stacks.proofs.Moves.{fits_now, not_popped}
use Rattle.validate_shapes.proofs.BranchSteps.{label_valid, types_there, br_is, some_outermost, outermost_label}
use Rattle.validate_shapes.proofs.Moves.{unmoved, ended_moves, never_refused}
use Rattle.validate_rows.proofs.branches.return_results.Given.{Over}
use Rattle.validate_rows.proofs.branches.return_results.Goals.{After-label_types-results}
use Rattle.validate_rows.proofs.branches.return_results.Goals as goal

module _ (g : Over) (c : After-label_types-results g) where
  abbrev md : ModuleContext
  md = g.R.WasmModuleResources.context c.args.context.resources.now

  abbrev outermost : ℕ
  outermost = pred (length (heads c.args.context.stacks.now.body.present.frames))

  outermost_there : label_at c.args.context.stacks.now.body outermost ≡ Some (c.in-Some.frame.now.block_type, c.in-Some.frame.now.kind)
  outermost_there = outermost_label c.args.context.stacks.now.body c.control_stack_height-outermost.result c.in-Some.frame.now c.control_stack_height-outermost.ensures (sym c.get_frame.ensures ∙ ap option_copied c.in-Some.is)

  branches : step_body md (λ cx. staying_operator (λ hs. return_row cx hs)) c.args.context.stacks.now.body ≡ option_map body_unreachable (body_popped_each md (reverse c.label_types-results.result.now) c.args.context.stacks.now.body)
  branches =
      let v = c.args.context.stacks.now.body in
      br_is md v c.requires.open_frame (λ cx hs. return_row cx hs) outermost refl _ _ c.label_types-results.result.now outermost_there (c.label_types-results.ensures (body_context md v) refl)

  -- what doesn't fit has no step
  unfit : has_operands_fitting (body_context md c.args.context.stacks.now.body) c.label_types-results.result.now (body_dropped 0 c.args.context.stacks.now.body) ≡ false → step_body md (λ cx. staying_operator (λ hs. return_row cx hs)) c.args.context.stacks.now.body ≡ None
  unfit h =
      let v = c.args.context.stacks.now.body in
      branches ∙ ap (option_map body_unreachable) (not_popped md c.label_types-results.result.now v c.requires.open_frame (fits_now md c.label_types-results.result.now v false h))

pub unreachable-requires : goal.unreachable-requires
unreachable-requires g c =
    some_outermost c.args.context.stacks.now.body c.control_stack_height-outermost.result _ c.requires.open_frame c.control_stack_height-outermost.ensures refl (sym c.get_frame.ensures ∙ ap option_copied c.in_default.is)

pub expect_operands-requires-clause-types : goal.expect_operands-requires-clause-types
expect_operands-requires-clause-types g c =
    let at = (goal.at.expect_operands-requires-clause-types g c).After-label_types-results in
    let v = c.args.context.stacks.now.body in
    let types = types_there (md g at) v c.requires.open_frame (λ cx hs. return_row cx hs) (outermost g at) refl _ _ c.label_types-results.result.now (outermost_there g at) (c.label_types-results.ensures (body_context (md g at) v) refl) in
    label_valid (md g at) v (outermost g at) c.label_types-results.result.now (g.met.R.WasmModuleResources.lawful c.args.context.resources.now) c.requires.valid types

pub returns-in_err-expect_operands-clause-row : goal.returns-in_err-expect_operands-clause-row
returns-in_err-expect_operands-clause-row g c =
    let none = unfit g (goal.at.returns-in_err-expect_operands-clause-row g c).After-label_types-results c.in_err-expect_operands.ensures.unfit in
    unmoved _ _ _ _ _ _ (search rules) refl (search (rules, none))

pub returns-in_err-expect_operands-clause-idle : goal.returns-in_err-expect_operands-clause-idle
returns-in_err-expect_operands-clause-idle g c =
    let none = unfit g (goal.at.returns-in_err-expect_operands-clause-idle g c).After-label_types-results c.in_err-expect_operands.ensures.unfit in
    search (rules, none)

pub returns-clause-row : goal.returns-clause-row
returns-clause-row g c =
    let at = (goal.at.returns-clause-row g c).After-label_types-results in
    let v = c.args.context.stacks.now.body in
    let results = c.label_types-results.result.now in
    ended_moves (md g at) _ _ c.args.context.stacks.now _ results (branches g at) (fits_now (md g at) results v true c.in_ok-expect_operands.ensures.fit) c.requires.valid c.mark_unreachable.result c.mark_unreachable.ensures.told c.mark_unreachable.ensures.exact

pub returns-clause-idle : goal.returns-clause-idle
returns-clause-idle g c = λ idle. never_refused _ c.mark_unreachable.result (c.mark_unreachable.ensures.idle idle)
