use Rattle.std.proofs.Common.{rules, ◌≡◌, true, false, None, reverse, refl, ap, ◌∙◌}
use Rattle.std.specs.Option.{option_map}
use Rattle.validate_resources.specs.Context.{ModuleContext}
use Rattle.validation_rules.specs.Branches.{br_row}
use Rattle.validation_rules.specs.Operators.{staying_operator}
use Rattle.validate_stacks.specs.AtOnce.{body_dropped}
use Rattle.validate_stacks.specs.Pops.{body_popped_each, has_operands_fitting}
use Rattle.validate_stacks.specs.State.{body_context}
use Rattle.validate_stacks.specs.Steps.{body_unreachable, label_at}
use Rattle.validate_stacks.specs.Visits.{step_body}
use Rattle.validate_stacks.proofs.Moves.{fits_now, not_popped}
use Rattle.validate_shapes.proofs.BranchSteps.{label_valid, br_none, types_there, br_is}
use Rattle.validate_shapes.proofs.Moves.{unmoved, ended_moves, never_refused}
use Rattle.validate_rows.proofs.branches.br.Given.{Over}
use Rattle.validate_rows.proofs.branches.br.Goals.{Start, After-label_types-types}
use Rattle.validate_rows.proofs.branches.br.Goals as goal

nowhere : (g : Over) (c : Start g) → label_at c.args.context.stacks.now.body c.args.relative_depth ≡ None → step_body (g.R.WasmModuleResources.context c.args.context.resources.now) (λ cx. staying_operator (λ hs. br_row cx hs c.args.relative_depth)) c.args.context.stacks.now.body ≡ None
nowhere g c = br_none (g.R.WasmModuleResources.context c.args.context.resources.now) c.args.context.stacks.now.body c.requires.open_frame (λ cx hs. br_row cx hs c.args.relative_depth) c.args.relative_depth refl

module _ (g : Over) (c : After-label_types-types g) where
  abbrev md : ModuleContext
  md = g.R.WasmModuleResources.context c.args.context.resources.now

  branches : step_body md (λ cx. staying_operator (λ hs. br_row cx hs c.args.relative_depth)) c.args.context.stacks.now.body ≡ option_map body_unreachable (body_popped_each md (reverse c.label_types-types.result.now) c.args.context.stacks.now.body)
  branches =
      let v = c.args.context.stacks.now.body in
      let d = c.args.relative_depth in
      br_is md v c.requires.open_frame (λ cx hs. br_row cx hs d) d refl _ _ c.label_types-types.result.now c.in_ok-block_type.ensures.found (c.label_types-types.ensures (body_context md v) refl)

  -- what doesn't fit has no step
  unfit : has_operands_fitting (body_context md c.args.context.stacks.now.body) c.label_types-types.result.now (body_dropped 0 c.args.context.stacks.now.body) ≡ false → step_body md (λ cx. staying_operator (λ hs. br_row cx hs c.args.relative_depth)) c.args.context.stacks.now.body ≡ None
  unfit h =
      let v = c.args.context.stacks.now.body in
      branches ∙ ap (option_map body_unreachable) (not_popped md c.label_types-types.result.now v c.requires.open_frame (fits_now md c.label_types-types.result.now v false h))

pub returns-in_err-block_type-clause-row : goal.returns-in_err-block_type-clause-row
returns-in_err-block_type-clause-row g c =
    let none = nowhere g (goal.at.returns-in_err-block_type-clause-row g c).Start c.in_err-block_type.ensures.missing in
    unmoved _ _ _ _ _ _ (search rules) refl (search (rules, none))

pub returns-in_err-block_type-clause-idle : goal.returns-in_err-block_type-clause-idle
returns-in_err-block_type-clause-idle g c =
    let none = nowhere g (goal.at.returns-in_err-block_type-clause-idle g c).Start c.in_err-block_type.ensures.missing in
    search (rules, none)

pub expect_operands-requires-clause-types : goal.expect_operands-requires-clause-types
expect_operands-requires-clause-types g c =
    let md = g.R.WasmModuleResources.context c.args.context.resources.now in
    let v = c.args.context.stacks.now.body in
    let d = c.args.relative_depth in
    label_valid md v d _ (g.met.R.WasmModuleResources.lawful c.args.context.resources.now) c.requires.valid
    (types_there md v c.requires.open_frame (λ cx hs. br_row cx hs d) d refl _ _ c.label_types-types.result.now c.in_ok-block_type.ensures.found (c.label_types-types.ensures (body_context md v) refl))

pub returns-in_err-expect_operands-clause-row : goal.returns-in_err-expect_operands-clause-row
returns-in_err-expect_operands-clause-row g c =
    let none = unfit g (goal.at.returns-in_err-expect_operands-clause-row g c).After-label_types-types c.in_err-expect_operands.ensures.unfit in
    unmoved _ _ _ _ _ _ (search rules) refl (search (rules, none))

pub returns-in_err-expect_operands-clause-idle : goal.returns-in_err-expect_operands-clause-idle
returns-in_err-expect_operands-clause-idle g c =
    let none = unfit g (goal.at.returns-in_err-expect_operands-clause-idle g c).After-label_types-types c.in_err-expect_operands.ensures.unfit in
    search (rules, none)

pub returns-clause-row : goal.returns-clause-row
returns-clause-row g c =
    let at = (goal.at.returns-clause-row g c).After-label_types-types in
    let v = c.args.context.stacks.now.body in
    let types = c.label_types-types.result.now in
    ended_moves (md g at) _ _ c.args.context.stacks.now _ types (branches g at) (fits_now (md g at) types v true c.in_ok-expect_operands.ensures.fit) c.requires.valid c.mark_unreachable.result c.mark_unreachable.ensures.told c.mark_unreachable.ensures.exact

pub returns-clause-idle : goal.returns-clause-idle
returns-clause-idle g c = λ idle. never_refused _ c.mark_unreachable.result (c.mark_unreachable.ensures.idle idle)
