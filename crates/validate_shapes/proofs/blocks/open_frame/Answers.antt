use Rattle.std.proofs.Common.{rules, ◌≡◌, ◌++◌, ◌+◌, true, false, List, length, reverse, MatchResult, refl, sym, ap, ◌∙◌, subst, arith}
use Rattle.std.specs.Option.{option_map}
use Rattle.validate_resources.specs.Context.{ModuleContext}
use Rattle.validate_types.specs.declared.types.ValType.{ValType}
use Rattle.validation_rules.specs.Context.{block_signature}
use Rattle.validate_stacks.specs.AtOnce.{body_dropped}
use Rattle.validate_stacks.specs.Blocks.{body_with_block}
use Rattle.validate_stacks.specs.Pops.{body_popped_each, body_pushed_each}
use Rattle.validate_stacks.specs.State.{BodyState}
use Rattle.validate_stacks.specs.Steps.{body_with_frame}
use Rattle.validate_stacks.proofs.AtOnce.{dropped_open, dropped_within, popped_dropped}
use Rattle.validate_stacks.proofs.ClosedFrames.{entered_is, takes_valid}
use Rattle.validate_stacks.proofs.Moves.{dropped_below, fits_now, not_popped}
use Rattle.validate_stacks.proofs.Phases.{step_frame}
use Rattle.validate_stacks.proofs.Whole.{none_above, some_above}
use Rattle.validate_shapes.proofs.OpenerSteps.{opened_is, opened_moved}
use Rattle.validate_shapes.proofs.Moves.{unmoved, made_moves}
use Rattle.validate_shapes.proofs.blocks.open_frame.Given.{Over}
use Rattle.validate_shapes.proofs.blocks.open_frame.Goals.{In_ok-expect_operands}
use Rattle.validate_shapes.proofs.blocks.open_frame.Goals as goal

module _ (g : Over) (c : In_ok-expect_operands g) where
  abbrev md : ModuleContext
  md = g.R.WasmModuleResources.context c.args.context.resources.now

  abbrev below : BodyState
  below = body_dropped (length c.args.above.now) c.args.context.stacks.now.body

  -- what lies above goes, and then the parameters
  popped_above : body_popped_each md (reverse ((block_signature md c.args.block_type).params ++ c.args.above.now)) c.args.context.stacks.now.body ≡ body_popped_each md (reverse c.params-params.result.now) below
  popped_above =
      let v = c.args.context.stacks.now.body in
      let above = c.args.above.now in
      some_above md (block_signature md c.args.block_type).params above v below (popped_dropped md above v (fits_now md above v true c.in_ok-expect_operands.ensures.fit))
      ∙ ap (λ (l : List ValType). body_popped_each md (reverse l) below) (sym c.params-params.ensures)

pub returns-in_err-expect_operands : goal.returns-in_err-expect_operands
returns-in_err-expect_operands g c =
    let md = g.R.WasmModuleResources.context c.args.context.resources.now in
    let v = c.args.context.stacks.now.body in
    let above = c.args.above.now in
    let bt = c.args.block_type in
    let missing = not_popped md above v c.requires.visit.open_frame (fits_now md above v false c.in_err-expect_operands.ensures.unfit) in
    let none = opened_is md v c.args.kind above bt c.requires.visit.open_frame ∙ ap (option_map (λ u. body_with_block md c.args.kind bt u)) (none_above md (block_signature md bt).params above v missing) in
    unmoved _ _ _ _ _ _ (search rules) refl (search (rules, none))

pub expect_operands-requires-2-clause-types : goal.expect_operands-requires-2-clause-types
expect_operands-requires-2-clause-types g c =
    takes_valid (g.R.WasmModuleResources.context c.args.context.resources.now) c.args.context.stacks.now.body.shared c.args.block_type c.params-params.result.now (g.met.R.WasmModuleResources.lawful c.args.context.resources.now) c.requires.block c.params-params.ensures

pub returns-in_err-expect_operands-2 : goal.returns-in_err-expect_operands-2
returns-in_err-expect_operands-2 g c =
    let at = (goal.at.returns-in_err-expect_operands-2 g c).In_ok-expect_operands in
    let m = md g at in
    let v = c.args.context.stacks.now.body in
    let missing = not_popped m c.params-params.result.now (below g at) (dropped_open (length c.args.above.now) v c.requires.visit.open_frame) c.in_err-expect_operands-2.ensures.unfit in
    let none = opened_is m v c.args.kind c.args.above.now c.args.block_type c.requires.visit.open_frame ∙ ap (option_map (λ u. body_with_block m c.args.kind c.args.block_type u)) (popped_above g at ∙ missing) in
    unmoved _ _ _ _ _ _ (search rules) refl (search (rules, none))

pub open-requires-clause-frames : goal.open-requires-clause-frames
open-requires-clause-frames g c = step_frame c.args.context.stacks.now c.requires.visit.attempt

pub returns : goal.returns
returns g c =
    let at = (goal.at.returns g c).In_ok-expect_operands in
    let m = md g at in
    let laws = g.met.R.WasmModuleResources.lawful c.args.context.resources.now in
    let v = c.args.context.stacks.now.body in
    let kind = c.args.kind in
    let bt = c.args.block_type in
    let ps = c.params-params.result.now in
    let k = length c.args.above.now in
    let u = body_dropped (length ps) (below g at) in
    let popped = popped_above g at ∙ popped_dropped m ps (below g at) c.in_ok-expect_operands-2.ensures.fit in
    let whole : body_dropped c.min-popped.result v ≡ u = sym (dropped_below (length ps) k v ∙ dropped_within (k + length ps) c.min-popped.result v (omega (arith, c.min-popped.ensures, c.own_operand_count-own.ensures, c.saturating_add.ensures))) in
    let entered = ap (λ (x : BodyState). body_pushed_each ps (body_with_frame kind bt x)) whole ∙ entered_is m kind bt u (body_with_frame kind bt u) ps c.params-params.ensures refl in
    let moved = opened_moved m v kind c.args.above.now bt c.requires.visit.open_frame laws c.requires.visit.valid c.requires.block u popped in
    made_moves m _ _ c.args.context.stacks.now _ (body_with_block m kind bt u) moved.step moved.valid moved.kept c.open.result c.open.ensures.told
    (subst (λ (x : BodyState). MatchResult c.open.result (λ _. c.open.new.self.body ≡ x) (λ _. c.open.new.self ≡ c.args.context.stacks.now)) entered c.open.ensures.exact)
