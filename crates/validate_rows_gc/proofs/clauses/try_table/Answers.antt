use Rattle.std.proofs.Common.{rules, ◌≡◌, true, false, min, reverse, length, [], Some, MatchResult, refl, sym, ap, ◌∙◌, subst}
use Rattle.std.proofs.lemmas.List.{append-nil}
use Rattle.validate_resources.specs.Context.{ModuleContext}
use Rattle.validation_rules.specs.Context.{block_signature}
use Rattle.validation_rules.specs.Rows.{TryTable}
use Rattle.validation_rules.specs.Valid.{IsValidBlock}
use Rattle.validation_rules.proofs.Valid.{checked_valid}
use Rattle.validate_stacks.specs.AtOnce.{body_dropped}
use Rattle.validate_stacks.specs.Blocks.{body_with_block}
use Rattle.validate_stacks.specs.Pops.{body_popped_each}
use Rattle.validate_stacks.specs.State.{BodyState, body_context}
use Rattle.validate_stacks.specs.Steps.{body_with_frame}
use Rattle.validate_stacks.proofs.AtOnce.{dropped_within, popped_dropped}
use Rattle.validate_stacks.proofs.ClosedFrames.{entered_is, takes_valid}
use Rattle.validate_stacks.proofs.Moves.{fits_now, not_popped}
use Rattle.validate_stacks.proofs.Phases.{step_frame}
use Rattle.validate_shapes.proofs.Moves.{unmoved, made_moves}
use Rattle.validate_shapes.proofs.OpenerSteps.{opened_moved}
use Rattle.validate_rows_gc.proofs.TryTables.{table_not_checked, table_refused, table_not_fitting, table_passes}
use Rattle.validate_rows_gc.proofs.clauses.try_table.Given.{Over}
use Rattle.validate_rows_gc.proofs.clauses.try_table.Goals.{After-params-params}
use Rattle.validate_rows_gc.proofs.clauses.try_table.Goals as goal

module _ (g : Over) (c : After-params-params g) where
  abbrev md : ModuleContext
  md = g.R.WasmModuleResources.context c.args.context.resources.now

  block : IsValidBlock md c.args.context.stacks.now.body.shared c.in_ok-block_type.block_type
  block = checked_valid (body_context md c.args.context.stacks.now.body) (g.met.R.WasmModuleResources.lawful c.args.context.resources.now) c.args.table.now.ty c.in_ok-block_type.block_type c.in_ok-block_type.ensures.checked

pub returns-in_err-block_type : goal.returns-in_err-block_type
returns-in_err-block_type g c =
    let none = table_not_checked (g.R.WasmModuleResources.context c.args.context.resources.now) c.args.context.stacks.now.body c.args.table.now in
    unmoved _ _ _ _ _ _ (search rules) refl (search (rules, none))

pub expect_operands-requires-clause-types : goal.expect_operands-requires-clause-types
expect_operands-requires-clause-types g c =
    let at = (goal.at.expect_operands-requires-clause-types g c).After-params-params in
    takes_valid (md g at) c.args.context.stacks.now.body.shared c.in_ok-block_type.block_type c.params-params.result.now (g.met.R.WasmModuleResources.lawful c.args.context.resources.now) (block g at) c.params-params.ensures

pub returns-in_err-expect_operands : goal.returns-in_err-expect_operands
returns-in_err-expect_operands g c =
    let m = g.R.WasmModuleResources.context c.args.context.resources.now in
    let v = c.args.context.stacks.now.body in
    let ps = c.params-params.result.now in
    let missing = not_popped m ps v c.requires.open_frame (fits_now m ps v false c.in_err-expect_operands.ensures.unfit) in
    let none = table_refused m v c.args.table.now c.requires.open_frame c.in_ok-block_type.block_type c.in_ok-block_type.ensures.checked (ap (λ ts. body_popped_each m (reverse ts) v) (sym c.params-params.ensures) ∙ missing) in
    unmoved _ _ _ _ _ _ (search rules) refl (search (rules, none))

pub returns-in_err-expect_clauses : goal.returns-in_err-expect_clauses
returns-in_err-expect_clauses g c =
    let none = table_not_fitting (g.R.WasmModuleResources.context c.args.context.resources.now) c.args.context.stacks.now.body c.args.table.now c.requires.open_frame c.in_ok-block_type.block_type c.in_ok-block_type.ensures.checked c.in_err-expect_clauses.ensures.refused in
    unmoved _ _ _ _ _ _ (search rules) refl (search (rules, none))

pub open-requires-clause-frames : goal.open-requires-clause-frames
open-requires-clause-frames g c = step_frame c.args.context.stacks.now c.requires.attempt

pub returns : goal.returns
returns g c =
    let at = (goal.at.returns g c).After-params-params in
    let m = md g at in
    let laws = g.met.R.WasmModuleResources.lawful c.args.context.resources.now in
    let v = c.args.context.stacks.now.body in
    let bt = c.in_ok-block_type.block_type in
    let own = (block_signature m bt).params in
    let ps = c.params-params.result.now in
    let k = c.min-popped.result in
    let u : BodyState = body_dropped k v in
    let fit = fits_now m ps v true c.in_ok-expect_operands.ensures.fit in
    let least : k ≡ _ = c.min-popped.ensures ∙ ap (min (length ps)) c.own_operand_count.ensures in
    let popped : body_popped_each m (reverse own) v ≡ Some u = ap (λ ts. body_popped_each m (reverse ts) v) (sym c.params-params.ensures) ∙ popped_dropped m ps v fit ∙ ap Some (dropped_within (length ps) k v least) in
    let entered = entered_is m TryTable bt u (body_with_frame TryTable bt u) ps c.params-params.ensures refl in
    let moved = opened_moved m v TryTable [] bt c.requires.open_frame laws c.requires.valid (block g at) u (ap (λ ts. body_popped_each m (reverse ts) v) (append-nil own) ∙ popped) in
    let step = table_passes m v c.args.table.now c.requires.open_frame bt c.in_ok-block_type.ensures.checked u (body_with_block m TryTable bt u) popped c.in_ok-expect_clauses.ensures.fits refl in
    made_moves m _ _ c.args.context.stacks.now _ (body_with_block m TryTable bt u) step moved.valid moved.kept c.open.result c.open.ensures.told
    (subst (λ (x : BodyState). MatchResult c.open.result (λ _. c.open.new.self.body ≡ x) (λ _. c.open.new.self ≡ c.args.context.stacks.now)) entered c.open.ensures.exact)
