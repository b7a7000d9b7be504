use Rattle.std.proofs.Common.{rules, ◌≡◌, true, false, Some, refl, ap, ◌∙◌, subst}
use Rattle.validate_resources.specs.Context.{ModuleContext}
use Rattle.validate_visit.specs.declared.frame.Frame.{Frame as FlatFrame}
use Rattle.validation_rules.specs.Context.{block_signature}
use Rattle.validation_rules.specs.Static.{missing_else_fits}
use Rattle.validation_rules.specs.Valid.{IsValidBlock}
use Rattle.validate_stacks.specs.Pops.{body_pushed_each}
use Rattle.validate_stacks.specs.State.{body_context}
use Rattle.validate_stacks.specs.Steps.{body_without_frame, frame_at, head_of}
use Rattle.validate_stacks.proofs.ClosedFrames.{block_valid, frame_found, takes_valid, wants_valid}
use Rattle.validate_shapes.proofs.Moves.{unmoved}
use Rattle.validate_shapes.proofs.PartMoves.{closed_moves}
use Rattle.validate_shapes.proofs.Rows.{end_none, end_refused_if, end_passes}
use Rattle.validate_rows.proofs.Ends.{missing_fits, fits_as, results_as}
use Rattle.validate_rows.proofs.control.end_of.Given.{Over}
use Rattle.validate_rows.proofs.control.end_of.Goals.{After-find_results, then-not-may_lack_else+in_ok-expect_missing_else, else-not-may_lack_else}
use Rattle.validate_rows.proofs.control.end_of.Goals as goal

pub find_results-requires-clause-results : goal.find_results-requires-clause-results
find_results-requires-clause-results g c =
    let md = g.R.WasmModuleResources.context c.args.context.resources.now in
    λ f e. results_as md c.args.context.stacks.now.body f c.args.kind c.args.block_type (c.requires.frame f e) c.args.results.now c.requires.results

pub returns-in_err-popped : goal.returns-in_err-popped
returns-in_err-popped g c =
    let none = end_none (g.R.WasmModuleResources.context c.args.context.resources.now) c.args.context.stacks.now.body c.requires.visit.open_frame c.in_err-popped.ensures.stays in
    unmoved _ _ _ _ _ _ (search rules) refl (search (rules, none))

module _ (g : Over) (c : After-find_results g) where
  abbrev md : ModuleContext
  md = g.R.WasmModuleResources.context c.args.context.resources.now

  abbrev there : (r : FlatFrame) × (frame_at c.args.context.stacks.now.body 0 ≡ Some r)
  there = frame_found c.args.context.stacks.now.body c.requires.visit.open_frame

  abbrev is : (there.0.kind ≡ c.args.kind) × (there.0.block_type ≡ c.args.block_type)
  is = c.requires.frame there.0 there.1

  same : c.args.results.now ≡ (block_signature md there.0.block_type).results
  same = results_as md c.args.context.stacks.now.body there.0 c.args.kind c.args.block_type is c.args.results.now c.requires.results

pub expect_missing_else-requires-clause-params : goal.expect_missing_else-requires-clause-params
expect_missing_else-requires-clause-params g c =
    let at = (goal.at.expect_missing_else-requires-clause-params g c).After-find_results in
    let v = c.args.context.stacks.now.body in
    let block = subst (IsValidBlock (md g at) v.shared) (is g at).1 (block_valid (md g at) v (there g at).0 (there g at).1 c.requires.visit.valid) in
    takes_valid (md g at) v.shared c.args.block_type _ (g.met.R.WasmModuleResources.lawful c.args.context.resources.now) block refl

pub expect_missing_else-requires-clause-results : goal.expect_missing_else-requires-clause-results
expect_missing_else-requires-clause-results g c =
    let at = (goal.at.expect_missing_else-requires-clause-results g c).After-find_results in
    wants_valid (md g at) c.args.context.stacks.now.body (there g at).0 c.args.results.now (g.met.R.WasmModuleResources.lawful c.args.context.resources.now) (there g at).1 c.requires.visit.valid (same g at)

pub returns-in_err-expect_missing_else : goal.returns-in_err-expect_missing_else
returns-in_err-expect_missing_else g c =
    let at = (goal.at.returns-in_err-expect_missing_else g c).After-find_results in
    let v = c.args.context.stacks.now.body in
    let cx = body_context (md g at) v in
    let other = missing_fits cx c.args.kind c.args.block_type c.args.results.now false (c.may_lack_else.ensures.asked c.if-not-may_lack_else.true) c.requires.results (c.in_err-expect_missing_else.ensures.refused cx refl) in
    let none = end_refused_if (md g at) v (there g at).0 (there g at).1 (fits_as (md g at) v (there g at).0 c.args.kind c.args.block_type (is g at) ∙ other) in
    unmoved _ _ _ _ _ _ (search rules) refl (search (rules, none))

pub returns : goal.returns
returns g c =
    let at = (goal.at.returns g c).After-find_results in
    let v = c.args.context.stacks.now.body in
    let rs = c.args.results.now in
    let cx = body_context (md g at) v in
    let left = body_without_frame v in
    let fits : missing_else_fits cx (head_of c.args.kind c.args.block_type) ≡ true = elim c.if-not-may_lack_else.branch [
      | then-not-may_lack_else+in_ok-expect_missing_else w ↦ missing_fits cx c.args.kind c.args.block_type rs true (c.may_lack_else.ensures.asked w.if-not-may_lack_else.true) c.requires.results (w.in_ok-expect_missing_else.ensures.fits cx refl)
      | else-not-may_lack_else w ↦ c.may_lack_else.ensures.fits w.if-not-may_lack_else.false cx
    ] in
    let step = end_passes (md g at) v (there g at).0 (there g at).1 left (body_pushed_each rs left) c.in_ok-popped.ensures.closes (fits_as (md g at) v (there g at).0 c.args.kind c.args.block_type (is g at) ∙ fits) (ap (λ ts. body_pushed_each ts left) (same g at)) in
    closed_moves (md g at) _ _ c.args.context.stacks.now _ c.requires.visit.open_frame (g.met.R.WasmModuleResources.lawful c.args.context.resources.now) c.requires.visit.valid rs
    (λ f e. results_as (md g at) v f c.args.kind c.args.block_type (c.requires.frame f e) rs c.requires.results)
    step c.close.result c.close.ensures.told c.close.ensures.exact
