use Rattle.std.proofs.Common.{rules, ◌≡◌, true, false, Some, refl, sym, ap, ◌∙◌, subst}
use Rattle.validate_resources.specs.Context.{ModuleContext}
use Rattle.validate_visit.specs.declared.frame.Frame.{Frame as FlatFrame}
use Rattle.validate_visit.specs.declared.frame.FrameKind.TheVariants.{Else}
use Rattle.validation_rules.specs.Context.{block_signature}
use Rattle.validation_rules.specs.Rows.{BeginsElse, is_if}
use Rattle.validation_rules.specs.Valid.{IsValidBlock}
use Rattle.validate_stacks.specs.Pops.{body_pushed_each}
use Rattle.validate_stacks.specs.Steps.{body_with_frame, body_without_frame, frame_at}
use Rattle.validate_stacks.proofs.ClosedFrames.{block_valid, frame_found, takes_valid}
use Rattle.validate_shapes.proofs.Moves.{unmoved}
use Rattle.validate_shapes.proofs.PartMoves.{begun_moves, begun_whole}
use Rattle.validate_shapes.proofs.Parts.{body_with_part, params_of, else_begins, part_none, part_of_another, part_passes}
use Rattle.validate_rows.proofs.Ends.{results_as}
use Rattle.validate_rows.proofs.control.else_after.Given.{Over}
use Rattle.validate_rows.proofs.control.else_after.Goals.{After-find_results}
use Rattle.validate_rows.proofs.control.else_after.Goals as goal

pub find_results-requires-clause-results : goal.find_results-requires-clause-results
find_results-requires-clause-results g c =
    let md = g.R.WasmModuleResources.context c.args.context.resources.now in
    λ f e. results_as md c.args.context.stacks.now.body f c.args.kind c.args.block_type (c.requires.frame f e) c.args.results.now c.requires.results

pub returns-in_err-popped : goal.returns-in_err-popped
returns-in_err-popped g c =
    let none = part_none BeginsElse is_if Else params_of else_begins (g.R.WasmModuleResources.context c.args.context.resources.now) c.args.context.stacks.now.body c.requires.visit.open_frame c.in_err-popped.ensures.stays in
    unmoved _ _ _ _ _ _ (search rules) refl (search (rules, none))

module _ (g : Over) (c : After-find_results g) where
  abbrev md : ModuleContext
  md = g.R.WasmModuleResources.context c.args.context.resources.now

  abbrev there : (r : FlatFrame) × (frame_at c.args.context.stacks.now.body 0 ≡ Some r)
  there = frame_found c.args.context.stacks.now.body c.requires.visit.open_frame

  abbrev is : (there.0.kind ≡ c.args.kind) × (there.0.block_type ≡ c.args.block_type)
  is = c.requires.frame there.0 there.1

pub returns-then-not-is_if_part : goal.returns-then-not-is_if_part
returns-then-not-is_if_part g c =
    let at = (goal.at.returns-then-not-is_if_part g c).After-find_results in
    let other : is_if (there g at).0.kind ≡ false = ap is_if (is g at).0 ∙ sym c.is_if_part.ensures ∙ c.if-not-is_if_part.true in
    let none = part_of_another BeginsElse is_if Else params_of else_begins (md g at) c.args.context.stacks.now.body (there g at).0 (there g at).1 other in
    unmoved _ _ _ _ _ _ (search rules) refl (search (rules, none))

pub returns : goal.returns
returns g c =
    let at = (goal.at.returns g c).After-find_results in
    let v = c.args.context.stacks.now.body in
    let bt = c.args.block_type in
    let ps = c.params-params.result.now in
    let left = body_without_frame v in
    let laws = g.met.R.WasmModuleResources.lawful c.args.context.resources.now in
    let block = subst (IsValidBlock (md g at) v.shared) (is g at).1 (block_valid (md g at) v (there g at).0 (there g at).1 c.requires.visit.valid) in
    let part : is_if (there g at).0.kind ≡ true = ap is_if (is g at).0 ∙ sym c.is_if_part.ensures ∙ c.if-not-is_if_part.false in
    let begun = body_pushed_each ps (body_with_frame Else bt left) in
    let whole : begun ≡ body_with_part Else (there g at).0.block_type (block_signature (md g at) (there g at).0.block_type).params left =
    begun_whole Else bt ps left
    ∙ ap (λ ts. body_with_part Else bt ts left) c.params-params.ensures
    ∙ ap (λ b. body_with_part Else b (block_signature (md g at) b).params left) (sym (is g at).1) in
    let step = part_passes BeginsElse is_if Else params_of else_begins (md g at) v (there g at).0 (there g at).1 left begun c.in_ok-popped.ensures.closes part whole in
    begun_moves (md g at) _ _ c.args.context.stacks.now _ c.requires.visit.open_frame laws c.requires.visit.valid Else bt ps (λ f e. (c.requires.frame f e).1) (takes_valid (md g at) v.shared bt ps laws block c.params-params.ensures)
    step c.reopen_with.result c.reopen_with.ensures.told c.reopen_with.ensures.exact
