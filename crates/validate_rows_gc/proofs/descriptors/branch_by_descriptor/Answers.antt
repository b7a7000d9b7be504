use Rattle.std.proofs.Common.{rules, ◌≡◌, Some, refl, sym, ap, ◌∙◌}
use Rattle.validate_resources.specs.Context.{ModuleContext}
use Rattle.validate_types.specs.Refs.{is_exact}
use Rattle.validation_rules.specs.Context.{Context}
use Rattle.validation_rules.specs.Descriptors.{descriptor_in, cast_desc_eq_branch_row}
use Rattle.validation_rules.specs.Static.{heads}
use Rattle.validate_stacks.specs.AtOnce.{body_dropped}
use Rattle.validate_stacks.specs.State.{body_context}
use Rattle.validate_stacks.specs.Steps.{found_in_body}
use Rattle.validate_shapes.proofs.Moves.{unmoved, moves_barred}
use Rattle.validate_rows_gc.specs.Casts.{branch_types}
use Rattle.validate_rows_gc.specs.Descriptors.{found_descriptor}
use Rattle.validate_rows_gc.proofs.Below.{dropped_once}
use Rattle.validate_rows_gc.proofs.DescriptorSteps.{not_cast, without_descriptor, branch_missing, branch_rest}
use Rattle.validate_rows_gc.proofs.descriptors.branch_by_descriptor.Given.{Over}
use Rattle.validate_rows_gc.proofs.descriptors.branch_by_descriptor.Goals.{After-is_exact}
use Rattle.validate_rows_gc.proofs.descriptors.branch_by_descriptor.Goals as goal

module _ (g : Over) (c : After-is_exact g) where
  abbrev md : ModuleContext
  md = g.R.WasmModuleResources.context c.args.context.resources.now

  abbrev cx : Context
  cx = body_context md c.args.context.stacks.now.body

  descriptor_is : descriptor_in md c.args.cast.to_ref_type.heap_type ≡ Some c.in_ok-descriptor.descriptor
  descriptor_is = ap (descriptor_in md) (sym c.heap_type-heap_type.ensures) ∙ c.in_ok-descriptor.ensures.found

  found_as_exact : found_descriptor cx (is_exact c.args.cast.to_ref_type.heap_type) c.in_ok-descriptor.descriptor (found_in_body c.args.context.stacks.now.body) ≡ found_descriptor cx c.is_exact.result c.in_ok-descriptor.descriptor (found_in_body c.args.context.stacks.now.body)
  found_as_exact = ap (λ b. found_descriptor cx b c.in_ok-descriptor.descriptor (found_in_body c.args.context.stacks.now.body)) (sym (ap is_exact c.heap_type-heap_type.ensures) ∙ sym c.is_exact.ensures)

pub returns-in_err-types : goal.returns-in_err-types
returns-in_err-types g c =
    let none = not_cast (g.R.WasmModuleResources.context c.args.context.resources.now) c.args.context.stacks.now.body c.requires.open_frame (branch_types c.args.branch) c.args.cast (heads c.args.context.stacks.now.body.present.frames) in
    moves_barred _ _ c.args.context.stacks.now (λ cx hs. cast_desc_eq_branch_row cx hs (branch_types c.args.branch) c.args.cast) _ (search rules) (search (rules, none, c.in_err-types.ensures.refused))

pub returns-in_err-descriptor : goal.returns-in_err-descriptor
returns-in_err-descriptor g c =
    let md = g.R.WasmModuleResources.context c.args.context.resources.now in
    let none = without_descriptor md c.args.context.stacks.now.body c.requires.open_frame (branch_types c.args.branch) c.args.cast (heads c.args.context.stacks.now.body.present.frames) (ap (descriptor_in md) (sym c.heap_type-heap_type.ensures) ∙ c.in_err-descriptor.ensures.refused) in
    moves_barred _ _ c.args.context.stacks.now (λ cx hs. cast_desc_eq_branch_row cx hs (branch_types c.args.branch) c.args.cast) _ (search rules) (search (rules, none))

pub returns-in_err-expect_descriptor : goal.returns-in_err-expect_descriptor
returns-in_err-expect_descriptor g c =
    let at = (goal.at.returns-in_err-expect_descriptor g c).After-is_exact in
    let none = branch_missing (md g at) c.args.context.stacks.now.body c.requires.open_frame (branch_types c.args.branch) c.args.cast c.in_ok-descriptor.descriptor c.in_ok-types.types (descriptor_is g at) c.in_ok-types.ensures.found (found_as_exact g at ∙ c.in_err-expect_descriptor.ensures.refused) in
    unmoved _ _ _ _ _ _ (search rules) refl (search (rules, none))

pub returns : goal.returns
returns g c =
    let at = (goal.at.returns g c).After-is_exact in
    let v = c.args.context.stacks.now.body in
    c.cast_branch.ensures _ (branch_rest (md g at) v c.requires.open_frame (branch_types c.args.branch) c.args.cast c.in_ok-descriptor.descriptor c.in_ok-types.types (descriptor_is g at) c.in_ok-types.ensures.found (body_dropped 1 v) (found_as_exact g at ∙ c.in_ok-expect_descriptor.ensures.passed) (dropped_once v))
