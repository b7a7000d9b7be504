use Rattle.std.proofs.Common.{rules, ◌≡◌, Bool, true, false, Some, length, nat_eq, refl, sym, ◌∙◌}
use Rattle.validate_resources.specs.Context.{ModuleContext}
use Rattle.validation_rules.specs.Context.{Context}
use Rattle.validation_rules.specs.Static.{heads}
use Rattle.validate_stacks.specs.AtOnce.{body_dropped}
use Rattle.validate_stacks.specs.Pops.{has_operands_fitting}
use Rattle.validate_stacks.specs.State.{BodyState, body_context}
use Rattle.validate_stacks.specs.Steps.{label_at}
use Rattle.validate_shapes.proofs.BranchSteps.{dropped_label, label_there, label_valid}
use Rattle.validate_rows.specs.Targets.{is_table_target}
use Rattle.validate_rows.proofs.BranchTables.{not_a_label, of_another_count, of_that_count}
use Rattle.validate_rows.proofs.branches.expect_target.Given.{Over}
use Rattle.validate_rows.proofs.branches.expect_target.Goals.{After-label_types-types}
use Rattle.validate_rows.proofs.branches.expect_target.Goals as goal

module _ (g : Over) (c : After-label_types-types g) where
  abbrev md : ModuleContext
  md = g.R.WasmModuleResources.context c.args.context.now.resources.now

  abbrev cx : Context
  cx = body_context md c.args.context.now.stacks.now.body

  abbrev below : BodyState
  below = body_dropped 1 c.args.context.now.stacks.now.body

  there : label_at below c.args.relative_depth ≡ Some (c.in_ok-block_type.block_type, c.in_ok-block_type.kind)
  there = dropped_label 1 c.args.relative_depth c.args.context.now.stacks.now.body ∙ c.in_ok-block_type.ensures.found

  no_target_by_count : nat_eq (length c.label_types-types.result.now) c.args.count ≡ false → is_table_target md below c.args.count c.args.relative_depth ≡ false
  no_target_by_count = of_another_count md below c.args.relative_depth c.args.count _ _ c.label_types-types.result.now there (c.label_types-types.ensures cx refl)

  target_by_operands : (b : Bool) → nat_eq (length c.label_types-types.result.now) c.args.count ≡ true → has_operands_fitting cx c.label_types-types.result.now below ≡ b → is_table_target md below c.args.count c.args.relative_depth ≡ b
  target_by_operands = of_that_count md below c.args.relative_depth c.args.count _ _ c.label_types-types.result.now there (c.label_types-types.ensures cx refl)

pub returns-in_err-block_type-clause-unfit : goal.returns-in_err-block_type-clause-unfit
returns-in_err-block_type-clause-unfit g c =
    let v = c.args.context.now.stacks.now.body in
    let none = not_a_label (g.R.WasmModuleResources.context c.args.context.now.resources.now) (body_dropped 1 v) c.args.relative_depth c.args.count (dropped_label 1 c.args.relative_depth v ∙ c.in_err-block_type.ensures.missing) in
    search (rules, none)

pub returns-then-types-count-clause-unfit : goal.returns-then-types-count-clause-unfit
returns-then-types-count-clause-unfit g c = no_target_by_count g (goal.at.returns-then-types-count-clause-unfit g c).After-label_types-types (search rules)

pub returns-clause-fits : goal.returns-clause-fits
returns-clause-fits g c = search (rules, target_by_operands g (goal.at.returns-clause-fits g c).After-label_types-types true (search rules))

pub returns-clause-unfit : goal.returns-clause-unfit
returns-clause-unfit g c = search (rules, target_by_operands g (goal.at.returns-clause-unfit g c).After-label_types-types false (search rules))

pub expect_operands-requires-clause-types : goal.expect_operands-requires-clause-types
expect_operands-requires-clause-types g c =
    let cx = body_context (g.R.WasmModuleResources.context c.args.context.now.resources.now) c.args.context.now.stacks.now.body in
    let there = label_there cx (heads c.args.context.now.stacks.now.body.present.frames) c.args.relative_depth _ _ c.in_ok-block_type.ensures.found in
    label_valid cx.of_module c.args.context.now.stacks.now.body c.args.relative_depth _ (g.met.R.WasmModuleResources.lawful c.args.context.now.resources.now) c.requires (c.label_types-types.ensures cx refl ∙ sym there.1)
