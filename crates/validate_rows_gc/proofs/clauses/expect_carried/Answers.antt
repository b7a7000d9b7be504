use Rattle.std.proofs.Common.{rules, ◌≡◌, true, false, OnOk, OnErr, map, drop, sym, refl, ◌∙◌, subst}
use Rattle.validation_rules.specs.Context.{Context}
use Rattle.validation_rules.specs.Fits.{Known, all_fit}
use Rattle.validation_rules.specs.Static.{heads, label_accepts}
use Rattle.validate_stacks.specs.State.{body_context}
use Rattle.validate_shapes.proofs.BranchSteps.{label_there, label_valid}
use Rattle.validate_shapes.proofs.TypesBelow.{other_count}
use Rattle.validate_shapes.proofs.CarriedTypes.{accepts_none, carried_at}
use Rattle.validate_rows_gc.proofs.clauses.expect_carried.Given.{Over}
use Rattle.validate_rows_gc.proofs.clauses.expect_carried.Goals.{After-label_types-expected}
use Rattle.validate_rows_gc.proofs.clauses.expect_carried.Goals as goal

module _ (g : Over) (c : After-label_types-expected g) where
  abbrev cx : Context
  cx = body_context (g.R.WasmModuleResources.context c.args.context.now.resources.now) c.args.context.now.stacks.now.body

  accepts_as_expected : label_accepts cx (drop c.args.label_index (heads c.args.context.now.stacks.now.body.present.frames)) c.args.types.now ≡ all_fit cx (map Known c.args.types.now) c.label_types-expected.result.now
  accepts_as_expected = carried_at cx c.args.types.now c.label_types-expected.result.now (heads c.args.context.now.stacks.now.body.present.frames) c.args.label_index _ _ c.in_ok-block_type.ensures.found (c.label_types-expected.ensures cx refl)

pub returns-in_err-block_type-clause-refused : goal.returns-in_err-block_type-clause-refused
returns-in_err-block_type-clause-refused g c =
    let cx = body_context (g.R.WasmModuleResources.context c.args.context.now.resources.now) c.args.context.now.stacks.now.body in
    let none = accepts_none cx c.args.types.now (heads c.args.context.now.stacks.now.body.present.frames) c.args.label_index in
    search (rules, none)

pub returns-then-expected-types-clause-refused : goal.returns-then-expected-types-clause-refused
returns-then-expected-types-clause-refused g c =
    let at = (goal.at.returns-then-expected-types-clause-refused g c).After-label_types-expected in
    accepts_as_expected g at ∙ sym (other_count (cx g at) c.args.types.now c.label_types-expected.result.now (λ e. c.if-expected-types.true (sym e)))

pub expect_types-requires-clause-expected : goal.expect_types-requires-clause-expected
expect_types-requires-clause-expected g c =
    let v = c.args.context.now.stacks.now.body in
    let cx = body_context (g.R.WasmModuleResources.context c.args.context.now.resources.now) v in
    let label = label_there cx (heads v.present.frames) c.args.label_index _ _ c.in_ok-block_type.ensures.found in
    label_valid cx.of_module v c.args.label_index _ (g.met.R.WasmModuleResources.lawful c.args.context.now.resources.now) c.requires.state (c.label_types-expected.ensures cx refl ∙ sym label.1)

pub returns-clause-fits : goal.returns-clause-fits
returns-clause-fits g c =
    let at = (goal.at.returns-clause-fits g c).After-label_types-expected in
    subst (λ b. OnOk c.expect_types.result (b ≡ true)) (sym (accepts_as_expected g at)) (c.expect_types.ensures.fits (cx g at) refl)

pub returns-clause-refused : goal.returns-clause-refused
returns-clause-refused g c =
    let at = (goal.at.returns-clause-refused g c).After-label_types-expected in
    subst (λ b. OnErr c.expect_types.result (b ≡ false)) (sym (accepts_as_expected g at)) (c.expect_types.ensures.refused (cx g at) refl)
