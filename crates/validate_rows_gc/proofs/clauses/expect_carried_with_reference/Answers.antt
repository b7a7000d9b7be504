use Rattle.std.proofs.Common.{rules, ◌≡◌, false, Bool, List, [], ◌∷◌, ◌++◌, ◌&&◌, map, drop, sym, refl, ap, ap₂, ◌∙◌, subst}
use Rattle.std.specs.List.{AllByRecursion}
use Rattle.validate_resources.specs.Context.{Valid}
use Rattle.validate_types.specs.declared.types.ValType.{ValType}
use Rattle.validation_rules.specs.Context.{Context}
use Rattle.validation_rules.specs.Exceptions.{exception_reference}
use Rattle.validation_rules.specs.Fits.{Known, all_fit}
use Rattle.validation_rules.specs.Static.{heads, label_accepts}
use Rattle.validation_rules.proofs.Pops.{and_false}
use Rattle.validate_stacks.specs.State.{body_context}
use Rattle.validate_shapes.proofs.BranchSteps.{label_there, label_valid}
use Rattle.validate_shapes.proofs.CarriedTypes.{accepts_none, carried_at, fits_with_last, last_none, last_of_others, front_and_last}
use Rattle.validate_rows_gc.proofs.clauses.expect_carried_with_reference.Given.{Over}
use Rattle.validate_rows_gc.proofs.clauses.expect_carried_with_reference.Goals.{After-label_types-expected, In-Some, Else-others-types}
use Rattle.validate_rows_gc.proofs.clauses.expect_carried_with_reference.Goals as goal

module _ (g : Over) (c : After-label_types-expected g) where
  abbrev cx : Context
  cx = body_context (g.R.WasmModuleResources.context c.args.context.now.resources.now) c.args.context.now.stacks.now.body

  -- what is carried
  abbrev carried : List ValType
  carried = c.args.types.now ++ exception_reference ∷ []

  abbrev accepts : Bool
  accepts = label_accepts cx (drop c.args.label_index (heads c.args.context.now.stacks.now.body.present.frames)) carried

  accepts_as_expected : accepts ≡ all_fit cx (map Known carried) c.label_types-expected.result.now
  accepts_as_expected =
      carried_at cx carried c.label_types-expected.result.now (heads c.args.context.now.stacks.now.body.present.frames) c.args.label_index _ _ c.in_ok-block_type.ensures.found (c.label_types-expected.ensures cx refl)

  expected_valid : AllByRecursion (Valid cx.of_module) c.label_types-expected.result.now
  expected_valid =
      label_valid cx.of_module c.args.context.now.stacks.now.body c.args.label_index _ (g.met.R.WasmModuleResources.lawful c.args.context.now.resources.now) c.requires.state
      (c.label_types-expected.ensures cx refl ∙ sym (label_there cx (heads c.args.context.now.stacks.now.body.present.frames) c.args.label_index _ _ c.in_ok-block_type.ensures.found).1)

module _ (g : Over) (c : In-Some g) where
  abbrev expected : After-label_types-expected g
  expected = (goal.at.In-Some g c).After-label_types-expected

  accepts_as_split : accepts g expected ≡ all_fit (cx g expected) (map Known (carried g expected)) (c.in-Some.others.now ++ c.in-Some.last.now ∷ [])
  accepts_as_split = accepts_as_expected g expected ∙ ap (all_fit (cx g expected) (map Known (carried g expected))) c.in-Some.ensures.cases.0

  others_and_last_valid : AllByRecursion (Valid (cx g expected).of_module) c.in-Some.others.now × Valid (cx g expected).of_module c.in-Some.last.now
  others_and_last_valid = front_and_last (Valid (cx g expected).of_module) _ _ (subst (AllByRecursion (Valid (cx g expected).of_module)) c.in-Some.ensures.cases.0 (expected_valid g expected))

-- as many types are carried as the label has
module _ (g : Over) (c : Else-others-types g) where
  abbrev split : In-Some g
  split = (goal.at.Else-others-types g c).In-Some

  abbrev context : Context
  context = cx g (expected g split)

  accepts_both : accepts g (expected g split) ≡ (all_fit context (map Known c.args.types.now) c.in-Some.others.now && context.of_module.below exception_reference c.in-Some.last.now)
  accepts_both = accepts_as_split g split ∙ fits_with_last context c.args.types.now c.in-Some.others.now exception_reference c.in-Some.last.now (sym c.if-others-types.false)

pub returns-in_err-block_type-clause-refused : goal.returns-in_err-block_type-clause-refused
returns-in_err-block_type-clause-refused g c =
    let v = c.args.context.now.stacks.now.body in
    search (rules, accepts_none (body_context (g.R.WasmModuleResources.context c.args.context.now.resources.now) v) (c.args.types.now ++ exception_reference ∷ []) (heads v.present.frames) c.args.label_index)

pub returns-in_default-clause-refused : goal.returns-in_default-clause-refused
returns-in_default-clause-refused g c =
    let at = (goal.at.returns-in_default-clause-refused g c).After-label_types-expected in
    accepts_as_expected g at ∙ last_none (cx g at) _ _ _ c.in_default.ensures.cases

pub returns-then-others-types-clause-refused : goal.returns-then-others-types-clause-refused
returns-then-others-types-clause-refused g c =
    let at = (goal.at.returns-then-others-types-clause-refused g c).In-Some in
    accepts_as_split g at ∙ last_of_others (cx g (expected g at)) _ _ _ _ c.if-others-types.true

pub expect_types-requires-clause-expected : goal.expect_types-requires-clause-expected
expect_types-requires-clause-expected g c = (others_and_last_valid g (goal.at.expect_types-requires-clause-expected g c).In-Some).0

pub returns-in_err-expect_types-clause-refused : goal.returns-in_err-expect_types-clause-refused
returns-in_err-expect_types-clause-refused g c =
    let at = (goal.at.returns-in_err-expect_types-clause-refused g c).Else-others-types in
    let none : all_fit (context g at) (map Known c.args.types.now) c.in-Some.others.now ≡ false → _ ≡ false =
    λ n. accepts_both g at ∙ ap (λ b. b && (context g at).of_module.below exception_reference c.in-Some.last.now) n in
    let other = c.expect_types.ensures.refused (context g at) refl in
    search (rules, none, other)

pub returns-then-not-is_subtype-clause-refused : goal.returns-then-not-is_subtype-clause-refused
returns-then-not-is_subtype-clause-refused g c =
    let at = (goal.at.returns-then-not-is_subtype-clause-refused g c).Else-others-types in
    let fit = all_fit (context g at) (map Known c.args.types.now) c.in-Some.others.now in
    accepts_both g at ∙ ap (λ b. fit && b) (sym (c.is_subtype.ensures refl (others_and_last_valid g (split g at)).1) ∙ c.if-not-is_subtype.true) ∙ and_false fit

pub returns-clause-fits : goal.returns-clause-fits
returns-clause-fits g c =
    let at = (goal.at.returns-clause-fits g c).Else-others-types in
    accepts_both g at ∙ ap₂ (λ a b. a && b) (c.in_ok-expect_types.ensures.fits (context g at) refl) (sym (c.is_subtype.ensures refl (others_and_last_valid g (split g at)).1) ∙ c.if-not-is_subtype.false)
