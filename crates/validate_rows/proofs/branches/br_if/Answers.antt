use Rattle.std.proofs.Common.{rules, ◌≡◌, ◌+◌, true, false, [], ◌∷◌, Some, MatchResult, length, reverse, refl, sym, ◌∙◌, subst, arith}
use Rattle.std.specs.List.{AllByRecursion}
use Rattle.validate_resources.specs.Context.{ModuleContext, Valid}
use Rattle.validation_rules.specs.Context.{I32}
use Rattle.validate_stacks.specs.AtOnce.{body_dropped}
use Rattle.validate_stacks.specs.Pops.{body_popped_each, body_pushed_each}
use Rattle.validate_stacks.specs.State.{BodyState, body_context}
use Rattle.validate_stacks.proofs.AtOnce.{dropped_within, popped_dropped, popped_each_kept, pushed_each_kept}
use Rattle.validate_stacks.proofs.Moves.{dropped_below, fits_now, not_popped}
use Rattle.validate_stacks.proofs.Validity.{kept_on}
use Rattle.validate_shapes.proofs.BranchSteps.{label_valid, dropped_label, still_open, br_if_types, br_if_untested, br_if_none, br_if_refused, br_if_passes}
use Rattle.validate_shapes.proofs.Moves.{unmoved, made_moves}
use Rattle.validate_rows.proofs.branches.br_if.Given.{Over}
use Rattle.validate_rows.proofs.branches.br_if.Goals.{In_ok-expect_operands, After-label_types-types}
use Rattle.validate_rows.proofs.branches.br_if.Goals as goal

-- the test is there, and is dropped
module _ (g : Over) (c : In_ok-expect_operands g) where
  abbrev md : ModuleContext
  md = g.R.WasmModuleResources.context c.args.context.resources.now

  abbrev below : BodyState
  below = body_dropped 1 c.args.context.stacks.now.body

  tested : body_popped_each md (reverse (I32 ∷ [])) c.args.context.stacks.now.body ≡ Some below
  tested = popped_dropped md (I32 ∷ []) c.args.context.stacks.now.body (fits_now md (I32 ∷ []) c.args.context.stacks.now.body true c.in_ok-expect_operands.ensures.fit)

types_valid : (g : Over) (c : After-label_types-types g) → AllByRecursion (Valid (g.R.WasmModuleResources.context c.args.context.resources.now)) c.label_types-types.result.now
types_valid g c =
    let md = g.R.WasmModuleResources.context c.args.context.resources.now in
    let v = c.args.context.stacks.now.body in
    label_valid md v c.args.relative_depth _ (g.met.R.WasmModuleResources.lawful c.args.context.resources.now) c.requires.valid
    (br_if_types md v c.requires.open_frame c.args.relative_depth _ _ c.label_types-types.result.now c.in_ok-block_type.ensures.found (c.label_types-types.ensures (body_context md v) refl))

pub returns-in_err-expect_operands : goal.returns-in_err-expect_operands
returns-in_err-expect_operands g c =
    let md = g.R.WasmModuleResources.context c.args.context.resources.now in
    let v = c.args.context.stacks.now.body in
    let unfit = fits_now md (I32 ∷ []) v false c.in_err-expect_operands.ensures.unfit in
    let none = br_if_untested md v c.requires.open_frame c.args.relative_depth (not_popped md (I32 ∷ []) v c.requires.open_frame unfit) in
    unmoved _ _ _ _ _ _ (search rules) refl (search (rules, none))

pub returns-in_err-block_type : goal.returns-in_err-block_type
returns-in_err-block_type g c =
    let at = (goal.at.returns-in_err-block_type g c).In_ok-expect_operands in
    let v = c.args.context.stacks.now.body in
    let d = c.args.relative_depth in
    let none = br_if_none (md g at) v c.requires.open_frame d (below g at) (tested g at) (dropped_label 1 d v ∙ c.in_err-block_type.ensures.missing) in
    unmoved _ _ _ _ _ _ (search rules) refl (search (rules, none))

pub expect_operands-requires-2-clause-types : goal.expect_operands-requires-2-clause-types
expect_operands-requires-2-clause-types g c = types_valid g (goal.at.expect_operands-requires-2-clause-types g c).After-label_types-types

pub returns-in_err-expect_operands-2 : goal.returns-in_err-expect_operands-2
returns-in_err-expect_operands-2 g c =
    let at = (goal.at.returns-in_err-expect_operands-2 g c).In_ok-expect_operands in
    let v = c.args.context.stacks.now.body in
    let d = c.args.relative_depth in
    let types = c.label_types-types.result.now in
    let there = still_open (md g at) (reverse (I32 ∷ [])) v (below g at) (tested g at) c.requires.open_frame in
    let none = br_if_refused (md g at) v c.requires.open_frame d (below g at) (tested g at) _ _ types (dropped_label 1 d v ∙ c.in_ok-block_type.ensures.found) (c.label_types-types.ensures (body_context (md g at) v) refl) (not_popped (md g at) types (below g at) there c.in_err-expect_operands-2.ensures.unfit) in
    unmoved _ _ _ _ _ _ (search rules) refl (search (rules, none))

pub returns : goal.returns
returns g c =
    let at = (goal.at.returns g c).In_ok-expect_operands in
    let m = md g at in
    let v = c.args.context.stacks.now.body in
    let d = c.args.relative_depth in
    let types = c.label_types-types.result.now in
    let u = below g at in
    let w = body_dropped (length types) u in
    let passed = popped_dropped m types u c.in_ok-expect_operands-2.ensures.fit in
    let step = br_if_passes m v c.requires.open_frame d u (tested g at) _ _ types (dropped_label 1 d v ∙ c.in_ok-block_type.ensures.found) (c.label_types-types.ensures (body_context m v) refl) w passed in
    let first = popped_each_kept m (reverse (I32 ∷ [])) v u (tested g at) in
    let second = popped_each_kept m (reverse types) u w passed in
    let third = pushed_each_kept m types w in
    let whole : body_dropped c.min.result v ≡ w = sym (dropped_below (length types) 1 v ∙ dropped_within (1 + length types) c.min.result v (omega (arith, c.min.ensures, c.own_operand_count-own.ensures))) in
    let moved = subst (λ (x : BodyState). MatchResult c.exchange.result (λ _. c.exchange.new.self.body ≡ body_pushed_each types x) (λ _. c.exchange.new.self ≡ c.args.context.stacks.now)) whole c.exchange.ensures.exact in
    made_moves m _ _ c.args.context.stacks.now _ (body_pushed_each types w) step (third.1 (types_valid g (goal.at.returns g c).After-label_types-types) (second.1 (first.1 c.requires.valid)))
    (kept_on v w _ (kept_on v u w first.0 second.0) third.0) c.exchange.result c.exchange.ensures.told moved
