use Rattle.std.proofs.Common.{rules, ◌≡◌, ◌+◌, None, reverse, length, true, false, List, Option, MatchResult, refl, sym, ap, ◌∙◌, subst, arith}
use Rattle.std.specs.List.{AllByRecursion}
use Rattle.std.specs.Option.{option_and_then}
use Rattle.validate_resources.specs.Context.{ModuleContext, Valid}
use Rattle.validation_rules.specs.Branches.{has_label, label_types_at}
use Rattle.validation_rules.specs.Context.{Context}
use Rattle.validation_rules.specs.Operators.{staying_operator}
use Rattle.validation_rules.specs.References.{operand_without_null, br_on_null_row}
use Rattle.validation_rules.specs.Rows.{Head}
use Rattle.validation_rules.specs.Static.{heads}
use Rattle.validate_stacks.specs.AtOnce.{body_dropped}
use Rattle.validate_stacks.specs.Pops.{body_pushed_each, IsKept}
use Rattle.validate_stacks.specs.State.{BodyState, IsValidBody, body_context}
use Rattle.validate_stacks.specs.Steps.{found_in_body, body_popped, body_pushed, label_at}
use Rattle.validate_stacks.specs.Visits.{step_body}
use Rattle.validate_stacks.proofs.AtOnce.{dropped_none, dropped_next, dropped_open, dropped_within, popped_dropped, popped_each_kept, pushed_each_kept}
use Rattle.validate_stacks.proofs.Moves.{dropped_below, not_popped}
use Rattle.validate_stacks.proofs.Validity.{kept_on, popped_kept, popped_valid, pushed_kept, pushed_valid}
use Rattle.validate_shapes.proofs.BranchSteps.{label_there, no_label, label_valid}
use Rattle.validate_shapes.proofs.Moves.{unmoved, made_moves}
use Rattle.validate_shapes.proofs.ReferenceSteps.{above_types, on_null_is, unreferenced, above_missing, above_there}
use Rattle.validate_rows.proofs.Found.{reference_valid}
use Rattle.validate_rows.proofs.references.br_on_null.Given.{Over}
use Rattle.validate_rows.proofs.references.br_on_null.Goals.{Start, After-label_types-types}
use Rattle.validate_rows.proofs.references.br_on_null.Goals as goal

module _ (g : Over) (c : Start g) where
  abbrev md : ModuleContext
  md = g.R.WasmModuleResources.context c.args.context.resources.now

  abbrev cx : Context
  cx = body_context md c.args.context.stacks.now.body

  abbrev hs : List Head
  hs = heads c.args.context.stacks.now.body.present.frames

  abbrev below : BodyState
  below = body_dropped 1 c.args.context.stacks.now.body

  abbrev branched : Option BodyState
  branched = step_body md (λ cx. staying_operator (λ hs. br_on_null_row cx hs c.args.relative_depth)) c.args.context.stacks.now.body

  refused_at_no_reference : option_and_then operand_without_null (found_in_body c.args.context.stacks.now.body) ≡ None → branched ≡ None
  refused_at_no_reference n =
      let there = has_label hs c.args.relative_depth in
      let types = label_types_at cx hs c.args.relative_depth in
      on_null_is md c.args.context.stacks.now.body c.requires.open_frame c.args.relative_depth there types refl refl ∙ unreferenced md there types c.args.context.stacks.now.body n

  refused_at_no_label : label_at c.args.context.stacks.now.body c.args.relative_depth ≡ None → branched ≡ None
  refused_at_no_label n =
      on_null_is md c.args.context.stacks.now.body c.requires.open_frame c.args.relative_depth false _ (no_label hs c.args.relative_depth n) refl

  one_less : below ≡ body_popped c.args.context.stacks.now.body
  one_less = sym (dropped_next 0 c.args.context.stacks.now.body) ∙ ap body_popped (dropped_none c.args.context.stacks.now.body)

module _ (g : Over) (c : After-label_types-types g) where
  abbrev first : Start g
  first = (goal.at.After-label_types-types g c).Start

  types_of_label : c.label_types-types.result.now ≡ label_types_at (cx g first) (hs g first) c.args.relative_depth
  types_of_label =
      c.label_types-types.ensures (cx g first) refl ∙ sym (label_there (cx g first) (hs g first) c.args.relative_depth _ _ c.in_ok-block_type.ensures.found).1

  types_valid : AllByRecursion (Valid (md g first)) c.label_types-types.result.now
  types_valid = label_valid (md g first) c.args.context.stacks.now.body _ _ (g.met.R.WasmModuleResources.lawful c.args.context.resources.now) c.requires.valid types_of_label

  branches_on : branched g first ≡ above_types (md g first) c.label_types-types.result.now c.args.context.stacks.now.body
  branches_on =
      let there = label_there (cx g first) (hs g first) c.args.relative_depth _ _ c.in_ok-block_type.ensures.found in
      on_null_is (md g first) c.args.context.stacks.now.body c.requires.open_frame c.args.relative_depth true c.label_types-types.result.now there.0 (sym types_of_label)

pub returns-in_err-reference : goal.returns-in_err-reference
returns-in_err-reference g c =
    let none = refused_at_no_reference g (goal.at.returns-in_err-reference g c).Start c.in_err-reference.ensures.refused in
    unmoved _ _ _ _ _ _ (search rules) refl (search (rules, none))

pub returns-in_err-block_type : goal.returns-in_err-block_type
returns-in_err-block_type g c =
    let none = refused_at_no_label g (goal.at.returns-in_err-block_type g c).Start c.in_err-block_type.ensures.missing in
    unmoved _ _ _ _ _ _ (search rules) refl (search (rules, none))

pub expect_operands-requires-clause-types : goal.expect_operands-requires-clause-types
expect_operands-requires-clause-types g c = types_valid g (goal.at.expect_operands-requires-clause-types g c).After-label_types-types

-- what doesn't fit below the reference has no step
pub returns-in_err-expect_operands : goal.returns-in_err-expect_operands
returns-in_err-expect_operands g c =
    let at = goal.at.returns-in_err-expect_operands g c in
    let m = md g at.Start in
    let v = c.args.context.stacks.now.body in
    let types = c.label_types-types.result.now in
    let missing = not_popped m types (below g at.Start) (dropped_open 1 v c.requires.open_frame) c.in_err-expect_operands.ensures.unfit in
    let none = branches_on g at.After-label_types-types ∙ above_missing m types v (below g at.Start) c.in_ok-reference.reference c.in_ok-reference.ensures.pushed (one_less g at.Start) missing in
    unmoved _ _ _ _ _ _ (search rules) refl (search (rules, none))

pub returns : goal.returns
returns g c =
    let at = goal.at.returns g c in
    let m = md g at.Start in
    let v = c.args.context.stacks.now.body in
    let types = c.label_types-types.result.now in
    let t = c.in_ok-reference.reference in
    let u = body_popped v in
    let w = body_dropped (length types) (below g at.Start) in
    let x = body_pushed_each types w in
    let passed = popped_dropped m types (below g at.Start) c.in_ok-expect_operands.ensures.fit in
    let step = branches_on g at.After-label_types-types ∙ above_there m types v (below g at.Start) t c.in_ok-reference.ensures.pushed (one_less g at.Start) w passed in
    let first_valid = subst (IsValidBody m) (sym (one_less g at.Start)) (popped_valid m v c.requires.valid) in
    let first_kept = subst (IsKept v) (sym (one_less g at.Start)) (popped_kept v) in
    let second = popped_each_kept m (reverse types) (below g at.Start) w passed in
    let third = pushed_each_kept m types w in
    let whole : body_dropped c.min.result v ≡ w = sym (dropped_below (length types) 1 v ∙ dropped_within (1 + length types) c.min.result v (omega (arith, c.min.ensures, c.own_operand_count-own.ensures))) in
    let moved = subst (λ (y : BodyState). MatchResult c.exchange_topped.result (λ _. c.exchange_topped.new.self.body ≡ body_pushed t (body_pushed_each types y)) (λ _. c.exchange_topped.new.self ≡ c.args.context.stacks.now)) whole c.exchange_topped.ensures.exact in
    let valid = third.1 (types_valid g at.After-label_types-types) (second.1 first_valid) in
    made_moves m _ _ c.args.context.stacks.now _ (body_pushed t x) step (pushed_valid m t x (reference_valid m v t c.requires.valid c.in_ok-reference.ensures.pushed) valid)
    (kept_on v x _ (kept_on v w x (kept_on v (below g at.Start) w first_kept second.0) third.0) (pushed_kept t x)) c.exchange_topped.result c.exchange_topped.ensures.told moved
