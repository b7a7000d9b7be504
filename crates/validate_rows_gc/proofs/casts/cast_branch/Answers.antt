use Rattle.std.proofs.Common.{rules, ◌≡◌, true, false, reverse, List, [], ◌∷◌, ◌++◌, None, Option, Some, MatchResult, refl, sym, ap, ◌∙◌, subst, arith}
use Rattle.std.proofs.lemmas.List.{length-append}
use Rattle.std.specs.List.{AllByRecursion}
use Rattle.std.specs.Option.{option_map}
use Rattle.validate_resources.specs.Context.{ModuleContext, IsLawful, Valid}
use Rattle.validation_rules.specs.Branches.{has_label, label_types_at}
use Rattle.validation_rules.specs.Casts.{CastTypes, split_last, cast_branch_row}
use Rattle.validation_rules.specs.Context.{ValType, Context, Ref}
use Rattle.validation_rules.specs.Operators.{staying_operator}
use Rattle.validation_rules.specs.Rows.{Head, Operator}
use Rattle.validation_rules.specs.Static.{heads}
use Rattle.validation_rules.proofs.Valid.{but_last_valid}
use Rattle.validate_stacks.specs.AtOnce.{body_dropped}
use Rattle.validate_stacks.specs.Pops.{body_popped_each, body_pushed_each}
use Rattle.validate_stacks.specs.State.{BodyState, body_context}
use Rattle.validate_stacks.specs.Steps.{label_at}
use Rattle.validate_stacks.specs.Visits.{step_body}
use Rattle.validate_stacks.proofs.AtOnce.{dropped_open}
use Rattle.validate_shapes.proofs.BranchSteps.{dropped_label, label_there, label_valid, no_label}
use Rattle.validate_shapes.proofs.LastSteps.{all_both}
use Rattle.validate_shapes.proofs.LookupRows.{barred}
use Rattle.validate_shapes.proofs.Moves.{unmoved}
use Rattle.validate_shapes.proofs.Rows.{pushed_then}
use Rattle.validate_rows_gc.specs.Casts.{branch_types, cast_types}
use Rattle.validate_rows_gc.proofs.Below.{dropped_valid, unfit_below, moved_below}
use Rattle.validate_rows_gc.proofs.CastBranches.{from_valid, carried_valid, left_valid, last_is_valid, barred_unlabelled, barred_at, branch_is}
use Rattle.validate_rows_gc.proofs.casts.cast_branch.Given.{Over}
use Rattle.validate_rows_gc.proofs.casts.cast_branch.Goals.{Start, After-label_types-types, In_ok-others, After-types-cast}
use Rattle.validate_rows_gc.proofs.casts.cast_branch.Goals as goal

-- the state below the operands that go too
module _ (g : Over) (c : Start g) where
  abbrev md : ModuleContext
  md = g.R.WasmModuleResources.context c.args.context.resources.now

  abbrev below : BodyState
  below = body_dropped c.args.above c.args.context.stacks.now.body

  abbrev cx : Context
  cx = body_context md below

  abbrev hs : List Head
  hs = heads below.present.frames

  laws : IsLawful md
  laws = g.met.R.WasmModuleResources.lawful c.args.context.resources.now

  -- the step of the branch there, by its types
  abbrev branched : CastTypes → Option BodyState
  branched types = step_body md (λ x. staying_operator (λ hs. cast_branch_row x hs c.args.relative_depth types)) below

  abbrev Steps : (Context → Operator) → CastTypes → Type 0
  Steps whole types = step_body md whole c.args.context.stacks.now.body ≡ branched types

  -- its row doesn't hold
  none_where_barred : (whole : Context → Operator) (types : CastTypes) → Steps whole types → (cast_branch_row cx hs c.args.relative_depth types).premise ≡ false → step_body md whole c.args.context.stacks.now.body ≡ None
  none_where_barred whole types same h = same ∙ barred md below (λ x hs. cast_branch_row x hs c.args.relative_depth types) h

-- the label is there
module _ (g : Over) (c : After-label_types-types g) where
  abbrev start : Start g
  start = (goal.at.After-label_types-types g c).Start

  there : label_at (below g start) c.args.relative_depth ≡ Some (c.in_ok-block_type.block_type, c.in_ok-block_type.kind)
  there = dropped_label c.args.above c.args.relative_depth c.args.context.stacks.now.body ∙ c.in_ok-block_type.ensures.found

  has_the_label : has_label (hs g start) c.args.relative_depth ≡ true
  has_the_label = (label_there (cx g start) (hs g start) c.args.relative_depth _ _ there).0

  types_of_label : c.label_types-types.result.now ≡ label_types_at (cx g start) (hs g start) c.args.relative_depth
  types_of_label = c.label_types-types.ensures (cx g start) refl ∙ sym (label_there (cx g start) (hs g start) c.args.relative_depth _ _ there).1

  types_valid : AllByRecursion (Valid (md g start)) c.label_types-types.result.now
  types_valid = label_valid (md g start) (below g start) c.args.relative_depth c.label_types-types.result.now (laws g start) (dropped_valid (md g start) c.args.above c.args.context.stacks.now.body c.requires.visit.valid) types_of_label

-- it has a last type
module _ (g : Over) (c : In_ok-others g) where
  abbrev labelled : After-label_types-types g
  labelled = (goal.at.In_ok-others g c).After-label_types-types

  ends_in_last : split_last (label_types_at (cx g (start g labelled)) (hs g (start g labelled)) c.args.relative_depth) ≡ Some (c.in_ok-others.others.now, c.in_ok-others.last)
  ends_in_last = ap split_last (sym (types_of_label g labelled)) ∙ c.in_ok-others.ensures.found

  others_valid : AllByRecursion (Valid (md g (start g labelled))) c.in_ok-others.others.now
  others_valid = but_last_valid (cx g (start g labelled)) (laws g (start g labelled)) c.label_types-types.result.now (c.in_ok-others.others.now, c.in_ok-others.last) (types_valid g labelled) c.in_ok-others.ensures.found

-- the types of the branch are known
module _ (g : Over) (c : After-types-cast g) where
  abbrev first : Start g
  first = (goal.at.After-types-cast g c).Start

  abbrev types : CastTypes
  types = cast_types c.types-cast.result

  by_types : (whole : Context → Operator) → Steps g first whole (branch_types c.args.branch c.args.cast) → Steps g first whole types
  by_types whole same = same ∙ ap (branched g first) (sym c.types-cast.ensures)

  from_is_valid : Valid (md g first) (Ref types.from)
  from_is_valid = subst (λ (t : CastTypes). Valid (md g first) (Ref t.from)) (sym c.types-cast.ensures) (from_valid (cx g first) (laws g first) c.args.cast c.requires.from c.requires.to c.args.branch)

  carried_is_valid : Valid (md g first) (Ref types.carried)
  carried_is_valid = subst (λ (t : CastTypes). Valid (md g first) (Ref t.carried)) (sym c.types-cast.ensures) (carried_valid (cx g first) (laws g first) c.args.cast c.requires.from c.requires.to c.args.branch)

  left_is_valid : Valid (md g first) (Ref types.left)
  left_is_valid = subst (λ (t : CastTypes). Valid (md g first) (Ref t.left)) (sym c.types-cast.ensures) (left_valid (cx g first) (laws g first) c.args.cast c.requires.from c.requires.to c.args.branch)

  abbrev expected : List ValType
  expected = c.in_ok-others.others.now ++ Ref types.from ∷ []

  abbrev pushed : List ValType
  pushed = c.in_ok-others.others.now ++ Ref types.left ∷ []

  -- what is carried lies below the last type
  branches : (md g first).below (Ref types.carried) c.in_ok-others.last ≡ true → (whole : Context → Operator) → Steps g first whole (branch_types c.args.branch c.args.cast) → step_body (md g first) whole c.args.context.stacks.now.body ≡ option_map (λ u. body_pushed_each pushed u) (body_popped_each (md g first) (reverse expected) (below g first))
  branches carried whole same =
      let at = goal.at.After-types-cast g c in
      by_types whole same
      ∙ branch_is (md g first) (below g first) (dropped_open c.args.above c.args.context.stacks.now.body c.requires.visit.open_frame) c.args.relative_depth types c.in_ok-others.others.now c.in_ok-others.last (has_the_label g at.After-label_types-types) (ends_in_last g at.In_ok-others) carried

pub returns-in_err-block_type : goal.returns-in_err-block_type
returns-in_err-block_type g c = λ whole same.
    let start = (goal.at.returns-in_err-block_type g c).Start in
    let types = branch_types c.args.branch c.args.cast in
    let missing = dropped_label c.args.above c.args.relative_depth c.args.context.stacks.now.body ∙ c.in_err-block_type.ensures.missing in
    let none = none_where_barred g start whole types same (barred_unlabelled (md g start) (below g start) c.args.relative_depth types (no_label (hs g start) c.args.relative_depth missing)) in
    unmoved _ _ whole _ _ _ (search rules) refl (search (rules, none))

pub returns-in_err-others : goal.returns-in_err-others
returns-in_err-others g c = λ whole same.
    let at = goal.at.returns-in_err-others g c in
    let labelled = at.After-label_types-types in
    let types = branch_types c.args.branch c.args.cast in
    let ends = ap split_last (sym (types_of_label g labelled)) ∙ c.in_err-others.ensures.refused in
    let none = none_where_barred g at.Start whole types same (barred_at (md g at.Start) (below g at.Start) c.args.relative_depth types None (has_the_label g labelled) ends tt) in
    unmoved _ _ whole _ _ _ (search rules) refl (search (rules, none))

pub check_carried-requires-clause-label : goal.check_carried-requires-clause-label
check_carried-requires-clause-label g c =
    let at = goal.at.check_carried-requires-clause-label g c in
    last_is_valid (md g at.Start) c.label_types-types.result.now (c.in_ok-others.others.now, c.in_ok-others.last) (types_valid g at.After-label_types-types) c.in_ok-others.ensures.found

pub check_carried-requires-clause-carried : goal.check_carried-requires-clause-carried
check_carried-requires-clause-carried g c = carried_is_valid g (goal.at.check_carried-requires-clause-carried g c).After-types-cast

pub returns-in_err-check_carried : goal.returns-in_err-check_carried
returns-in_err-check_carried g c = λ whole same.
    let at = goal.at.returns-in_err-check_carried g c in
    let found : Option (List ValType × ValType) = Some (c.in_ok-others.others.now, c.in_ok-others.last) in
    let barred_here = barred_at (md g at.Start) (below g at.Start) c.args.relative_depth (types g at.After-types-cast) found (has_the_label g at.After-label_types-types) (ends_in_last g at.In_ok-others) c.in_err-check_carried.ensures.refused in
    let none = none_where_barred g at.Start whole (types g at.After-types-cast) (by_types g at.After-types-cast whole same) barred_here in
    unmoved _ _ whole _ _ _ (search rules) refl (search (rules, none))

pub expect_with_top-requires-clause-under : goal.expect_with_top-requires-clause-under
expect_with_top-requires-clause-under g c = others_valid g (goal.at.expect_with_top-requires-clause-under g c).In_ok-others

pub expect_with_top-requires-clause-top : goal.expect_with_top-requires-clause-top
expect_with_top-requires-clause-top g c = from_is_valid g (goal.at.expect_with_top-requires-clause-top g c).After-types-cast

pub returns-in_err-expect_with_top : goal.returns-in_err-expect_with_top
returns-in_err-expect_with_top g c = λ whole same.
    let at = goal.at.returns-in_err-expect_with_top g c in
    let typed = at.After-types-cast in
    let is = branches g typed c.in_ok-check_carried.ensures.passed whole same in
    let none = unfit_below (md g at.Start) g.A.Refused.tells whole c.args.context.stacks.now c.args.context.stacks.now c.args.above (expected g typed) (pushed g typed) is c.requires.visit.open_frame c.in_err-expect_with_top.ensures.unfit in
    unmoved _ _ whole _ _ _ (search rules) refl (search (rules, none))

pub returns : goal.returns
returns g c = λ whole same.
    let at = goal.at.returns g c in
    let typed = at.After-types-cast in
    let others = c.in_ok-others.others.now in
    let is = branches g typed c.in_ok-check_carried.ensures.passed whole same in
    let valid = all_both (Valid (md g at.Start)) others (Ref (types g typed).left ∷ []) (others_valid g at.In_ok-others) (left_is_valid g typed, tt) in
    let put = sym (pushed_then others (Ref (types g typed).left ∷ []) (body_dropped c.min-popped.result c.args.context.stacks.now.body)) in
    let moved = subst (λ (u : BodyState). MatchResult c.exchange_topped.result (λ _. c.exchange_topped.new.self.body ≡ u) (λ _. c.exchange_topped.new.self ≡ c.args.context.stacks.now)) put c.exchange_topped.ensures.exact in
    moved_below (md g at.Start) g.A.Refused.tells whole c.args.context.stacks.now _ c.args.above (expected g typed) (pushed g typed) is c.in_ok-expect_with_top.ensures.fit valid c.requires.visit.valid c.min-popped.result
    (omega (arith, c.min-popped.ensures, c.own_operand_count.ensures, length-append others (Ref (types g typed).from ∷ []))) c.exchange_topped.result c.exchange_topped.ensures.told moved
