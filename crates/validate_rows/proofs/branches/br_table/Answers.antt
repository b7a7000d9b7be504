use Rattle.std.proofs.Common.{rules, ◌≡◌, true, false, [], ◌∷◌, length, Option, Some, None, reverse, refl, sym, ◌∙◌}
use Rattle.validate_resources.specs.Context.{ModuleContext}
use Rattle.validation_rules.specs.Branches.{br_table_row}
use Rattle.validation_rules.specs.Context.{I32}
use Rattle.validation_rules.specs.Operators.{staying_operator}
use Rattle.validate_stacks.specs.AtOnce.{body_dropped}
use Rattle.validate_stacks.specs.Pops.{body_popped_each, has_operands_fitting}
use Rattle.validate_stacks.specs.State.{BodyState, body_context}
use Rattle.validate_stacks.specs.Steps.{label_at, body_unreachable}
use Rattle.validate_stacks.specs.Visits.{step_body}
use Rattle.validate_stacks.proofs.AtOnce.{ended_dropped, popped_dropped}
use Rattle.validate_stacks.proofs.Moves.{fits_now, not_popped}
use Rattle.validate_shapes.proofs.BranchSteps.{dropped_label, label_valid, still_open}
use Rattle.validate_shapes.proofs.Moves.{unmoved, made_moves, never_refused, unreachable_valid}
use Rattle.validate_rows.specs.Targets.{are_targets}
use Rattle.validate_rows.proofs.BranchTables.{table_untested, table_none, types_table, table_refused, table_other_targets, table_passes}
use Rattle.validate_rows.proofs.branches.br_table.Given.{Over}
use Rattle.validate_rows.proofs.branches.br_table.Goals.{Start, In_ok-expect_operands, After-label_types-types}
use Rattle.validate_rows.proofs.branches.br_table.Goals as goal

module _ (g : Over) (c : Start g) where
  abbrev md : ModuleContext
  md = g.R.WasmModuleResources.context c.args.context.resources.now

  abbrev branched : Option BodyState
  branched = step_body md (λ cx. staying_operator (λ hs. br_table_row cx hs c.args.table.now.complete c.args.table.now.targets.now c.args.table.now.default)) c.args.context.stacks.now.body

  abbrev below : BodyState
  below = body_dropped 1 c.args.context.stacks.now.body

  untested : has_operands_fitting (body_context md c.args.context.stacks.now.body) (I32 ∷ []) (body_dropped 0 c.args.context.stacks.now.body) ≡ false → branched ≡ None
  untested h =
      let v = c.args.context.stacks.now.body in
      table_untested md v c.requires.open_frame c.args.table.now.complete c.args.table.now.targets.now c.args.table.now.default (not_popped md (I32 ∷ []) v c.requires.open_frame (fits_now md (I32 ∷ []) v false h))

-- the operand that chooses is there, and is dropped
module _ (g : Over) (c : In_ok-expect_operands g) where
  abbrev start : Start g
  start = (goal.at.In_ok-expect_operands g c).Start

  tested : body_popped_each (md g start) (reverse (I32 ∷ [])) c.args.context.stacks.now.body ≡ Some (below g start)
  tested = popped_dropped (md g start) (I32 ∷ []) c.args.context.stacks.now.body (fits_now (md g start) (I32 ∷ []) c.args.context.stacks.now.body true c.in_ok-expect_operands.ensures.fit)

  nowhere : label_at c.args.context.stacks.now.body c.args.table.now.default ≡ None → branched g start ≡ None
  nowhere n =
      let v = c.args.context.stacks.now.body in
      table_none (md g start) v c.requires.open_frame c.args.table.now.complete c.args.table.now.targets.now c.args.table.now.default (below g start) tested (dropped_label 1 c.args.table.now.default v ∙ n)

module _ (g : Over) (c : After-label_types-types g) where
  abbrev at_test : In_ok-expect_operands g
  at_test = (goal.at.After-label_types-types g c).In_ok-expect_operands

  abbrev first : Start g
  first = (goal.at.After-label_types-types g c).Start

  default_found : label_at (below g first) c.args.table.now.default ≡ Some (c.in_ok-block_type.block_type, c.in_ok-block_type.kind)
  default_found = dropped_label 1 c.args.table.now.default c.args.context.stacks.now.body ∙ c.in_ok-block_type.ensures.found

  other_targets : are_targets (md g first) (below g first) (length c.label_types-types.result.now) c.args.table.now.complete c.args.table.now.targets.now ≡ false → branched g first ≡ None
  other_targets =
      table_other_targets (md g first) c.args.context.stacks.now.body c.requires.open_frame c.args.table.now.complete c.args.table.now.targets.now c.args.table.now.default (below g first) (tested g at_test) c.in_ok-block_type.block_type c.in_ok-block_type.kind c.label_types-types.result.now default_found (c.label_types-types.ensures (body_context (md g first) c.args.context.stacks.now.body) refl)

  other_types : has_operands_fitting (body_context (md g first) c.args.context.stacks.now.body) c.label_types-types.result.now (below g first) ≡ false → branched g first ≡ None
  other_types h =
      let v = c.args.context.stacks.now.body in
      let there = still_open (md g first) (reverse (I32 ∷ [])) v (below g first) (tested g at_test) c.requires.open_frame in
      table_refused (md g first) v c.requires.open_frame c.args.table.now.complete c.args.table.now.targets.now c.args.table.now.default (below g first) (tested g at_test) c.in_ok-block_type.block_type c.in_ok-block_type.kind c.label_types-types.result.now default_found (c.label_types-types.ensures (body_context (md g first) v) refl) (not_popped (md g first) c.label_types-types.result.now (below g first) there h)

pub returns-in_err-expect_operands-clause-row : goal.returns-in_err-expect_operands-clause-row
returns-in_err-expect_operands-clause-row g c =
    let none = untested g (goal.at.returns-in_err-expect_operands-clause-row g c).Start c.in_err-expect_operands.ensures.unfit in
    unmoved _ _ _ _ _ _ (search rules) refl (search (rules, none))

pub returns-in_err-expect_operands-clause-idle : goal.returns-in_err-expect_operands-clause-idle
returns-in_err-expect_operands-clause-idle g c =
    let none = untested g (goal.at.returns-in_err-expect_operands-clause-idle g c).Start c.in_err-expect_operands.ensures.unfit in
    search (rules, none)

pub returns-in_err-block_type-clause-row : goal.returns-in_err-block_type-clause-row
returns-in_err-block_type-clause-row g c =
    let none = nowhere g (goal.at.returns-in_err-block_type-clause-row g c).In_ok-expect_operands c.in_err-block_type.ensures.missing in
    unmoved _ _ _ _ _ _ (search rules) refl (search (rules, none))

pub returns-in_err-block_type-clause-idle : goal.returns-in_err-block_type-clause-idle
returns-in_err-block_type-clause-idle g c =
    let none = nowhere g (goal.at.returns-in_err-block_type-clause-idle g c).In_ok-expect_operands c.in_err-block_type.ensures.missing in
    search (rules, none)

pub returns-in_err-expect_targets-clause-row : goal.returns-in_err-expect_targets-clause-row
returns-in_err-expect_targets-clause-row g c =
    let none = other_targets g (goal.at.returns-in_err-expect_targets-clause-row g c).After-label_types-types c.in_err-expect_targets.ensures.unfit in
    unmoved _ _ _ _ _ _ (search rules) refl (search (rules, none))

pub returns-in_err-expect_targets-clause-idle : goal.returns-in_err-expect_targets-clause-idle
returns-in_err-expect_targets-clause-idle g c =
    let none = other_targets g (goal.at.returns-in_err-expect_targets-clause-idle g c).After-label_types-types c.in_err-expect_targets.ensures.unfit in
    search (rules, none)

pub expect_operands-requires-2-clause-types : goal.expect_operands-requires-2-clause-types
expect_operands-requires-2-clause-types g c =
    let at = (goal.at.expect_operands-requires-2-clause-types g c).After-label_types-types in
    let md = g.R.WasmModuleResources.context c.args.context.resources.now in
    let v = c.args.context.stacks.now.body in
    let types = types_table md v c.requires.open_frame c.args.table.now.complete c.args.table.now.targets.now c.args.table.now.default (body_dropped 1 v) (tested g (at_test g at)) _ _ c.label_types-types.result.now (default_found g at) (c.label_types-types.ensures (body_context md v) refl) in
    label_valid md v c.args.table.now.default _ (g.met.R.WasmModuleResources.lawful c.args.context.resources.now) c.requires.valid types

pub returns-in_err-expect_operands-2-clause-row : goal.returns-in_err-expect_operands-2-clause-row
returns-in_err-expect_operands-2-clause-row g c =
    let none = other_types g (goal.at.returns-in_err-expect_operands-2-clause-row g c).After-label_types-types c.in_err-expect_operands-2.ensures.unfit in
    unmoved _ _ _ _ _ _ (search rules) refl (search (rules, none))

pub returns-in_err-expect_operands-2-clause-idle : goal.returns-in_err-expect_operands-2-clause-idle
returns-in_err-expect_operands-2-clause-idle g c =
    let none = other_types g (goal.at.returns-in_err-expect_operands-2-clause-idle g c).After-label_types-types c.in_err-expect_operands-2.ensures.unfit in
    search (rules, none)

pub returns-clause-row : goal.returns-clause-row
returns-clause-row g c =
    let at = (goal.at.returns-clause-row g c).After-label_types-types in
    let md = g.R.WasmModuleResources.context c.args.context.resources.now in
    let v = c.args.context.stacks.now.body in
    let types = c.label_types-types.result.now in
    let u = body_dropped 1 v in
    let w = body_dropped (length types) u in
    let step = table_passes md v c.requires.open_frame c.args.table.now.complete c.args.table.now.targets.now c.args.table.now.default u (tested g (at_test g at)) _ _ types (default_found g at) (c.label_types-types.ensures (body_context md v) refl) w (body_unreachable v) c.in_ok-expect_targets.ensures.fits (popped_dropped md types u c.in_ok-expect_operands-2.ensures.fit) (sym (ended_dropped (length types) u ∙ ended_dropped 1 v)) in
    made_moves md _ _ c.args.context.stacks.now _ (body_unreachable v) step (unreachable_valid md v c.requires.valid) refl c.mark_unreachable.result c.mark_unreachable.ensures.told c.mark_unreachable.ensures.exact

pub returns-clause-idle : goal.returns-clause-idle
returns-clause-idle g c = λ idle. never_refused _ c.mark_unreachable.result (c.mark_unreachable.ensures.idle idle)
