use Rattle.std.proofs.Common.{rules, ◌≡◌, ◌≤◌, Some, MatchResult, length, arith, refl, sym, ap, ◌∙◌, subst}
use Rattle.std.specs.Option.{option_map}
use Rattle.validate_stacks.specs.AtOnce.{body_dropped}
use Rattle.validate_stacks.specs.Moves.{Moves}
use Rattle.validate_stacks.specs.State.{BodyState}
use Rattle.validate_stacks.specs.Steps.{innermost_operands, body_popped}
use Rattle.validate_stacks.proofs.AtOnce.{dropped_next, dropped_none}
use Rattle.validate_stacks.proofs.PopRuns as runs
use Rattle.validate_stacks.proofs.Validity.{popped_valid, popped_kept}
use Rattle.validate_shapes.proofs.Moves.{unmoved, made_moves, never_refused}
use Rattle.validate_shapes.proofs.Rows.{drop_is}
use Rattle.validate_rows.proofs.Found.{own_found}
use Rattle.validate_rows.proofs.parametric.drop_operand.Goals as goal

pub returns-then-own_operand_count-gt0-clause-row : goal.returns-then-own_operand_count-gt0-clause-row
returns-then-own_operand_count-gt0-clause-row g c =
    let md = g.R.WasmModuleResources.context c.args.context.resources.now in
    let v = c.args.context.stacks.now.body in
    let one : body_dropped 1 v ≡ body_popped v = sym (dropped_next 0 v) ∙ ap body_popped (dropped_none v) in
    let there = own_found v (omega (arith, c.own_operand_count.ensures, c.if-own_operand_count-gt0.true)) in
    let moved = subst (λ (x : BodyState). MatchResult c.exchange.result (λ _. c.exchange.new.self.body ≡ x) (λ _. c.exchange.new.self ≡ c.args.context.stacks.now)) one c.exchange.ensures.exact in
    made_moves md _ _ c.args.context.stacks.now _ (body_popped v) (drop_is md v ∙ ap (option_map (λ _. body_popped v)) there.1) (popped_valid md v c.requires.valid) (popped_kept v) c.exchange.result c.exchange.ensures.told moved

pub returns-then-own_operand_count-gt0-clause-idle : goal.returns-then-own_operand_count-gt0-clause-idle
returns-then-own_operand_count-gt0-clause-idle g c = λ idle. never_refused _ c.exchange.result (c.exchange.ensures.idle idle (omega arith))

pub returns-in_err-find_any-clause-row : goal.returns-in_err-find_any-clause-row
returns-in_err-find_any-clause-row g c =
    let md = g.R.WasmModuleResources.context c.args.context.resources.now in
    let v = c.args.context.stacks.now.body in
    let none = drop_is md v ∙ ap (option_map (λ _. body_popped v)) c.in_err-find_any.ensures.missing in
    unmoved _ _ _ _ _ _ (search rules) refl (search (rules, none))

pub returns-in_err-find_any-clause-idle : goal.returns-in_err-find_any-clause-idle
returns-in_err-find_any-clause-idle g c =
    let md = g.R.WasmModuleResources.context c.args.context.resources.now in
    let v = c.args.context.stacks.now.body in
    let none = drop_is md v ∙ ap (option_map (λ _. body_popped v)) c.in_err-find_any.ensures.missing in
    search (rules, none)

-- the frame is dead and has none
pub returns-clause-row : goal.returns-clause-row
unfolding Moves
returns-clause-row g c =
    let md = g.R.WasmModuleResources.context c.args.context.resources.now in
    let v = c.args.context.stacks.now.body in
    let few : length (innermost_operands v.present.frames) ≤ 0 = omega (arith, c.own_operand_count.ensures, c.if-own_operand_count-gt0.false) in
    record {
      step = drop_is md v ∙ (ap (option_map (λ _. body_popped v)) c.in_ok-find_any.ensures.found ∙ ap (λ (x : BodyState). Some x) (runs.unmoved v few));
      valid = c.requires.valid;
      kept = refl;
    }
