use Rattle.std.proofs.Common.{arith, replicate, ◌≡◌, true, Some, ◌-◌, ◌<◌, get_or, sym, ap, ◌∙◌}
use Rattle.std.proofs.lemmas.List.{length-replicate, get_or-replicate}
use Rattle.validation_rules.specs.Fits.{Known}
use Rattle.validate_stacks.specs.Pops.{may_pop}
use Rattle.validate_stacks.specs.State.{body_context}
use Rattle.validate_stacks.specs.Steps.{found_after_pops_in_body}
use Rattle.validate_stacks.proofs.AtOnce.{known_fits}
use Rattle.validate_stacks.proofs.PopRuns.{run_operand_found}
use Rattle.validate_stacks.proofs.MatchedOperands.{counted_starts, counted_goes_on, counted_stops}
use Rattle.validate_stacks.proofs.stacks.Stacks.expect_own_run.Goals as goal
use Rattle.validate_stacks.proofs.stacks.Stacks.expect_own_run.Goals.{else-not-is_number-via-then-not-is_number+else-not-is_element_fitting, else-not-is_number-via-else-not-is_number}

pub loop-left-init : goal.loop-left-init
loop-left-init g c =
    let cx = body_context (g.R.WasmModuleResources.context c.args.resources.now) c.args.self.now.body in
    record { within = omega arith; rest = counted_starts cx (replicate c.args.count c.args.elem) c.args.self.now.body c.args.count (length-replicate c.args.count c.args.elem); counted = omega arith }

pub loop-left-preserved : goal.loop-left-preserved
loop-left-preserved g c =
    let md = g.R.WasmModuleResources.context c.args.resources.now in
    let v = c.args.self.now.body in
    let n = c.loop-left.left in
    let t = c.args.elem in
    let here : n - 1 < c.args.count = omega (arith, c.loop-left-test.true, c.loop-left.invariant.within) in
    let passed : may_pop (body_context md v) (found_after_pops_in_body (c.args.count - 1 - (n - 1)) v) (Some t) ≡ true =
    elim c.else-not-is_number.branch [
      | else-not-is_number-via-then-not-is_number+else-not-is_element_fitting w ↦ sym w.is_element_fitting.ensures ∙ w.if-not-is_element_fitting.false
      | else-not-is_number-via-else-not-is_number w ↦
          let found = c.index-operands-left.result in
          let there = run_operand_found v c.args.count (n - 1) (Known t) found c.requires.own here (ap (λ xs. get_or xs (n - 1) found) (sym c.top_operands-operands.ensures) ∙ sym c.index-operands-left.is ∙ c.is_number.ensures w.if-not-is_number.false) in
          known_fits md (g.met.R.WasmModuleResources.lawful c.args.resources.now) v _ t c.requires.element there
    ] in
    record {
      within = omega (arith, c.loop-left.invariant.within);
      rest = counted_goes_on md (replicate c.args.count t) v n t t (omega (arith, c.loop-left-test.true)) (get_or-replicate c.args.count (n - 1) t t here) c.args.count (length-replicate c.args.count t) here passed c.loop-left.invariant.rest;
      counted = omega (arith, c.tick.ensures, c.loop-left-test.true, c.loop-left.invariant.counted);
    }

pub returns-then-not-is_element_fitting-clause-unfit :
    goal.returns-then-not-is_element_fitting-clause-unfit
returns-then-not-is_element_fitting-clause-unfit g c =
    let md = g.R.WasmModuleResources.context c.args.resources.now in
    let n = c.loop-left.left in
    let t = c.args.elem in
    let here : n - 1 < c.args.count = omega (arith, c.loop-left-test.true, c.loop-left.invariant.within) in
    let failed = sym c.is_element_fitting.ensures ∙ c.if-not-is_element_fitting.true in
    counted_stops md (replicate c.args.count t) c.args.self.now.body n t t (omega (arith, c.loop-left-test.true)) (get_or-replicate c.args.count (n - 1) t t here) c.args.count (length-replicate c.args.count t) here failed c.loop-left.invariant.rest
