use Rattle.std.proofs.Common.{◌+◌, ◌-◌, length, arith, refl, sym, ◌∙◌}
use Rattle.validate_stacks.specs.AtOnce.{body_dropped}
use Rattle.validate_stacks.specs.State.{body_context}
use Rattle.validate_stacks.proofs.MatchedOperands.{matching_starts, goes_on_there, stops_there}
use Rattle.validate_stacks.proofs.Moves.{found_at_depth}
use Rattle.validate_stacks.proofs.stacks.Stacks.expect_among.Goals as goal

pub loop-left-init : goal.loop-left-init
loop-left-init g c =
    let cx = body_context (g.R.WasmModuleResources.context c.args.resources.now) c.args.self.now.body in
    record { within = omega arith; rest = matching_starts cx c.args.expected.now (body_dropped c.args.above c.args.self.now.body) }

pub loop-left-preserved : goal.loop-left-preserved
loop-left-preserved g c =
    let md = g.R.WasmModuleResources.context c.args.resources.now in
    let ws = c.args.expected.now in
    let v = c.args.self.now.body in
    let below = body_dropped c.args.above v in
    let n = c.loop-left.left in
    let k = length ws - 1 - (n - 1) in
    let found = found_at_depth c.args.above (k + c.args.above) k v (omega arith) in
    let passed = sym c.is_fitting_at.ensures ∙ c.if-not-is_fitting_at.false in
    record {
      within = omega (arith, c.loop-left.invariant.within);
      rest = goes_on_there md ws below below refl n _ (omega (arith, c.loop-left-test.true)) (omega (arith, c.loop-left-test.true, c.loop-left.invariant.within)) _ found passed c.loop-left.invariant.rest;
    }

pub returns-then-not-is_fitting_at-clause-unfit : goal.returns-then-not-is_fitting_at-clause-unfit
returns-then-not-is_fitting_at-clause-unfit g c =
    let md = g.R.WasmModuleResources.context c.args.resources.now in
    let ws = c.args.expected.now in
    let v = c.args.self.now.body in
    let below = body_dropped c.args.above v in
    let n = c.loop-left.left in
    let k = length ws - 1 - (n - 1) in
    let found = found_at_depth c.args.above (k + c.args.above) k v (omega arith) in
    let failed = sym c.is_fitting_at.ensures ∙ c.if-not-is_fitting_at.true in
    stops_there md ws below below refl n _ (omega (arith, c.loop-left-test.true)) (omega (arith, c.loop-left-test.true, c.loop-left.invariant.within)) _ found failed c.loop-left.invariant.rest
