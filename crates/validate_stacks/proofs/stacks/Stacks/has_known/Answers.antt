use Rattle.std.proofs.Common.{◌-◌, ◌<◌, arith, refl, length}
use Rattle.validate_stacks.specs.State.{body_context}
use Rattle.validate_stacks.proofs.MatchedOperands.{matching_starts, goes_on_there}
use Rattle.validate_stacks.proofs.stacks.Stacks.has_known.Goals as goal

pub loop-left-init : goal.loop-left-init
loop-left-init g c =
    let cx = body_context (g.R.WasmModuleResources.context c.args.resources.now) c.args.self.now.body in
    record { within = omega arith; rest = matching_starts cx c.args.expected.now c.args.self.now.body }

pub loop-left-preserved : goal.loop-left-preserved
loop-left-preserved g c =
    let md = g.R.WasmModuleResources.context c.args.resources.now in
    let v = c.args.self.now.body in
    let n = c.loop-left.left in
    let here : n - 1 < length c.args.expected.now = omega (arith, c.loop-left-test.true, c.loop-left.invariant.within) in
    let passed = c.is_known_at.ensures c.if-not-is_known_at.false in
    record {
      within = omega (arith, c.loop-left.invariant.within);
      rest = goes_on_there md c.args.expected.now v v refl n _ (omega (arith, c.loop-left-test.true)) here _ refl passed c.loop-left.invariant.rest;
    }
