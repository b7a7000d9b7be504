use Rattle.std.proofs.Common.{◌∙◌, ◌<◌, sym, arith}
use Rattle.module_rules.proofs.Depth.{one_less}
use Rattle.module_rules.proofs.groups.is_within_depth.Goals as goal

pub loop-supertype-preserved : goal.loop-supertype-preserved
loop-supertype-preserved c =
    let some : 0 < c.loop-supertype.left = omega arith in
    one_less c.args.types.now c.loop-supertype.at c.in-Some.supertype c.loop-supertype.left (sym c.in-Some.ensures) some ∙ c.loop-supertype.invariant
