use Rattle.std.proofs.Common.{arith, ◌≤◌}
use Rattle.binary_operators.proofs.Powers.{low_below}
use Rattle.binary_operators.proofs.integers.has_bits.Goals as goal

pub returns-then-bits-ge7 : goal.returns-then-bits-ge7
returns-then-bits-ge7 c =
    let few : 7 ≤ c.args.bits = omega (arith, c.if-bits-ge7.true) in
    let e = low_below c.args.bits c.args.byte c.requires few in grind (arith, e, c.if-bits-ge7.true)
