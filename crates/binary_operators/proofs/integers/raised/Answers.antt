-- The high bits, raised, are as many as there is room for.
use Rattle.std.proofs.Common.{arith, ap, ◌≡◌, ◌<◌, ◌≤◌, ◌+◌, ◌*◌, ◌^◌, ◌%◌, ℕ}
use Rattle.std.proofs.Math.Nat.{mod-eq_of_lt}
use Rattle.binary_operators.proofs.Powers.{raised_below, raised_fits}
use Rattle.binary_operators.proofs.integers.raised.Goals as goal

no_more : (high low shift width : ℕ) → high < 2 ^ width → low < 2 ^ shift → shift + width ≤ 64 → high * 2 ^ shift % 2 ^ 64 ≡ high * 2 ^ shift
no_more high low shift width h l room =
    let fits = raised_fits high low shift width h l room in
    let less : high * 2 ^ shift < 2 ^ 64 = omega (arith, fits) in
    mod-eq_of_lt less

pub overflow_add-result : goal.overflow_add-result
overflow_add-result c =
    let e = no_more c.args.high c.args.low c.args.shift c.args.width c.requires.high c.requires.low c.requires.room in
    let fits = raised_fits c.args.high c.args.low c.args.shift c.args.width c.requires.high c.requires.low c.requires.room in
    omega (arith, e, fits)

pub returns-clause-value : goal.returns-clause-value
returns-clause-value c =
    ap (λ n. n + c.args.low) (no_more c.args.high c.args.low c.args.shift c.args.width c.requires.high c.requires.low c.requires.room)

pub returns-clause-below : goal.returns-clause-below
returns-clause-below c =
    let e = no_more c.args.high c.args.low c.args.shift c.args.width c.requires.high c.requires.low c.requires.room in
    let below = raised_below c.args.high c.args.low c.args.shift c.args.width c.requires.high c.requires.low in
    omega (arith, e, below)
