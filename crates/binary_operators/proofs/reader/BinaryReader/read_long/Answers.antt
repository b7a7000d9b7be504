-- Each byte but the last has seven bits more.
use Rattle.std.proofs.Common.{arith, ap, ◌∙◌, ◌≡◌, ◌<◌, ◌≤◌, ◌-◌, ◌+◌, ◌*◌, ◌^◌}
use Rattle.binary_operators.proofs.LongNumbers.{unsigned_more, biased_more}
use Rattle.binary_operators.proofs.reader.BinaryReader.read_long.Goals as goal

pub loop-last-preserved : goal.loop-last-preserved
loop-last-preserved c =
    let long : 128 ≤ c.in_ok-last.last = omega (arith, c.if-last-lt128.false) in
    let more : 7 < c.args.bits - c.loop-last.shift = omega (arith, c.if-bits-shift-le7.false) in
    let is : c.raised-low.result ≡ (c.in_ok-last.last - 128) * 2 ^ c.loop-last.shift + c.loop-last.low =
    c.raised-low.ensures.value ∙ ap (λ n. n * 2 ^ c.loop-last.shift + c.loop-last.low) c.from.ensures in
    record {
      shift = omega (arith, more);
      low = c.raised-low.ensures.below;
      unsigned = unsigned_more c.args.bits c.loop-last.shift c.loop-last.low c.in_ok-last.last c.raised-low.result c.loop-last.self.left c.read_u8.new.self.left c.in_ok-last.ensures.read long more is _ c.loop-last.invariant.unsigned;
      biased = biased_more c.args.bits c.loop-last.shift c.loop-last.low c.in_ok-last.last c.raised-low.result c.loop-last.self.left c.read_u8.new.self.left c.in_ok-last.ensures.read long more is _ c.loop-last.invariant.biased;
    }
