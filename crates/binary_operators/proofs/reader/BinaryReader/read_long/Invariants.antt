-- The number is that of the bytes that are left, above the bits of those that were read.
use Rattle.std.proofs.Common.{◌≡◌, ◌<◌, ◌-◌, ◌^◌}
use Rattle.binary_operators.specs.Integers.{unsigned, biased, above}
use Rattle.binary_operators.proofs.reader.BinaryReader.read_long.Given as goal

abbrev pub decreases-loop-last : goal.decreases-loop-last
decreases-loop-last l = l.bits - l.shift

abbrev pub invariant-loop-last : goal.invariant-loop-last
invariant-loop-last l = record {
  shift : l.shift < l.bits;
  low : l.low < 2 ^ l.shift;
  unsigned : unsigned l.bits l.fn.self.left ≡ above l.shift l.low (unsigned (l.bits - l.shift) l.self.left);
  biased : biased l.bits l.fn.self.left ≡ above l.shift l.low (biased (l.bits - l.shift) l.self.left);
}
