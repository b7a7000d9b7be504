-- So many bytes are mixed in.
use Rattle.std.proofs.Common.{◌≡◌, take}
use Rattle.std.specs.List.{fold}
use Rattle.module_rules.specs.Mixing.{mix}
use Rattle.module_rules.proofs.names.mix_bytes.Given as goal

abbrev pub invariant-loop-byte : goal.invariant-loop-byte
invariant-loop-byte l = l.mixed ≡ fold mix l.number (take l.byte-index l.bytes)
