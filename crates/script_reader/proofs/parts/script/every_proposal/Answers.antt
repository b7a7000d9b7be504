use Rattle.std.proofs.Common.{◌≡◌, ap}
use Rattle.bitflags.specs.Sets.{known_from}
use Rattle.script_reader.proofs.parts.script.every_proposal.Goals as goal

pub returns : goal.returns
unfolding known_from
returns c = let bits : c.all.result.0 ≡ 2097151 = c.all.ensures tt in ap (λ n. record { 0 = n }) bits
