-- The segment behind its flags.
use Rattle.std.proofs.Common.{rules}
use Rattle.binary_modules.specs.Segments.{data_segment}
use Rattle.binary_modules.proofs.data.DataEntry.read.Goals as goal

pub returns-clause-read : goal.returns-clause-read
unfolding data_segment
returns-clause-read c =
    let e = c.in_ok-segment.ensures.read in (e.0, search rules, e.2, e.3)
