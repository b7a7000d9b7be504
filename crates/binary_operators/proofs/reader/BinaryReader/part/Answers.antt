use Rattle.std.proofs.Common.{refl}
use Rattle.std.proofs.lemmas.List.{drop-take}
use Rattle.binary_operators.proofs.reader.BinaryReader.part.Goals as goal

pub returns-clause-read : goal.returns-clause-read
returns-clause-read c =
    rw (← c.self.view_is) (rw (drop-take c.self.inside.place c.args.count c.self.inside.bytes.now) refl)
