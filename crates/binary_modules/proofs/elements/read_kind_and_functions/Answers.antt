-- Another kind is that of no segment.
use Rattle.std.proofs.Common.{ne_eqb}
use Rattle.binary_modules.proofs.Unreadable.{no_kind}
use Rattle.binary_modules.proofs.elements.read_kind_and_functions.Goals as goal

pub returns-then-kind-ne0-clause-refused : goal.returns-then-kind-ne0-clause-refused
returns-then-kind-ne0-clause-refused c = λ short.
    no_kind c.args.reader.now.left c.read_u8.new.self.left c.in_ok-kind.kind c.in_ok-kind.ensures.read (ne_eqb c.in_ok-kind.kind 0 c.if-kind-ne0.true)
