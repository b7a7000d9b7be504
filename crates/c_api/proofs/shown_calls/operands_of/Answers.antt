use Rattle.c_api.specs.Handle.{held_in}
use Rattle.c_api.proofs.Held.{of_no_function}
use Rattle.c_api.proofs.shown_calls.operands_of.Goals as goal

pub returns-in-None : goal.returns-in-None
returns-in-None c = of_no_function (held_in c.args.kept.now) c.in-None.ensures _
