use Rattle.c_api.specs.Handle.{held_in}
use Rattle.c_api.proofs.Held.{of_no_module}
use Rattle.c_api.proofs.calls.function_count.Goals as goal

pub returns-in-None-clause-counted : goal.returns-in-None-clause-counted
returns-in-None-clause-counted c = of_no_module (held_in c.args.kept.now) c.in-None.ensures _
