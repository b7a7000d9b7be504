-- A byte that is the code of `end`.
use Rattle.module_check.proofs.FirstBytes.{end_begins}
use Rattle.module_check.proofs.common.turn_of_last.Goals as goal

pub turn_of_end-requires-clause-like : goal.turn_of_end-requires-clause-like
turn_of_end-requires-clause-like g c = end_begins c.duplicate-rest.ensures c.in-Ok.ensures.read c.if-code-ne11.false
