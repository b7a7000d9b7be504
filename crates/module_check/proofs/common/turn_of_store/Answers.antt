-- The code and the place are the operator.
use Rattle.module_check.proofs.FirstBytes.{near_like, one_there}
use Rattle.module_check.proofs.common.turn_of_store.Goals as goal

pub behind-rest-requires : goal.behind-rest-requires
behind-rest-requires g c = one_there c.requires.like

pub memory_turn-requires-clause-like : goal.memory_turn-requires-clause-like
memory_turn-requires-clause-like g c = near_like c.requires.like c.behind-rest.ensures c.in-Some.ensures
