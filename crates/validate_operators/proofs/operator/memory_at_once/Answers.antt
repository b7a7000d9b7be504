use Rattle.validate_shapes.proofs.Moves.{moves_at_once}
use Rattle.validate_operators.proofs.operator.memory_at_once.Goals as goal

pub returns : goal.returns
returns g c = moves_at_once _ _ _ _ _ c.gated_memory-answer.result _ c.is_ok.ensures.value c.gated_memory-answer.ensures
