use Rattle.validate_shapes.proofs.Moves.{moves_at_once}
use Rattle.validate_operators.proofs.operator.operator_at_once.Goals as goal

pub returns : goal.returns
returns g c = moves_at_once _ _ _ _ _ c.any_operator-answer.result _ c.is_ok.ensures.value c.any_operator-answer.ensures.row
