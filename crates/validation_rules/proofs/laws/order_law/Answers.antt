use Rattle.validation_rules.proofs.Order.{rows_are_ordered, bodies_are_ordered}
use Rattle.validation_rules.proofs.laws.order_law.Goals as goal

pub returns : goal.returns
returns c = record { rows = λ cx. rows_are_ordered cx; bodies = λ cx. bodies_are_ordered cx }
