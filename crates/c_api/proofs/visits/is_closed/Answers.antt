use Rattle.std.proofs.Common.{ap}
use Rattle.validate_types.specs.ErrorValue.{ErrorValue}
use Rattle.c_api.proofs.visits.is_closed.Goals as goal

pub returns : goal.returns
returns c = ap (λ (e : ErrorValue). e.wants_memory) c.new.ensures
