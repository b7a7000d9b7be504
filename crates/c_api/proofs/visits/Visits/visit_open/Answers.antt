-- Where a frame is open, the visit refuses for the row alone.
use Rattle.std.proofs.lemmas.Result.{IfErr-weaker}
use Rattle.c_api.proofs.visits.Visits.visit_open.Goals as goal

pub returns-clause-refused : goal.returns-clause-refused
returns-clause-refused c = IfErr-weaker c.visit.result _ _ (λ e no refusal is_open. no refusal) c.visit.ensures.refused
