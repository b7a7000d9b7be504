use Rattle.c_api.proofs.body_calls.has_body.Goals as goal

pub returns-in-Whole : goal.returns-in-Whole
returns-in-Whole c = rw c.in-Whole.is c.has_own_body.ensures
