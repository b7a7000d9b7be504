use Rattle.c_api.proofs.body_calls.start_held.Goals as goal

pub returns-in-Whole-clause-starting : goal.returns-in-Whole-clause-starting
returns-in-Whole-clause-starting c = rw c.in-Whole.is c.start_body.ensures.starting
