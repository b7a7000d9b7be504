use Rattle.c_api.proofs.body_calls.with_locals.Goals as goal

pub define_locals-requires : goal.define_locals-requires
define_locals-requires c = c.requires

pub returns-in-Ok-clause-starting : goal.returns-in-Ok-clause-starting
returns-in-Ok-clause-starting c = c.in-Ok.ensures.starting

pub returns-in-Ok-clause-defined : goal.returns-in-Ok-clause-defined
returns-in-Ok-clause-defined c = c.in-Ok.ensures.defined

pub returns-in-Err-clause-covered : goal.returns-in-Err-clause-covered
returns-in-Err-clause-covered c = c.in-Err.ensures.covered
