use Rattle.c_api.proofs.shared.HeldModule.resources.Goals as goal

pub returns-in-Whole : goal.returns-in-Whole
returns-in-Whole c = rw c.in-Whole.is c.resources.ensures.context

pub returns-in-Declared : goal.returns-in-Declared
returns-in-Declared c = rw c.in-Declared.is c.resources-in-Declared.ensures.context
