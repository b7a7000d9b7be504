use Rattle.c_api.proofs.kept.Kept.function.Goals as goal

pub returns-in-Function : goal.returns-in-Function
returns-in-Function c = c.in-Function.is

pub returns-in-Module : goal.returns-in-Module
returns-in-Module c = rw c.in-Module.is tt
