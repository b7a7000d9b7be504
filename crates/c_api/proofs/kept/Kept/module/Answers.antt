use Rattle.c_api.proofs.kept.Kept.module.Goals as goal

pub returns-in-Module : goal.returns-in-Module
returns-in-Module c = c.in-Module.is

pub returns-in-Function : goal.returns-in-Function
returns-in-Function c = rw c.in-Function.is tt
