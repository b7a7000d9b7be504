use Rattle.module_check.proofs.operators.check_operators.Goals as goal

pub returns-in-None : goal.returns-in-None
returns-in-None g c = rw c.in-None.is c.check_function_operators.ensures

pub returns-in-Some : goal.returns-in-Some
returns-in-Some g c = rw c.in-Some.is c.check_constant_operators.ensures
