use Rattle.validate_operators.proofs.bodies.control.Goals as goal

pub returns-in-BrTable-clause-memory : goal.returns-in-BrTable-clause-memory
returns-in-BrTable-clause-memory g c = rw c.in-BrTable.is (λ none idle. c.br_table.ensures.idle idle)
