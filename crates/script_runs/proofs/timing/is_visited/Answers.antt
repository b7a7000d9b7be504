-- An operator that is accepted meets its row; of one that is refused nothing is said.
use Rattle.script_runs.proofs.timing.is_visited.Goals as goal
use Rattle.script_runs.proofs.timing.is_visited.Goals.{in-Ok, in-Err, in-Ok-check_ref, in-Err-check_ref}

pub returns-then-attempted-clause-accepted : goal.returns-then-attempted-clause-accepted
returns-then-attempted-clause-accepted g c =
    λ h. (elim c.match-try_op.branch [
      | in-Ok w ↦ w.in-Ok.ensures.meets
      | in-Err w ↦ absurd cc
    ])

pub returns-clause-accepted : goal.returns-clause-accepted
returns-clause-accepted g c =
    λ h. (elim c.match-check_ref.branch [
      | in-Ok-check_ref w ↦ w.in-Ok-check_ref.ensures.row
      | in-Err-check_ref w ↦ absurd cc
    ])
