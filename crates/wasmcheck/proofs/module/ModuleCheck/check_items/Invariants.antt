use Rattle.std.proofs.Common.{◌≡◌, ◌⊎◌}
use Rattle.module_check.specs.Items.{AreSafeBelow}
use Rattle.module_check.specs.Outcomes.{HasFound}
use Rattle.module_check.specs.declared.outcome.Outcome.TheVariants.{Valid}
use Rattle.wasmcheck.proofs.module.ModuleCheck.check_items.Given as goal

-- Where all so far is valid, the items so far are safe; else it comes to what it did before, or something is found so.
abbrev pub invariant-loop-place : goal.invariant-loop-place
invariant-loop-place g l =
    record {
      safe : l.progress.tally.outcome ≡ Valid → AreSafeBelow l.self.module.now l.place;
      found : (l.progress.tally.outcome ≡ l.fn.progress.tally.outcome) ⊎ HasFound l.self.module.now l.progress.tally.outcome;
    }
