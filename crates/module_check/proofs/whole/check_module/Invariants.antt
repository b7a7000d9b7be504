use Rattle.std.proofs.Common.{◌≡◌, ◌≢◌, ◌⊎◌, ◌≤◌, length}
use Rattle.module_check.specs.FaultyModule.{HasInvalid, HasMalformed}
use Rattle.module_check.specs.Items.{AreSafeBelow}
use Rattle.module_check.specs.Loaded.{IsAcceptedModule}
use Rattle.module_check.specs.UncoveredModule.{HasUncovered}
use Rattle.module_check.specs.Verdicts.{IsConsistent, SaysNo, total}
use Rattle.module_check.proofs.whole.check_module.Given as goal

-- What is reported so far agrees with the counts, and stands in its room; where all is accepted, the items so far are safe,
-- and where it says no, it did before or the module isn't accepted; where it says not covered, malformed or invalid, it did before or something is so; the items so far are counted.
abbrev pub invariant-loop-place : goal.invariant-loop-place
invariant-loop-place l =
    record {
      consistent : IsConsistent (length l.text) l.out;
      safe : l.out.status ≡ 0 → AreSafeBelow l.module l.place;
      known : l.fn.out.status ≤ 4 → l.out.status ≤ 4;
      refused : SaysNo l.out.status → SaysNo l.fn.out.status ⊎ ¬ IsAcceptedModule l.module;
      uncovered : l.out.status ≡ 4 → (l.fn.out.status ≡ 4) ⊎ HasUncovered l.module;
      malformed : l.out.status ≡ 2 → (l.fn.out.status ≡ 2) ⊎ HasMalformed l.module;
      invalid : l.out.status ≡ 1 → (l.fn.out.status ≡ 1) ⊎ HasInvalid l.module;
      counted : l.out.status ≢ 3 → total l.fn.out ≡ 0 → total l.out ≡ l.place;
    }
