-- All so far are accepted, and safe.
use Rattle.std.proofs.Common.{◌≡◌, length}
use Rattle.module_check.specs.Verdicts.{IsConsistent}
use Rattle.c_api.specs.Items.{AreSafeBetween}
use Rattle.c_api.proofs.items.check_from.Given as goal

abbrev pub invariant-loop-place : goal.invariant-loop-place
invariant-loop-place l =
    record {
      consistent : IsConsistent (length l.text) l.out;
      accepted : l.out.status ≡ 0;
      unmoved : l.position ≡ l.fn.position;
      so_far : AreSafeBetween l.module l.fn.position l.place;
    }
