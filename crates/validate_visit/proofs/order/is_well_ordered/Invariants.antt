-- The operators so far are in order, and the parts that they leave open are noted.
use Rattle.std.proofs.Common.{◌≡◌, ◌+◌, ◌≤◌, true, take}
use Rattle.validate_visit.specs.Order.{is_ordered_from}
use Rattle.validate_visit.specs.Parts.{outermost, parts_after_list, AreNoted}
use Rattle.validate_visit.proofs.ReadParts.{nestings}
use Rattle.validate_visit.proofs.order.is_well_ordered.Given as goal

abbrev pub invariant-loop-index : goal.invariant-loop-index
invariant-loop-index l = record {
  within_limit : l.parts.depth ≤ l.index + 1;
  ordered : is_ordered_from outermost (nestings (take l.index l.ops)) ≡ true;
  noted : AreNoted l.parts.depth l.parts.noted l.parts.notes (parts_after_list outermost (nestings (take l.index l.ops)));
}
