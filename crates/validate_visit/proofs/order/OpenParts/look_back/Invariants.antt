-- The innermost parts so far are noted, and what is to be noted next can be told from the operators left.
use Rattle.std.proofs.Common.{◌≡◌, ◌+◌, ◌≤◌, length, take, drop}
use Rattle.validate_visit.specs.Parts.{outermost, parts_after_list, AreNoted}
use Rattle.validate_visit.proofs.ReadParts.{nestings}
use Rattle.validate_visit.proofs.order.OpenParts.look_back.Given as goal

abbrev pub invariant-loop-index : goal.invariant-loop-index
invariant-loop-index l = record {
  depth : l.self.depth ≡ l.fn.self.depth;
  within_limit : l.under + l.index ≤ length l.before;
  noted : AreNoted l.self.depth l.self.noted l.self.notes (parts_after_list outermost (nestings l.before));
  rest : drop l.under (parts_after_list outermost (nestings (take l.index l.before))) ≡ drop l.self.noted (parts_after_list outermost (nestings l.before));
}
