-- What is left to put, on what is there, comes to all of it on what was there.
use Rattle.std.proofs.Common.{◌≡◌, ◌≤◌, ◌+◌, ◌-◌, length, drop}
use Rattle.validate_stacks.specs.Changes.{operands_given}
use Rattle.validate_stacks.proofs.change.give.Given as goal

abbrev pub invariant-loop-ty : goal.invariant-loop-ty
invariant-loop-ty l = record {
  rest : operands_given (drop l.ty-index l.types) l.operands.items ≡ operands_given l.types l.fn.operands.items;
  fits : length l.operands.items + (length l.types - l.ty-index) ≤ l.operands.room;
  room : l.fn.operands.room ≤ l.operands.room;
}
