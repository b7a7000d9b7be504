-- The types so far are behind those that were there, and there is room for the others.
use Rattle.std.proofs.Common.{◌≡◌, ◌+◌, ◌-◌, ◌≤◌, ◌++◌, vec_len, vec_capacity, length, take}
use Rattle.validate_locals.proofs.locals.add_first.Given as goal

abbrev pub invariant-loop-ty : goal.invariant-loop-ty
invariant-loop-ty l = record {
  added : l.first.items ≡ l.fn.first.items ++ take l.ty-index l.types;
  room : vec_len l.first + (length l.types - l.ty-index) ≤ vec_capacity l.first;
}
