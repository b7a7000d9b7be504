use Rattle.std.proofs.Common.{take}
use Rattle.module_rules.specs.Lookup.{Marks}
use Rattle.module_rules.proofs.lookup.mark_each.Given as goal

abbrev pub invariant-loop-index : goal.invariant-loop-index
invariant-loop-index l = Marks l.initial.marks l.marks (take l.index-index l.indices)
