use Rattle.std.proofs.Common.{take}
use Rattle.std.specs.List.{flat_map}
use Rattle.module_rules.specs.Exported.{Exported}
use Rattle.module_rules.specs.Lookup.{Marks}
use Rattle.module_rules.specs.References.{exported_functions}
use Rattle.module_rules.proofs.lookup.mark_exported.Given as goal

abbrev pub invariant-loop-export : goal.invariant-loop-export
invariant-loop-export l = Marks l.initial.marks l.marks (flat_map (λ (e : Exported). exported_functions e.kind e.index) (take l.export-index l.exports))
