use Rattle.std.proofs.Common.{take}
use Rattle.std.specs.List.{flat_map}
use Rattle.module_rules.specs.Lookup.{Marks}
use Rattle.module_rules.specs.References.{listed_functions}
use Rattle.module_rules.specs.declared.segments.Element.{Element}
use Rattle.module_rules.proofs.lookup.mark_listed.Given as goal

abbrev pub invariant-loop-element : goal.invariant-loop-element
invariant-loop-element l = Marks l.initial.marks l.marks (flat_map (λ (e : Element). listed_functions e.items) (take l.element-index l.elements))
