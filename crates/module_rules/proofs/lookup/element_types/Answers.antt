use Rattle.std.proofs.Common.{rules}
use Rattle.std.proofs.lemmas.Iterator.{YieldsList-from_map, YieldsList-from_slice}
use Rattle.module_rules.specs.Segments.{item_type}
use Rattle.module_rules.specs.declared.segments.Element.{Element}
use Rattle.module_rules.proofs.Listed.{items-listed}
use Rattle.module_rules.proofs.lookup.element_types.Goals as goal

pub returns : goal.returns
returns c =
    items-listed _ c.listed.result c.listed.ensures
    (YieldsList-from_map _ (λ (e : Element). item_type e.items) (YieldsList-from_slice c.args.elements.now cc) c.map.ensures.closure (λ x r q k. search rules))
