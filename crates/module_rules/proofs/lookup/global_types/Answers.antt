use Rattle.std.proofs.Common.{rules}
use Rattle.std.proofs.lemmas.Iterator.{YieldsList-from_map, YieldsList-from_slice}
use Rattle.module_rules.specs.declared.items.DeclaredGlobal.{DeclaredGlobal}
use Rattle.module_rules.proofs.Listed.{items-listed}
use Rattle.module_rules.proofs.lookup.global_types.Goals as goal

pub returns : goal.returns
returns c =
    items-listed _ c.listed.result c.listed.ensures
    (YieldsList-from_map _ (λ (g : DeclaredGlobal). g.ty) (YieldsList-from_slice c.args.globals.now cc) c.map.ensures.closure (λ x r q k. search rules))
