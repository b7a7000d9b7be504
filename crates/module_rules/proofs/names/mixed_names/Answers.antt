use Rattle.std.proofs.Common.{rules}
use Rattle.std.proofs.lemmas.Iterator.{YieldsList-from_map, YieldsList-from_slice}
use Rattle.module_rules.specs.Exported.{Exported}
use Rattle.module_rules.specs.Names.{mix_name}
use Rattle.module_rules.proofs.Listed.{items-listed}
use Rattle.module_rules.proofs.names.mixed_names.Goals as goal

pub returns : goal.returns
returns c =
    items-listed _ c.listed.result c.listed.ensures
    (YieldsList-from_map _ (λ (e : Exported). mix_name e.name)
    (YieldsList-from_slice c.args.exports.now cc)
    c.map-mixed.ensures.closure (λ x r q k. search rules))
