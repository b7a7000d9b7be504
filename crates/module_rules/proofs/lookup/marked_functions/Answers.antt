use Rattle.std.proofs.Common.{Bool, rules}
use Rattle.std.proofs.lemmas.Iterator.{YieldsList-from_map, YieldsList-from_slice, YieldsList-from_zip}
use Rattle.module_rules.specs.Lookup.{function_decl}
use Rattle.module_rules.specs.declared.items.DeclaredFunction.{DeclaredFunction}
use Rattle.module_rules.proofs.Listed.{items-listed}
use Rattle.module_rules.proofs.lookup.marked_functions.Goals as goal

pub returns : goal.returns
returns c =
    items-listed _ c.listed.result c.listed.ensures
    (YieldsList-from_map _ (λ (e : DeclaredFunction × Bool). function_decl e.0 e.1)
    (YieldsList-from_zip (YieldsList-from_slice c.args.functions.now cc) (YieldsList-from_slice c.args.marks.now cc))
    c.map-decls.ensures.closure (λ x r q k. search rules))
