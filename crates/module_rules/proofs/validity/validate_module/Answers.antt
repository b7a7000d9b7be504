-- What is valid, and has few types, may be looked up.
use Rattle.std.proofs.lemmas.Bool.{and_parts, and_from}
use Rattle.std.proofs.lemmas.Result.{on_ok_weaker}
use Rattle.module_rules.specs.Declarations.{declarations_of}
use Rattle.module_rules.proofs.Found.{lookup-found}
use Rattle.module_rules.proofs.validity.validate_module.Goals as goal

pub returns-clause-lookup : goal.returns-clause-lookup
returns-clause-lookup c =
    let declared = c.in_default.ensures in
    let few = (and_parts _ _ (and_parts _ _ (and_parts _ _ declared.1).0).0).0 in
    on_ok_weaker c.check_uses.result (λ uses. lookup-found c.args.features (declarations_of c.args.declared.now) few (and_from _ _ declared.0 uses)) c.check_uses.ensures.valid
