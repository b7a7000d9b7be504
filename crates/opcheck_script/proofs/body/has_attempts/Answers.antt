use Rattle.std.proofs.Common.{Bool, rules, tests}
use Rattle.std.proofs.lemmas.Iterator.{YieldsList-from_slice}
use Rattle.std.proofs.lemmas.Iterator.Search.{any_from_yields_List}
use Rattle.opcheck_script.proofs.body.has_attempts.Goals as goal

pub returns : goal.returns
returns c = any_from_yields_List (λ (b : Bool). b) _ _ c.any.result c.any.ensures.ran (YieldsList-from_slice c.args.attempts.now cc) (λ x b q k. search (rules, tests))
