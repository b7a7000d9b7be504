-- Nothing was found before the first item.
use Rattle.wasmcheck.proofs.Found.{found_anew}
use Rattle.wasmcheck.proofs.module.check_anew.Goals as goal

pub returns-clause-found : goal.returns-clause-found
returns-clause-found g c =
    found_anew c.args.check.now.module.now c.new-2.result.outcome c.check_named.result c.new-2.ensures c.check_named.ensures.found
