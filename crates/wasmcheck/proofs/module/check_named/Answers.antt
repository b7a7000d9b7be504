-- It is valid only if each item was found so, and it comes to what was found.
use Rattle.std.proofs.Common.{arith}
use Rattle.module_check.specs.Items.{item_count}
use Rattle.module_check.proofs.Row.{valid}
use Rattle.wasmcheck.proofs.module.check_named.Goals as goal

pub returns-clause-valid : goal.returns-clause-valid
returns-clause-valid g c = λ is.
    let loaded = c.args.check.now.module.now in
    valid loaded (item_count loaded) (omega arith) (c.in_ok-check_items.ensures.valid is)

pub returns-clause-found : goal.returns-clause-found
returns-clause-found g c = c.in_ok-check_items.ensures.found
