use Rattle.std.proofs.Common.{subst}
use Rattle.std.specs.Iterator.{Drains}
use Rattle.module_rules.proofs.lookup.listed.Goals as goal

pub returns : goal.returns
returns g c =
    let (it, xs, same, extends, drained) = rw c.in_ok-extend.was at c.extend.ensures.ran in (
      xs,
      subst (λ s. Drains g.I.Iterator.next_gives s xs) same drained,
      rw c.in_ok-list.ensures.items at extends.0,
    )
