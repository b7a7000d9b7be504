use Rattle.std.proofs.Common.{◌≡◌, ◌+◌, ◌-◌, min, sym, subst, arith}
use Rattle.validate_visit.specs.Order.{nesting, parts_after}
use Rattle.validate_visit.specs.Parts.{most_noted, AreNoted}
use Rattle.validate_visit.proofs.LookBack.{opened}
use Rattle.validate_visit.proofs.NotedParts.{noted-closed, noted-begun}
use Rattle.validate_visit.proofs.order.OpenParts.read.Goals as goal

pub returns-then-closes-clause-noted : goal.returns-then-closes-clause-noted
returns-then-closes-clause-noted c = λ kinds v.
    let old = c.args.self.now in
    let e : c.saturating_sub-self.result ≡ old.noted - 1 = omega (arith, c.saturating_sub-self.ensures) in
    rw e (noted-closed old.depth old.noted old.notes kinds (nesting c.args.op) (sym c.if-closes.ensures) v)

pub returns-in-Some-clause-noted : goal.returns-in-Some-clause-noted
returns-in-Some-clause-noted c = λ kinds v.
    let old = c.args.self.now in
    let op = nesting c.args.op in
    let o : c.from-opened.result ≡ opened op = rw c.opens.ensures at c.from-opened.ensures in
    let e : c.min-self.result ≡ min (old.noted + c.from-opened.result) most_noted = omega (arith, c.saturating_add.ensures, c.min-self.ensures) in
    subst (λ m. AreNoted (old.depth + c.from-opened.result) m c.note.new.self (parts_after kinds op)) (sym e)
    (rw o (noted-begun old.depth old.noted old.notes c.note.new.self kinds op c.in-Some.kind (sym c.in-Some.ensures) c.requires.some (rw o at c.note.ensures.firsts) (rw o at c.note.ensures.catching) v))
