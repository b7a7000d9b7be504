use Rattle.std.proofs.Common.{◌≡◌, ◌∙◌, Some, inl, inr, drop, ap, sym}
use Rattle.std.proofs.lemmas.Bool.{cases_eq}
use Rattle.validate_visit.specs.Order.{nesting, parts_after, part_begun}
use Rattle.validate_visit.proofs.NotedParts.{noted-found, rest-begun}
use Rattle.validate_visit.proofs.order.OpenParts.take_back.Goals as goal

pub returns-in-Some-clause-noted : goal.returns-in-Some-clause-noted
returns-in-Some-clause-noted c = λ kinds whole v rest_under.
    let old = c.args.self.now in
    let op = nesting c.args.op in
    let here = c.in-Some.ensures in
    let z : c.args.under ≡ 0 = elim (cases_eq c.args.under 0) [ inl e ↦ e | inr some ↦ absurd (cc (here.none some)) ] in
    let begun : part_begun op ≡ Some c.in-Some.kind = sym (here.innermost z) in
    let rest : parts_after kinds op ≡ drop old.noted whole = ap (λ u. drop u (parts_after kinds op)) (sym z) ∙ rest_under in
    let after = rw c.opens.ensures at c.from.ensures in (
      noted-found old.depth old.noted old.notes c.note.new.self kinds whole op c.in-Some.kind c.requires.deeper c.requires.room begun rest c.note.ensures.firsts c.note.ensures.catching v,
      ap (λ i. drop i kinds) after ∙ rest-begun old.noted kinds whole op c.in-Some.kind begun rest,
    )
