use Rattle.std.proofs.Common.{◌≡◌, ◌-◌, ◌<◌, ◌∙◌, length, take, drop, sym, ap, arith}
use Rattle.validate_visit.specs.Parts.{outermost, parts_after_list}
use Rattle.validate_visit.proofs.ReadParts.{nestings}
use Rattle.validate_visit.proofs.LookBack.{one_left, one_back}
use Rattle.validate_visit.proofs.order.OpenParts.look_back.Goals as goal

pub loop-index-preserved : goal.loop-index-preserved
loop-index-preserved c =
    let ps = c.args.before.now in
    let i = c.loop-index.index in
    let v = c.loop-index.invariant in
    let e = c.take_back-under.ensures in
    let t = e.noted (parts_after_list outermost (nestings (take (i - 1) ps))) (parts_after_list outermost (nestings ps)) v.noted (ap (drop c.loop-index.under) (sym (one_back ps i _ c.loop-index-test.true c.loop-index.auto.index)) ∙ v.rest) in
    record {
      depth = e.depth ∙ v.depth;
      within_limit = omega (arith, e.at_most);
      noted = t.0;
      rest = t.1;
    }

pub returns-clause-none : goal.returns-clause-none
returns-clause-none c = λ z.
    let ps = c.args.before.now in
    let v = c.loop-index.invariant in
    let start : c.loop-index.index ≡ 0 = omega (arith, c.loop-index-test.false) in
    let some : 0 < length (parts_after_list outermost (nestings ps)) = omega (arith, c.requires.some, v.depth, v.noted.counted) in
    one_left (parts_after_list outermost (nestings ps)) c.loop-index.under some
    (ap (λ i. drop c.loop-index.under (parts_after_list outermost (nestings (take i ps)))) (sym start) ∙ v.rest ∙ ap (λ i. drop i (parts_after_list outermost (nestings ps))) z)
