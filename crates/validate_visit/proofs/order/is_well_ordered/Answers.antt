use Rattle.std.proofs.Common.{take, sym, subst, ◌∙◌, arith}
use Rattle.validate_visit.specs.Parts.{AreNoted}
use Rattle.validate_visit.proofs.ReadParts.{nop_follows, stops-none_open, stops-no_follower, one_further, parts-more}
use Rattle.validate_visit.proofs.order.is_well_ordered.Goals.{then-parts-eq0-via-then-parts-eq0, then-parts-eq0-via-else-parts-eq0+then-not-may_follow}
use Rattle.validate_visit.proofs.order.is_well_ordered.Goals as goal

pub may_follow-requires-clause-nop : goal.may_follow-requires-clause-nop
may_follow-requires-clause-nop c =
    let v = c.loop-index.invariant in
    nop_follows (take c.loop-index.index c.args.ops.now) c.loop-index.parts.depth v.ordered v.noted.counted c.if-parts-eq0.false

pub returns-then-parts-eq0 : goal.returns-then-parts-eq0
returns-then-parts-eq0 c =
    let v = c.loop-index.invariant in
    elim c.then-parts-eq0.branch [
      | then-parts-eq0-via-then-parts-eq0 w ↦
          sym (stops-none_open c.args.ops.now c.loop-index.index c.loop-index-test.true v.ordered (sym w.if-parts-eq0.true ∙ v.noted.counted))
      | then-parts-eq0-via-else-parts-eq0+then-not-may_follow w ↦
          sym (stops-no_follower c.args.ops.now c.loop-index.index _ c.loop-index-test.true v.ordered (sym w.may_follow.ensures.answer ∙ w.if-not-may_follow.true))
    ]

pub loop-index-preserved : goal.loop-index-preserved
loop-index-preserved c =
    let v = c.loop-index.invariant in
    let e = c.may_follow.ensures in
    record {
      within_limit = omega (arith, c.read.ensures.at_most, e.depth);
      ordered = one_further c.args.ops.now c.loop-index.index _ c.loop-index-test.true v.ordered (sym e.answer ∙ c.if-not-may_follow.false);
      noted = subst (AreNoted c.read.new.self.depth c.read.new.self.noted c.read.new.self.notes) (sym (parts-more c.args.ops.now c.loop-index.index _ c.loop-index-test.true)) (c.read.ensures.noted _ e.noted);
    }
