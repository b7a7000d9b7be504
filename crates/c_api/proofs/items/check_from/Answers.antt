-- One more is safe, and past the end of the row nothing stands.
use Rattle.std.proofs.Common.{rules, ◌≡◌, ◌≤◌, ◌<◌, refl, arith}
use Rattle.module_check.specs.Items.{item_count}
use Rattle.c_api.proofs.Rows.{one_more, all_from, reported_before}
use Rattle.c_api.proofs.items.check_from.Goals as goal

pub loop-place-preserved : goal.loop-place-preserved
loop-place-preserved c =
    let accepted : c.check_at.new.out.status ≡ 0 = search rules in record {
      consistent = c.check_at.ensures.consistent;
      accepted = accepted;
      unmoved = c.loop-place.invariant.unmoved;
      so_far = one_more c.args.module.now c.args.position.now c.loop-place.place c.loop-place.invariant.so_far (c.check_at.ensures.answer.safe accepted);
    }

pub returns-clause-rest : goal.returns-clause-rest
returns-clause-rest c = λ _. all_from c.args.module.now c.args.position.now c.loop-place.place c.loop-place.invariant.so_far (omega (arith, c.loop-place-test.false, c.item_count-place-end.ensures))

pub returns-then-out-ne-VALID-clause-reported : goal.returns-then-out-ne-VALID-clause-reported
returns-then-out-ne-VALID-clause-reported c = λ other.
    let from : c.args.position.now ≤ c.loop-place.place = search rules in
    let inside : c.loop-place.place < item_count c.args.module.now = omega (arith, c.loop-place-test.true, c.item_count-place-end.ensures) in
    reported_before c.args.module.now c.args.position.now c.loop-place.place _ c.check_at.new.out from inside refl c.loop-place.invariant.so_far
    (c.check_at.ensures.reported other) c.check_at.ensures.answer
