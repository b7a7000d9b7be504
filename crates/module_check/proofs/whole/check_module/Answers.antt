-- One more item is checked, and at the end each is.
use Rattle.std.proofs.Common.{◌<◌, inl, inr, arith}
use Rattle.module_check.specs.Items.{item_count}
use Rattle.module_check.proofs.Row.{one_more, valid}
use Rattle.module_check.proofs.whole.check_module.Goals as goal

pub loop-place-preserved : goal.loop-place-preserved
loop-place-preserved c = record {
  consistent = c.note.ensures.consistent;
  safe = λ z.
      let noted = c.note.ensures.accepted z in
      one_more c.args.module.now c.loop-place.place (c.loop-place.invariant.safe noted.0) (c.check_item-checked.ensures.safe noted.1);
  known = λ few. c.note.ensures.known (c.loop-place.invariant.known few);
  refused = λ no.
      elim (c.note.ensures.refused no) [
        | inl before ↦ c.loop-place.invariant.refused before
        | inr this ↦ inr (
            let within : c.loop-place.place < item_count c.args.module.now = omega (arith, c.loop-place-test.true, c.item_count-place-end.ensures) in
            c.check_item-checked.ensures.unaccepted within this.0 this.1)
      ];
  uncovered = λ four.
      elim (c.note.ensures.uncovered four) [
        | inl before ↦ c.loop-place.invariant.uncovered before
        | inr this ↦ inr (
            let within : c.loop-place.place < item_count c.args.module.now = omega (arith, c.loop-place-test.true, c.item_count-place-end.ensures) in
            (c.loop-place.place, within, c.check_item-checked.ensures.uncovered this.0 this.1))
      ];
  malformed = λ two.
      elim (c.note.ensures.malformed two) [
        | inl before ↦ c.loop-place.invariant.malformed before
        | inr this ↦ inr (
            let within : c.loop-place.place < item_count c.args.module.now = omega (arith, c.loop-place-test.true, c.item_count-place-end.ensures) in
            (c.loop-place.place, within, c.check_item-checked.ensures.malformed this.0 this.1))
      ];
  invalid = λ one.
      elim (c.note.ensures.invalid one) [
        | inl before ↦ c.loop-place.invariant.invalid before
        | inr this ↦ inr (
            let within : c.loop-place.place < item_count c.args.module.now = omega (arith, c.loop-place-test.true, c.item_count-place-end.ensures) in
            (c.loop-place.place, within, c.check_item-checked.ensures.invalid this.0 this.1))
      ];
  counted = λ enough none.
      let noted = c.note.ensures.counted enough in
      let so_far = c.loop-place.invariant.counted noted.0 none in
      let one_more = noted.1 (omega (arith, so_far, c.loop-place-test.true)) in
      omega (arith, so_far, one_more);
}

pub returns-clause-accepted : goal.returns-clause-accepted
returns-clause-accepted c = λ z. valid c.args.module.now c.loop-place.place (omega (arith, c.loop-place-test.false, c.item_count-place-end.ensures)) (c.loop-place.invariant.safe z)
