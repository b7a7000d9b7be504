-- One more item is checked.
use Rattle.std.proofs.Common.{◌<◌, inl, inr, arith}
use Rattle.module_check.specs.Items.{item_count}
use Rattle.module_check.proofs.Row.{one_more}
use Rattle.wasmcheck.proofs.Found.{found_in, found_since}
use Rattle.wasmcheck.proofs.module.ModuleCheck.check_items.Goals as goal

pub loop-place-preserved : goal.loop-place-preserved
loop-place-preserved g c = record {
  safe = λ valid.
      let counted = c.in_ok-check_item.ensures.valid valid in
      one_more c.args.self.now.module.now c.loop-place.place (c.loop-place.invariant.safe counted.0) counted.1;
  found =
      elim c.in_ok-check_item.ensures.found [
        | inl same ↦ found_since c.args.self.now.module.now _ _ _ c.loop-place.invariant.found same
        | inr this ↦ inr (
            let within : c.loop-place.place < item_count c.args.self.now.module.now = omega (arith, c.loop-place-test.true, c.item_count-all.ensures) in
            found_in c.args.self.now.module.now c.loop-place.place _ within this)
      ];
}
