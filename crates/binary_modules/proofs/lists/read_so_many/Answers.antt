-- An item more is read, or it can't be.
use Rattle.std.proofs.Common.{arith, ap, sym, ◌∙◌, ◌+◌, ◌-◌}
use Rattle.binary_operators.specs.Values.{so_many}
use Rattle.binary_operators.proofs.Items.{with_front, one_more, none_more}
use Rattle.binary_modules.proofs.Fronts.{none_behind}
use Rattle.binary_modules.proofs.lists.read_so_many.Goals as goal

pub loop-preserved : goal.loop-preserved
loop-preserved g c =
    let e = c.in_default.ensures.read in
    let reading = g.T.Item.reading c.args.canonical in
    let count = c.args.count in
    let i = c.loop.counter in
    let left = c.read_item.new.reader.left in
    ap (λ items. with_front items (so_many reading (count - (i + 1)) left)) e.2
    ∙ sym (one_more reading count i c.loop.reader.left c.loop.items.items e.0 left (omega arith) e.1)
    ∙ c.loop.invariant

pub returns-in-Err-clause-refused : goal.returns-in-Err-clause-refused
returns-in-Err-clause-refused g c = λ short.
    let reading = g.T.Item.reading c.args.canonical in
    none_behind c.args.items.now.items (so_many reading c.args.count c.args.reader.now.left) (
    sym c.loop.invariant
    ∙ none_more reading c.args.count c.loop.counter c.loop.reader.left c.loop.items.items c.loop-test.true (c.in-Err.ensures.refused short))
