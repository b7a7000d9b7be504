-- An item more is read, or it can't be.
use Rattle.std.proofs.Common.{arith, ap, sym, ◌∙◌, ◌+◌, ◌-◌}
use Rattle.binary_operators.specs.Values.{so_many}
use Rattle.binary_operators.proofs.Items.{with_front, one_more, list_broken}
use Rattle.binary_operators.proofs.lists.read_list.Goals as goal

pub loop-preserved : goal.loop-preserved
loop-preserved g c =
    let e = c.in_default.ensures.read in
    let reading = g.T.Item.reading c.args.canonical in
    let count = c.in_ok-count.count in
    let i = c.loop.counter in
    let left = c.read_item.new.reader.left in
    ap (λ items. with_front items (so_many reading (count - (i + 1)) left)) e.2
    ∙ sym (one_more reading count i c.loop.reader.left c.loop.items.items e.0 left (omega arith) e.1)
    ∙ c.loop.invariant

pub returns-in-Err-clause-refused : goal.returns-in-Err-clause-refused
returns-in-Err-clause-refused g c = λ short.
    list_broken (g.T.Item.reading c.args.canonical) c.args.reader.now.left c.in_ok-count.count c.loop.counter
    c.read_var_u32.new.self.left c.loop.reader.left c.loop.items.items c.in_ok-count.ensures.read
    c.loop.invariant c.loop-test.true (c.in-Err.ensures.refused short)
