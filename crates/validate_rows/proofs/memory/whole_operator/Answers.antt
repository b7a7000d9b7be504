use Rattle.std.proofs.Common.{rules}
use Rattle.validation_rules.specs.Memory.{memory_row}
use Rattle.validate_rows.proofs.memory.whole_operator.Goals as goal
use Rattle.validate_rows.proofs.memory.whole_operator.Goals.{in-MemorySize, in-MemoryGrow, in-MemoryInit, in-DataDrop, in-MemoryCopy, in-MemoryFill, in-MemoryDiscard}

pub returns : goal.returns
returns g c =
    let moves = c.exchange_found.ensures (λ cx. memory_row cx c.args.op) in
    elim c.match-op.branch [
      | in-MemorySize w ↦ moves (search (rules, w.size_types-found.ensures))
      | in-MemoryGrow w ↦ moves (search (rules, w.grow_types-found.ensures))
      | in-MemoryInit w ↦ moves (search (rules, w.init_types-found.ensures))
      | in-DataDrop w ↦ moves (search (rules, w.drop_types-found.ensures))
      | in-MemoryCopy w ↦ moves (search (rules, w.copy_types-found.ensures))
      | in-MemoryFill w ↦ moves (search (rules, w.fill_types-found.ensures))
      | in-MemoryDiscard w ↦ moves (search (rules, w.discard_types-found.ensures))
    ]
