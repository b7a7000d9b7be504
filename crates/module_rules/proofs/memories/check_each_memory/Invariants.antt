-- The memories behind those that were looked at decide.
use Rattle.std.proofs.Common.{◌≡◌, drop}
use Rattle.std.specs.List.{list_all}
use Rattle.module_rules.specs.Memories.{is_valid_memory}
use Rattle.module_rules.proofs.memories.check_each_memory.Given as goal

abbrev pub invariant-loop-memory : goal.invariant-loop-memory
invariant-loop-memory l =
    let passes = is_valid_memory l.features in
    list_all passes (drop l.memory-index l.memories) ≡ list_all passes l.memories
