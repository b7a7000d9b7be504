-- The tables behind those that were looked at decide.
use Rattle.std.proofs.Common.{◌≡◌, ℕ, drop}
use Rattle.std.specs.List.{list_all, enumerate_from}
use Rattle.module_rules.specs.Tables.{is_valid_table}
use Rattle.module_rules.specs.declared.items.DeclaredTable.{DeclaredTable}
use Rattle.module_rules.proofs.tables.check_each_table.Given as goal

abbrev pub invariant-loop-index : goal.invariant-loop-index
invariant-loop-index l =
    let passes = λ (e : ℕ × DeclaredTable). is_valid_table l.features l.types l.imported e.0 e.1 in
    list_all passes (enumerate_from l.index (drop l.index l.tables)) ≡ list_all passes (enumerate_from 0 l.tables)
