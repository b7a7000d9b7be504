-- The globals behind those that were looked at decide.
use Rattle.std.proofs.Common.{◌≡◌, ℕ, drop}
use Rattle.std.specs.List.{list_all, enumerate_from}
use Rattle.module_rules.specs.Globals.{is_valid_global}
use Rattle.module_rules.specs.declared.items.DeclaredGlobal.{DeclaredGlobal}
use Rattle.module_rules.proofs.globals.check_each_global.Given as goal

abbrev pub invariant-loop-index : goal.invariant-loop-index
invariant-loop-index l =
    let passes = λ (e : ℕ × DeclaredGlobal). is_valid_global l.features l.types l.imported e.0 e.1 in
    list_all passes (enumerate_from l.index (drop l.index l.globals)) ≡ list_all passes (enumerate_from 0 l.globals)
