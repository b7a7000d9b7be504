-- The functions behind those that were looked at decide.
use Rattle.std.proofs.Common.{◌≡◌, ℕ, drop}
use Rattle.std.specs.List.{list_all, enumerate_from}
use Rattle.module_rules.specs.Functions.{is_valid_function}
use Rattle.module_rules.specs.declared.items.DeclaredFunction.{DeclaredFunction}
use Rattle.module_rules.proofs.functions.check_each_function.Given as goal

abbrev pub invariant-loop-index : goal.invariant-loop-index
invariant-loop-index l =
    let passes = λ (e : ℕ × DeclaredFunction). is_valid_function l.features l.types l.imported e.0 e.1 in
    list_all passes (enumerate_from l.index (drop l.index l.functions)) ≡ list_all passes (enumerate_from 0 l.functions)
