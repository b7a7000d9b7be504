-- The indices behind those that were looked at decide.
use Rattle.std.proofs.Common.{◌≡◌, drop, ℕ, nat_lt}
use Rattle.std.specs.List.{list_all}
use Rattle.module_rules.proofs.elements.check_functions_named.Given as goal

abbrev pub invariant-loop-function : goal.invariant-loop-function
invariant-loop-function l =
    let passes = λ (i : ℕ). nat_lt i l.functions in
    list_all passes (drop l.function-index l.indices) ≡ list_all passes l.indices
