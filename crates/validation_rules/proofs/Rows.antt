-- A plain row from all its parts.
use Rattle.std.proofs.Common.{ℕ, Bool, List, Option}
use Rattle.validation_rules.specs.Context.{ValType}
use Rattle.validation_rules.specs.Rows.{Plain, Target, Clause, Row}

abbrev pub row_with : Bool → Option ℕ → List ValType → List (List ValType) → List ValType → Option ℕ → List Target → List Clause → Bool → Row
row_with premise reads expected also pushed sets targets clauses dead =
    record { premise = premise; reads = reads; type = Plain expected also pushed; sets = sets; targets = targets; clauses = clauses; ends_live = dead }
