-- The clauses of a `try_table`, one by one, as a check makes them (WebAssembly core specification, "Control
-- Instructions", try_table).
use Rattle.std.specs.Prelude.{Bool, false, List, Option, Some, None}
use Rattle.std.specs.List.{list_all}
use Rattle.validate_visit.specs.declared.catch.Catch.{Catch}
use Rattle.validation_rules.specs.Context.{Context}
use Rattle.validation_rules.specs.Exceptions.{catch_clause}
use Rattle.validation_rules.specs.Rows.{Head, Clause}
use Rattle.validation_rules.specs.Static.{clause_fits}

-- a clause that fits, where there is one
abbrev pub is_fitting_clause : Context → List Head → Option Clause → Bool
is_fitting_clause cx hs None = false
is_fitting_clause cx hs (Some clause) = clause_fits cx hs clause

-- its tag, where it names one, is there and gives nothing back, and its label takes what it carries
abbrev pub is_fitting_catch : Context → List Head → Catch → Bool
is_fitting_catch cx hs catch = is_fitting_clause cx hs (catch_clause cx.of_module catch)

abbrev pub are_fitting_catches : Context → List Head → List Catch → Bool
are_fitting_catches cx hs catches = list_all (is_fitting_catch cx hs) catches
