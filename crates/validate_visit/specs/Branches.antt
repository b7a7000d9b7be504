-- The labels of a `br_table` (WebAssembly core specification, "Control Instructions").
use Rattle.std.specs.Prelude.{ℕ, Bool, List, [], ◌∷◌, ◌++◌, map, if◌then◌else◌, Result, Ok, Err}
use Rattle.validate_visit.specs.declared.br_table.IncompleteTable.{IncompleteTable}
use Rattle.validate_visit.specs.declared.br_table.BrTableTargets.{BrTableTargets}

-- each of the targets, and then an error if some are missing
abbrev pub targets_given : List ℕ → Bool → List (Result ℕ IncompleteTable)
targets_given targets complete =
    map Ok targets ++ (if complete then [] else Err record {} ∷ [])

-- what an iterator has yet to give
abbrev pub targets_left : BrTableTargets → List (Result ℕ IncompleteTable)
targets_left it = targets_given it.targets.now it.complete
