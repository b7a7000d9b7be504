-- Tables, as a script writes them (the crate's own).
use Rattle.std.specs.Prelude.{ℕ, List, [], ◌∷◌, ◌++◌, codes, if◌then◌else◌}
use Rattle.validate_types.specs.declared.types.TableType.{TableType}

-- the marks of a table, in their order
abbrev pub table_marks : TableType → List (List ℕ)
table_marks t = (if t.table64 then codes "64" ∷ [] else []) ++ (if t.shared then codes "shared" ∷ [] else [])
