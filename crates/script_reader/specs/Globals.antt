-- Globals, as a script writes them (the crate's own).
use Rattle.std.specs.Prelude.{ℕ, List, [], ◌∷◌, ◌++◌, codes, if◌then◌else◌}
use Rattle.validate_types.specs.declared.types.GlobalType.{GlobalType}

-- the marks of a global, in their order
abbrev pub global_marks : GlobalType → List (List ℕ)
global_marks g =
    (if g.mutable then codes "mut" ∷ [] else []) ++ (if g.shared then codes "shared" ∷ [] else [])
