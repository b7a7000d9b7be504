-- Functions, as a script declares them (the crate's own).
use Rattle.std.specs.Prelude.{ℕ, Bool, List, [], ◌∷◌, ◌++◌, codes, if◌then◌else◌}
use Rattle.validate_resources.specs.declared.lists.FuncDecl.{FuncDecl}

-- the word, where a mark stands
abbrev pub marked : Bool → List ℕ → List (List ℕ)
marked stands word = if stands then word ∷ [] else []

-- the marks of a function: that `ref.func` may name it, and that a reference to it is exact
abbrev pub function_marks : FuncDecl → List (List ℕ)
function_marks f = marked f.referenced (codes "ref") ++ marked f.exact (codes "exact")
