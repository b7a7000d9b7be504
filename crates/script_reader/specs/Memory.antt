-- Memories, as a script writes them (the crate's own).
use Rattle.std.specs.Prelude.{ℕ, List, [], ◌∷◌, ◌++◌, codes, if◌then◌else◌}
use Rattle.validate_types.specs.declared.types.MemoryType.{MemoryType}

-- the marks of a memory, in their order
abbrev pub memory_marks : MemoryType → List (List ℕ)
memory_marks m = (if m.memory64 then codes "64" ∷ [] else []) ++ (if m.shared then codes "shared" ∷ [] else [])
