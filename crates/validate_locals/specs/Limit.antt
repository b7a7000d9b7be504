-- The limit of locals (the crate's own: implementations bound what the standard leaves open).
use Rattle.std.specs.Prelude.{ℕ}

-- how many locals a function has at the most, its parameters counted
abbrev pub max_locals : ℕ
max_locals = 50000
