-- A stack over a vector, as contracts see it (the crate's own).
use Rattle.std.specs.Prelude.{ℕ, List}

-- the items, the newest first, and how many there is room for
pub record Piled (X : Type 0) : Type 0 where
  pub items : List X
  pub room : ℕ
