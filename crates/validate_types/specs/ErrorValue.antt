-- An `Error`, as contracts see it (the crate's own).
use Rattle.std.specs.Prelude.{ℕ, List, Bool}

-- where something was refused, in which words, and whether for want of memory
pub record ErrorValue : Type 0 where
  pub offset : ℕ
  pub text : List ℕ
  pub wants_memory : Bool
