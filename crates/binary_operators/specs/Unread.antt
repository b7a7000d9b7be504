-- What a reader of bytes has left (the crate's own).
use Rattle.std.specs.Prelude.{ℕ, List}

pub record Unread : Type 0 where
  -- the offset of the first byte that isn't read yet
  pub offset : ℕ
  -- the bytes that aren't read yet
  pub left : List ℕ
