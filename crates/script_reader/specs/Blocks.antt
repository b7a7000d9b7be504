-- The types of blocks, as a script writes them (the crate's own).
use Rattle.std.specs.Prelude.{ℕ, List, Bool, true}
use Rattle.validate_visit.specs.declared.frame.BlockType.{BlockType}
use Rattle.validate_visit.specs.declared.frame.BlockType.TheVariants.{Empty, Val, FuncType}
use Rattle.script_reader.specs.Numbers.{WritesIndex}
use Rattle.script_reader.specs.Values.{IsValueName, fits_value}

-- the word names the type of a block; none names the empty one
abbrev pub IsBlockName : List ℕ → BlockType → Type 0
IsBlockName word Empty = ⊥
IsBlockName word (Val t) = IsValueName word t
IsBlockName word (FuncType index) = WritesIndex word index

-- the type index in it is packed, if it has one
abbrev pub fits_block : BlockType → Bool
fits_block (Val t) = fits_value t
fits_block _ = true
