-- The clauses of a `try_table`, as a script writes them (the crate's own).
use Rattle.std.specs.Prelude.{◌≡◌, ◌==◌, ◌++◌, ℕ, List, [], ◌∷◌, codes}
use Rattle.std.specs.List.{AllZip, before_first, after_first}
use Rattle.validate_visit.specs.declared.catch.Catch.{Catch}
use Rattle.validate_visit.specs.declared.catch.Catch.TheVariants.{One, OneRef, All, AllRef}
use Rattle.validate_visit.specs.declared.frame.BlockType.{BlockType}
use Rattle.validate_visit.specs.declared.frame.BlockType.TheVariants.{Empty}
use Rattle.script_reader.specs.Blocks.{IsBlockName}
use Rattle.script_reader.specs.Numbers.{WritesIndex}

-- the index of the tag stands before the first colon (58), and the label behind it
abbrev pub IsTagAndLabel : List ℕ → ℕ → ℕ → Type 0
IsTagAndLabel word tag label =
    WritesIndex (before_first (λ b. b == 58) word) tag × WritesIndex (after_first (λ b. b == 58) word) label

-- what stands before the immediates of a clause
abbrev pub catch_prefix : Catch → List ℕ
catch_prefix (One tag label) = codes "catch:"
catch_prefix (OneRef tag label) = codes "catch_ref:"
catch_prefix (All label) = codes "catch_all:"
catch_prefix (AllRef label) = codes "catch_all_ref:"

-- the word writes its tag, where it names one, and its label
abbrev pub IsCatchImmediates : List ℕ → Catch → Type 0
IsCatchImmediates word (One tag label) = IsTagAndLabel word tag label
IsCatchImmediates word (OneRef tag label) = IsTagAndLabel word tag label
IsCatchImmediates word (All label) = WritesIndex word label
IsCatchImmediates word (AllRef label) = WritesIndex word label

-- the word writes the clause
abbrev pub IsCatchName : List ℕ → Catch → Type 0
IsCatchName word catch =
    (rest : List ℕ) × (word ≡ catch_prefix catch ++ rest) × IsCatchImmediates rest catch

-- the words write the type of a `try_table`, unless it is the empty one, and its clauses
abbrev pub AreTryImmediates : List (List ℕ) → BlockType → List Catch → Type 0
AreTryImmediates words Empty catches = AllZip IsCatchName words catches
AreTryImmediates (word ∷ words) ty catches = IsBlockName word ty × AllZip IsCatchName words catches
AreTryImmediates [] ty catches = ⊥
