-- The sections of a module, as their reader goes through them (the crate's own).
use Rattle.std.specs.Prelude.{◌≡◌, ℕ, List, [], ◌∷◌, Option, Some, None}
use Rattle.binary_operators.specs.Integers.{unsigned}
use Rattle.binary_modules.specs.Sections.{Section, section}

-- the bytes begin with exactly these sections, and these bytes are behind them
abbrev pub AreSectionsIn : List ℕ → List Section → List ℕ → Type 0
AreSectionsIn bytes [] rest = bytes ≡ rest
AreSectionsIn bytes (s ∷ sections) rest =
    (behind : List ℕ) × (section bytes ≡ Some (s, behind)) × AreSectionsIn behind sections rest

-- a section with these contents is this number, or there is neither
abbrev pub IsNumber : Option (List ℕ) → Option ℕ → Type 0
IsNumber None number = number ≡ None
IsNumber (Some contents) number = (n : ℕ) × (unsigned 32 contents ≡ Some (n, [])) × (number ≡ Some n)
