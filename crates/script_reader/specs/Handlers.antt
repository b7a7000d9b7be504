-- The handlers of a `resume`, as a script writes them (the crate's own).
use Rattle.std.specs.Prelude.{◌≡◌, ◌++◌, ℕ, List, [], ◌∷◌, codes}
use Rattle.std.specs.List.{AllZip}
use Rattle.validate_visit.specs.declared.resume.Handle.{Handle}
use Rattle.validate_visit.specs.declared.resume.Handle.TheVariants.{OnLabel, OnSwitch}
use Rattle.script_reader.specs.Catches.{IsTagAndLabel}
use Rattle.script_reader.specs.Numbers.{WritesIndex}

-- what stands before the immediates of a handler
abbrev pub handler_prefix : Handle → List ℕ
handler_prefix (OnLabel tag label) = codes "on:"
handler_prefix (OnSwitch tag) = codes "switch:"

-- the word writes its tag, and its label where it goes to one
abbrev pub IsHandlerImmediates : List ℕ → Handle → Type 0
IsHandlerImmediates word (OnLabel tag label) = IsTagAndLabel word tag label
IsHandlerImmediates word (OnSwitch tag) = WritesIndex word tag

-- the word writes the handler
abbrev pub IsHandlerName : List ℕ → Handle → Type 0
IsHandlerName word handle =
    (rest : List ℕ) × (word ≡ handler_prefix handle ++ rest) × IsHandlerImmediates rest handle

-- the words write the index of the type of what is resumed, and its handlers
abbrev pub AreResumeImmediates : List (List ℕ) → ℕ → List Handle → Type 0
AreResumeImmediates (word ∷ words) type handlers = WritesIndex word type × AllZip IsHandlerName words handlers
AreResumeImmediates [] type handlers = ⊥

-- the same, with the index of a tag between them
abbrev pub AreThrowImmediates : List (List ℕ) → ℕ → ℕ → List Handle → Type 0
AreThrowImmediates (word ∷ words) type tag handlers = WritesIndex word type × AreResumeImmediates words tag handlers
AreThrowImmediates [] type tag handlers = ⊥
