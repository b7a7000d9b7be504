-- The immediates of a load or a store, as a script writes them (the crate's own).
use Rattle.std.specs.Prelude.{◌≡◌, ◌+◌, ℕ, List, Option, Some, None, IfSome, find, drop, length, codes}
use Rattle.std.specs.Prelude.{is_some, unwrap_or, nat_eq, if◌then◌else◌}
use Rattle.std.specs.List.{starts_with}
use Rattle.std.specs.Option.{option_map}
use Rattle.std.specs.Str.Parse.{digits_value}
use Rattle.validate_visit.specs.declared.memory.MemArg.{MemArg}
use Rattle.validate_visit.specs.declared.memory.MemArgTarget.{MemArgTarget}
use Rattle.validate_visit.specs.declared.memory.MemArgTarget.TheVariants.{Memory, Array}
use Rattle.script_reader.specs.Numbers.{IsIndex, IsExponent, IsLongNumber}

-- what follows this name in the first word that begins with it
abbrev pub text_after : List ℕ → List (List ℕ) → Option (List ℕ)
text_after name words =
    option_map (λ word. drop (length name) word) (find (λ word. starts_with nat_eq word name) words)

abbrev pub offset_in : List (List ℕ) → Option (List ℕ)
offset_in words = text_after (codes "offset=") words

abbrev pub align_in : List (List ℕ) → Option (List ℕ)
align_in words = text_after (codes "align=") words

abbrev pub memory_in : List (List ℕ) → Option (List ℕ)
memory_in words = text_after (codes "mem=") words

abbrev pub array_in : List (List ℕ) → Option (List ℕ)
array_in words = text_after (codes "array=") words

abbrev pub one_if_some : Option (List ℕ) → ℕ
one_if_some said = if is_some said then 1 else 0

-- a memory or an array is said, not both, and by its index
abbrev pub IsTarget : Option (List ℕ) → Option (List ℕ) → Type 0
IsTarget memory None = IfSome memory IsIndex
IsTarget None (Some array) = IsIndex array
IsTarget (Some memory) (Some array) = ⊥

-- Words that write the immediates of an access. Each says one of the four, and no two say the same:
-- there are as many words as are said of the four.
pub record IsAccess (words : List (List ℕ)) : Type 0 where
  pub known :
      length words
      ≡ one_if_some (offset_in words) + one_if_some (align_in words)
      + one_if_some (memory_in words) + one_if_some (array_in words)
  pub offset : IfSome (offset_in words) IsLongNumber
  pub align : IfSome (align_in words) IsExponent
  pub target : IsTarget (memory_in words) (array_in words)

-- the number that is said, or else this one
abbrev pub number_or : ℕ → Option (List ℕ) → ℕ
number_or default said = unwrap_or (option_map (λ digits. digits_value 10 digits) said) default

-- what is accessed: an array of the type that is said, or else a memory
abbrev pub target_of : Option (List ℕ) → Option (List ℕ) → MemArgTarget
target_of memory None = Memory (number_or 0 memory)
target_of memory (Some array) = Array (digits_value 10 array)

-- the access that the words write, of an operator of this natural alignment
abbrev pub access_of : List (List ℕ) → ℕ → MemArg
access_of words natural = record {
  align = number_or natural (align_in words);
  max_align = natural;
  offset = number_or 0 (offset_in words);
  target = target_of (memory_in words) (array_in words);
}
