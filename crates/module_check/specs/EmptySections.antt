-- A code section of empty bodies, and a data section of empty segments: what stands behind the declarations of a
-- module that has no bodies yet to make it whole (WebAssembly core specification, "Binary Format: Modules").
use Rattle.std.specs.Prelude.{ℕ, zero, suc, ◌+◌, ◌-◌, ◌/◌, ◌%◌, ◌^◌, min, nat_lt, if◌then◌else◌}
use Rattle.std.specs.Prelude.{List, [], ◌∷◌, ◌++◌, drop, length, replicate, Option, Some, None}
use Rattle.binary_operators.specs.Integers.{unsigned}
use Rattle.binary_modules.specs.Sections.{Section, section, section_contents}

-- an integer of 28 bits in four bytes ("Binary Format: Values", integers)
abbrev pub number_bytes : ℕ → List ℕ
number_bytes n =
    (n % 0x80 + 0x80) ∷ (n / 0x80 % 0x80 + 0x80) ∷ (n / 0x4000 % 0x80 + 0x80) ∷ (n / 0x20_0000) ∷ []

-- a section of this number with a list of so many items, which are these bytes
abbrev pub list_section : ℕ → ℕ → List ℕ → List ℕ
list_section id count items = id ∷ (number_bytes (length items + 4) ++ (number_bytes count ++ items))

-- passive data segments without bytes
abbrev pub empty_segments : ℕ → List ℕ
empty_segments zero = []
empty_segments (suc n) = empty_segments n ++ (1 ∷ 0 ∷ [])

-- so many bodies and data segments
unfoldable pub sections_behind : ℕ → ℕ → List ℕ
sections_behind functions segments =
    list_section 10 functions (replicate functions 0) ++ list_section 11 segments (empty_segments segments)

-- ---- how many bodies and data segments

-- the sections that the bytes begin with, up to the first that can't be read
abbrev pub and_others : Option (Section × List ℕ) → (List ℕ → List Section) → List Section
and_others None others = []
and_others (Some first) others = first.0 ∷ others first.1

abbrev pub first_sections : ℕ → List ℕ → List Section
first_sections zero bytes = []
first_sections (suc most) bytes = and_others (section bytes) (first_sections most)

-- those behind the header of a module, which has eight bytes
abbrev pub sections_begun : List ℕ → List Section
sections_begun bytes = let behind = drop 8 bytes in first_sections (length behind) behind

-- the count that contents begin with, or 0
abbrev pub count_or_zero : Option (ℕ × List ℕ) → ℕ
count_or_zero None = 0
count_or_zero (Some count) = count.0

abbrev pub count_in : List ℕ → ℕ
count_in contents = count_or_zero (unsigned 32 contents)

-- how many functions a section counts; there are no more than bytes, and they fit into a code section
abbrev pub functions_in : Option (List ℕ) → ℕ
functions_in None = 0
functions_in (Some contents) =
    if nat_lt (length contents) (count_in contents) then 0 else min (count_in contents) (2 ^ 28 - 5)

-- how many data segments a section counts, of which more are past the limits of this implementation
abbrev pub segments_in : Option (List ℕ) → ℕ
segments_in None = 0
segments_in (Some contents) = min (count_in contents) 1_000_001

-- These bytes with empty bodies behind them, and with empty data segments: as many as their function section and
-- their section of how many data segments there are count.
unfoldable pub completed : List ℕ → List ℕ
completed bytes =
    let sections = sections_begun bytes in
    bytes ++ sections_behind (functions_in (section_contents 3 sections)) (segments_in (section_contents 12 sections))
