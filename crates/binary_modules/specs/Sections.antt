-- The sections of a module (WebAssembly core specification, "Binary Format: Modules", "Sections" and
-- "Modules"; the standard gives the places of sections in its grammar of modules).
use Rattle.std.specs.Prelude.{ℕ, zero, suc, Bool, true, false, List, [], ◌∷◌, length, ◌||◌, ◌&&◌, not}
use Rattle.std.specs.Prelude.{Option, Some, None, is_some, nat_eq, if◌then◌else◌}
use Rattle.std.specs.List.{list_all}
use Rattle.binary_operators.specs.Integers.{unsigned}
use Rattle.binary_operators.specs.Values.{◌>>=◌, byte, list_of}
use Rattle.binary_modules.specs.Parts.{bytes_behind, name, sized, whole}

pub record Section : Type 0 where
  pub id : ℕ
  pub contents : List ℕ

unfoldable pub section : List ℕ → Option (Section × List ℕ)
section bytes = do
  id ← byte bytes
  contents ← sized id.1
  Some (record { id = id.0; contents = contents.0 }, contents.1)

-- the sections that all the bytes are, which are no more than bytes
abbrev pub sections : ℕ → List ℕ → Option (List Section)
sections most [] = Some []
sections zero (b ∷ bytes) = None
sections (suc most) (b ∷ bytes) = do
  first ← section (b ∷ bytes)
  others ← sections most first.1
  Some (first.0 ∷ others)

-- ---- their order

-- types, imports, functions, tables, memories, tags, globals, exports, the start function, element segments,
-- how many data segments there are, bodies, data segments
abbrev pub section_ids : List ℕ
section_ids = 1 ∷ 2 ∷ 3 ∷ 4 ∷ 5 ∷ 13 ∷ 6 ∷ 7 ∷ 8 ∷ 9 ∷ 12 ∷ 10 ∷ 11 ∷ []

-- the ids behind this one, if it is among them
abbrev pub ids_behind : ℕ → List ℕ → Option (List ℕ)
ids_behind id [] = None
ids_behind id (i ∷ ids) = if nat_eq i id then Some ids else ids_behind id ids

-- the ids that may follow a section with this one: all of these behind a custom section, whose id is 0
abbrev pub next_ids : ℕ → List ℕ → Option (List ℕ)
next_ids id ids = if nat_eq id 0 then Some ids else ids_behind id ids

abbrev pub if_any : Option (List ℕ) → (List ℕ → Bool) → Bool
if_any None further = false
if_any (Some ids) further = further ids

-- each section has one of the ids that may follow the section before it
abbrev pub are_in_order : List ℕ → List Section → Bool
are_in_order ids [] = true
are_in_order ids (s ∷ sections) = if_any (next_ids s.id ids) (λ rest. are_in_order rest sections)

-- a custom section begins with a name
abbrev pub is_named : Section → Bool
is_named s = not (nat_eq s.id 0) || is_some (name s.contents)

-- the bytes behind the header of a module
abbrev pub header : List ℕ → Option (List ℕ)
header bytes = bytes_behind (0x00 ∷ 0x61 ∷ 0x73 ∷ 0x6d ∷ 0x01 ∷ 0x00 ∷ 0x00 ∷ 0x00 ∷ []) bytes

-- the sections of a module, which are in order, and of which each custom one has a name
unfoldable pub module_sections : List ℕ → Option (List Section)
module_sections bytes = do
  left ← header bytes
  all ← sections (length left) left
  if are_in_order section_ids all && list_all is_named all then Some all else None

-- ---- what stands in them

-- the contents of the section with this id: without one they are an empty list
abbrev pub contents_of : ℕ → List Section → List ℕ
contents_of id [] = 0x00 ∷ []
contents_of id (s ∷ sections) = if nat_eq s.id id then s.contents else contents_of id sections

-- the contents of the section with this id, if there is one
abbrev pub section_contents : ℕ → List Section → Option (List ℕ)
section_contents id [] = None
section_contents id (s ∷ sections) =
    if nat_eq s.id id then Some s.contents else section_contents id sections

-- all items of the section with this id
abbrev pub items_of : {A : Type 0} → (List ℕ → Option (A × List ℕ)) → ℕ → List Section → Option (List A)
items_of item id sections = whole (list_of item (contents_of id sections))

-- the number that a section is, if there is one
abbrev pub number_in : Option (List ℕ) → Option (Option ℕ)
number_in None = Some None
number_in (Some contents) = do
  number ← whole (unsigned 32 contents)
  Some (Some number)

abbrev pub number_of : ℕ → List Section → Option (Option ℕ)
number_of id sections = number_in (section_contents id sections)
