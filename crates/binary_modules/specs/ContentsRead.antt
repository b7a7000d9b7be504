-- How the items of a section were read (the crate's own).
use Rattle.std.specs.Prelude.{◌≡◌, ℕ, List, [], ◌++◌, map, Option, Some}
use Rattle.binary_operators.specs.Unread.{Unread}
use Rattle.binary_operators.specs.Values.{list_of}
use Rattle.binary_modules.specs.Items.{Item, declared_items}
use Rattle.binary_modules.specs.Sections.{Section, contents_of}

-- The section with this id is a list of these items. They stand, as if each stood at offset 0, behind those
-- that were there.
pub record IsList {A : Type 0}
    (reading : List ℕ → Option (Item A × List ℕ)) (unplaced : A → A) (id : ℕ) (sections : List Section)
    (before after : List A) (read : List (Item A)) : Type 0 where
  pub are_read : list_of reading (contents_of id sections) ≡ Some (read, [])
  pub are_behind : map unplaced after ≡ map unplaced before ++ declared_items read

-- the bytes that readers have left
abbrev pub bytes_of : List Unread → List (List ℕ)
bytes_of readers = map (λ (r : Unread). r.left) readers
