-- Recursion groups in the bytes of a module, and which of them are equal (WebAssembly core specification,
-- "Binary Format: Types", "Recursive Types", and "Modules", "Type Section"; "Structure: Types", "Defined
-- Types").
use Rattle.std.specs.Prelude.{ℕ, zero, suc, Bool, true, false, List, [], ◌∷◌, ◌++◌, length}
use Rattle.std.specs.Prelude.{flat_map, Option, Some, if◌then◌else◌}
use Rattle.std.specs.Cmp.Lexicographic.{pointwise}
use Rattle.std.specs.List.{range_with_len}
use Rattle.binary_operators.specs.Unplaced.{nowhere}
use Rattle.binary_operators.specs.Integers.{unsigned}
use Rattle.binary_operators.specs.Values.{◌>>=◌, so_many}
use Rattle.binary_operators.specs.declared.types.CanonicalTypes.{CanonicalTypes}
use Rattle.binary_operators.specs.declared.types.GroupNames.{GroupNames}
use Rattle.binary_operators.specs.declared.types.GroupNames.TheVariants.{Places, Indices}
use Rattle.validate_types.specs.contracts.types.SubTypePartialEq.TheImpl as sub_type_eq
use Rattle.validate_types.specs.declared.types.SubType.{SubType}
use Rattle.binary_modules.specs.Parts.{marked}
use Rattle.binary_modules.specs.SubTypes.{sub_type}

-- ---- one group

-- how many types it has: so many as are written where it is a list, or one
abbrev pub group_count : Bool → List ℕ → Option (ℕ × List ℕ)
group_count true bytes = unsigned 32 bytes
group_count false bytes = Some (1, bytes)

-- whether a group is written as a list, behind code 0x4e, or is one type alone; and its types
unfoldable pub rec_group : CanonicalTypes → List ℕ → Option ((Bool × List SubType) × List ℕ)
rec_group types bytes = do
  explicit ← marked 0x4e bytes
  count ← group_count explicit.0 explicit.1
  read ← so_many (sub_type types) count.0 count.1
  Some ((explicit.0, read.0), read.1)

-- ---- the groups of a module

-- a group that was read
pub record Group : Type 0 where
  -- its types, rolled up: they name each other by their places in it
  pub rolled : List SubType
  -- its types, as they are declared: they name each other by their indices
  pub types : List SubType
  -- the index that stands for that of its first type
  pub first : ℕ
  -- whether it is written as a list
  pub explicit : Bool

abbrev pub types_of : List Group → List SubType
types_of groups = flat_map (λ (g : Group). g.types) groups

-- of each type the index of the one that stands for it
abbrev pub canonical_of : List Group → List ℕ
canonical_of groups = flat_map (λ (g : Group). range_with_len g.first (length g.types)) groups

-- how the types of a group are named: those before it by the indices that stand for them
abbrev pub naming : List ℕ → GroupNames → CanonicalTypes
naming canonical names = record { canonical = record { ref_ptr = nowhere; now = canonical }; group = names }

abbrev pub are_equal : List SubType → List SubType → Bool
are_equal types others = pointwise (sub_type_eq.ghosts).eq types others

-- The index that stands for that of the first type of a group, which is rolled up: that of the first of these
-- groups that is equal to it, or its own where none is.
abbrev pub first_equal : List Group → List SubType → ℕ → ℕ
first_equal [] rolled own = own
first_equal (g ∷ groups) rolled own =
    if are_equal g.rolled rolled then g.first else first_equal groups rolled own

abbrev pub first_of : List Group → List SubType → ℕ
first_of before rolled = first_equal before rolled (length (canonical_of before))

-- the group that the bytes begin with, where these stand before it
unfoldable pub group : List Group → List ℕ → Option (Group × List ℕ)
group before bytes = do
  rolled ← rec_group (naming (canonical_of before) Places) bytes
  declared ← rec_group (naming (canonical_of before) (Indices (first_of before rolled.0.1))) bytes
  Some (
    record {
      rolled = rolled.0.1;
      types = declared.0.1;
      first = first_of before rolled.0.1;
      explicit = rolled.0.0;
    },
    rolled.1,
  )

-- so many groups, where these stand before them
abbrev pub so_many_groups : List Group → ℕ → List ℕ → Option (List Group × List ℕ)
so_many_groups before zero bytes = Some ([], bytes)
so_many_groups before (suc n) bytes = do
  first ← group before bytes
  others ← so_many_groups (before ++ first.0 ∷ []) n first.1
  Some (first.0 ∷ others.0, others.1)

-- how many groups there are, and the groups
unfoldable pub groups : List ℕ → Option (List Group × List ℕ)
groups bytes = do
  count ← unsigned 32 bytes
  so_many_groups [] count.0 count.1
