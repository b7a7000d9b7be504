-- Recursion groups in the bytes of a module, as their reader goes through them (the crate's own).
use Rattle.std.specs.Prelude.{◌≡◌, ◌≢◌, ◌⊎◌, ℕ, Bool, List, [], ◌∷◌, ◌++◌, length, map, Some}
use Rattle.binary_operators.specs.Integers.{unsigned}
use Rattle.binary_operators.specs.declared.types.CanonicalTypes.{CanonicalTypes}
use Rattle.binary_operators.specs.declared.types.GroupNames.{GroupNames}
use Rattle.binary_operators.specs.declared.types.GroupNames.TheVariants.{Places, Indices}
use Rattle.validate_types.specs.declared.types.SubType.{SubType}
use Rattle.module_rules.specs.declared.items.RecGroup.{RecGroup}
use Rattle.binary_modules.specs.Groups.{Group, rec_group, types_of, canonical_of}

-- The bytes begin with a group that is written so and has these types, where these stand for the types before
-- it, and its own are named so. (Where a list of types lies says nothing.)
pub record HasGroup
    (canonical : List ℕ) (names : GroupNames) (bytes : List ℕ) (explicit : Bool) (read : List SubType)
    (rest : List ℕ) : Type 0 where
  pub types : CanonicalTypes
  pub are_before : types.canonical.now ≡ canonical
  pub are_own : types.group ≡ names
  pub is_read : rec_group types bytes ≡ Some ((explicit, read), rest)

-- An index stands for that of the first type of a group, which is rolled up: that of the first of these groups
-- that is equal to it, or this one where none is.
abbrev pub StandsFor : List Group → List SubType → ℕ → ℕ → Type 0
StandsFor [] rolled own first = first ≡ own
StandsFor (g ∷ groups) rolled own first =
    ((g.rolled ≡ rolled) × (first ≡ g.first)) ⊎ ((g.rolled ≢ rolled) × StandsFor groups rolled own first)

-- a group stands for the first one before it that is equal to it, or for itself where none is
abbrev pub IsCanonical : List Group → Group → Type 0
IsCanonical before g = StandsFor before g.rolled (length (canonical_of before)) g.first

-- the bytes begin with this group, where these stand before it, and these bytes are behind it
pub record IsGroup (before : List Group) (bytes : List ℕ) (g : Group) (behind : List ℕ) : Type 0 where
  pub is_rolled : HasGroup (canonical_of before) Places bytes g.explicit g.rolled behind
  pub end : List ℕ
  pub is_declared : HasGroup (canonical_of before) (Indices g.first) bytes g.explicit g.types end
  pub is_canonical : IsCanonical before g

-- the bytes begin with exactly these groups, where those stand before them, and these bytes are behind them
abbrev pub AreGroups : List Group → List ℕ → List Group → List ℕ → Type 0
AreGroups before bytes [] rest = bytes ≡ rest
AreGroups before bytes (g ∷ groups) rest =
    (behind : List ℕ) × IsGroup before bytes g behind × AreGroups (before ++ g ∷ []) behind groups rest

-- how many types a group has, and whether it is written as a list
abbrev pub shape : Group → ℕ × Bool
shape g = (length g.types, g.explicit)

abbrev pub written_shape : RecGroup → ℕ × Bool
written_shape r = (r.count, r.explicit)

-- The bytes begin with a list of groups, which have these types and are written so. For each type this index
-- stands. These bytes are behind the list.
pub record AreTypes
    (bytes : List ℕ) (types : List SubType) (canonical : List ℕ) (written : List RecGroup)
    (rest : List ℕ) : Type 0 where
  pub groups : List Group
  pub behind : List ℕ
  pub has_count : unsigned 32 bytes ≡ Some (length groups, behind)
  pub are_groups : AreGroups [] behind groups rest
  pub are_types : types ≡ types_of groups
  pub are_canonical : canonical ≡ canonical_of groups
  pub are_written : map written_shape written ≡ map shape groups
