-- What the reader of recursion groups keeps (the crate's own).
use Rattle.std.specs.Prelude.{◌≡◌, ◌≢◌, ◌⊎◌, ℕ, List, [], ◌∷◌, ◌++◌, map, length, Option, Some, None}
use Rattle.std.specs.Prelude.{slice_get, unwrap_or, IsSome}
use Rattle.std.specs.BTreeMap.{get, Updates}
use Rattle.std.specs.List.{range_with_len}
use Rattle.std.specs.Option.{option_map}
use Rattle.std.specs.Ordering.{nat_cmp}
use Rattle.std.specs.declared.cmp.Ordering.{Ordering}
use Rattle.binary_operators.specs.Values.{so_many}
use Rattle.binary_operators.specs.declared.types.CanonicalTypes.{CanonicalTypes}
use Rattle.binary_operators.specs.declared.types.GroupNames.{GroupNames}
use Rattle.binary_operators.specs.declared.types.GroupNames.TheVariants.{Places, Indices}
use Rattle.validate_types.specs.declared.types.SubType.{SubType}
use Rattle.module_rules.specs.declared.items.RecGroup.{RecGroup}
use Rattle.binary_modules.specs.SubTypes.{sub_type}
use Rattle.binary_modules.specs.Groups.{Group, types_of, canonical_of}
use Rattle.binary_modules.specs.GroupsRead.{shape, written_shape}
use Rattle.binary_modules.specs.GroupsRead.{IsGroup, StandsFor, AreTypes}
use Rattle.binary_modules.specs.Mixed.{mix_types}
use Rattle.binary_modules.specs.contracts.mixed.RolledGroupOrd.TheImpl as rolled_ord
use Rattle.binary_modules.specs.declared.groups.Groups.{Groups}
use Rattle.binary_modules.specs.declared.groups.TypeSection.{TypeSection}
use Rattle.binary_modules.specs.declared.mixed.RolledGroup.{RolledGroup}

-- The bytes begin with so many types of a group. These stand for those before it, and its own are named so.
pub record HasTypes
    (canonical : List ℕ) (names : GroupNames) (count : ℕ) (bytes : List ℕ) (read : List SubType)
    (rest : List ℕ) : Type 0 where
  pub types : CanonicalTypes
  pub are_before : types.canonical.now ≡ canonical
  pub are_own : types.group ≡ names
  pub are_read : so_many (sub_type types) count bytes ≡ Some (read, rest)

-- the bytes don't begin with so many types, named so
abbrev pub HasNoTypes : List ℕ → GroupNames → ℕ → List ℕ → Type 0
HasNoTypes canonical names count bytes =
    (read : List SubType) → (rest : List ℕ) → HasTypes canonical names count bytes read rest → ⊥

-- The bytes begin with this type, however the types of its group are named, where these stand for those before it.
abbrev pub ReadsAnyhow : List ℕ → List ℕ → SubType → List ℕ → Type 0
ReadsAnyhow canonical bytes ty rest =
    (types : CanonicalTypes) → types.canonical.now ≡ canonical → sub_type types bytes ≡ Some (ty, rest)

-- the bytes don't begin with this type, or not however the types of its group are named
abbrev pub ReadsNoType : List ℕ → List ℕ → SubType → Type 0
ReadsNoType canonical bytes ty = (rest : List ℕ) → ReadsAnyhow canonical bytes ty rest → ⊥

-- the order of groups, rolled up
abbrev pub rolled_cmp : RolledGroup → RolledGroup → Ordering
rolled_cmp = (rolled_ord.ghosts).cmp

-- its number is the one that is mixed from its types
abbrev pub IsMixed : RolledGroup → Type 0
IsMixed rolled = rolled.mixed ≡ mix_types rolled.types.items

-- what the first of these groups that is equal to one, rolled up, stands for, if one is
abbrev pub IsFound : List Group → List SubType → Option ℕ → Type 0
IsFound [] rolled found = found ≡ None
IsFound (g ∷ groups) rolled found =
    ((g.rolled ≡ rolled) × (found ≡ Some g.first)) ⊎ ((g.rolled ≢ rolled) × IsFound groups rolled found)

-- the type at the index, as a group of one type
abbrev pub alone_at : List SubType → ℕ → Option (List SubType)
alone_at types index = option_map (λ ty. ty ∷ []) (slice_get types index)

-- the type at the index is a group alone, which is rolled up as it is declared and stands for itself
abbrev pub StandsAlone : List SubType → List Group → ℕ → Type 0
StandsAlone types groups first =
    (rolled : List SubType) × (alone_at types first ≡ Some rolled) × IsFound groups rolled (Some first)

-- the group is none of the types that are kept as groups alone
abbrev pub IsOther : Groups → List SubType → RolledGroup → Type 0
IsOther kept types rolled =
    (first : ℕ) → get nat_cmp kept.numbers rolled.mixed ≡ Some (Some first)
    → alone_at types first ≢ Some rolled.types.items

-- what is kept says what these groups stand for, where these are the types of the module
pub record Knows (kept : Groups) (types : List SubType) (groups : List Group) : Type 0 where
  pub alone : (number first : ℕ) → get nat_cmp kept.numbers number ≡ Some (Some first)
      → StandsAlone types groups first
  pub others : (rolled : RolledGroup) → IsMixed rolled → IsOther kept types rolled
      → IsFound groups rolled.types.items (get rolled_cmp kept.others rolled)
  -- a group whose number isn't kept is equal to none of them
  pub unkept : (rolled : List SubType) → get nat_cmp kept.numbers (mix_types rolled) ≡ None
      → IsFound groups rolled None

-- at the number stands what stood there, or else this; nothing else changes
pub record Notes (kept after : Groups) (number : ℕ) (alone : Option ℕ) : Type 0 where
  pub numbers : Updates nat_cmp kept.numbers after.numbers number
      (Some (unwrap_or (get nat_cmp kept.numbers number) alone))
  pub others : after.others ≡ kept.others

-- where a type is kept by the number, another one than this group alone is declared there
abbrev pub IsUnlike : Groups → List SubType → ℕ → List SubType → Type 0
IsUnlike kept types number group =
    (first : ℕ) → get nat_cmp kept.numbers number ≡ Some (Some first)
    → IsSome (slice_get types first) × (alone_at types first ≢ Some group)

-- This index stands for that of the first type of a group, rolled up, whose own index is that. Where it is kept, these
-- are the types of the module.
abbrev pub Keeps : Groups → Groups → List SubType → List SubType → List SubType → ℕ → ℕ → Type 0
Keeps kept after types more rolled own first =
    (groups : List Group) → Knows kept types groups
    → StandsFor groups rolled own first
    × ((g : Group) → g.rolled ≡ rolled → g.first ≡ first → Knows after more (groups ++ g ∷ []))

-- these are the types of these groups, and what is kept says what they stand for
pub record HasRead
    (section : TypeSection) (kept : Groups) (groups : List Group) : Type 0 where
  pub types : section.types.items ≡ types_of groups
  pub canonical : section.canonical.items ≡ canonical_of groups
  pub written : map written_shape section.groups.items ≡ map shape groups
  pub known : Knows kept section.types.items groups

-- So many types of a group more were read behind those of these groups: the bytes began with them, and these are behind
-- them.
pub record HasReadTypes
    (before : List Group) (count : ℕ) (bytes rest : List ℕ) (section after : TypeSection)
    (kept : Groups) : Type 0 where
  pub rolled : List SubType
  pub are_rolled : HasTypes section.canonical.items Places count bytes rolled rest
  pub first : ℕ
  pub stands : StandsFor before rolled (length section.canonical.items) first
  pub types : List SubType
  pub end : List ℕ
  pub are_declared : HasTypes section.canonical.items (Indices first) count bytes types end
  pub are_types : after.types.items ≡ section.types.items ++ types
  pub are_canonical : after.canonical.items ≡ section.canonical.items ++ range_with_len first count
  pub are_groups : after.groups ≡ section.groups
  pub known : (g : Group) → g.rolled ≡ rolled → g.first ≡ first
      → Knows kept after.types.items (before ++ g ∷ [])

-- a group more was read: the bytes began with it, and these are behind it
pub record HasReadGroup
    (before : List Group) (bytes rest : List ℕ) (section : TypeSection) (kept : Groups) : Type 0 where
  pub group : Group
  pub is_group : IsGroup before bytes group rest
  pub has_read : HasRead section kept (before ++ group ∷ [])

-- behind these groups, the bytes don't begin with so many types of a group: rolled up, and as they are declared then
abbrev pub HasNoRolled : List Group → ℕ → List ℕ → List ℕ → Type 0
HasNoRolled before count bytes canonical =
    (rolled : List SubType) → (rest : List ℕ) → HasTypes canonical Places count bytes rolled rest
    → (first : ℕ) → StandsFor before rolled (length canonical) first
    → HasNoTypes canonical (Indices first) count bytes

-- behind these groups, the bytes don't begin with a group
abbrev pub HasNoGroup : List Group → List ℕ → Type 0
HasNoGroup before bytes = (g : Group) → (behind : List ℕ) → IsGroup before bytes g behind → ⊥

-- the bytes don't begin with a list of groups
abbrev pub AreNoTypes : List ℕ → Type 0
AreNoTypes bytes =
    (types : List SubType) → (canonical : List ℕ) → (written : List RecGroup) → (rest : List ℕ)
    → AreTypes bytes types canonical written rest → ⊥
