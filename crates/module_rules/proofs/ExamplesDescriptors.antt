-- Types with descriptors, and whether they are valid, computed. What is expected is what the proposal "Custom
-- Descriptors" says of them.
use Rattle.std.proofs.Common.{◌≡◌, Bool, true, false, List, [], ◌∷◌, refl}
use Rattle.validate_types.specs.declared.types.SubType.{SubType}
use Rattle.validate_types.specs.Features.{custom_descriptors}
use Rattle.module_rules.specs.Descriptors.{have_valid_descriptors}
use Rattle.module_rules.specs.Types.{are_valid_types}
use Rattle.module_rules.specs.declared.features.ModuleFeatures.{ModuleFeatures}
use Rattle.module_rules.proofs.ExampleWords.{every, without, functions, structs, final, final_shared, open_type, below}
use Rattle.module_rules.proofs.ExampleWords.{with_descriptor, describing, a_group}

-- two types in one group
abbrev are_two_valid : ModuleFeatures → SubType → SubType → Bool
are_two_valid features s t = are_valid_types features (s ∷ t ∷ []) (a_group 2 ∷ []) (0 ∷ 1 ∷ [])

abbrev a_struct : SubType
a_struct = final (structs [])

both_ways : are_two_valid every (with_descriptor 1 a_struct) (describing 0 a_struct) ≡ true
both_ways = refl

both_ways_without : are_two_valid (without custom_descriptors) (with_descriptor 1 a_struct) (describing 0 a_struct) ≡ false
both_ways_without = refl

no_describes : are_two_valid every (with_descriptor 1 a_struct) a_struct ≡ false
no_describes = refl

no_descriptor : are_two_valid every a_struct (describing 0 a_struct) ≡ false
no_descriptor = refl

-- what is described is an earlier type
later_described : are_two_valid every (describing 1 a_struct) (with_descriptor 0 a_struct) ≡ false
later_described = refl

itself : are_two_valid every (with_descriptor 0 (describing 0 a_struct)) a_struct ≡ false
itself = refl

described_function : are_two_valid every (with_descriptor 1 (final (functions [] []))) (describing 0 a_struct) ≡ false
described_function = refl

describing_function : are_two_valid every (with_descriptor 1 a_struct) (describing 0 (final (functions [] []))) ≡ false
describing_function = refl

unshared_descriptor : are_two_valid every (with_descriptor 1 (final_shared (structs []))) (describing 0 a_struct) ≡ false
unshared_descriptor = refl

shared_descriptor : are_two_valid every (with_descriptor 1 (final_shared (structs []))) (describing 0 (final_shared (structs []))) ≡ true
shared_descriptor = refl

-- the second group is equal to the first, and its types are named by those of that
equal_groups : are_valid_types every (with_descriptor 1 a_struct ∷ describing 0 a_struct ∷ with_descriptor 1 a_struct ∷ describing 0 a_struct ∷ []) (a_group 2 ∷ a_group 2 ∷ []) (0 ∷ 1 ∷ 0 ∷ 1 ∷ []) ≡ true
equal_groups = refl

-- each type has a name
no_names : have_valid_descriptors (a_struct ∷ []) [] ≡ false
no_names = refl

-- ---- subtyping

-- type 0 with descriptor 1, and type 2 below it with descriptor 3 below that
abbrev square : List SubType
square = with_descriptor 1 (open_type (structs [])) ∷ describing 0 (open_type (structs [])) ∷ with_descriptor 3 (below 0 (structs [])) ∷ describing 2 (below 1 (structs [])) ∷ []

whole_square : are_valid_types every square (a_group 4 ∷ []) (0 ∷ 1 ∷ 2 ∷ 3 ∷ []) ≡ true
whole_square = refl

-- the lower descriptor isn't below the upper one
open_square : are_valid_types every (with_descriptor 1 (open_type (structs [])) ∷ describing 0 (open_type (structs [])) ∷ with_descriptor 3 (below 0 (structs [])) ∷ describing 2 (open_type (structs [])) ∷ []) (a_group 4 ∷ []) (0 ∷ 1 ∷ 2 ∷ 3 ∷ []) ≡ false
open_square = refl

-- where the upper type has a descriptor, the lower one has too
descriptor_lost : are_valid_types every (with_descriptor 1 (open_type (structs [])) ∷ describing 0 (open_type (structs [])) ∷ below 0 (structs []) ∷ []) (a_group 3 ∷ []) (0 ∷ 1 ∷ 2 ∷ []) ≡ false
descriptor_lost = refl

-- the lower type alone may have one
descriptor_added : are_valid_types every (open_type (structs []) ∷ with_descriptor 2 (below 0 (structs [])) ∷ describing 1 a_struct ∷ []) (a_group 3 ∷ []) (0 ∷ 1 ∷ 2 ∷ []) ≡ true
descriptor_added = refl

-- a descriptor lies below descriptors alone
descriptor_below_struct : are_valid_types every (open_type (structs []) ∷ with_descriptor 2 a_struct ∷ describing 1 (below 0 (structs [])) ∷ []) (a_group 3 ∷ []) (0 ∷ 1 ∷ 2 ∷ []) ≡ false
descriptor_below_struct = refl
