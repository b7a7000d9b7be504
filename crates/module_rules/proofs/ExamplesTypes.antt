-- Types, and whether they are valid, computed. What is expected is what the standard's rules say of them, and for
-- continuations, descriptors and shared types the rules of their proposals.
use Rattle.std.proofs.Common.{◌≡◌, ℕ, zero, suc, Bool, true, false, List, [], ◌∷◌, ◌++◌, length, replicate, refl}
use Rattle.validate_types.specs.declared.types.SubType.{SubType}
use Rattle.validate_types.specs.declared.types.ValType.TheVariants.{I32, I64, F64}
use Rattle.validate_types.specs.Features.{floats, multi_value, gc, shared_everything_threads, stack_switching, function_references}
use Rattle.module_rules.specs.Matching.{is_composite_below}
use Rattle.module_rules.specs.Types.{are_valid_types, subtyping_depth}
use Rattle.module_rules.specs.declared.features.ModuleFeatures.{ModuleFeatures}
use Rattle.module_rules.specs.declared.items.RecGroup.{RecGroup}
use Rattle.module_rules.proofs.ExampleWords.{every, without, func, shared_func, concrete, null, no_null}
use Rattle.module_rules.proofs.ExampleWords.{constant, written, packed, functions, arrays, structs, continuations}
use Rattle.module_rules.proofs.ExampleWords.{final, final_shared, open_type, below, shared_below, chain}
use Rattle.module_rules.proofs.ExampleWords.{a_group, alone, each_alone}

-- the indices of so many types, each of which is named by its own
abbrev names_up_to : ℕ → List ℕ
names_up_to zero = []
names_up_to (suc n) = names_up_to n ++ n ∷ []

-- the types are valid under these proposals, in these groups
abbrev are_valid_in : ModuleFeatures → List RecGroup → List SubType → Bool
are_valid_in features groups types = are_valid_types features types groups (names_up_to (length types))

-- each in a group of its own
abbrev are_valid : ModuleFeatures → List SubType → Bool
are_valid features types = are_valid_in features (each_alone types) types

-- ---- recursion groups

no_types : are_valid every [] ≡ true
no_types = refl

-- a type may name those of its group, itself among them, and no later one
abbrev two : List SubType
two = final (structs (constant (null (concrete 1)) ∷ [])) ∷ final (structs (constant (null (concrete 1)) ∷ [])) ∷ []

one_group : are_valid_in every (a_group 2 ∷ []) two ≡ true
one_group = refl

two_groups : are_valid_in every (alone ∷ alone ∷ []) two ≡ false
two_groups = refl

unknown_type : are_valid every (final (functions (null (concrete 1) ∷ []) []) ∷ []) ≡ false
unknown_type = refl

empty_group : are_valid_in every (a_group 0 ∷ a_group 2 ∷ a_group 0 ∷ []) two ≡ true
empty_group = refl

-- each type stands in a group, and no group is longer than the types
no_group : are_valid_in every [] two ≡ false
no_group = refl

longer_group : are_valid_in every (a_group 3 ∷ []) two ≡ false
longer_group = refl

-- A type names itself only where recursive types are on; an earlier one it may name without them (the proposal of
-- typed function references).
itself : are_valid every (final (functions [] (no_null (concrete 0) ∷ [])) ∷ []) ≡ true
itself = refl

itself_without_gc : are_valid (without gc) (final (functions [] (no_null (concrete 0) ∷ [])) ∷ []) ≡ false
itself_without_gc = refl

earlier_without_gc : are_valid (without gc) (final (functions [] []) ∷ final (functions [] (no_null (concrete 0) ∷ [])) ∷ []) ≡ true
earlier_without_gc = refl

-- groups need the proposal, one type alone doesn't
group_without_gc : are_valid_in (without gc) (a_group 1 ∷ []) (final (functions [] []) ∷ []) ≡ false
group_without_gc = refl

alone_without_gc : are_valid (without gc) (final (functions [] []) ∷ []) ≡ true
alone_without_gc = refl

-- ---- composite types, and their proposals

two_results : are_valid every (final (functions [] (I32 ∷ I32 ∷ [])) ∷ []) ≡ true
two_results = refl

two_results_without : are_valid (without multi_value) (final (functions [] (I32 ∷ I32 ∷ [])) ∷ []) ≡ false
two_results_without = refl

two_params_without : are_valid (without multi_value) (final (functions (I32 ∷ I32 ∷ []) (I32 ∷ [])) ∷ []) ≡ true
two_params_without = refl

struct_without_gc : are_valid (without gc) (final (structs []) ∷ []) ≡ false
struct_without_gc = refl

array_type : are_valid every (final (arrays packed) ∷ []) ≡ true
array_type = refl

array_without_gc : are_valid (without gc) (final (arrays packed) ∷ []) ≡ false
array_without_gc = refl

float_without_floats : are_valid (without floats) (final (functions (F64 ∷ []) []) ∷ []) ≡ false
float_without_floats = refl

reference_without : are_valid (without function_references) (final (functions (no_null func ∷ []) []) ∷ []) ≡ false
reference_without = refl

-- ---- continuations (a proposal, "Stack Switching")

continuation : are_valid every (final (functions [] []) ∷ final (continuations 0) ∷ []) ≡ true
continuation = refl

continuation_of_struct : are_valid every (final (structs []) ∷ final (continuations 0) ∷ []) ≡ false
continuation_of_struct = refl

continuation_without : are_valid (without stack_switching) (final (functions [] []) ∷ final (continuations 0) ∷ []) ≡ false
continuation_without = refl

-- ---- shared types (a proposal, "Shared-Everything Threads")

shared_type : are_valid every (final_shared (functions (I32 ∷ null shared_func ∷ []) []) ∷ []) ≡ true
shared_type = refl

shared_without : are_valid (without shared_everything_threads) (final_shared (functions [] []) ∷ []) ≡ false
shared_without = refl

unshared_in_shared : are_valid every (final_shared (structs (constant (null func) ∷ [])) ∷ []) ≡ false
unshared_in_shared = refl

shared_in_unshared : are_valid every (final (structs (constant (null shared_func) ∷ [])) ∷ []) ≡ true
shared_in_unshared = refl

unshared_type_in_shared : are_valid every (final (structs []) ∷ final_shared (structs (constant (null (concrete 0)) ∷ [])) ∷ []) ≡ false
unshared_type_in_shared = refl

-- ---- supertypes

supertype : are_valid every (open_type (structs []) ∷ below 0 (structs (packed ∷ [])) ∷ []) ≡ true
supertype = refl

supertype_without_gc : are_valid (without gc) (final (functions [] []) ∷ open_type (functions [] []) ∷ []) ≡ false
supertype_without_gc = refl

final_supertype : are_valid every (final (structs []) ∷ below 0 (structs []) ∷ []) ≡ false
final_supertype = refl

own_supertype : are_valid_in every (a_group 2 ∷ []) (below 0 (structs []) ∷ open_type (structs []) ∷ []) ≡ false
own_supertype = refl

later_supertype : are_valid_in every (a_group 2 ∷ []) (below 1 (structs []) ∷ open_type (structs []) ∷ []) ≡ false
later_supertype = refl

unknown_supertype : are_valid every (below 7 (structs []) ∷ []) ≡ false
unknown_supertype = refl

another_kind : are_valid every (open_type (structs []) ∷ below 0 (functions [] []) ∷ []) ≡ false
another_kind = refl

another_sharedness : are_valid every (open_type (structs []) ∷ shared_below 0 (structs []) ∷ []) ≡ false
another_sharedness = refl

-- ---- matching

abbrev one_below : List SubType → SubType → SubType → Bool
one_below types low high = is_composite_below types low.composite_type high.composite_type

-- type 1 is declared below type 0
abbrev pair : List SubType
pair = open_type (structs []) ∷ below 0 (structs (packed ∷ [])) ∷ []

abbrev lower : SubType
lower = final (functions (null (concrete 0) ∷ []) (null (concrete 1) ∷ []))

abbrev upper : SubType
upper = final (functions (null (concrete 1) ∷ []) (null (concrete 0) ∷ []))

-- a function takes more, and gives less
function_below : one_below pair lower upper ≡ true
function_below = refl

function_above : one_below pair upper lower ≡ false
function_above = refl

more_params : one_below pair (final (functions (I32 ∷ I32 ∷ []) [])) (final (functions (I32 ∷ []) [])) ≡ false
more_params = refl

more_results : one_below pair (final (functions [] (I32 ∷ []))) (final (functions [] [])) ≡ false
more_results = refl

-- a struct has as many fields, or more
fewer_fields : one_below pair (final (structs [])) (final (structs (packed ∷ []))) ≡ false
fewer_fields = refl

more_fields : one_below pair (final (structs (packed ∷ constant I32 ∷ []))) (final (structs (packed ∷ []))) ≡ true
more_fields = refl

field_of_another_type : one_below pair (final (structs (constant I64 ∷ []))) (final (structs (constant I32 ∷ []))) ≡ false
field_of_another_type = refl

packed_field : one_below pair (final (structs (constant I32 ∷ []))) (final (structs (packed ∷ []))) ≡ false
packed_field = refl

-- what can't be written may hold a subtype, what can be written may not
constant_field : one_below pair (final (structs (constant (null (concrete 1)) ∷ []))) (final (structs (constant (null (concrete 0)) ∷ []))) ≡ true
constant_field = refl

constant_field_above : one_below pair (final (structs (constant (null (concrete 0)) ∷ []))) (final (structs (constant (null (concrete 1)) ∷ []))) ≡ false
constant_field_above = refl

written_field : one_below pair (final (structs (written (null (concrete 1)) ∷ []))) (final (structs (written (null (concrete 0)) ∷ []))) ≡ false
written_field = refl

same_written_field : one_below pair (final (structs (written (null (concrete 1)) ∷ []))) (final (structs (written (null (concrete 1)) ∷ []))) ≡ true
same_written_field = refl

written_below_constant : one_below pair (final (structs (written I32 ∷ []))) (final (structs (constant I32 ∷ []))) ≡ false
written_below_constant = refl

array_below : one_below pair (final (arrays (constant (no_null (concrete 1))))) (final (arrays (constant (null (concrete 0))))) ≡ true
array_below = refl

written_array : one_below pair (final (arrays (written (no_null (concrete 1))))) (final (arrays (written (null (concrete 1))))) ≡ false
written_array = refl

-- continuations by the function types that they name
abbrev function_pair : List SubType
function_pair = open_type (functions [] []) ∷ below 0 (functions [] []) ∷ []

continuation_below : one_below function_pair (final (continuations 1)) (final (continuations 0)) ≡ true
continuation_below = refl

continuation_above : one_below function_pair (final (continuations 0)) (final (continuations 1)) ≡ false
continuation_above = refl

not_matched : are_valid every (open_type (structs (written I32 ∷ [])) ∷ below 0 (structs (constant I32 ∷ [])) ∷ []) ≡ false
not_matched = refl

-- ---- chains of supertypes

depth : subtyping_depth (chain 3) 3 ≡ 3
depth = refl
