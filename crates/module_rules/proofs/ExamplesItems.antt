-- Tables, memories, globals, functions and tags, and whether they are valid, computed. What is expected is what the
-- standard's rules say of them, and of those that proposals bring the rules of these.
use Rattle.std.proofs.Common.{◌≡◌, ℕ, Bool, true, false, List, [], ◌∷◌, replicate, Option, Some, None, refl}
use Rattle.validate_types.specs.Refs.{reference}
use Rattle.validate_types.specs.declared.refs.RefType.{RefType}
use Rattle.validate_types.specs.declared.types.SubType.{SubType}
use Rattle.validate_types.specs.declared.types.ValType.{ValType}
use Rattle.validate_types.specs.declared.types.ValType.TheVariants.{I32, F32}
use Rattle.validate_types.specs.Features.{has, floats, reference_types, threads, shared_everything_threads, exceptions, function_references, gc}
use Rattle.validate_types.specs.Features.{custom_descriptors, stack_switching}
use Rattle.module_rules.specs.declared.features.TheConstants.ModuleFeatures.{DEFAULT}
use Rattle.module_rules.specs.Functions.{are_valid_functions, are_valid_tags, is_valid_start}
use Rattle.module_rules.specs.Globals.{are_valid_globals}
use Rattle.module_rules.specs.Memories.{are_valid_memories}
use Rattle.module_rules.specs.Tables.{are_valid_tables}
use Rattle.module_rules.specs.declared.features.ModuleFeatures.{ModuleFeatures}
use Rattle.module_rules.specs.declared.items.DeclaredFunction.{DeclaredFunction}
use Rattle.module_rules.specs.declared.items.DeclaredGlobal.{DeclaredGlobal}
use Rattle.module_rules.specs.declared.items.DeclaredMemory.{DeclaredMemory}
use Rattle.module_rules.specs.declared.items.DeclaredTable.{DeclaredTable}
use Rattle.module_rules.specs.declared.items.Limits.{Limits}
use Rattle.module_rules.specs.declared.items.TableInit.{TableInit}
use Rattle.module_rules.specs.declared.items.TableInit.TheVariants.{RefNull, Expr}
use Rattle.module_rules.proofs.ExampleWords.{every, without, func, shared_func, extern, concrete, null}
use Rattle.module_rules.proofs.ExampleWords.{functions, structs, final, from, between}

-- functions from nothing to nothing, from i32, and to i32; structs
abbrev types : List SubType
types = final (functions [] []) ∷ final (functions (I32 ∷ []) []) ∷ final (functions [] (I32 ∷ [])) ∷ final (structs []) ∷ []

-- ---- tables

abbrev a_table : Bool → Bool → RefType → Limits → TableInit → DeclaredTable
a_table table64 shared r limits init = record { ty = record { element_type = r; table64 = table64; shared = shared }; limits = limits; init = init; offset = 0 }

abbrev funcref : RefType
funcref = reference true func

-- one table, which is the module's own
abbrev is_table : ModuleFeatures → DeclaredTable → Bool
is_table features t = are_valid_tables features types 0 (t ∷ [])

table : is_table every (a_table false false funcref (between 1 2) RefNull) ≡ true
table = refl

limits_in_disorder : is_table every (a_table false false funcref (between 2 1) RefNull) ≡ false
limits_in_disorder = refl

largest_table : is_table every (a_table false false funcref (between 0 4294967295) RefNull) ≡ true
largest_table = refl

table_past_its_addresses : is_table every (a_table false false funcref (between 0 4294967296) RefNull) ≡ false
table_past_its_addresses = refl

table_of_64_bits : is_table every (a_table true false funcref (between 0 4294967296) RefNull) ≡ true
table_of_64_bits = refl

table_of_64_bits_without : is_table (record every { memory64 = false }) (a_table true false funcref (from 0) RefNull) ≡ false
table_of_64_bits_without = refl

most_entries : is_table every (a_table false false funcref (from 4294967295) RefNull) ≡ true
most_entries = refl

too_many_entries : is_table every (a_table false false funcref (from 4294967296) RefNull) ≡ false
too_many_entries = refl

-- `funcref` is of the standard's first version
functions_without : is_table (without reference_types) (a_table false false funcref (from 0) RefNull) ≡ true
functions_without = refl

externs_without : is_table (without reference_types) (a_table false false (reference true extern) (from 0) RefNull) ≡ false
externs_without = refl

known_elements : is_table every (a_table false false (reference true (concrete 3)) (from 0) RefNull) ≡ true
known_elements = refl

unknown_elements : is_table every (a_table false false (reference true (concrete 4)) (from 0) RefNull) ≡ false
unknown_elements = refl

-- elements without a default value
no_initializer : is_table every (a_table false false (reference false func) (from 0) RefNull) ≡ false
no_initializer = refl

initializer : is_table every (a_table false false (reference false func) (from 0) Expr) ≡ true
initializer = refl

initializer_without : is_table (without function_references) (a_table false false funcref (from 0) Expr) ≡ false
initializer_without = refl

imported_table : are_valid_tables every types 1 (a_table false false (reference false func) (from 0) RefNull ∷ []) ≡ true
imported_table = refl

shared_table : is_table every (a_table false true (reference true shared_func) (from 0) RefNull) ≡ true
shared_table = refl

shared_table_without : is_table (without shared_everything_threads) (a_table false true (reference true shared_func) (from 0) RefNull) ≡ false
shared_table_without = refl

unshared_elements : is_table every (a_table false true funcref (from 0) RefNull) ≡ false
unshared_elements = refl

abbrev funcrefs : ℕ → List DeclaredTable
funcrefs n = replicate n (a_table false false funcref (from 0) RefNull)

two_tables_without : are_valid_tables (without reference_types) types 0 (funcrefs 2) ≡ false
two_tables_without = refl

two_tables : are_valid_tables every types 0 (funcrefs 2) ≡ true
two_tables = refl

-- ---- memories

abbrev a_memory : Bool → Bool → Option ℕ → Limits → DeclaredMemory
a_memory is_64 shared page limits = record { ty = record { memory64 = is_64; shared = shared }; limits = limits; page_size_log2 = page; offset = 0 }

abbrev is_memory : ModuleFeatures → DeclaredMemory → Bool
is_memory features m = are_valid_memories features (m ∷ [])

memory : is_memory every (a_memory false false None (between 1 65536)) ≡ true
memory = refl

memory_past_its_addresses : is_memory every (a_memory false false None (between 1 65537)) ≡ false
memory_past_its_addresses = refl

minimum_past_its_addresses : is_memory every (a_memory false false None (from 65537)) ≡ false
minimum_past_its_addresses = refl

minimum_above_maximum : is_memory every (a_memory false false None (between 2 1)) ≡ false
minimum_above_maximum = refl

memory_of_64_bits : is_memory every (a_memory true false None (from 281474976710656)) ≡ true
memory_of_64_bits = refl

past_64_bits : is_memory every (a_memory true false None (from 281474976710657)) ≡ false
past_64_bits = refl

memory_of_64_bits_without : is_memory (record every { memory64 = false }) (a_memory true false None (from 0)) ≡ false
memory_of_64_bits_without = refl

shared_memory : is_memory every (a_memory false true None (between 1 1)) ≡ true
shared_memory = refl

shared_without_maximum : is_memory every (a_memory false true None (from 1)) ≡ false
shared_without_maximum = refl

shared_memory_without : is_memory (without threads) (a_memory false true None (between 1 1)) ≡ false
shared_memory_without = refl

pages_of_one_byte : is_memory every (a_memory false false (Some 0) (from 4294967295)) ≡ true
pages_of_one_byte = refl

pages_of_one_byte_of_64_bits : is_memory every (a_memory true false (Some 0) (from 18446744073709551615)) ≡ true
pages_of_one_byte_of_64_bits = refl

pages_past_64_bits : is_memory every (a_memory true false (Some 0) (from 18446744073709551616)) ≡ false
pages_past_64_bits = refl

pages_as_ever : is_memory every (a_memory false false (Some 16) (from 65536)) ≡ true
pages_as_ever = refl

pages_of_two_bytes : is_memory every (a_memory false false (Some 1) (from 0)) ≡ false
pages_of_two_bytes = refl

page_size_without : is_memory (record every { custom_page_sizes = false }) (a_memory false false (Some 16) (from 0)) ≡ false
page_size_without = refl

two_memories : are_valid_memories every (replicate 2 (a_memory false false None (from 0))) ≡ true
two_memories = refl

two_memories_without : are_valid_memories (record every { multi_memory = false }) (replicate 2 (a_memory false false None (from 0))) ≡ false
two_memories_without = refl

-- ---- globals

abbrev a_global : Bool → Bool → ValType → DeclaredGlobal
a_global mutable shared t = record { ty = record { content_type = t; mutable = mutable; shared = shared }; offset = 0 }

abbrev is_global : ModuleFeatures → DeclaredGlobal → Bool
is_global features g = are_valid_globals features types 0 (g ∷ [])

global : is_global every (a_global true false I32) ≡ true
global = refl

float_without : is_global (without floats) (a_global false false F32) ≡ false
float_without = refl

unknown_global_type : is_global every (a_global false false (null (concrete 4))) ≡ false
unknown_global_type = refl

shared_global : is_global every (a_global false true (null shared_func)) ≡ true
shared_global = refl

shared_global_of_unshared : is_global every (a_global false true (null func)) ≡ false
shared_global_of_unshared = refl

shared_global_without : is_global (without shared_everything_threads) (a_global false true I32) ≡ false
shared_global_without = refl

-- the proposal of globals that can be written is one of imports and exports
written_without : is_global (record every { mutable_global = false }) (a_global true false I32) ≡ true
written_without = refl

imported_without : are_valid_globals (record every { mutable_global = false }) types 1 (a_global true false I32 ∷ []) ≡ false
imported_without = refl

imported_global : are_valid_globals every types 1 (a_global true false I32 ∷ []) ≡ true
imported_global = refl

-- ---- functions

abbrev a_function : ℕ → Bool → DeclaredFunction
a_function type exact = record { type_index = type; exact = exact; offset = 0 }

function : are_valid_functions every types 0 (a_function 0 true ∷ []) ≡ true
function = refl

function_of_structs : are_valid_functions every types 0 (a_function 3 true ∷ []) ≡ false
function_of_structs = refl

function_of_no_type : are_valid_functions every types 0 (a_function 4 true ∷ []) ≡ false
function_of_no_type = refl

own_function_without : are_valid_functions (without custom_descriptors) types 0 (a_function 0 true ∷ []) ≡ true
own_function_without = refl

exact_import_without : are_valid_functions (without custom_descriptors) types 1 (a_function 0 true ∷ []) ≡ false
exact_import_without = refl

exact_import : are_valid_functions every types 1 (a_function 0 true ∷ []) ≡ true
exact_import = refl

-- ---- tags

tag : are_valid_tags every types (record { func_type_idx = 1; offset = 0 } ∷ []) ≡ true
tag = refl

tag_of_structs : are_valid_tags every types (record { func_type_idx = 3; offset = 0 } ∷ []) ≡ false
tag_of_structs = refl

tag_without : are_valid_tags (without exceptions) types (record { func_type_idx = 1; offset = 0 } ∷ []) ≡ false
tag_without = refl

tag_with_result : are_valid_tags every types (record { func_type_idx = 2; offset = 0 } ∷ []) ≡ true
tag_with_result = refl

tag_with_result_without : are_valid_tags (without stack_switching) types (record { func_type_idx = 2; offset = 0 } ∷ []) ≡ false
tag_with_result_without = refl

-- ---- the start function

abbrev declared_functions : List DeclaredFunction
declared_functions = a_function 0 true ∷ a_function 1 true ∷ a_function 2 true ∷ []

abbrev may_start_with : ℕ → Bool
may_start_with f = is_valid_start types declared_functions (Some (record { function = f; offset = 0 }))

no_start : is_valid_start types declared_functions None ≡ true
no_start = refl

start : may_start_with 0 ≡ true
start = refl

start_with_parameter : may_start_with 1 ≡ false
start_with_parameter = refl

start_with_result : may_start_with 2 ≡ false
start_with_result = refl

unknown_start : may_start_with 3 ≡ false
unknown_start = refl

-- ---- the default set

default_gc : has DEFAULT.operators gc ≡ true
default_gc = refl

default_memory64 : DEFAULT.memory64 ≡ true
default_memory64 = refl

default_page_sizes : DEFAULT.custom_page_sizes ≡ false
default_page_sizes = refl

default_stack_switching : has DEFAULT.operators stack_switching ≡ false
default_stack_switching = refl
