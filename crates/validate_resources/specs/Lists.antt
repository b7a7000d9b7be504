-- What a module declares, as lists, and its context (WebAssembly core specification, "Modules", and
-- "Conventions" of validation: contexts).
use Rattle.std.specs.Prelude.{ℕ, Bool, List, true, false, ◌&&◌, ◌||◌, not, map, nat_le, length, Option, Some, None}
use Rattle.std.specs.Prelude.{slice_get, option_map, option_and_then, unwrap_or, is_some, if◌then◌else◌}
use Rattle.std.specs.List.{list_all}
use Rattle.validate_types.specs.Features.{is_type_enabled}
use Rattle.validate_types.specs.Heap.{number_of}
use Rattle.validate_types.specs.Types.{Signature}
use Rattle.validate_types.specs.declared.features.WasmFeatures.{WasmFeatures}
use Rattle.validate_types.specs.declared.heap.CoreTypeId.{CoreTypeId}
use Rattle.validate_types.specs.declared.heap.UnpackedIndex.{UnpackedIndex}
use Rattle.validate_types.specs.declared.refs.RefType.{RefType}
use Rattle.validate_types.specs.declared.types.GlobalType.{GlobalType}
use Rattle.validate_types.specs.declared.types.MemoryType.{MemoryType}
use Rattle.validate_types.specs.declared.types.SubType.{SubType}
use Rattle.validate_types.specs.declared.types.TableType.{TableType}
use Rattle.validate_types.specs.declared.types.ValType.{ValType}
use Rattle.validate_resources.specs.declared.lists.FuncDecl.{FuncDecl}
use Rattle.validate_resources.specs.declared.lists.TheConstants.{MAX_TYPES}
use Rattle.validate_resources.specs.Context.{ModuleContext, signature_of, continuation_of, is_struct, descriptor_of}
use Rattle.validate_resources.specs.Indices.{is_known, is_id, ref_indices_pass, type_indices_pass, table_indices_pass, global_indices_pass}
use Rattle.validate_resources.specs.Indices.{sub_indices_pass, ref_with_id, table_with_id, global_with_id}
use Rattle.validate_resources.specs.Indices.{sub_with_ids}
use Rattle.validate_resources.specs.Indices.{type_with_id, canonical_heap, canonical_ref}
use Rattle.validate_resources.specs.Order.{is_heap_shared, have_supertypes_of_their_sort, is_type_below, heap_top}

-- what a module declares
pub record Declared : Type 0 where
  pub types : List SubType
  pub functions : List FuncDecl
  pub tables : List TableType
  pub memories : List MemoryType
  pub globals : List GlobalType
  -- of each tag the index of its type
  pub tags : List ℕ
  pub elements : List RefType
  pub data_count : Option ℕ

-- what these lists declare
abbrev pub declared_by : List SubType → List FuncDecl → List TableType → List MemoryType
    → List GlobalType → List ℕ → List RefType → Option ℕ → Declared
declared_by types functions tables memories globals tags elements data_count = record {
  types = types;
  functions = functions;
  tables = tables;
  memories = memories;
  globals = globals;
  tags = tags;
  elements = elements;
  data_count = data_count;
}

-- ---- the causes of a refusal (Specification, "Validation: Modules")

-- a test of each index in the lists
abbrev pub list_indices_pass : (UnpackedIndex → Bool)
    → List SubType → List TableType → List GlobalType → List RefType → Bool
list_indices_pass p types tables globals elements =
    list_all (sub_indices_pass p) types
    && list_all (table_indices_pass p) tables
    && list_all (global_indices_pass p) globals
    && list_all (ref_indices_pass p) elements

abbrev pub is_func_type : Option SubType → Bool
is_func_type None = false
is_func_type (Some s) = is_some (signature_of s)

abbrev pub is_of_func_type : List SubType → Option UnpackedIndex → Bool
is_of_func_type types None = true
is_of_func_type types (Some i) = is_func_type (slice_get types (number_of i))

-- a type of continuations is one of what runs a function
abbrev pub continues_function : List SubType → SubType → Bool
continues_function types s = is_of_func_type types (continuation_of s)

-- the type of each function, of each tag and of each continuation is there, and is one of functions
abbrev pub have_func_types : Declared → Bool
have_func_types d =
    list_all (λ (f : FuncDecl). is_func_type (slice_get d.types f.type_index)) d.functions
    && list_all (λ i. is_func_type (slice_get d.types i)) d.tags
    && list_all (continues_function d.types) d.types

-- a type with a descriptor is one of structs (a proposal, "Custom Descriptors")
abbrev pub has_fitting_descriptor : SubType → Bool
has_fitting_descriptor s = not (is_some (descriptor_of s)) || is_struct s.composite_type.inner

-- at most 1,000,000 types; each index passes the test, at their number; each supertype is an earlier type of
-- the same kind and sharedness; each function, each tag and each continuation is of one of functions; each type
-- with a descriptor is one of structs
abbrev pub may_be_looked_up : (ℕ → UnpackedIndex → Bool) → Declared → Bool
may_be_looked_up p d =
    nat_le (length d.types) MAX_TYPES
    && list_indices_pass (p (length d.types)) d.types d.tables d.globals d.elements
    && have_supertypes_of_their_sort d.types
    && have_func_types d
    && list_all has_fitting_descriptor d.types

-- ---- the canonical lists

abbrev pub canonical_lists : Declared → Declared
canonical_lists d = record d {
  types = map sub_with_ids d.types;
  tables = map table_with_id d.tables;
  globals = map global_with_id d.globals;
  elements = map ref_with_id d.elements;
}

-- the canonical lists of what is declared, where no cause of a refusal stands
abbrev pub module_of : Declared → Option Declared
module_of d = if may_be_looked_up is_known d then Some (canonical_lists d) else None

-- ---- the context

-- the gate of the type is open, and each index in it known
abbrev pub canonical_under : ℕ → WasmFeatures → ValType → Option ValType
canonical_under n features t =
    if is_type_enabled features t && type_indices_pass (is_known n) t then Some (type_with_id t) else None

-- both types are valid and canonical, and the one below the other
abbrev pub is_valid_below : List SubType → ValType → ValType → Bool
is_valid_below types t u =
    type_indices_pass (is_id (length types)) t && type_indices_pass (is_id (length types)) u
    && is_type_below types t u

-- type i has id i
abbrev pub type_id : ℕ → CoreTypeId
type_id i = record { index = i }

-- what the type at an index takes and gives, if it is one of functions
abbrev pub tag_signature : List SubType → ℕ → Option Signature
tag_signature types i = option_and_then signature_of (slice_get types i)

-- the context of these declarations
abbrev pub context_of : Declared → ModuleContext
context_of d = record {
  type_at = slice_get d.types;
  type_of_id = λ id. slice_get d.types id.index;
  type_index_of = λ i. option_map (λ (f : FuncDecl). f.type_index) (slice_get d.functions i);
  type_id_of = λ i. option_map (λ (f : FuncDecl). type_id f.type_index) (slice_get d.functions i);
  is_referenced =
      λ i. unwrap_or (option_map (λ (f : FuncDecl). f.referenced) (slice_get d.functions i)) false;
  has_exact_type =
      λ i. unwrap_or (option_map (λ (f : FuncDecl). f.exact) (slice_get d.functions i)) false;
  table_at = slice_get d.tables;
  memory_at = slice_get d.memories;
  global_at = slice_get d.globals;
  tag_at = λ i. option_and_then (tag_signature d.types) (slice_get d.tags i);
  element_at = slice_get d.elements;
  data_count = d.data_count;
  below = is_valid_below d.types;
  is_shared = λ r. is_heap_shared d.types r.heap_type;
  top_type = heap_top d.types;
  canonical_type = canonical_under (length d.types);
  canonical_ref = canonical_ref (length d.types);
  canonical_heap = canonical_heap (length d.types);
}
