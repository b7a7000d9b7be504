-- Where items stand in a module says nothing of what is valid.
use Rattle.std.proofs.Common.{ap, refl, ◌∙◌, ◌≡◌, ℕ, zero, suc, ◌+◌, Bool, List, [], ◌∷◌, ◌++◌, ◌&&◌, ◌||◌, length, map, take, Option, Some, None, slice_get}
use Rattle.std.specs.Option.{option_and_then, option_map}
use Rattle.std.specs.Prelude.{flat_map, nat_le, nat_lt, ◌==◌}
use Rattle.std.specs.List.{list_all, list_any, enumerate_from}
use Rattle.std.proofs.lemmas.List.{length-map}
use Rattle.std.proofs.lemmas.Option.{slice_get-map}
use Rattle.binary_modules.specs.Modules.{unplaced}
use Rattle.module_rules.specs.Constants.{expression_type, is_constant_in, is_constant_operator, is_immutable, known_globals, may_name_global, element_address_type, data_address_type}
use Rattle.module_rules.specs.Declarations.{Declarations}
use Rattle.module_rules.specs.Exported.{Exported}
use Rattle.module_rules.specs.Exports.{are_distinct, are_valid_exports, is_export_enabled, is_read_only, is_valid_export, item_count}
use Rattle.module_rules.specs.Functions.{are_valid_functions, are_valid_tags, is_valid_function, is_valid_start, is_valid_tag, may_start}
use Rattle.module_rules.specs.Globals.{are_valid_globals, is_valid_global}
use Rattle.module_rules.specs.Lookup.{function_decl, lookup_lists}
use Rattle.module_rules.specs.Memories.{are_valid_memories, is_valid_memory, may_be_so_many as may_be_so_many_memories}
use Rattle.module_rules.specs.References.{exported_functions, is_referenced, listed_functions, named_functions}
use Rattle.module_rules.specs.Segments.{are_valid_data, are_valid_elements, is_data_count, is_valid_data_kind, is_valid_element, is_valid_element_kind, are_valid_items as are_valid_element_items, item_type, takes_elements}
use Rattle.module_rules.specs.Tables.{are_valid_tables, is_valid_table, may_be_so_many}
use Rattle.module_rules.specs.Descriptors.{have_valid_descriptors}
use Rattle.module_rules.specs.Types.{are_valid_groups, is_valid_group, is_valid_type}
use Rattle.module_rules.specs.Validity.{are_valid_items, are_valid_uses, is_valid_module}
use Rattle.module_rules.specs.Within.{are_items_within, are_uses_within, are_types_within, import_count, is_element_within, is_within}
use Rattle.module_rules.specs.declared.features.ModuleFeatures.{ModuleFeatures}
use Rattle.module_rules.specs.declared.items.DeclaredFunction.{DeclaredFunction}
use Rattle.module_rules.specs.declared.items.DeclaredGlobal.{DeclaredGlobal}
use Rattle.module_rules.specs.declared.items.DeclaredMemory.{DeclaredMemory}
use Rattle.module_rules.specs.declared.items.DeclaredTable.{DeclaredTable}
use Rattle.module_rules.specs.declared.items.DeclaredTag.{DeclaredTag}
use Rattle.module_rules.specs.declared.items.ExternalKind.{ExternalKind}
use Rattle.module_rules.specs.declared.items.ExternalKind.TheVariants.{Func, Table, Memory, Global, Tag}
use Rattle.module_rules.specs.declared.items.RecGroup.{RecGroup}
use Rattle.module_rules.specs.declared.items.Start.{Start}
use Rattle.module_rules.specs.declared.limits.TheConstants.{MAX_WASM_ELEMENT_SEGMENTS, MAX_WASM_DATA_SEGMENTS, MAX_WASM_EXPORTS, MAX_WASM_FUNCTIONS, MAX_WASM_TABLES, MAX_WASM_MEMORIES, MAX_WASM_TAGS, MAX_WASM_GLOBALS, MAX_WASM_TYPES, MAX_WASM_IMPORTS}
use Rattle.module_rules.specs.declared.module.Place.{Place}
use Rattle.module_rules.specs.declared.module.Place.TheVariants.{DataOffset, Element as OfElement, ElementOffset, Global as OfGlobal, Table as OfTable}
use Rattle.module_rules.specs.declared.segments.Data.{Data}
use Rattle.module_rules.specs.declared.segments.DataCount.{DataCount}
use Rattle.module_rules.specs.declared.segments.DataKind.{DataKind}
use Rattle.module_rules.specs.declared.segments.DataKind.TheVariants.{Active as ActiveData, Passive as PassiveData}
use Rattle.module_rules.specs.declared.segments.Element.{Element}
use Rattle.module_rules.specs.declared.segments.ElementKind.{ElementKind}
use Rattle.module_rules.specs.declared.segments.ElementKind.TheVariants.{Passive, Active, Declared}
use Rattle.validate_types.specs.declared.refs.RefType.{RefType}
use Rattle.validate_types.specs.declared.types.SubType.{SubType}
use Rattle.validate_types.specs.declared.types.ValType.{ValType}
use Rattle.validate_types.specs.declared.types.ValType.TheVariants.{Ref}
use Rattle.validate_types.specs.Features.{has, gc}
use Rattle.validate_types.specs.Types.{address_type_of_memory, address_type_of_table}

-- ---- lists

all_same : {A : Type 0} (p q : A → Bool) (u : A → A) → ((a : A) → p (u a) ≡ q a) → (l : List A) → list_all p (map u l) ≡ list_all q l
all_same p q u e [] = refl
all_same p q u e (a ∷ l) = λ i. e a i && all_same p q u e l i

each_same : {A : Type 0} (p : ℕ × A → Bool) (u : A → A) → ((n : ℕ) (a : A) → p (n, u a) ≡ p (n, a)) → (n : ℕ) (l : List A) → list_all p (enumerate_from n (map u l)) ≡ list_all p (enumerate_from n l)
each_same p u e n [] = refl
each_same p u e n (a ∷ l) = λ i. e n a i && each_same p u e (n + 1) l i

map_same : {A B : Type 0} (f : A → B) (u : A → A) → ((a : A) → f (u a) ≡ f a) → (l : List A) → map f (map u l) ≡ map f l
map_same f u e [] = refl
map_same f u e (a ∷ l) = λ i. e a i ∷ map_same f u e l i

map_each_same : {A B : Type 0} (f g : ℕ × A → B) (u : A → A) → ((n : ℕ) (a : A) → f (n, u a) ≡ g (n, a)) → (n : ℕ) (l : List A) → map f (enumerate_from n (map u l)) ≡ map g (enumerate_from n l)
map_each_same f g u e n [] = refl
map_each_same f g u e n (a ∷ l) = λ i. e n a i ∷ map_each_same f g u e (n + 1) l i

flat_same : {A B : Type 0} (f : A → List B) (u : A → A) → ((a : A) → f (u a) ≡ f a) → (l : List A) → flat_map f (map u l) ≡ flat_map f l
flat_same f u e [] = refl
flat_same f u e (a ∷ l) = λ i. e a i ++ flat_same f u e l i

take_map : {A B : Type 0} (f : A → B) (n : ℕ) (l : List A) → take n (map f l) ≡ map f (take n l)
take_map f zero l = refl
take_map f (suc n) [] = refl
take_map f (suc n) (a ∷ l) = ap (λ m. f a ∷ m) (take_map f n l)

-- what is so of an item that is there, or isn't
found_same : {A B : Type 0} (f : Option A → B) (u : A → A) → ((o : Option A) → f (option_map u o) ≡ f o) → (l : List A) (i : ℕ) → f (slice_get (map u l) i) ≡ f (slice_get l i)
found_same f u e l i = ap f (slice_get-map u l i) ∙ e (slice_get l i)

-- ---- items at offset 0

abbrev group_at : RecGroup → RecGroup
group_at g = record g { offset = 0 }

abbrev function_at : DeclaredFunction → DeclaredFunction
function_at f = record f { offset = 0 }

abbrev table_at : DeclaredTable → DeclaredTable
table_at t = record t { offset = 0 }

abbrev memory_at : DeclaredMemory → DeclaredMemory
memory_at m = record m { offset = 0 }

abbrev global_at : DeclaredGlobal → DeclaredGlobal
global_at g = record g { offset = 0 }

abbrev tag_at : DeclaredTag → DeclaredTag
tag_at t = record t { offset = 0 }

abbrev export_at : Exported → Exported
export_at e = record e { offset = 0 }

abbrev start_at : Start → Start
start_at s = record s { offset = 0 }

abbrev element_at : Element → Element
element_at e = record e { offset = 0 }

abbrev count_at : DataCount → DataCount
count_at c = record c { offset = 0 }

abbrev data_at : Data → Data
data_at s = record s { offset = 0 }

-- ---- the rules

module _ (features : ModuleFeatures) where
  groups_same : (types : List SubType) (first : ℕ) (groups : List RecGroup) → are_valid_groups features types first (map group_at groups) ≡ are_valid_groups features types first groups
  groups_same types first [] = refl
  groups_same types first (g ∷ groups) =
      ap (λ b. is_valid_group features types first g && b) (groups_same types (first + g.count) groups)

  started_same : (types : List SubType) (o : Option DeclaredFunction) → may_start types (option_map function_at o) ≡ may_start types o
  started_same types None = refl
  started_same types (Some f) = refl

  start_same : (types : List SubType) (functions : List DeclaredFunction) (s : Option Start) → is_valid_start types (map function_at functions) (option_map start_at s) ≡ is_valid_start types functions s
  start_same types functions None = refl
  start_same types functions (Some s) =
      found_same (may_start types) function_at (started_same types) functions s.function

  count_same : (d : Declarations) (kind : ExternalKind) → item_count (unplaced d) kind ≡ item_count d kind
  count_same d Func = length-map d.functions function_at
  count_same d Table = length-map d.tables table_at
  count_same d Memory = length-map d.memories memory_at
  count_same d Global = length-map d.globals global_at
  count_same d Tag = length-map d.tags tag_at

  read_only_same : (o : Option DeclaredGlobal) → is_read_only (option_map global_at o) ≡ is_read_only o
  read_only_same None = refl
  read_only_same (Some g) = refl

  enabled_same : (globals : List DeclaredGlobal) (kind : ExternalKind) (i : ℕ) → is_export_enabled features (map global_at globals) kind i ≡ is_export_enabled features globals kind i
  enabled_same globals Func i = refl
  enabled_same globals Table i = refl
  enabled_same globals Memory i = refl
  enabled_same globals Global i =
      ap (λ b. features.mutable_global || b) (found_same is_read_only global_at read_only_same globals i)
  enabled_same globals Tag i = refl

  export_same : (d : Declarations) (e : Exported) → is_valid_export features (unplaced d) (export_at e) ≡ is_valid_export features d e
  export_same d e = λ i. nat_lt e.index (count_same d e.kind i) && enabled_same d.globals e.kind e.index i

  exports_same : (d : Declarations) → are_valid_exports features (unplaced d) ≡ are_valid_exports features d
  exports_same d =
      λ i. all_same (is_valid_export features (unplaced d)) (is_valid_export features d) export_at (export_same d) d.exports i
      && are_distinct (map_same (λ (e : Exported). e.name) export_at (λ e. refl) d.exports i)

  takes_same : (types : List SubType) (r : RefType) (o : Option DeclaredTable) → takes_elements types r (option_map table_at o) ≡ takes_elements types r o
  takes_same types r None = refl
  takes_same types r (Some t) = refl

  kind_same : (types : List SubType) (tables : List DeclaredTable) (r : RefType) (kind : ElementKind) → is_valid_element_kind features types (map table_at tables) r kind ≡ is_valid_element_kind features types tables r kind
  kind_same types tables r Passive = refl
  kind_same types tables r Declared = refl
  kind_same types tables r (Active table) = found_same (takes_elements types r) table_at (takes_same types r) tables table

  element_same : (types : List SubType) (n m : ℕ) (tables : List DeclaredTable) → n ≡ m → (x : Element) → is_valid_element features types n (map table_at tables) (element_at x) ≡ is_valid_element features types m tables x
  element_same types n m tables e x =
      λ i. are_valid_element_items features types (e i) x.items && kind_same types tables (item_type x.items) x.kind i

  elements_same : (types : List SubType) (n m : ℕ) (tables : List DeclaredTable) (elements : List Element) → n ≡ m → are_valid_elements features types n (map table_at tables) (map element_at elements) ≡ are_valid_elements features types m tables elements
  elements_same types n m tables elements e =
      all_same (is_valid_element features types n (map table_at tables)) (is_valid_element features types m tables) element_at (element_same types n m tables e) elements

  counted_same : (n : ℕ) (c : Option DataCount) → is_data_count n (option_map count_at c) ≡ is_data_count n c
  counted_same n None = refl
  counted_same n (Some c) = refl

  data_same : (n m : ℕ) (c : Option DataCount) (segments : List Data) → n ≡ m → are_valid_data features n (option_map count_at c) (map data_at segments) ≡ are_valid_data features m c segments
  data_same n m c segments e =
      let counted = ap (λ k. is_data_count k (option_map count_at c)) (length-map segments data_at) ∙ counted_same (length segments) c in
      let all = all_same (λ (s : Data). is_valid_data_kind features n s.kind) (λ (s : Data). is_valid_data_kind features m s.kind) data_at (λ s. ap (λ k. is_valid_data_kind features k s.kind) e) segments in
      λ i. counted i && all i

  functions_same : (d : Declarations) → are_valid_functions features d.types d.imports.functions (map function_at d.functions) ≡ are_valid_functions features d.types d.imports.functions d.functions
  functions_same d =
      each_same (λ (e : ℕ × DeclaredFunction). is_valid_function features d.types d.imports.functions e.0 e.1) function_at (λ n f. refl) 0 d.functions

  tables_same : (d : Declarations) → are_valid_tables features d.types d.imports.tables (map table_at d.tables) ≡ are_valid_tables features d.types d.imports.tables d.tables
  tables_same d =
      let many = ap (may_be_so_many features) (length-map d.tables table_at) in
      let all = each_same (λ (e : ℕ × DeclaredTable). is_valid_table features d.types d.imports.tables e.0 e.1) table_at (λ n t. refl) 0 d.tables in
      λ i. many i && all i

  memories_same : (d : Declarations) → are_valid_memories features (map memory_at d.memories) ≡ are_valid_memories features d.memories
  memories_same d =
      let many = ap (may_be_so_many_memories features) (length-map d.memories memory_at) in
      let all = all_same (is_valid_memory features) (is_valid_memory features) memory_at (λ m. refl) d.memories in
      λ i. many i && all i

  tags_same : (d : Declarations) → are_valid_tags features d.types (map tag_at d.tags) ≡ are_valid_tags features d.types d.tags
  tags_same d = all_same (is_valid_tag features d.types) (is_valid_tag features d.types) tag_at (λ t. refl) d.tags

  globals_same : (d : Declarations) → are_valid_globals features d.types d.imports.globals (map global_at d.globals) ≡ are_valid_globals features d.types d.imports.globals d.globals
  globals_same d =
      each_same (λ (e : ℕ × DeclaredGlobal). is_valid_global features d.types d.imports.globals e.0 e.1) global_at (λ n g. refl) 0 d.globals

  items_same : (d : Declarations) → are_valid_items features (unplaced d) ≡ are_valid_items features d
  items_same d =
      λ i. functions_same d i && tables_same d i && memories_same d i && tags_same d i && globals_same d i

  uses_same : (d : Declarations) → are_valid_uses features (unplaced d) ≡ are_valid_uses features d
  uses_same d =
      let elements = elements_same d.types (length (map function_at d.functions)) (length d.functions) d.tables d.elements (length-map d.functions function_at) in
      let segments = data_same (length (map memory_at d.memories)) (length d.memories) d.data_count d.data_segments (length-map d.memories memory_at) in
      λ i. exports_same d i && start_same d.types d.functions d.start i && elements i && segments i

  pub valid_same : (d : Declarations) → is_valid_module features (unplaced d) ≡ is_valid_module features d
  valid_same d =
      let all = list_all (λ (e : ℕ × SubType). is_valid_type features d.types e.0 e.1) (enumerate_from 0 d.types) in
      λ i. (groups_same d.types 0 d.groups i && all && have_valid_descriptors d.types d.canonical) && items_same d i && uses_same d i

-- ---- the limits

pub within_same : (d : Declarations) → is_within (unplaced d) ≡ is_within d
within_same d =
    let functions = length-map d.functions function_at in
    let tables = length-map d.tables table_at in
    let memories = length-map d.memories memory_at in
    let tags = length-map d.tags tag_at in
    let globals = length-map d.globals global_at in
    let exports = length-map d.exports export_at in
    let elements = length-map d.elements element_at in
    let all = all_same is_element_within is_element_within element_at (λ e. refl) d.elements in
    let segments = length-map d.data_segments data_at in
    let items : are_items_within (unplaced d) ≡ are_items_within d =
    λ i. nat_le (functions i) MAX_WASM_FUNCTIONS && nat_le (tables i) MAX_WASM_TABLES && nat_le (memories i) MAX_WASM_MEMORIES && nat_le (tags i) MAX_WASM_TAGS && nat_le (globals i) MAX_WASM_GLOBALS in
    let uses : are_uses_within (unplaced d) ≡ are_uses_within d =
    λ i. nat_le (exports i) MAX_WASM_EXPORTS && ((nat_le (elements i) MAX_WASM_ELEMENT_SEGMENTS && all i) && nat_le (segments i) MAX_WASM_DATA_SEGMENTS) in
    λ i. nat_le (length d.types) MAX_WASM_TYPES && nat_le (import_count d.imports) MAX_WASM_IMPORTS && are_types_within d.types && items i && uses i

-- ---- the lookup

named_same : (d : Declarations) → named_functions (unplaced d) ≡ named_functions d
named_same d =
    let exports = flat_same (λ (e : Exported). exported_functions e.kind e.index) export_at (λ e. refl) d.exports in
    let elements = flat_same (λ (e : Element). listed_functions e.items) element_at (λ e. refl) d.elements in
    λ i. exports i ++ elements i ++ d.expression_functions

referenced_same : (d : Declarations) (f : ℕ) → is_referenced (unplaced d) f ≡ is_referenced d f
referenced_same d f = ap (list_any (λ i. i == f)) (named_same d)

count_in : (c : Option DataCount) → option_map (λ (c : DataCount). c.count) (option_map count_at c) ≡ option_map (λ (c : DataCount). c.count) c
count_in None = refl
count_in (Some c) = refl

pub lookup_same : (d : Declarations) → lookup_lists (unplaced d) ≡ lookup_lists d
lookup_same d =
    let functions = map_each_same (λ (e : ℕ × DeclaredFunction). function_decl e.1 (is_referenced (unplaced d) e.0)) (λ (e : ℕ × DeclaredFunction). function_decl e.1 (is_referenced d e.0)) function_at (λ n f. ap (function_decl f) (referenced_same d n)) 0 d.functions in
    let tables = map_same (λ (t : DeclaredTable). t.ty) table_at (λ t. refl) d.tables in
    let memories = map_same (λ (m : DeclaredMemory). m.ty) memory_at (λ m. refl) d.memories in
    let globals = map_same (λ (g : DeclaredGlobal). g.ty) global_at (λ g. refl) d.globals in
    let tags = map_same (λ (t : DeclaredTag). t.func_type_idx) tag_at (λ t. refl) d.tags in
    let elements = map_same (λ (e : Element). item_type e.items) element_at (λ e. refl) d.elements in
    λ i. record {
      types = d.types;
      functions = functions i;
      tables = tables i;
      memories = memories i;
      globals = globals i;
      tags = tags i;
      elements = elements i;
      data_count = count_in d.data_count i;
    }

-- ---- constant expressions

abbrev table_type_of : DeclaredTable → ValType
table_type_of t = Ref t.ty.element_type

mapped_same : {A B : Type 0} (f : A → B) (u : A → A) → ((a : A) → f (u a) ≡ f a) → (o : Option A) → option_map f (option_map u o) ≡ option_map f o
mapped_same f u e None = refl
mapped_same f u e (Some a) = ap (λ b. Some b) (e a)

element_address_same : (tables : List DeclaredTable) (kind : ElementKind) → element_address_type (map table_at tables) kind ≡ element_address_type tables kind
element_address_same tables Passive = refl
element_address_same tables Declared = refl
element_address_same tables (Active table) =
    found_same (option_map (λ (t : DeclaredTable). address_type_of_table t.ty)) table_at (mapped_same _ table_at (λ t. refl)) tables table

data_address_same : (memories : List DeclaredMemory) (kind : DataKind) → data_address_type (map memory_at memories) kind ≡ data_address_type memories kind
data_address_same memories PassiveData = refl
data_address_same memories (ActiveData memory) =
    found_same (option_map (λ (m : DeclaredMemory). address_type_of_memory m.ty)) memory_at (mapped_same _ memory_at (λ m. refl)) memories memory

offset_of_element : (tables : List DeclaredTable) (o : Option Element) → option_and_then (λ (e : Element). element_address_type (map table_at tables) e.kind) (option_map element_at o) ≡ option_and_then (λ (e : Element). element_address_type tables e.kind) o
offset_of_element tables None = refl
offset_of_element tables (Some e) = element_address_same tables e.kind

offset_of_data : (memories : List DeclaredMemory) (o : Option Data) → option_and_then (λ (s : Data). data_address_type (map memory_at memories) s.kind) (option_map data_at o) ≡ option_and_then (λ (s : Data). data_address_type memories s.kind) o
offset_of_data memories None = refl
offset_of_data memories (Some s) = data_address_same memories s.kind

pub expression_same : (d : Declarations) (place : Place) → expression_type (unplaced d) place ≡ expression_type d place
expression_same d (OfTable i) = found_same (option_map table_type_of) table_at (mapped_same table_type_of table_at (λ t. refl)) d.tables i
expression_same d (OfGlobal i) =
    found_same (option_map (λ (g : DeclaredGlobal). g.ty.content_type)) global_at (mapped_same _ global_at (λ g. refl)) d.globals i
expression_same d (ElementOffset i) =
    ap (option_and_then (λ (e : Element). element_address_type (map table_at d.tables) e.kind)) (slice_get-map element_at d.elements i)
    ∙ offset_of_element d.tables (slice_get d.elements i)
expression_same d (OfElement i) =
    found_same (option_map (λ (e : Element). Ref (item_type e.items))) element_at (mapped_same _ element_at (λ e. refl)) d.elements i
expression_same d (DataOffset i) =
    ap (option_and_then (λ (s : Data). data_address_type (map memory_at d.memories) s.kind)) (slice_get-map data_at d.data_segments i)
    ∙ offset_of_data d.memories (slice_get d.data_segments i)

known_same : (d : Declarations) (place : Place) → known_globals (unplaced d) place ≡ known_globals d place
known_same d (OfTable i) = refl
known_same d (OfGlobal i) = refl
known_same d (ElementOffset i) = length-map d.globals global_at
known_same d (OfElement i) = length-map d.globals global_at
known_same d (DataOffset i) = length-map d.globals global_at

immutable_same : (o : Option DeclaredGlobal) → is_immutable (option_map global_at o) ≡ is_immutable o
immutable_same None = refl
immutable_same (Some g) = refl

name_same : (features : ModuleFeatures) (d : Declarations) (count i : ℕ) → may_name_global features (unplaced d) count i ≡ may_name_global features d count i
name_same features d count n =
    let there : is_immutable (slice_get (take count (map global_at d.globals)) n) ≡ is_immutable (slice_get (take count d.globals) n) =
    ap (λ l. is_immutable (slice_get l n)) (take_map global_at count d.globals)
    ∙ found_same is_immutable global_at immutable_same (take count d.globals) n in
    ap (λ b. b && (nat_lt n d.imports.globals || has features.operators gc)) there

pub constant_same : (features : ModuleFeatures) (d : Declarations) (place : Place) → is_constant_in features (unplaced d) place ≡ is_constant_in features d place
constant_same features d place =
    ap (λ n. is_constant_operator features (may_name_global features (unplaced d) n)) (known_same d place)
    ∙ ap (λ (f : ℕ → Bool). is_constant_operator features f) (λ j n. name_same features d (known_globals d place) n j)
