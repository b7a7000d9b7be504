-- A lookup over the declarations of a valid module finds no cause of a refusal.
use Rattle.std.proofs.Common.{◌≡◌, ◌∙◌, ℕ, true, ◌&&◌, length, nat_le, refl, ◌==◌}
use Rattle.std.specs.Prelude.{slice_get}
use Rattle.std.specs.List.{list_all, enumerate_from}
use Rattle.std.proofs.lemmas.Bool.{and_parts, and_from, eqb-true}
use Rattle.std.proofs.lemmas.List.Folds.{list_all-map}
use Rattle.validate_types.specs.declared.types.SubType.{SubType}
use Rattle.validate_resources.specs.declared.lists.FuncDecl.{FuncDecl}
use Rattle.validate_resources.specs.Indices.{is_known, ref_indices_pass, sub_indices_pass, table_indices_pass, global_indices_pass, type_indices_pass}
use Rattle.validate_resources.specs.Lists.{may_be_looked_up, is_func_type, continues_function, has_fitting_descriptor}
use Rattle.validate_resources.specs.Order.{have_supertypes_of_their_sort, has_supertype_of_its_sort}
use Rattle.module_rules.specs.Declarations.{Declarations}
use Rattle.module_rules.specs.Descriptors.{has_valid_descriptors, has_valid_descriptor}
use Rattle.module_rules.specs.Exports.{are_valid_exports}
use Rattle.module_rules.specs.Functions.{is_valid_start, is_tag_signature, is_valid_function, is_valid_tag, are_valid_functions, are_valid_tags, signature_at}
use Rattle.module_rules.specs.Globals.{is_valid_global, is_valid_global_type, is_valid_value_type, are_valid_globals}
use Rattle.module_rules.specs.Lookup.{lookup_lists, function_decl}
use Rattle.module_rules.specs.References.{is_referenced}
use Rattle.module_rules.specs.Segments.{item_type, is_valid_element, are_valid_items as have_valid_items, are_valid_elements, are_valid_data}
use Rattle.module_rules.specs.Tables.{is_valid_table, is_valid_table_type, is_valid_element_type, is_table_enabled, may_be_so_many, are_valid_tables}
use Rattle.module_rules.specs.Types.{are_valid_types, are_valid_groups, is_valid_type, is_valid_sub_type, is_earlier, is_valid_composite, is_sub_type_enabled, matches_supertype}
use Rattle.module_rules.specs.Validity.{is_valid_module, are_valid_items}
use Rattle.module_rules.specs.declared.features.ModuleFeatures.{ModuleFeatures}
use Rattle.module_rules.specs.declared.items.DeclaredFunction.{DeclaredFunction}
use Rattle.module_rules.specs.declared.items.DeclaredGlobal.{DeclaredGlobal}
use Rattle.module_rules.specs.declared.items.DeclaredTable.{DeclaredTable}
use Rattle.module_rules.specs.declared.items.DeclaredTag.{DeclaredTag}
use Rattle.module_rules.specs.declared.limits.TheConstants.{MAX_WASM_TYPES}
use Rattle.module_rules.specs.declared.segments.Element.{Element}
use Rattle.module_rules.specs.declared.segments.ElementItems.{ElementItems}
use Rattle.module_rules.specs.declared.segments.ElementItems.TheVariants.{Functions, Expressions}
use Rattle.module_rules.proofs.LookedUp.{all-weaker, unnumbered, unpaired, groups-known, supertype-sort, tag-type, fitting}

module _ (features : ModuleFeatures) (d : Declarations) where
  -- ---- items

  table-known : (k : ℕ) (t : DeclaredTable) → is_valid_table features d.types d.imports.tables k t ≡ true → table_indices_pass (is_known (length d.types)) t.ty ≡ true
  table-known k t h =
      let a = (and_parts (is_valid_table_type features d.types t) _ h).0 in
      let b = (and_parts (is_valid_element_type features d.types t.ty.element_type && is_table_enabled features d.types t) _ a).0 in
      (and_parts _ (ref_indices_pass (is_known (length d.types)) t.ty.element_type)
      (and_parts (is_valid_element_type features d.types t.ty.element_type) _ b).0).1

  global-known : (k : ℕ) (g : DeclaredGlobal) → is_valid_global features d.types d.imports.globals k g ≡ true → global_indices_pass (is_known (length d.types)) g.ty ≡ true
  global-known k g h =
      let a = (and_parts (is_valid_global_type features d.types g) _ h).0 in
      let b = (and_parts (is_valid_value_type features d.types g.ty.content_type) _ a).0 in
      (and_parts _ (type_indices_pass (is_known (length d.types)) g.ty.content_type) b).1

  items-known : (items : ElementItems) → have_valid_items features d.types (length d.functions) items ≡ true → ref_indices_pass (is_known (length d.types)) (item_type items) ≡ true
  items-known (Functions fs) h = refl
  items-known (Expressions ty count) h = (and_parts _ (ref_indices_pass (is_known (length d.types)) ty) h).1

  element-known : (e : Element) → is_valid_element features d.types (length d.functions) d.tables e ≡ true → ref_indices_pass (is_known (length d.types)) (item_type e.items) ≡ true
  element-known e h =
      items-known e.items (and_parts (have_valid_items features d.types (length d.functions) e.items) _ h).0

  -- ---- types

  sub-continues : (s : SubType) → is_valid_sub_type features d.types s ≡ true → continues_function d.types s ≡ true
  sub-continues s h =
      let a = (and_parts ((is_sub_type_enabled features s && is_valid_composite features d.types s.composite_type) && continues_function d.types s) _ h).0 in
      (and_parts _ (continues_function d.types s) a).1

  sub-matches : (s : SubType) → is_valid_sub_type features d.types s ≡ true → matches_supertype d.types s.composite_type s.supertype_idx ≡ true
  sub-matches s h = (and_parts ((is_sub_type_enabled features s && is_valid_composite features d.types s.composite_type) && continues_function d.types s) _ h).1

  sub-sort : (k : ℕ) (s : SubType) → is_valid_type features d.types k s ≡ true → has_supertype_of_its_sort d.types k s.composite_type s.supertype_idx ≡ true
  sub-sort k s h =
      let a = and_parts (is_earlier k s.supertype_idx) _ h in
      supertype-sort d.types k s.composite_type s.supertype_idx a.0 (sub-matches s a.1)

  sub-fits : (s : SubType) (n : ℕ) → has_valid_descriptors d.types n s.composite_type ≡ true → has_fitting_descriptor s ≡ true
  sub-fits s n h =
      fitting d.types n s.composite_type s.composite_type.descriptor_idx
      (and_parts (has_valid_descriptor d.types n s.composite_type s.composite_type.descriptor_idx) _ h).0

  -- ---- the whole

  types-found : are_valid_types features d.types d.groups d.canonical ≡ true → (list_all (sub_indices_pass (is_known (length d.types))) d.types ≡ true) × (have_supertypes_of_their_sort d.types ≡ true) × (list_all (continues_function d.types) d.types ≡ true) × (list_all has_fitting_descriptor d.types ≡ true)
  types-found h =
      let each = λ (e : ℕ × SubType). is_valid_type features d.types e.0 e.1 in
      let a = and_parts (are_valid_groups features d.types 0 d.groups && list_all each (enumerate_from 0 d.types)) _ h in
      let b = and_parts (are_valid_groups features d.types 0 d.groups) _ a.0 in
      let n = and_parts (length d.canonical == length d.types) _ a.1 in (
        groups-known features d.types 0 d.groups b.0,
        all-weaker each (λ (e : ℕ × SubType). has_supertype_of_its_sort d.types e.0 e.1.composite_type e.1.supertype_idx) (λ e v. sub-sort e.0 e.1 v) (enumerate_from 0 d.types) b.1,
        unnumbered each (continues_function d.types) (λ k s v. sub-continues s (and_parts (is_earlier k s.supertype_idx) _ v).1) 0 d.types b.1,
        unpaired _ has_fitting_descriptor sub-fits d.types d.canonical (eqb-true (length d.canonical) (length d.types) n.0) n.1,
      )

  functions-found : are_valid_functions features d.types d.imports.functions d.functions ≡ true → list_all (λ (f : FuncDecl). is_func_type (slice_get d.types f.type_index)) (lookup_lists d).functions ≡ true
  functions-found h =
      list_all-map (λ (f : FuncDecl). is_func_type (slice_get d.types f.type_index)) (λ (e : ℕ × DeclaredFunction). function_decl e.1 (is_referenced d e.0)) (enumerate_from 0 d.functions)
      ∙ all-weaker (λ (e : ℕ × DeclaredFunction). is_valid_function features d.types d.imports.functions e.0 e.1) (λ (e : ℕ × DeclaredFunction). is_func_type (slice_get d.types e.1.type_index))
      (λ e v. (and_parts (is_func_type (slice_get d.types e.1.type_index)) _ v).0) (enumerate_from 0 d.functions) h

  tags-found : are_valid_tags features d.types d.tags ≡ true → list_all (λ i. is_func_type (slice_get d.types i)) (lookup_lists d).tags ≡ true
  tags-found h =
      list_all-map (λ i. is_func_type (slice_get d.types i)) (λ (t : DeclaredTag). t.func_type_idx) d.tags
      ∙ all-weaker (is_valid_tag features d.types) (λ (t : DeclaredTag). is_func_type (slice_get d.types t.func_type_idx))
      (λ t v. tag-type features (slice_get d.types t.func_type_idx) (and_parts _ (is_tag_signature features (signature_at d.types t.func_type_idx)) v).1) d.tags h

  tables-found : are_valid_tables features d.types d.imports.tables d.tables ≡ true → list_all (table_indices_pass (is_known (length d.types))) (lookup_lists d).tables ≡ true
  tables-found h =
      list_all-map (table_indices_pass (is_known (length d.types))) (λ (t : DeclaredTable). t.ty) d.tables
      ∙ unnumbered (λ (e : ℕ × DeclaredTable). is_valid_table features d.types d.imports.tables e.0 e.1) (λ (t : DeclaredTable). table_indices_pass (is_known (length d.types)) t.ty)
      table-known 0 d.tables (and_parts (may_be_so_many features (length d.tables)) _ h).1

  globals-found : are_valid_globals features d.types d.imports.globals d.globals ≡ true → list_all (global_indices_pass (is_known (length d.types))) (lookup_lists d).globals ≡ true
  globals-found h =
      list_all-map (global_indices_pass (is_known (length d.types))) (λ (g : DeclaredGlobal). g.ty) d.globals
      ∙ unnumbered (λ (e : ℕ × DeclaredGlobal). is_valid_global features d.types d.imports.globals e.0 e.1) (λ (g : DeclaredGlobal). global_indices_pass (is_known (length d.types)) g.ty)
      global-known 0 d.globals h

  elements-found : are_valid_elements features d.types (length d.functions) d.tables d.elements ≡ true → list_all (ref_indices_pass (is_known (length d.types))) (lookup_lists d).elements ≡ true
  elements-found h =
      list_all-map (ref_indices_pass (is_known (length d.types))) (λ (e : Element). item_type e.items) d.elements
      ∙ all-weaker (is_valid_element features d.types (length d.functions) d.tables) (λ (e : Element). ref_indices_pass (is_known (length d.types)) (item_type e.items))
      element-known d.elements h

  pub lookup-found : nat_le (length d.types) MAX_WASM_TYPES ≡ true → is_valid_module features d ≡ true → may_be_looked_up is_known (lookup_lists d) ≡ true
  lookup-found few h =
      let a = and_parts (are_valid_types features d.types d.groups d.canonical && are_valid_items features d) _ h in
      let b = and_parts (are_valid_types features d.types d.groups d.canonical) _ a.0 in
      let types = types-found b.0 in
      let functions = are_valid_functions features d.types d.imports.functions d.functions in
      let tables = are_valid_tables features d.types d.imports.tables d.tables in
      let globals = and_parts (((functions && tables) && _) && are_valid_tags features d.types d.tags) (are_valid_globals features d.types d.imports.globals d.globals) b.1 in
      let tags = and_parts ((functions && tables) && _) (are_valid_tags features d.types d.tags) globals.0 in
      let first = and_parts functions tables (and_parts (functions && tables) _ tags.0).0 in
      let before = are_valid_exports features d && is_valid_start d.types d.functions d.start in
      let segments = are_valid_elements features d.types (length d.functions) d.tables d.elements in
      let used = and_parts (before && segments) (are_valid_data features (length d.memories) d.data_count d.data_segments) a.1 in
      let elements = (and_parts before segments used.0).1 in
      let known = and_from _ _ (and_from _ _ (and_from _ _ types.0 (tables-found first.1)) (globals-found globals.1)) (elements-found elements) in
      let of_functions = and_from _ _ (and_from _ _ (functions-found first.0) (tags-found tags.1)) types.2 in
      and_from _ _ (and_from _ _ (and_from _ _ (and_from _ _ few known) types.1) of_functions) types.3
