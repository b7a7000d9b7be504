-- What stands in the sections of a module doesn't depend on where the list lies by which indices of types are read.
use Rattle.std.proofs.Common.{◌≡◌, ◌∙◌, ℕ, zero, suc, ◌%◌, List, [], ◌∷◌, length, Bool, true, false, if◌then◌else◌, nat_eq, nat_lt, Option, Some, None, is_some, slice_get, refl, sym, ap, subst}
use Rattle.std.specs.Option.{option_and_then}
use Rattle.binary_operators.proofs.Wherever.{lying, operators_same}
use Rattle.binary_operators.specs.Instructions.{operator}
use Rattle.binary_operators.specs.Integers.{unsigned}
use Rattle.binary_operators.specs.Types.{name_of, named, unshared_heap, heap_type, reference_type, ref_type, value_of, value_type, type_number, abstract_type, number_type}
use Rattle.binary_operators.specs.Values.{byte, so_many, list_of}
use Rattle.binary_operators.specs.declared.types.CanonicalTypes.{CanonicalTypes}
use Rattle.binary_operators.specs.declared.types.GroupNames.{GroupNames}
use Rattle.module_rules.specs.declared.items.TableInit.{TableInit}
use Rattle.module_rules.specs.declared.items.TableInit.TheVariants.{RefNull, Expr}
use Rattle.validate_types.specs.Refs.{nullable_reference}
use Rattle.validate_types.specs.declared.heap.AbstractHeapType.{AbstractHeapType}
use Rattle.validate_types.specs.declared.heap.AbstractHeapType.TheVariants.{Func}
use Rattle.validate_types.specs.declared.heap.HeapType.{HeapType}
use Rattle.validate_types.specs.declared.heap.HeapType.TheVariants.{Abstract, Concrete, Exact}
use Rattle.validate_types.specs.declared.heap.UnpackedIndex.{UnpackedIndex}
use Rattle.validate_types.specs.declared.refs.RefType.{RefType}
use Rattle.validate_types.specs.declared.types.ValType.{ValType}
use Rattle.validate_visit.specs.declared.op.Op.{Op}
use Rattle.binary_modules.specs.Initializers.{piece, of_operator, depth_behind, or_end, named_functions, expression}
use Rattle.binary_modules.specs.Items.{function, own_function, tag_type, tag, global_type, global, alone_item, initialized_table, table, imported, import_behind, import_item}
use Rattle.binary_modules.specs.Limits.{table_type}
use Rattle.binary_modules.specs.Modules.{Contents}
use Rattle.binary_modules.specs.ModulesRead.{AreContents}
use Rattle.binary_modules.specs.Parts.{name, marked}
use Rattle.binary_modules.specs.Sections.{Section, contents_of}
use Rattle.binary_modules.specs.Segments.{index_if, active_elements, element_target, with_type, expression_items, type_and_expressions, element_items, element_behind, element, active_data, data_target, data_behind, data_segment}
use Rattle.binary_modules.specs.declared.imports.Import.TheVariants.{Table as ImportedTable, Global as ImportedGlobal}

if_same : {A : Type 0} → (b : Bool) (x x' y y' : A) → x ≡ x' → y ≡ y' → (if b then x else y) ≡ (if b then x' else y')
if_same true x x' y y' e f = e
if_same false x x' y y' e f = f

read_on : {A B : Type 0} → (o : Option A) (f g : A → Option B) → ((a : A) → f a ≡ g a) → option_and_then f o ≡ option_and_then g o
read_on None f g h = refl
read_on (Some a) f g h = h a

both_read : {A B : Type 0} → (o p : Option A) (f g : A → Option B) → o ≡ p → ((a : A) → f a ≡ g a) → option_and_then f o ≡ option_and_then g p
both_read o p f g e h = ap (option_and_then f) e ∙ read_on p f g h

many_same : {A : Type 0} → (item item' : List ℕ → Option (A × List ℕ)) → ((bytes : List ℕ) → item bytes ≡ item' bytes) → (count : ℕ) (bytes : List ℕ) → so_many item count bytes ≡ so_many item' count bytes
many_same item item' each zero bytes = refl
many_same item item' each (suc count) bytes =
    both_read (item bytes) (item' bytes) _ _ (each bytes) (λ x. ap (option_and_then _) (many_same item item' each count x.1))

list_same : {A : Type 0} → (item item' : List ℕ → Option (A × List ℕ)) → ((bytes : List ℕ) → item bytes ≡ item' bytes) → (bytes : List ℕ) → list_of item bytes ≡ list_of item' bytes
unfolding list_of
list_same item item' each bytes = read_on (unsigned 32 bytes) _ _ (λ count. many_same item item' each count.0 count.1)

-- ---- operators

some_operator : (p q : ℕ × ℕ) (l : List ℕ) (g : GroupNames) (bytes : List ℕ) (x : Op × List ℕ) → operator (lying p l g) bytes ≡ Some x → operator (lying q l g) bytes ≡ Some x
some_operator p q l g bytes x e =
    let a = operators_same p q l g (x.0 ∷ []) bytes x.1 (x.1, e, refl) in
    a.1 ∙ ap (λ r. Some (x.0, r)) a.2

by_results : {A : Type 0} → (o p : Option A) → ((x : A) → o ≡ Some x → p ≡ Some x) → ((x : A) → p ≡ Some x → o ≡ Some x) → o ≡ p
by_results (Some x) p f h = sym (f x refl)
by_results None (Some x) f h = h x refl
by_results None None f h = refl

operator_same : (p q : ℕ × ℕ) (l : List ℕ) (g : GroupNames) (bytes : List ℕ) → operator (lying p l g) bytes ≡ operator (lying q l g) bytes
operator_same p q l g bytes =
    by_results (operator (lying p l g) bytes) (operator (lying q l g) bytes) (some_operator p q l g bytes) (some_operator q p l g bytes)

module _ (p q : ℕ × ℕ) (l : List ℕ) (g : GroupNames) where
  abbrev s : CanonicalTypes
  s = lying p l g

  abbrev t : CanonicalTypes
  t = lying q l g

  -- ---- types

  name_same : (o : Option ℕ) (i : ℕ) → name_of o s i ≡ name_of o t i
  name_same None i = refl
  name_same (Some first) i = refl

  named_same : (heap : UnpackedIndex → HeapType) (o : Option (ℕ × List ℕ)) → named heap s o ≡ named heap t o
  named_same heap None = refl
  named_same heap (Some i) = ap (λ (u : UnpackedIndex). Some (heap u, i.1)) (name_same (slice_get l i.0) i.0)

  unshared_same : (o : Option AbstractHeapType) (code : ℕ) (bytes : List ℕ) → unshared_heap s o code bytes ≡ unshared_heap t o code bytes
  unshared_same (Some ty) code bytes = refl
  unshared_same None code bytes =
      if_same (nat_eq code 0x62) _ _ _ _ (named_same Exact (unsigned 32 bytes)) (named_same Concrete (type_number (code ∷ bytes)))

  heap_same : (bytes : List ℕ) → heap_type s bytes ≡ heap_type t bytes
  unfolding heap_type
  heap_same [] = refl
  heap_same (code ∷ bytes) = if_same (nat_eq code 0x65) _ _ _ _ refl (unshared_same (abstract_type code) code bytes)

  reference_same : (nullable : Bool) (bytes : List ℕ) → reference_type s nullable bytes ≡ reference_type t nullable bytes
  unfolding reference_type
  reference_same nullable bytes = ap (option_and_then _) (heap_same bytes)

  ref_same : (bytes : List ℕ) → ref_type s bytes ≡ ref_type t bytes
  unfolding ref_type
  ref_same [] = refl
  ref_same (code ∷ bytes) =
      if_same (nat_eq code 0x63) _ _ _ _ (reference_same true bytes)
      (if_same (nat_eq code 0x64) _ _ _ _ (reference_same false bytes)
      (if_same (nat_eq code 0x65) _ _ _ _ (reference_same true (code ∷ bytes))
      (if_same (is_some (abstract_type code)) _ _ None None (reference_same true (code ∷ bytes)) refl)))

  of_type_same : (o : Option ValType) (bytes : List ℕ) → value_of s o bytes ≡ value_of t o bytes
  of_type_same (Some ty) bytes = refl
  of_type_same None bytes = ap (option_and_then _) (ref_same bytes)

  value_same : (bytes : List ℕ) → value_type s bytes ≡ value_type t bytes
  unfolding value_type
  value_same [] = refl
  value_same (code ∷ bytes) = of_type_same (number_type code) (code ∷ bytes)

  table_type_same : (init : TableInit) (bytes : List ℕ) → table_type init s bytes ≡ table_type init t bytes
  unfolding table_type
  table_type_same init bytes = ap (option_and_then _) (ref_same bytes)

  global_type_same : (bytes : List ℕ) → global_type s bytes ≡ global_type t bytes
  unfolding global_type
  global_type_same bytes = ap (option_and_then _) (value_same bytes)

  -- ---- constant expressions

  piece_same : (bytes : List ℕ) → piece s bytes ≡ piece t bytes
  unfolding piece
  piece_same [] = refl
  piece_same (code ∷ bytes) =
      if_same (nat_eq code 0xfd) _ _ _ _ refl (ap of_operator (operator_same p q l g (code ∷ bytes)))

  or_end_same : (o : Option ℕ) (f h : ℕ → Option (List ℕ × List ℕ)) (bytes : List ℕ) → ((depth : ℕ) → f depth ≡ h depth) → or_end o f bytes ≡ or_end o h bytes
  or_end_same None f h bytes each = refl
  or_end_same (Some depth) f h bytes each = each depth

  named_functions_same : (most depth : ℕ) (bytes : List ℕ) → named_functions most s depth bytes ≡ named_functions most t depth bytes
  named_functions_same zero depth bytes = refl
  named_functions_same (suc most) depth bytes =
      both_read (piece s bytes) (piece t bytes) _ _ (piece_same bytes)
      (λ op. ap (option_and_then _) (or_end_same (depth_behind depth op.0) (λ b. named_functions most s b op.1) (λ b. named_functions most t b op.1) op.1 (λ b. named_functions_same most b op.1)))

  expression_same : (bytes : List ℕ) → expression s bytes ≡ expression t bytes
  unfolding expression
  expression_same bytes = ap (option_and_then _) (named_functions_same (length bytes) 0 bytes)

  -- ---- items

  function_same : (bytes : List ℕ) → own_function s bytes ≡ own_function t bytes
  unfolding own_function function
  function_same bytes = refl

  tag_same : (bytes : List ℕ) → tag s bytes ≡ tag t bytes
  unfolding tag tag_type
  tag_same bytes = refl

  initialized_same : (bytes : List ℕ) → initialized_table s bytes ≡ initialized_table t bytes
  unfolding initialized_table
  initialized_same bytes =
      read_on (byte bytes) _ _
      (λ reserved. both_read (table_type Expr s reserved.1) (table_type Expr t reserved.1) _ _ (table_type_same Expr reserved.1)
      (λ table. ap (option_and_then _) (expression_same table.1)))

  table_same : (bytes : List ℕ) → table s bytes ≡ table t bytes
  unfolding table
  table_same bytes =
      read_on (marked 0x40 bytes) _ _
      (λ mark. if_same mark.0 _ _ _ _ (initialized_same mark.1) (ap alone_item (table_type_same RefNull mark.1)))

  global_same : (bytes : List ℕ) → global s bytes ≡ global t bytes
  unfolding global
  global_same bytes =
      both_read (global_type s bytes) (global_type t bytes) _ _ (global_type_same bytes)
      (λ ty. ap (option_and_then _) (expression_same ty.1))

  import_behind_same : (code : ℕ) (bytes : List ℕ) → import_behind code s bytes ≡ import_behind code t bytes
  unfolding function tag_type
  import_behind_same code bytes =
      if_same (nat_eq code 0x00) _ _ _ _ refl
      (if_same (nat_eq code 0x20) _ _ _ _ refl
      (if_same (nat_eq code 0x01) _ _ _ _ (ap (imported ImportedTable) (table_type_same RefNull bytes))
      (if_same (nat_eq code 0x02) _ _ _ _ refl
      (if_same (nat_eq code 0x03) _ _ _ _ (ap (imported ImportedGlobal) (global_type_same bytes))
      (if_same (nat_eq code 0x04) _ _ None None refl refl)))))

  import_same : (bytes : List ℕ) → import_item s bytes ≡ import_item t bytes
  unfolding import_item
  import_same bytes =
      read_on (name bytes) _ _
      (λ from. read_on (name from.1) _ _
      (λ item. read_on (byte item.1) _ _ (λ code. import_behind_same code.0 code.1)))

  -- ---- segments

  active_elements_same : (has_table : Bool) (bytes : List ℕ) → active_elements has_table s bytes ≡ active_elements has_table t bytes
  unfolding active_elements
  active_elements_same has_table bytes =
      read_on (index_if has_table bytes) _ _ (λ table. ap (option_and_then _) (expression_same table.1))

  element_target_same : (flags : ℕ) (bytes : List ℕ) → element_target flags s bytes ≡ element_target flags t bytes
  element_target_same flags bytes =
      if_same (nat_eq (flags % 4) 1) _ _ _ _ refl
      (if_same (nat_eq (flags % 4) 3) _ _ _ _ refl (active_elements_same (nat_eq (flags % 4) 2) bytes))

  expression_items_same : (ty : RefType) (bytes : List ℕ) → expression_items ty s bytes ≡ expression_items ty t bytes
  unfolding expression_items
  expression_items_same ty bytes = ap (with_type ty) (list_same (expression s) (expression t) expression_same bytes)

  type_and_expressions_same : (bytes : List ℕ) → type_and_expressions s bytes ≡ type_and_expressions t bytes
  unfolding type_and_expressions
  type_and_expressions_same bytes =
      both_read (ref_type s bytes) (ref_type t bytes) _ _ (ref_same bytes) (λ ty. expression_items_same ty.0 ty.1)

  element_items_same : (flags : ℕ) (bytes : List ℕ) → element_items flags s bytes ≡ element_items flags t bytes
  element_items_same flags bytes =
      if_same (nat_eq flags 0) _ _ _ _ refl
      (if_same (nat_lt flags 4) _ _ _ _ refl
      (if_same (nat_eq flags 4) _ _ _ _ (expression_items_same (nullable_reference (Abstract false Func)) bytes) (type_and_expressions_same bytes)))

  element_behind_same : (flags : ℕ) (bytes : List ℕ) → element_behind flags s bytes ≡ element_behind flags t bytes
  unfolding element_behind
  element_behind_same flags bytes =
      both_read (element_target flags s bytes) (element_target flags t bytes) _ _ (element_target_same flags bytes)
      (λ target. ap (option_and_then _) (element_items_same flags target.1))

  element_same : (bytes : List ℕ) → element s bytes ≡ element t bytes
  unfolding element
  element_same bytes =
      read_on (unsigned 32 bytes) _ _
      (λ flags. if_same (nat_lt 7 flags.0) None None _ _ refl (element_behind_same flags.0 flags.1))

  active_data_same : (has_memory : Bool) (bytes : List ℕ) → active_data has_memory s bytes ≡ active_data has_memory t bytes
  unfolding active_data
  active_data_same has_memory bytes =
      read_on (index_if has_memory bytes) _ _ (λ memory. ap (option_and_then _) (expression_same memory.1))

  data_behind_same : (flags : ℕ) (bytes : List ℕ) → data_behind flags s bytes ≡ data_behind flags t bytes
  unfolding data_behind
  data_behind_same flags bytes =
      both_read (data_target flags s bytes) (data_target flags t bytes) _ _
      (if_same (nat_eq flags 1) _ _ _ _ refl (active_data_same (nat_eq flags 2) bytes)) (λ target. refl)

  data_same : (bytes : List ℕ) → data_segment s bytes ≡ data_segment t bytes
  unfolding data_segment
  data_same bytes =
      read_on (unsigned 32 bytes) _ _
      (λ flags. if_same (nat_lt 2 flags.0) None None _ _ refl (data_behind_same flags.0 flags.1))

  -- ---- all of them

  contents_lying : (sections : List Section) (c : Contents) → AreContents s sections c → AreContents t sections c
  contents_lying sections c h = record {
    imports = sym (list_same (import_item s) (import_item t) import_same (contents_of 2 sections)) ∙ h.imports;
    functions = sym (list_same (own_function s) (own_function t) function_same (contents_of 3 sections)) ∙ h.functions;
    tables = sym (list_same (table s) (table t) table_same (contents_of 4 sections)) ∙ h.tables;
    memories = h.memories;
    tags = sym (list_same (tag s) (tag t) tag_same (contents_of 13 sections)) ∙ h.tags;
    globals = sym (list_same (global s) (global t) global_same (contents_of 6 sections)) ∙ h.globals;
    exports = h.exports;
    start = h.start;
    elements = sym (list_same (element s) (element t) element_same (contents_of 9 sections)) ∙ h.elements;
    data_count = h.data_count;
    bodies = h.bodies;
    data_segments = sym (list_same (data_segment s) (data_segment t) data_same (contents_of 11 sections)) ∙ h.data_segments;
    a_body_each = h.a_body_each;
    are_counted = h.are_counted;
  }

-- by the same list, wherever it lies
pub contents_wherever : (s t : CanonicalTypes) (sections : List Section) (c : Contents) → s.canonical.now ≡ t.canonical.now → s.group ≡ t.group → AreContents s sections c → AreContents t sections c
contents_wherever s t sections c same_list same_group h =
    subst (λ g. AreContents (lying t.canonical.ref_ptr t.canonical.now g) sections c) same_group
    (subst (λ l. AreContents (lying t.canonical.ref_ptr l s.group) sections c) same_list
    (contents_lying s.canonical.ref_ptr t.canonical.ref_ptr s.canonical.now s.group sections c h))
