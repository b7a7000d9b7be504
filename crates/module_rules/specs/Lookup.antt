-- The lists that a lookup over the declarations of a module is made of (the crate's own).
use Rattle.std.specs.Prelude.{◌≡◌, ℕ, ◌<◌, ◌==◌, ◌||◌, Bool, false, List, length, map, option_map}
use Rattle.std.specs.Prelude.{slice_index_or}
use Rattle.std.specs.List.{list_any, enumerate_from}
use Rattle.validate_resources.specs.Lists.{Declared}
use Rattle.validate_resources.specs.declared.lists.FuncDecl.{FuncDecl}
use Rattle.module_rules.specs.Declarations.{Declarations}
use Rattle.module_rules.specs.References.{is_referenced}
use Rattle.module_rules.specs.Segments.{item_type}
use Rattle.module_rules.specs.declared.items.DeclaredFunction.{DeclaredFunction}
use Rattle.module_rules.specs.declared.items.DeclaredGlobal.{DeclaredGlobal}
use Rattle.module_rules.specs.declared.items.DeclaredMemory.{DeclaredMemory}
use Rattle.module_rules.specs.declared.items.DeclaredTable.{DeclaredTable}
use Rattle.module_rules.specs.declared.items.DeclaredTag.{DeclaredTag}
use Rattle.module_rules.specs.declared.segments.DataCount.{DataCount}
use Rattle.module_rules.specs.declared.segments.Element.{Element}

-- a function, and whether `ref.func` may name it
abbrev pub function_decl : DeclaredFunction → Bool → FuncDecl
function_decl f referenced = record { type_index = f.type_index; referenced = referenced; exact = f.exact }

-- the functions, each beside its index
abbrev pub function_decls : (ℕ → Bool) → List (ℕ × DeclaredFunction) → List FuncDecl
function_decls may_name functions =
    map (λ (e : ℕ × DeclaredFunction). function_decl e.1 (may_name e.0)) functions

abbrev pub lookup_lists : Declarations → Declared
lookup_lists d = record {
  types = d.types;
  functions = function_decls (is_referenced d) (enumerate_from 0 d.functions);
  tables = map (λ (t : DeclaredTable). t.ty) d.tables;
  memories = map (λ (m : DeclaredMemory). m.ty) d.memories;
  globals = map (λ (g : DeclaredGlobal). g.ty) d.globals;
  tags = map (λ (t : DeclaredTag). t.func_type_idx) d.tags;
  elements = map (λ (e : Element). item_type e.items) d.elements;
  data_count = option_map (λ (c : DataCount). c.count) d.data_count;
}

-- besides what was marked before, these indices are
abbrev pub Marks : List Bool → List Bool → List ℕ → Type 0
Marks before after indices =
    (k : ℕ) → k < length before →
    slice_index_or after k false ≡ (slice_index_or before k false || list_any (λ i. i == k) indices)
