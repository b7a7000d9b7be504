-- The limits of this implementation, each reached and passed, computed. Of lists that are too long to compute only the
-- length is made up.
use Rattle.std.proofs.Common.{◌≡◌, ℕ, Bool, true, false, List, [], ◌∷◌, length, replicate, None, refl}
use Rattle.std.specs.List.{list_all}
use Rattle.validate_types.specs.declared.types.SubType.{SubType}
use Rattle.validate_types.specs.Refs.{reference}
use Rattle.module_rules.specs.Declarations.{Declarations, nothing_declared, no_imports}
use Rattle.module_rules.specs.Exported.{Exported}
use Rattle.module_rules.specs.Validity.{is_valid_module}
use Rattle.module_rules.specs.Within.{is_within, are_types_within, is_element_within}
use Rattle.module_rules.specs.declared.items.DeclaredFunction.{DeclaredFunction}
use Rattle.module_rules.specs.declared.items.DeclaredGlobal.{DeclaredGlobal}
use Rattle.module_rules.specs.declared.items.DeclaredTag.{DeclaredTag}
use Rattle.module_rules.specs.declared.items.TableInit.TheVariants.{RefNull}
use Rattle.module_rules.specs.declared.segments.Data.{Data}
use Rattle.module_rules.specs.declared.segments.Element.{Element}
use Rattle.module_rules.specs.declared.segments.ElementItems.TheVariants.{Expressions}
use Rattle.module_rules.specs.declared.segments.ElementKind.TheVariants.{Passive}
use Rattle.module_rules.proofs.ExampleWords.{every, func, packed, structs, final, chain, from}

-- ---- fields, and supertypes one above the other

abbrev struct_of : ℕ → List SubType
struct_of n = final (structs (replicate n packed)) ∷ []

most_fields : are_types_within (struct_of 10000) ≡ true
most_fields = refl

too_many_fields : are_types_within (struct_of 10001) ≡ false
too_many_fields = refl

deepest : are_types_within (chain 63) ≡ true
deepest = refl

too_deep : are_types_within (chain 64) ≡ false
too_deep = refl

-- ---- imports, tables, memories, and the items of a segment

abbrev importing : ℕ → Declarations
importing n = record nothing_declared { imports = record no_imports { functions = 999996; tables = 1; memories = 1; globals = 1; tags = n } }

most_imports : is_within (importing 1) ≡ true
most_imports = refl

too_many_imports : is_within (importing 2) ≡ false
too_many_imports = refl

abbrev tables : ℕ → Declarations
tables n = record nothing_declared { tables = replicate n (record { ty = record { element_type = reference true func; table64 = false; shared = false }; limits = from 0; init = RefNull; offset = 0 }) }

most_tables : is_within (tables 100) ≡ true
most_tables = refl

too_many_tables : is_within (tables 101) ≡ false
too_many_tables = refl

-- it is valid all the same
valid_past_a_limit : is_valid_module every (tables 101) ≡ true
valid_past_a_limit = refl

abbrev memories : ℕ → Declarations
memories n = record nothing_declared { memories = replicate n (record { ty = record { memory64 = false; shared = false }; limits = from 0; page_size_log2 = None; offset = 0 }) }

most_memories : is_within (memories 100) ≡ true
most_memories = refl

too_many_memories : is_within (memories 101) ≡ false
too_many_memories = refl

abbrev segment_of : ℕ → Element
segment_of n = record { kind = Passive; items = Expressions (reference true func) n; offset = 0 }

most_items : is_within (record nothing_declared { elements = segment_of 10000000 ∷ [] }) ≡ true
most_items = refl

too_many_items : is_within (record nothing_declared { elements = segment_of 10000001 ∷ [] }) ≡ false
too_many_items = refl

-- ---- lists of any items, of this length

module _ (functions : List DeclaredFunction) where
  most_functions : length functions ≡ 1000000 → is_within (record nothing_declared { functions = functions }) ≡ true
  most_functions e = rw e refl

  too_many_functions : length functions ≡ 1000001 → is_within (record nothing_declared { functions = functions }) ≡ false
  too_many_functions e = rw e refl

module _ (tags : List DeclaredTag) where
  most_tags : length tags ≡ 1000000 → is_within (record nothing_declared { tags = tags }) ≡ true
  most_tags e = rw e refl

  too_many_tags : length tags ≡ 1000001 → is_within (record nothing_declared { tags = tags }) ≡ false
  too_many_tags e = rw e refl

module _ (globals : List DeclaredGlobal) where
  most_globals : length globals ≡ 1000000 → is_within (record nothing_declared { globals = globals }) ≡ true
  most_globals e = rw e refl

  too_many_globals : length globals ≡ 1000001 → is_within (record nothing_declared { globals = globals }) ≡ false
  too_many_globals e = rw e refl

module _ (exports : List Exported) where
  most_exports : length exports ≡ 1000000 → is_within (record nothing_declared { exports = exports }) ≡ true
  most_exports e = rw e refl

  too_many_exports : length exports ≡ 1000001 → is_within (record nothing_declared { exports = exports }) ≡ false
  too_many_exports e = rw e refl

module _ (segments : List Data) where
  most_data_segments : length segments ≡ 100000 → is_within (record nothing_declared { data_segments = segments }) ≡ true
  most_data_segments e = rw e refl

  too_many_data_segments : length segments ≡ 100001 → is_within (record nothing_declared { data_segments = segments }) ≡ false
  too_many_data_segments e = rw e refl

-- where each type and each segment is within the limits
module _ (types : List SubType) (each : are_types_within types ≡ true) where
  most_types : length types ≡ 1000000 → is_within (record nothing_declared { types = types }) ≡ true
  most_types e = rw e (rw each refl)

  too_many_types : length types ≡ 1000001 → is_within (record nothing_declared { types = types }) ≡ false
  too_many_types e = rw e refl

module _ (segments : List Element) (each : list_all is_element_within segments ≡ true) where
  most_element_segments : length segments ≡ 100000 → is_within (record nothing_declared { elements = segments }) ≡ true
  most_element_segments e = rw e (rw each refl)

  too_many_element_segments : length segments ≡ 100001 → is_within (record nothing_declared { elements = segments }) ≡ false
  too_many_element_segments e = rw e refl
