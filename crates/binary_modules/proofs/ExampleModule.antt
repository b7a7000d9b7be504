-- A whole module, byte by byte, and what it declares.
use Rattle.std.proofs.Common.{refl, ℕ, true, false, List, [], ◌∷◌, ◌++◌, Some, None}
use lib.Utf8.{encode}
use Rattle.std.specs.Str.{is_utf8, chars}
use Rattle.binary_operators.specs.Forms.{forms}
use Rattle.binary_operators.specs.Instructions.{operator, constant_i32}
use Rattle.binary_operators.specs.Codes.{plain_ops}
use Rattle.binary_operators.specs.Types.{value_type}
use Rattle.binary_operators.specs.Values.{list_of}
use Rattle.module_rules.specs.Declarations.{Declarations, nothing_declared, no_imports}
use Rattle.module_rules.specs.declared.items.ExternalKind.TheVariants.{Func as OfFunction}
use Rattle.module_rules.specs.declared.module.Place.TheVariants.{Global, DataOffset}
use Rattle.module_rules.specs.declared.segments.DataKind.TheVariants.{Active}
use Rattle.validate_types.specs.declared.types.CompositeInnerType.TheVariants.{Func}
use Rattle.validate_types.specs.declared.types.SubType.{SubType}
use Rattle.validate_types.specs.declared.types.ValType.TheVariants.{I32}
use Rattle.binary_modules.specs.Groups.{group, groups, rec_group}
use Rattle.binary_modules.specs.Initializers.{expression, piece}
use Rattle.binary_modules.specs.Items.{function, own_function, memory, exported, global, global_type, import_item, export}
use Rattle.binary_modules.specs.Limits.{limits, memory_type}
use Rattle.binary_modules.specs.Modules.{contents, decode, module_in, IsModule, IsNoModule}
use Rattle.binary_modules.specs.Parts.{name, sized}
use Rattle.binary_modules.specs.Sections.{module_sections, section}
use Rattle.binary_modules.specs.Segments.{data_segment, data_behind, active_data}
use Rattle.binary_modules.specs.SubTypes.{func_type, composite_inner_type, marked_index, composite_type, with_supertype, sub_type}

-- ---- its sections

-- a function that takes nothing and gives an `i32`
abbrev type_section : List ℕ
type_section = 0x01 ∷ 0x60 ∷ 0x00 ∷ 0x01 ∷ 0x7f ∷ []

-- a function "f" of a module "m"
abbrev import_section : List ℕ
import_section = 0x01 ∷ 0x01 ∷ 0x6d ∷ 0x01 ∷ 0x66 ∷ 0x00 ∷ 0x00 ∷ []

abbrev function_section : List ℕ
function_section = 0x01 ∷ 0x00 ∷ []

-- one page at first, and two at most
abbrev memory_section : List ℕ
memory_section = 0x01 ∷ 0x01 ∷ 0x01 ∷ 0x02 ∷ []

-- `i32.const 5`
abbrev global_section : List ℕ
global_section = 0x01 ∷ 0x7f ∷ 0x01 ∷ 0x41 ∷ 0x05 ∷ 0x0b ∷ []

-- function 1 as "e"
abbrev export_section : List ℕ
export_section = 0x01 ∷ 0x01 ∷ 0x65 ∷ 0x00 ∷ 0x01 ∷ []

-- `i32.const 7` behind no locals
abbrev body : List ℕ
body = 0x00 ∷ 0x41 ∷ 0x07 ∷ 0x0b ∷ []

abbrev code_section : List ℕ
code_section = 0x01 ∷ 0x04 ∷ body

-- a byte, to memory 0 from address 0 on
abbrev data_section : List ℕ
data_section = 0x01 ∷ 0x00 ∷ 0x41 ∷ 0x00 ∷ 0x0b ∷ 0x01 ∷ 0x61 ∷ []

abbrev bytes : List ℕ
bytes =
    0x00 ∷ 0x61 ∷ 0x73 ∷ 0x6d ∷ 0x01 ∷ 0x00 ∷ 0x00 ∷ 0x00
    ∷ (0x01 ∷ 0x05 ∷ type_section) ++ ((0x02 ∷ 0x07 ∷ import_section) ++ ((0x03 ∷ 0x02 ∷ function_section)
    ++ ((0x05 ∷ 0x04 ∷ memory_section) ++ ((0x06 ∷ 0x06 ∷ global_section) ++ ((0x07 ∷ 0x05 ∷ export_section)
    ++ ((0x08 ∷ 0x01 ∷ 0x01 ∷ []) ++ ((0x0a ∷ 0x06 ∷ code_section) ++ (0x0b ∷ 0x07 ∷ data_section))))))))

-- ---- what they are

abbrev gives_i32 : SubType
gives_i32 = record { is_final = true; supertype_idx = None; composite_type = record { inner = Func (record { params = []; results = I32 ∷ [] }); shared = false; descriptor_idx = None; describes_idx = None } }

-- what is declared, with the offsets at which it stands
abbrev declared : Declarations
declared = record nothing_declared {
  types = gives_i32 ∷ [];
  groups = record { count = 1; explicit = false; offset = 11 } ∷ [];
  canonical = 0 ∷ [];
  imports = record no_imports { functions = 1; offset = 17 };
  functions = record { type_index = 0; exact = false; offset = 18 } ∷ record { type_index = 0; exact = true; offset = 27 } ∷ [];
  memories = record { ty = record { memory64 = false; shared = false }; limits = record { initial = 1; maximum = Some 2 }; page_size_log2 = None; offset = 31 } ∷ [];
  globals = record { ty = record { content_type = I32; mutable = true; shared = false }; offset = 37 } ∷ [];
  exports = record { name = 0x65 ∷ []; kind = OfFunction; index = 1; offset = 45 } ∷ [];
  start = Some (record { function = 1; offset = 51 });
  data_segments = record { kind = Active 0; offset = 63 } ∷ [];
}

-- ---- the module that they are decoded to

is_module : IsModule bytes declared (body ∷ []) ((Global 0, 0x41 ∷ 0x05 ∷ 0x0b ∷ []) ∷ (DataOffset 0, 0x41 ∷ 0x00 ∷ 0x0b ∷ []) ∷ [])
unfolding decode module_sections module_in groups group contents own_function memory exported section sized name is_utf8 chars encode rec_group sub_type with_supertype composite_type marked_index composite_inner_type func_type list_of value_type import_item function memory_type limits global global_type expression piece operator forms constant_i32 plain_ops export data_segment data_behind active_data
is_module = refl

-- none and a part of a header are no module's
nothing : IsNoModule []
unfolding decode module_sections
nothing = refl

cut_short : IsNoModule (0x00 ∷ 0x61 ∷ 0x73 ∷ 0x6d ∷ 0x01 ∷ 0x00 ∷ 0x00 ∷ [])
unfolding decode module_sections
cut_short = refl

-- nor are these bytes with one more behind them, or without the last one
one_more : IsNoModule (bytes ++ 0x00 ∷ [])
unfolding decode module_sections section sized
one_more = refl
