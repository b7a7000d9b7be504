-- Exports, segments, constant expressions, the functions that `ref.func` may name, and whole modules, computed. What is
-- expected is what the standard's rules say of them.
use Rattle.std.proofs.Common.{◌≡◌, ℕ, pos, Bool, true, false, List, [], ◌∷◌, map, replicate, Some, None, refl}
use Rattle.std.specs.Prelude.{codes}
use Rattle.validate_resources.specs.declared.lists.FuncDecl.{FuncDecl}
use Rattle.validate_types.specs.Features.{has, bulk_memory, bulk_memory_opt, gc}
use Rattle.validate_types.specs.Refs.{reference}
use Rattle.validate_types.specs.declared.refs.RefType.{RefType}
use Rattle.validate_types.specs.declared.types.SubType.{SubType}
use Rattle.validate_types.specs.declared.types.ValType.TheVariants.{I32, I64, Ref}
use Rattle.validate_visit.specs.declared.numbers.IntegerType.TheVariants.{I32 as IntegerI32}
use Rattle.validate_visit.specs.declared.numeric.IntegerBinaryOp.TheVariants.{Add, And}
use Rattle.validate_visit.specs.declared.op.ArrayOp.TheVariants.{ArrayNewFixed, ArrayLen}
use Rattle.validate_visit.specs.declared.op.ControlOp.TheVariants.{End, GlobalGet, Call, Nop}
use Rattle.validate_visit.specs.declared.op.NumericOp.TheVariants.{I32Const, IntegerBinary, Eqz}
use Rattle.validate_visit.specs.declared.op.Op.{Op}
use Rattle.validate_visit.specs.declared.op.Op.TheVariants.{Control, Numeric, Reference, Struct, Array, Shared}
use Rattle.validate_visit.specs.declared.op.ReferenceOp.TheVariants.{RefNull, RefFunc, RefI31, RefIsNull}
use Rattle.validate_visit.specs.declared.op.StructOp.TheVariants.{StructNew, StructGet}
use Rattle.validate_visit.specs.declared.memory.Ordering.TheVariants.{SeqCst}
use Rattle.validate_visit.specs.declared.shared.Exchange.{Exchange}
use Rattle.validate_visit.specs.declared.shared.Exchange.TheVariants.{Get, Set}
use Rattle.validate_visit.specs.declared.shared.SharedOp.TheVariants.{Global as SharedGlobal, RefI31Shared}
use Rattle.validate_visit.specs.declared.shared.Update.TheVariants.{Value}
use Rattle.module_rules.specs.Constants.{is_constant_in, expression_type}
use Rattle.module_rules.specs.Declarations.{Declarations, nothing_declared}
use Rattle.module_rules.specs.Exported.{Exported}
use Rattle.module_rules.specs.Exports.{are_valid_exports}
use Rattle.module_rules.specs.Features.{of_bits, operator_features}
use Rattle.module_rules.specs.Lookup.{lookup_lists}
use Rattle.module_rules.specs.References.{is_referenced}
use Rattle.module_rules.specs.Segments.{are_valid_elements, are_valid_data}
use Rattle.module_rules.specs.Validity.{is_valid_module}
use Rattle.module_rules.specs.declared.features.ModuleFeatures.{ModuleFeatures}
use Rattle.module_rules.specs.declared.items.DeclaredFunction.{DeclaredFunction}
use Rattle.module_rules.specs.declared.items.DeclaredGlobal.{DeclaredGlobal}
use Rattle.module_rules.specs.declared.items.DeclaredMemory.{DeclaredMemory}
use Rattle.module_rules.specs.declared.items.DeclaredTable.{DeclaredTable}
use Rattle.module_rules.specs.declared.items.ExternalKind.{ExternalKind}
use Rattle.module_rules.specs.declared.items.ExternalKind.TheVariants.{Func, Table, Memory, Global, Tag}
use Rattle.module_rules.specs.declared.items.TableInit.TheVariants.{RefNull as NoInitializer}
use Rattle.module_rules.specs.declared.module.Place.{Place}
use Rattle.module_rules.specs.declared.module.Place.TheVariants.{Table as InTable, Global as InGlobal, ElementOffset}
use Rattle.module_rules.specs.declared.module.Place.TheVariants.{Element as InElement, DataOffset}
use Rattle.module_rules.specs.declared.segments.Data.{Data}
use Rattle.module_rules.specs.declared.segments.DataKind.{DataKind}
use Rattle.module_rules.specs.declared.segments.DataKind.TheVariants.{Passive as PassiveData, Active as ActiveData}
use Rattle.module_rules.specs.declared.segments.Element.{Element}
use Rattle.module_rules.specs.declared.segments.ElementItems.{ElementItems}
use Rattle.module_rules.specs.declared.segments.ElementItems.TheVariants.{Functions, Expressions}
use Rattle.module_rules.specs.declared.segments.ElementKind.{ElementKind}
use Rattle.module_rules.specs.declared.segments.ElementKind.TheVariants.{Passive, Active, Declared}
use Rattle.module_rules.proofs.ExampleWords.{every, without, func, extern, null, functions, final, from, each_alone}

-- ---- a module of one type, three functions, two tables, a memory and four globals, of which two are imported

abbrev types : List SubType
types = final (functions [] []) ∷ []

abbrev a_function : DeclaredFunction
a_function = record { type_index = 0; exact = true; offset = 0 }

abbrev a_table : Bool → RefType → DeclaredTable
a_table table64 r = record { ty = record { element_type = r; table64 = table64; shared = false }; limits = from 1; init = NoInitializer; offset = 0 }

abbrev a_memory : DeclaredMemory
a_memory = record { ty = record { memory64 = true; shared = false }; limits = from 1; page_size_log2 = None; offset = 0 }

abbrev a_global : Bool → DeclaredGlobal
a_global mutable = record { ty = record { content_type = I32; mutable = mutable; shared = false }; offset = 0 }

abbrev an_export : List ℕ → ExternalKind → ℕ → Exported
an_export name kind i = record { name = name; kind = kind; index = i; offset = 0 }

abbrev an_element : ElementKind → ElementItems → Element
an_element kind items = record { kind = kind; items = items; offset = 0 }

abbrev a_segment : DataKind → Data
a_segment kind = record { kind = kind; offset = 0 }

-- global 1 and global 3 can be written
abbrev a_module : Declarations
a_module = record {
  types = types;
  groups = each_alone types;
  canonical = 0 ∷ [];
  imports = record { functions = 1; tables = 0; memories = 0; globals = 2; tags = 0; offset = 0 };
  functions = replicate 3 a_function;
  tables = a_table false (reference true func) ∷ a_table true (reference true extern) ∷ [];
  memories = a_memory ∷ [];
  globals = a_global false ∷ a_global true ∷ a_global false ∷ a_global true ∷ [];
  tags = [];
  exports = an_export (codes "run") Func 1 ∷ an_export (codes "runs") Memory 0 ∷ [];
  start = Some (record { function = 2; offset = 0 });
  elements = an_element (Active 0) (Functions (2 ∷ [])) ∷ an_element (Active 1) (Expressions (reference true extern) 1) ∷ [];
  data_count = Some (record { count = 1; offset = 0 });
  data_segments = a_segment (ActiveData 0) ∷ [];
  expression_functions = [];
}

valid_module : is_valid_module every a_module ≡ true
valid_module = refl

empty_module : is_valid_module (of_bits 0) nothing_declared ≡ true
empty_module = refl

too_few_functions : is_valid_module every (record a_module { functions = replicate 1 a_function }) ≡ false
too_few_functions = refl

another_data_count : is_valid_module every (record a_module { data_count = Some (record { count = 2; offset = 0 }) }) ≡ false
another_data_count = refl

no_data_count : is_valid_module every (record a_module { data_count = None }) ≡ true
no_data_count = refl

-- ---- exports

abbrev exports : ModuleFeatures → List Exported → Bool
exports features es = are_valid_exports features (record a_module { exports = es })

each_kind : exports every (an_export (codes "a") Func 2 ∷ an_export (codes "b") Table 1 ∷ an_export (codes "c") Memory 0 ∷ an_export (codes "d") Global 3 ∷ []) ≡ true
each_kind = refl

no_such_function : exports every (an_export (codes "a") Func 3 ∷ []) ≡ false
no_such_function = refl

no_such_table : exports every (an_export (codes "a") Table 2 ∷ []) ≡ false
no_such_table = refl

no_such_memory : exports every (an_export (codes "a") Memory 1 ∷ []) ≡ false
no_such_memory = refl

no_such_global : exports every (an_export (codes "a") Global 4 ∷ []) ≡ false
no_such_global = refl

no_such_tag : exports every (an_export (codes "a") Tag 0 ∷ []) ≡ false
no_such_tag = refl

one_item_twice : exports every (an_export (codes "a") Func 0 ∷ an_export [] Func 0 ∷ an_export (codes "aa") Func 0 ∷ []) ≡ true
one_item_twice = refl

one_name_twice : exports every (an_export (codes "a") Func 0 ∷ an_export (codes "b") Func 1 ∷ an_export (codes "a") Memory 0 ∷ []) ≡ false
one_name_twice = refl

written_global_without : exports (record every { mutable_global = false }) (an_export (codes "a") Global 1 ∷ []) ≡ false
written_global_without = refl

read_only_global_without : exports (record every { mutable_global = false }) (an_export (codes "a") Global 2 ∷ []) ≡ true
read_only_global_without = refl

-- ---- element segments

abbrev elements : ModuleFeatures → Element → Bool
elements features e = are_valid_elements features types 3 a_module.tables (e ∷ [])

no_such_item : elements every (an_element (Active 0) (Functions (2 ∷ 3 ∷ []))) ≡ false
no_such_item = refl

no_such_element_table : elements every (an_element (Active 2) (Functions (2 ∷ []))) ≡ false
no_such_element_table = refl

functions_for_externs : elements every (an_element (Active 1) (Functions (2 ∷ []))) ≡ false
functions_for_externs = refl

nulls_for_functions : elements every (an_element (Active 0) (Expressions (reference true func) 2)) ≡ true
nulls_for_functions = refl

passive : elements every (an_element Passive (Functions [])) ≡ true
passive = refl

passive_without : elements (without bulk_memory) (an_element Passive (Functions [])) ≡ false
passive_without = refl

declared_without : elements (without bulk_memory) (an_element Declared (Functions [])) ≡ false
declared_without = refl

active_without : elements (without bulk_memory) (an_element (Active 0) (Functions [])) ≡ true
active_without = refl

-- ---- data segments

abbrev segments : ModuleFeatures → DataKind → Bool
segments features kind = are_valid_data features 1 None (a_segment kind ∷ [])

no_such_data_memory : segments every (ActiveData 1) ≡ false
no_such_data_memory = refl

passive_data : segments every PassiveData ≡ true
passive_data = refl

passive_data_without : segments (without bulk_memory) PassiveData ≡ false
passive_data_without = refl

-- ---- constant expressions

abbrev is_constant : ModuleFeatures → Place → Op → Bool
is_constant features place op = is_constant_in features a_module place op

a_constant : is_constant every (InGlobal 2) (Numeric (I32Const (pos 1))) ≡ true
a_constant = refl

an_end : is_constant every (InGlobal 2) (Control End) ≡ true
an_end = refl

a_sum : is_constant every (InGlobal 2) (Numeric (IntegerBinary IntegerI32 Add)) ≡ true
a_sum = refl

a_sum_without : is_constant (record every { extended_const = false }) (InGlobal 2) (Numeric (IntegerBinary IntegerI32 Add)) ≡ false
a_sum_without = refl

a_conjunction : is_constant every (InGlobal 2) (Numeric (IntegerBinary IntegerI32 And)) ≡ false
a_conjunction = refl

a_test : is_constant every (InGlobal 2) (Numeric (Eqz IntegerI32)) ≡ false
a_test = refl

a_call : is_constant every (InGlobal 2) (Control (Call 0)) ≡ false
a_call = refl

a_nop : is_constant every (InGlobal 2) (Control Nop) ≡ false
a_nop = refl

a_null : is_constant every (InTable 0) (Reference (RefNull func)) ≡ true
a_null = refl

a_function_reference : is_constant every (InElement 0) (Reference (RefFunc 0)) ≡ true
a_function_reference = refl

an_i31 : is_constant every (InGlobal 2) (Reference RefI31) ≡ true
an_i31 = refl

a_null_test : is_constant every (InGlobal 2) (Reference RefIsNull) ≡ false
a_null_test = refl

a_struct : is_constant every (InGlobal 2) (Struct (StructNew 0)) ≡ true
a_struct = refl

a_field : is_constant every (InGlobal 2) (Struct (StructGet (record { struct_type_index = 0; field_index = 0 }))) ≡ false
a_field = refl

an_array : is_constant every (InGlobal 2) (Array (ArrayNewFixed 0 2)) ≡ true
an_array = refl

an_array_length : is_constant every (InGlobal 2) (Array ArrayLen) ≡ false
an_array_length = refl

abbrev accesses : Exchange → Bool
accesses access = is_constant every (InGlobal 2) (Shared (SharedGlobal (Value access) SeqCst 0))

a_shared_read : accesses Get ≡ true
a_shared_read = refl

a_shared_write : accesses Set ≡ false
a_shared_write = refl

a_shared_i31 : is_constant every (InGlobal 2) (Shared RefI31Shared) ≡ true
a_shared_i31 = refl

-- global 0 is imported, global 2 is not
abbrev names : ModuleFeatures → Place → ℕ → Bool
names features place i = is_constant features place (Control (GlobalGet i))

imported_global : names every (InGlobal 2) 0 ≡ true
imported_global = refl

imported_without_gc : names (without gc) (InGlobal 2) 0 ≡ true
imported_without_gc = refl

written_global : names every (InGlobal 2) 1 ≡ false
written_global = refl

earlier_global : names every (InGlobal 3) 2 ≡ true
earlier_global = refl

earlier_without_gc : names (without gc) (InGlobal 3) 2 ≡ false
earlier_without_gc = refl

own_global : names every (InGlobal 2) 2 ≡ false
own_global = refl

global_in_table : names every (InTable 0) 2 ≡ false
global_in_table = refl

imported_in_table : names every (InTable 0) 0 ≡ true
imported_in_table = refl

global_in_segment : names every (ElementOffset 0) 2 ≡ true
global_in_segment = refl

no_such_global_in_segment : names every (DataOffset 0) 4 ≡ false
no_such_global_in_segment = refl

-- ---- the types of constant expressions

type_of_table : expression_type a_module (InTable 1) ≡ Some (null extern)
type_of_table = refl

type_of_global : expression_type a_module (InGlobal 3) ≡ Some I32
type_of_global = refl

-- tables 0 and 1 have addresses of 32 and 64 bits, the memory of 64
type_of_element_offset : expression_type a_module (ElementOffset 0) ≡ Some I32
type_of_element_offset = refl

type_of_64_bit_element_offset : expression_type a_module (ElementOffset 1) ≡ Some I64
type_of_64_bit_element_offset = refl

type_of_data_offset : expression_type a_module (DataOffset 0) ≡ Some I64
type_of_data_offset = refl

type_of_item : expression_type a_module (InElement 0) ≡ Some (Ref (reference false func))
type_of_item = refl

no_such_place : expression_type a_module (InGlobal 4) ≡ None
no_such_place = refl

-- ---- references

-- function 1 is exported, function 2 is an item of a segment, and the start function isn't one of them for being that
referenced_by_export : is_referenced a_module 1 ≡ true
referenced_by_export = refl

referenced_by_segment : is_referenced a_module 2 ≡ true
referenced_by_segment = refl

not_referenced : is_referenced a_module 0 ≡ false
not_referenced = refl

start_alone : is_referenced (record a_module { elements = [] }) 2 ≡ false
start_alone = refl

referenced_by_expression : is_referenced (record a_module { expression_functions = 0 ∷ [] }) 0 ≡ true
referenced_by_expression = refl

-- what a lookup over the module says of each
referenced_in_the_lookup : map (λ (f : FuncDecl). f.referenced) (lookup_lists a_module).functions ≡ false ∷ true ∷ true ∷ []
referenced_in_the_lookup = refl

-- ---- proposals

-- bulk memory brings its copies and fills, which don't bring the rest of it
bulk_memory_alone : has (operator_features (of_bits bulk_memory)) bulk_memory_opt ≡ true
bulk_memory_alone = refl

copies_and_fills_alone : has (operator_features (of_bits bulk_memory_opt)) bulk_memory ≡ false
copies_and_fills_alone = refl

-- the bits above these stand for no proposal
all_bits : of_bits 4294967295 ≡ every
all_bits = refl

bit_of_long_memories : of_bits 4194304 ≡ record (of_bits 0) { memory64 = true }
bit_of_long_memories = refl

bit_of_several_memories : of_bits 8388608 ≡ record (of_bits 0) { multi_memory = true }
bit_of_several_memories = refl
