-- Constant expressions (WebAssembly core specification, "Validation: Instructions", "Constant Expressions"):
-- which operators are constant, what they may name, and of which type an expression is. An operator is
-- refused besides where its own proposal is off, as anywhere.
use Rattle.std.specs.Prelude.{ℕ, Bool, true, false, List, ◌&&◌, ◌||◌, not, nat_lt, length}
use Rattle.std.specs.Prelude.{Option, Some, None, slice_get, take}
use Rattle.std.specs.Option.{option_map, option_and_then}
use Rattle.validate_types.specs.Features.{has, gc}
use Rattle.validate_types.specs.Types.{address_type_of_memory, address_type_of_table}
use Rattle.validate_types.specs.declared.types.ValType.{ValType}
use Rattle.validate_types.specs.declared.types.ValType.TheVariants.{Ref}
use Rattle.validate_visit.specs.declared.numeric.IntegerBinaryOp.{IntegerBinaryOp}
use Rattle.validate_visit.specs.declared.numeric.IntegerBinaryOp.TheVariants.{Add, Sub, Mul}
use Rattle.validate_visit.specs.declared.op.ArrayOp.{ArrayOp}
use Rattle.validate_visit.specs.declared.op.ArrayOp.TheVariants.{ArrayNew, ArrayNewDefault, ArrayNewFixed}
use Rattle.validate_visit.specs.declared.op.ControlOp.{ControlOp}
use Rattle.validate_visit.specs.declared.op.ControlOp.TheVariants.{End, GlobalGet}
use Rattle.validate_visit.specs.declared.op.NumericOp.{NumericOp}
use Rattle.validate_visit.specs.declared.op.NumericOp.TheVariants.{I32Const, I64Const, F32Const, F64Const}
use Rattle.validate_visit.specs.declared.op.NumericOp.TheVariants.{IntegerBinary}
use Rattle.validate_visit.specs.declared.op.Op.{Op}
use Rattle.validate_visit.specs.declared.op.Op.TheVariants.{Control, Numeric, Reference, Struct, Array}
use Rattle.validate_visit.specs.declared.op.Op.TheVariants.{Shared}
use Rattle.validate_visit.specs.declared.op.ReferenceOp.{ReferenceOp}
use Rattle.validate_visit.specs.declared.op.ReferenceOp.TheVariants.{RefNull, RefFunc, RefI31}
use Rattle.validate_visit.specs.declared.op.ReferenceOp.TheVariants.{AnyConvertExtern, ExternConvertAny}
use Rattle.validate_visit.specs.declared.op.StructOp.{StructOp}
use Rattle.validate_visit.specs.declared.op.StructOp.TheVariants.{StructNew, StructNewDefault}
use Rattle.validate_visit.specs.declared.op.StructOp.TheVariants.{StructNewDesc, StructNewDefaultDesc}
use Rattle.validate_visit.specs.declared.shared.Update.{Update}
use Rattle.validate_visit.specs.declared.shared.Update.TheVariants.{Value}
use Rattle.validate_visit.specs.declared.shared.SharedOp.{SharedOp}
use Rattle.validate_visit.specs.declared.shared.SharedOp.TheVariants.{Global as GlobalAtomic, RefI31Shared}
use Rattle.validate_visit.specs.declared.shared.Exchange.TheVariants.{Get}
use Rattle.module_rules.specs.Declarations.{Declarations}
use Rattle.module_rules.specs.Segments.{item_type}
use Rattle.module_rules.specs.declared.features.ModuleFeatures.{ModuleFeatures}
use Rattle.module_rules.specs.declared.items.DeclaredGlobal.{DeclaredGlobal}
use Rattle.module_rules.specs.declared.items.DeclaredTable.{DeclaredTable}
use Rattle.module_rules.specs.declared.items.DeclaredMemory.{DeclaredMemory}
use Rattle.module_rules.specs.declared.module.Place.{Place}
use Rattle.module_rules.specs.declared.module.Place.TheVariants.{Table, Global, ElementOffset, Element}
use Rattle.module_rules.specs.declared.module.Place.TheVariants.{DataOffset}
use Rattle.module_rules.specs.declared.segments.Data.{Data}
use Rattle.module_rules.specs.declared.segments.DataKind.{DataKind}
use Rattle.module_rules.specs.declared.segments.DataKind.TheVariants.{Passive as PassiveData}
use Rattle.module_rules.specs.declared.segments.DataKind.TheVariants.{Active as ActiveData}
use Rattle.module_rules.specs.declared.segments.Element.{Element as ElementSegment}
use Rattle.module_rules.specs.declared.segments.ElementKind.{ElementKind}
use Rattle.module_rules.specs.declared.segments.ElementKind.TheVariants.{Active}

-- ---- operators

-- a global is named only if it may be
abbrev pub is_constant_control : (ℕ → Bool) → ControlOp → Bool
is_constant_control may_name End = true
is_constant_control may_name (GlobalGet i) = may_name i
is_constant_control may_name _ = false

-- sums, differences and products are of a proposal (part of the standard's version 3.0)
abbrev pub is_constant_binary : ModuleFeatures → IntegerBinaryOp → Bool
is_constant_binary features Add = features.extended_const
is_constant_binary features Sub = features.extended_const
is_constant_binary features Mul = features.extended_const
is_constant_binary features _ = false

abbrev pub is_constant_numeric : ModuleFeatures → NumericOp → Bool
is_constant_numeric features (I32Const x) = true
is_constant_numeric features (I64Const x) = true
is_constant_numeric features (F32Const x) = true
is_constant_numeric features (F64Const x) = true
is_constant_numeric features (IntegerBinary t op) = is_constant_binary features op
is_constant_numeric features _ = false

abbrev pub is_constant_reference : ReferenceOp → Bool
is_constant_reference (RefNull h) = true
is_constant_reference (RefFunc i) = true
is_constant_reference RefI31 = true
is_constant_reference AnyConvertExtern = true
is_constant_reference ExternConvertAny = true
is_constant_reference _ = false

-- those with a descriptor are of a proposal, "Custom Descriptors"
abbrev pub is_constant_struct : StructOp → Bool
is_constant_struct (StructNew i) = true
is_constant_struct (StructNewDefault i) = true
is_constant_struct (StructNewDesc i) = true
is_constant_struct (StructNewDefaultDesc i) = true
is_constant_struct _ = false

abbrev pub is_constant_array : ArrayOp → Bool
is_constant_array (ArrayNew i) = true
is_constant_array (ArrayNewDefault i) = true
is_constant_array (ArrayNewFixed i size) = true
is_constant_array _ = false

-- (a proposal, "Shared-Everything Threads")
abbrev pub is_read : Update → Bool
is_read (Value Get) = true
is_read _ = false

abbrev pub is_constant_shared : (ℕ → Bool) → SharedOp → Bool
is_constant_shared may_name (GlobalAtomic access ordering i) = is_read access && may_name i
is_constant_shared may_name RefI31Shared = true
is_constant_shared may_name _ = false

-- under these proposals, where these globals may be named
abbrev pub is_constant_operator : ModuleFeatures → (ℕ → Bool) → Op → Bool
is_constant_operator features may_name (Control op) = is_constant_control may_name op
is_constant_operator features may_name (Numeric op) = is_constant_numeric features op
is_constant_operator features may_name (Reference op) = is_constant_reference op
is_constant_operator features may_name (Struct op) = is_constant_struct op
is_constant_operator features may_name (Array op) = is_constant_array op
is_constant_operator features may_name (Shared op) = is_constant_shared may_name op
is_constant_operator features may_name _ = false

-- ---- the globals that an expression may name

-- a global is there, and can't be written
abbrev pub is_immutable : Option DeclaredGlobal → Bool
is_immutable None = false
is_immutable (Some g) = not g.ty.mutable

-- one of the first so many that can't be written; without collected types, an imported one
abbrev pub may_name_global : ModuleFeatures → Declarations → ℕ → ℕ → Bool
may_name_global features d count i =
    is_immutable (slice_get (take count d.globals) i)
    && (nat_lt i d.imports.globals || has features.operators gc)

-- so many: those before a global, imported ones in a table, all of them in a segment (Specification,
-- "Modules": the context of tables and globals has imported globals alone, and for each global those before
-- it)
abbrev pub known_globals : Declarations → Place → ℕ
known_globals d (Table i) = d.imports.globals
known_globals d (Global i) = i
known_globals d _ = length d.globals

-- ---- expressions

-- an operator is constant in an expression in this place
abbrev pub is_constant_in : ModuleFeatures → Declarations → Place → Op → Bool
is_constant_in features d place =
    is_constant_operator features (may_name_global features d (known_globals d place))

-- the type of the addresses that a segment begins at, if it goes to a table or a memory
abbrev pub element_address_type : List DeclaredTable → ElementKind → Option ValType
element_address_type tables (Active table) =
    option_map (λ (t : DeclaredTable). address_type_of_table t.ty) (slice_get tables table)
element_address_type tables _ = None

abbrev pub data_address_type : List DeclaredMemory → DataKind → Option ValType
data_address_type memories (ActiveData memory) =
    option_map (λ (m : DeclaredMemory). address_type_of_memory m.ty) (slice_get memories memory)
data_address_type memories PassiveData = None

-- the type of the value of an expression in its place, where that is there
abbrev pub expression_type : Declarations → Place → Option ValType
expression_type d (Table i) = option_map (λ (t : DeclaredTable). Ref t.ty.element_type) (slice_get d.tables i)
expression_type d (Global i) = option_map (λ (g : DeclaredGlobal). g.ty.content_type) (slice_get d.globals i)
expression_type d (ElementOffset i) =
    option_and_then (λ (e : ElementSegment). element_address_type d.tables e.kind) (slice_get d.elements i)
expression_type d (Element i) =
    option_map (λ (e : ElementSegment). Ref (item_type e.items)) (slice_get d.elements i)
expression_type d (DataOffset i) =
    option_and_then (λ (s : Data). data_address_type d.memories s.kind) (slice_get d.data_segments i)
