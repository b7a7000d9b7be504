-- The types that a module declares, as contracts see them (WebAssembly core specification, "Types").
use Rattle.std.specs.Prelude.{Bool, true, false, List, map, if◌then◌else◌}
use Rattle.validate_types.specs.declared.types.FieldType.{FieldType}
use Rattle.validate_types.specs.declared.types.MemoryType.{MemoryType}
use Rattle.validate_types.specs.declared.types.MaybeType.{MaybeType}
use Rattle.validate_types.specs.declared.types.MaybeType.TheVariants.{Bottom, UnknownRef, Known}
use Rattle.validate_types.specs.declared.types.TableType.{TableType}
use Rattle.validate_types.specs.declared.types.StorageType.{StorageType}
use Rattle.validate_types.specs.declared.types.StorageType.TheVariants.{I8, I16, Val}
use Rattle.validate_types.specs.declared.refs.RefType.{RefType}
use Rattle.validate_types.specs.declared.types.ValType.{ValType}
use Rattle.validate_types.specs.declared.types.ValType.TheVariants.{I32, I64, Ref}

-- what a function takes and gives, each list's last on top
pub record Signature : Type 0 where
  pub params : List ValType
  pub results : List ValType

-- a field holds an integer of less than 32 bits (Specification, "Composite Types": packed types)
abbrev pub is_packed : StorageType → Bool
is_packed I8 = true
is_packed I16 = true
is_packed (Val t) = false

-- the type of what a field holds, as an operand (Specification, "Composite Types": unpacking)
abbrev pub unpacked_type : StorageType → ValType
unpacked_type I8 = I32
unpacked_type I16 = I32
unpacked_type (Val t) = t

-- the same of each field
abbrev pub unpacked_fields : List FieldType → List ValType
unpacked_fields fields = map (λ f. unpacked_type f.element_type) fields

-- the type of a memory's addresses (Specification, "Memory Types": address type)
abbrev pub address_type_of_memory : MemoryType → ValType
address_type_of_memory m = if m.memory64 then I64 else I32

-- the type of a table's addresses (Specification, "Table Types": address type)
abbrev pub address_type_of_table : TableType → ValType
address_type_of_table t = if t.table64 then I64 else I32

-- it has a default value (Specification, "Defaultable Types")
abbrev pub is_defaultable : ValType → Bool
is_defaultable (Ref r) = r.nullable
is_defaultable _ = true

-- what is known of a reference, as of any operand
abbrev pub maybe_value : MaybeType RefType → MaybeType ValType
maybe_value Bottom = Bottom
maybe_value (UnknownRef a) = UnknownRef a
maybe_value (Known r) = Known (Ref r)
