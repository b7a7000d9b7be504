-- Operands in eight bytes: which type each stands for, and the one that stands for a type.
use Rattle.std.specs.Prelude.{ℕ, Bool, true, false, Some, None}
use Rattle.validate_types.specs.Refs.{reference}
use Rattle.validate_types.specs.declared.heap.AbstractHeapType.{AbstractHeapType}
use Rattle.validate_types.specs.declared.heap.AbstractHeapType.TheVariants.{Any}
use Rattle.validate_types.specs.declared.heap.HeapType.{HeapType}
use Rattle.validate_types.specs.declared.heap.HeapType.TheVariants.{Abstract, Concrete, Exact}
use Rattle.validate_types.specs.declared.heap.UnpackedIndex.TheVariants.{Module, Id}
use Rattle.validate_types.specs.declared.operand.Operand.TheInside.{Inside}
use Rattle.validate_types.specs.declared.operand.OperandKind.{OperandKind}
use Rattle.validate_types.specs.declared.operand.OperandKind.TheVariants.{I32 as IsI32, I64 as IsI64}
use Rattle.validate_types.specs.declared.operand.OperandKind.TheVariants.{F32 as IsF32, F64 as IsF64}
use Rattle.validate_types.specs.declared.operand.OperandKind.TheVariants.{V128 as IsV128, Bottom as IsBottom}
use Rattle.validate_types.specs.declared.operand.OperandKind.TheVariants.{UnknownRef as IsUnknownRef}
use Rattle.validate_types.specs.declared.operand.OperandKind.TheVariants.{UnknownOf as IsUnknownOf}
use Rattle.validate_types.specs.declared.operand.OperandKind.TheVariants.{Abstract as IsAbstract}
use Rattle.validate_types.specs.declared.operand.OperandKind.TheVariants.{Module as IsModule, Id as IsId}
use Rattle.validate_types.specs.declared.operand.OperandKind.TheVariants.{ExactModule as IsExactModule}
use Rattle.validate_types.specs.declared.operand.OperandKind.TheVariants.{ExactId as IsExactId}
use Rattle.validate_types.specs.declared.types.MaybeType.{MaybeType}
use Rattle.validate_types.specs.declared.types.MaybeType.TheVariants.{Bottom, UnknownRef, Known}
use Rattle.validate_types.specs.declared.types.ValType.{ValType}
use Rattle.validate_types.specs.declared.types.ValType.TheVariants.{I32, I64, F32, F64, V128, Ref}

-- what is known of an operand of this kind with these fields
abbrev pub kind_type : OperandKind → Bool → Bool → AbstractHeapType → ℕ → MaybeType ValType
kind_type IsI32 _ _ _ _ = Known I32
kind_type IsI64 _ _ _ _ = Known I64
kind_type IsF32 _ _ _ _ = Known F32
kind_type IsF64 _ _ _ _ = Known F64
kind_type IsV128 _ _ _ _ = Known V128
kind_type IsBottom _ _ _ _ = Bottom
kind_type IsUnknownRef _ _ _ _ = UnknownRef None
kind_type IsUnknownOf _ _ ty _ = UnknownRef (Some ty)
kind_type IsAbstract nullable shared ty _ = Known (Ref (reference nullable (Abstract shared ty)))
kind_type IsModule nullable _ _ i = Known (Ref (reference nullable (Concrete (Module i))))
kind_type IsId nullable _ _ i = Known (Ref (reference nullable (Concrete (Id (record { index = i })))))
kind_type IsExactModule nullable _ _ i = Known (Ref (reference nullable (Exact (Module i))))
kind_type IsExactId nullable _ _ i = Known (Ref (reference nullable (Exact (Id (record { index = i })))))

abbrev pub operand_type : Inside → MaybeType ValType
operand_type o = kind_type o.kind o.nullable o.shared o.ty o.index

-- an operand of a kind, of which no more is known
abbrev pub plain : OperandKind → Inside
plain kind = record { kind = kind; nullable = false; shared = false; ty = Any; index = 0 }

-- a reference to a declared type
abbrev pub indexed : OperandKind → Bool → ℕ → Inside
indexed kind nullable i = record { kind = kind; nullable = nullable; shared = false; ty = Any; index = i }

-- a reference, whose type is what it points to
abbrev pub packed_heap : Bool → HeapType → Inside
packed_heap nullable (Abstract shared ty) =
    record { kind = IsAbstract; nullable = nullable; shared = shared; ty = ty; index = 0 }
packed_heap nullable (Concrete (Module i)) = indexed IsModule nullable i
packed_heap nullable (Concrete (Id id)) = indexed IsId nullable id.index
packed_heap nullable (Exact (Module i)) = indexed IsExactModule nullable i
packed_heap nullable (Exact (Id id)) = indexed IsExactId nullable id.index

-- the one operand of which this is known
abbrev pub packed : MaybeType ValType → Inside
packed Bottom = plain IsBottom
packed (UnknownRef None) = plain IsUnknownRef
packed (UnknownRef (Some of)) =
    record { kind = IsUnknownOf; nullable = false; shared = false; ty = of; index = 0 }
packed (Known I32) = plain IsI32
packed (Known I64) = plain IsI64
packed (Known F32) = plain IsF32
packed (Known F64) = plain IsF64
packed (Known V128) = plain IsV128
packed (Known (Ref r)) = packed_heap r.nullable r.heap_type

-- a reference to a declared type
abbrev pub is_indexed : OperandKind → Bool
is_indexed IsModule = true
is_indexed IsId = true
is_indexed IsExactModule = true
is_indexed IsExactId = true
is_indexed _ = false

-- the place of a number type or the vector type among these, or 5
abbrev pub place_of : OperandKind → ℕ
place_of IsI32 = 0
place_of IsI64 = 1
place_of IsF32 = 2
place_of IsF64 = 3
place_of IsV128 = 4
place_of _ = 5

-- the same of a type
abbrev pub type_place : ValType → ℕ
type_place I32 = 0
type_place I64 = 1
type_place F32 = 2
type_place F64 = 3
type_place V128 = 4
type_place (Ref _) = 5

-- the type of a local, all of whose type is known
abbrev pub type_known : MaybeType ValType → ValType
type_known (Known ty) = ty
type_known _ = I32
