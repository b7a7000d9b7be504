-- How types print (the crate's own).
use Rattle.std.specs.Prelude.{ℕ, Bool, true, false, List, ◌++◌, codes, Some, None}
use Rattle.std.specs.Fmt.{decimal, digits}
use Rattle.validate_types.specs.declared.heap.HeapType.{HeapType}
use Rattle.validate_types.specs.declared.heap.HeapType.TheVariants.{Abstract, Concrete, Exact}
use Rattle.validate_types.specs.declared.heap.UnpackedIndex.{UnpackedIndex}
use Rattle.validate_types.specs.declared.heap.UnpackedIndex.TheVariants.{Module, Id}
use Rattle.validate_types.specs.declared.types.CompositeInnerType.{CompositeInnerType}
use Rattle.validate_types.specs.declared.types.CompositeInnerType.TheVariants.{Func, Array, Struct, Cont}
use Rattle.validate_types.specs.declared.types.MaybeType.{MaybeType}
use Rattle.validate_types.specs.declared.types.MaybeType.TheVariants.{Bottom, UnknownRef, Known}
use Rattle.validate_types.specs.declared.refs.RefType.{RefType}
use Rattle.validate_types.specs.declared.types.StorageType.{StorageType}
use Rattle.validate_types.specs.declared.types.StorageType.TheVariants.{I8, I16, Val}
use Rattle.validate_types.specs.declared.types.ValType.{ValType}
use Rattle.validate_types.specs.declared.types.ValType.TheVariants.{I32, I64, F32, F64, V128, Ref}
use Rattle.validate_types.specs.Abstract.{heap_name}
use Rattle.validate_types.specs.Refs.{wat_of}
use Rattle.validate_types.specs.ErrorValue.{ErrorValue}

abbrev pub index_text : UnpackedIndex → List ℕ
index_text (Module n) = codes "(module " ++ decimal n ++ codes ")"
index_text (Id id) = codes "(id " ++ decimal id.index ++ codes ")"

abbrev pub text_by : Bool → HeapType → List ℕ
text_by n (Abstract shared ty) = wat_of n (Abstract shared ty)
text_by true (Concrete i) = codes "(ref null " ++ index_text i ++ codes ")"
text_by false (Concrete i) = codes "(ref " ++ index_text i ++ codes ")"
text_by true (Exact i) = codes "(ref null (exact " ++ index_text i ++ codes "))"
text_by false (Exact i) = codes "(ref (exact " ++ index_text i ++ codes "))"

-- the text of a reference type, where a type of the module has its index
abbrev pub reference_text : RefType → List ℕ
reference_text r = text_by r.nullable r.heap_type

abbrev pub value_text : ValType → List ℕ
value_text I32 = codes "i32"
value_text I64 = codes "i64"
value_text F32 = codes "f32"
value_text F64 = codes "f64"
value_text V128 = codes "v128"
value_text (Ref r) = reference_text r

-- the text of an operand, where not all of its type may be known
abbrev pub operand_text : MaybeType ValType → List ℕ
operand_text Bottom = codes "bot"
operand_text (UnknownRef None) = codes "(ref shared? bot)"
operand_text (UnknownRef (Some a)) = codes "(ref shared? " ++ heap_name true a ++ codes "bot)"
operand_text (Known t) = value_text t

abbrev pub storage_text : StorageType → List ℕ
storage_text I8 = codes "i8"
storage_text I16 = codes "i16"
storage_text (Val t) = value_text t

-- the kind of a declared type
abbrev pub kind_text : CompositeInnerType → List ℕ
kind_text (Func f) = codes "func"
kind_text (Array a) = codes "array"
kind_text (Struct fields) = codes "struct"
kind_text (Cont c) = codes "cont"

-- a refusal's text, and its offset
abbrev pub refusal_text : ErrorValue → List ℕ
refusal_text e = e.text ++ codes " (at offset 0x" ++ digits 16 false e.offset ++ codes ")"
