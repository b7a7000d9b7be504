-- Abstract heap types: their order and their names (WebAssembly core specification, "Heap Types",
-- "Matching: Heap Types"; exceptions and continuations are those of their proposals).
use Rattle.std.specs.Prelude.{ℕ, Bool, true, false, List, codes}
use Rattle.validate_types.specs.declared.heap.AbstractHeapType.{AbstractHeapType}
use Rattle.validate_types.specs.declared.heap.AbstractHeapType.TheVariants.{Func, Extern, Any, None}
use Rattle.validate_types.specs.declared.heap.AbstractHeapType.TheVariants.{NoExtern, NoFunc, Eq, Struct}
use Rattle.validate_types.specs.declared.heap.AbstractHeapType.TheVariants.{Array, I31, Exn, NoExn, Cont}
use Rattle.validate_types.specs.declared.heap.AbstractHeapType.TheVariants.{NoCont}

-- The types below each, itself included:
--   any: eq, i31, struct, array, none     eq: i31, struct, array, none
--   i31: none     struct: none            array: none
--   func: nofunc  extern: noextern        exn: noexn       cont: nocont
abbrev pub is_abstract_below : AbstractHeapType → AbstractHeapType → Bool
is_abstract_below Any Any = true
is_abstract_below Eq Any = true
is_abstract_below I31 Any = true
is_abstract_below Struct Any = true
is_abstract_below Array Any = true
is_abstract_below None Any = true
is_abstract_below Eq Eq = true
is_abstract_below I31 Eq = true
is_abstract_below Struct Eq = true
is_abstract_below Array Eq = true
is_abstract_below None Eq = true
is_abstract_below I31 I31 = true
is_abstract_below None I31 = true
is_abstract_below Struct Struct = true
is_abstract_below None Struct = true
is_abstract_below Array Array = true
is_abstract_below None Array = true
is_abstract_below None None = true
is_abstract_below Func Func = true
is_abstract_below NoFunc Func = true
is_abstract_below NoFunc NoFunc = true
is_abstract_below Extern Extern = true
is_abstract_below NoExtern Extern = true
is_abstract_below NoExtern NoExtern = true
is_abstract_below Exn Exn = true
is_abstract_below NoExn Exn = true
is_abstract_below NoExn NoExn = true
is_abstract_below Cont Cont = true
is_abstract_below NoCont Cont = true
is_abstract_below NoCont NoCont = true
is_abstract_below _ _ = false

-- the top type of the hierarchy that each is in
abbrev pub abstract_top : AbstractHeapType → AbstractHeapType
abstract_top Any = Any
abstract_top Eq = Any
abstract_top I31 = Any
abstract_top Struct = Any
abstract_top Array = Any
abstract_top None = Any
abstract_top Func = Func
abstract_top NoFunc = Func
abstract_top Extern = Extern
abstract_top NoExtern = Extern
abstract_top Exn = Exn
abstract_top NoExn = Exn
abstract_top Cont = Cont
abstract_top NoCont = Cont

-- the name of a type in a text
abbrev pub plain_name : AbstractHeapType → List ℕ
plain_name Func = codes "func"
plain_name Extern = codes "extern"
plain_name Any = codes "any"
plain_name None = codes "none"
plain_name NoExtern = codes "noextern"
plain_name NoFunc = codes "nofunc"
plain_name Eq = codes "eq"
plain_name Struct = codes "struct"
plain_name Array = codes "array"
plain_name I31 = codes "i31"
plain_name Exn = codes "exn"
plain_name NoExn = codes "noexn"
plain_name Cont = codes "cont"
plain_name NoCont = codes "nocont"

-- in the text of a nullable reference a bottom type has a name of its own
abbrev pub heap_name : Bool → AbstractHeapType → List ℕ
heap_name true None = codes "null"
heap_name true NoExtern = codes "nullextern"
heap_name true NoFunc = codes "nullfunc"
heap_name true NoExn = codes "nullexn"
heap_name true NoCont = codes "nullcont"
heap_name _ ty = plain_name ty
