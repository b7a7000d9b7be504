-- What is found on the operand stack, and when it fits what is expected (WebAssembly core
-- specification, appendix "Validation Algorithm"; unknown types are those of its dead code).
pub use Rattle.validate_types.specs.declared.types.MaybeType.TheVariants.{Bottom, UnknownRef, Known}
use Rattle.validate_types.specs.Refs.{non_null_reference}
use Rattle.validate_types.specs.declared.heap.AbstractHeapType.{AbstractHeapType}
use Rattle.validate_types.specs.declared.heap.HeapType.TheVariants.{Abstract}
use Rattle.validate_types.specs.declared.refs.RefType.{RefType}
use Rattle.validate_types.specs.declared.types.MaybeType.{MaybeType as Maybe}
use Rattle.std.specs.Prelude.{Bool, true, false, ◌&&◌, List, [], ◌∷◌, Option, Some, None}
use Rattle.validation_rules.specs.Context.{ValType, Ref, Context}

-- What a pop can find: a known type; or, in dead code, anything at all, or some reference without
-- null, of which an abstract type may be known.
abbrev pub MaybeType : Type 0
MaybeType = Maybe ValType

-- an unknown reference fits an expected one: with the sharedness that is expected
abbrev pub unknown_fits : Context → Option AbstractHeapType → RefType → Bool
unknown_fits cx None r = true
unknown_fits cx (Some a) r =
    let known = non_null_reference (Abstract (cx.of_module.is_shared r) a) in
    cx.of_module.below (Ref known) (Ref r)

-- a found type fits an expected one
abbrev pub fits : Context → MaybeType → ValType → Bool
fits cx Bottom w = true
fits cx (UnknownRef a) (Ref r) = unknown_fits cx a r
fits cx (UnknownRef a) _ = false
fits cx (Known t) w = cx.of_module.below t w

-- as many found types as expected ones, each fitting
abbrev pub all_fit : Context → List MaybeType → List ValType → Bool
all_fit cx [] [] = true
all_fit cx (x ∷ xs) (w ∷ ws) = fits cx x w && all_fit cx xs ws
all_fit cx _ _ = false
