-- Operands that are known to be of a type, or of one below it in every order of types (Specification, "Matching",
-- reference types: a type matches itself, one without null matches the one with it).
use Rattle.std.specs.Prelude.{false, ◌≡◌, ◌⊎◌}
use Rattle.validate_types.specs.declared.heap.HeapType.{HeapType}
use Rattle.validate_types.specs.declared.heap.HeapType.TheVariants.{Concrete, Exact}
use Rattle.validate_types.specs.declared.heap.UnpackedIndex.{UnpackedIndex}
use Rattle.validate_types.specs.declared.refs.RefType.{RefType}
use Rattle.validate_types.specs.declared.types.MaybeType.{MaybeType}
use Rattle.validate_types.specs.declared.types.MaybeType.TheVariants.{Known}
use Rattle.validate_types.specs.declared.types.ValType.{ValType}
use Rattle.validate_types.specs.declared.types.ValType.TheVariants.{Ref}

-- a heap type is the other one, or exact in it
abbrev pub IsToSame : HeapType → HeapType → Type 0
IsToSame h k = (h ≡ k) ⊎ ((u : UnpackedIndex) × (h ≡ Exact u) × (k ≡ Concrete u))

-- an operand is known to be a reference to the same as this type or exact in it, without null where that is
pub record IsReferenceAs (t : MaybeType ValType) (w : ValType) : Type 0 where
  pub found : RefType
  pub expected : RefType
  pub found_is : t ≡ Known (Ref found)
  pub expected_is : w ≡ Ref expected
  pub to_same : IsToSame found.heap_type expected.heap_type
  pub null : expected.nullable ≡ false → found.nullable ≡ false

-- whatever else the order of types says, an operand fits: it is known to be of this type, or such a reference
abbrev pub IsKnownAs : MaybeType ValType → ValType → Type 0
IsKnownAs t w = (t ≡ Known w) ⊎ IsReferenceAs t w
