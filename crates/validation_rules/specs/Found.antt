-- Operators that look for a reference below an abstract type, whatever its null and its sharedness
-- (WebAssembly core specification, "Validation: Reference Instructions" and "Aggregate Instructions"; that
-- they take shared references too is of the shared-everything-threads proposal).
-- `ref.eq` compares two references below `eq`, of the same sharedness where both are known.
use Rattle.std.specs.Prelude.{Bool, true, false, ◌&&◌, List, [], ◌∷◌, Option, Some, None}
use Rattle.std.specs.Bool.{beq}
use Rattle.validate_types.specs.Abstract.{is_abstract_below}
use Rattle.validate_types.specs.Refs.{reference, nullable_reference}
use Rattle.validate_types.specs.declared.heap.AbstractHeapType.{AbstractHeapType}
use Rattle.validate_types.specs.declared.heap.AbstractHeapType.TheVariants.{Eq}
use Rattle.validate_types.specs.declared.heap.HeapType.{HeapType}
use Rattle.validate_types.specs.declared.heap.HeapType.TheVariants.{Abstract}
use Rattle.validate_types.specs.declared.refs.RefType.{RefType}
use Rattle.validation_rules.specs.Context.{ModuleContext, I32, Ref, Context}
use Rattle.validation_rules.specs.Fits.{MaybeType, Bottom, UnknownRef, Known}
use Rattle.validation_rules.specs.Rows.{Row, guard}
use Rattle.validation_rules.specs.Shapes.{looking_row}

-- an abstract type of the sharedness that a reference has
abbrev pub abstract_beside : ModuleContext → RefType → AbstractHeapType → HeapType
abstract_beside md r a = Abstract (md.is_shared r) a

-- A found operand lies below the nullable references to this abstract type: of its own sharedness, where
-- its type is known. Of an unknown reference, its abstract type does, where one is known.
abbrev pub is_found_below : ModuleContext → AbstractHeapType → MaybeType → Bool
is_found_below md a Bottom = true
is_found_below md a (UnknownRef None) = true
is_found_below md a (UnknownRef (Some b)) = is_abstract_below b a
is_found_below md a (Known (Ref r)) =
    md.below (Ref r) (Ref (nullable_reference (abstract_beside md r a)))
is_found_below md a (Known _) = false

-- one operand, and what is pushed for it
abbrev pub found_pushes :
    ModuleContext → AbstractHeapType → (MaybeType → MaybeType) → List MaybeType → Option (List MaybeType)
found_pushes md a pushed (x ∷ []) = guard (is_found_below md a x) (Some (pushed x ∷ []))
found_pushes md a pushed _ = None

-- the operand below this abstract type gives way to a number
abbrev pub measure_row : Context → AbstractHeapType → Row
measure_row cx a = looking_row 1 (found_pushes cx.of_module a (λ x. Known I32))

-- a reference to this abstract type, with null and sharedness as the found one has them
abbrev pub converted_operand : ModuleContext → AbstractHeapType → MaybeType → MaybeType
converted_operand md a (Known (Ref r)) = Known (Ref (reference r.nullable (abstract_beside md r a)))
converted_operand md a _ = UnknownRef (Some a)

-- the operand below the one abstract type becomes a reference to the other
abbrev pub convert_ref_row : Context → AbstractHeapType → AbstractHeapType → Row
convert_ref_row cx from into = looking_row 1 (found_pushes cx.of_module from (converted_operand cx.of_module into))

-- two operands are of the same sharedness, where both are known
abbrev pub is_same_sharedness : ModuleContext → MaybeType → MaybeType → Bool
is_same_sharedness md (Known (Ref r)) (Known (Ref s)) =
    beq (md.is_shared r) (md.is_shared s)
is_same_sharedness md _ _ = true

-- two operands that can be compared, and the answer
abbrev pub ref_eq_pushes : ModuleContext → List MaybeType → Option (List MaybeType)
ref_eq_pushes md (x ∷ y ∷ []) =
    guard (is_found_below md Eq x && is_found_below md Eq y && is_same_sharedness md x y)
    (Some (Known I32 ∷ []))
ref_eq_pushes md _ = None

abbrev pub ref_eq_row : Context → Row
ref_eq_row cx = looking_row 2 (ref_eq_pushes cx.of_module)
