-- The rows of operators on references, and of branches that look whether one is null (WebAssembly core
-- specification, "Validation: Reference Instructions" and "Control Instructions").
use Rattle.std.specs.Prelude.{ℕ, suc, Bool, true, false, not, ◌||◌, List, [], ◌∷◌, ◌++◌, Option, Some, None}
use Rattle.std.specs.Prelude.{length}
use Rattle.std.specs.Option.{option_map}
use Rattle.validate_types.specs.Features.{is_ref_enabled}
use Rattle.validate_types.specs.Refs.{fits_reference, without_null, with_null, nullable_reference}
use Rattle.validate_types.specs.Refs.{non_null_reference}
use Rattle.validate_types.specs.declared.heap.HeapType.{HeapType}
use Rattle.validate_types.specs.declared.heap.AbstractHeapType.TheVariants.{Any, Extern, I31}
use Rattle.validate_types.specs.declared.heap.HeapType.TheVariants.{Abstract}
use Rattle.validate_types.specs.declared.heap.UnpackedIndex.TheVariants.{Id}
use Rattle.validate_types.specs.declared.refs.RefType.{RefType}
use Rattle.validate_visit.specs.declared.op.ReferenceOp.{ReferenceOp}
use Rattle.validate_visit.specs.declared.op.ReferenceOp.TheVariants.{RefNull, RefIsNull, RefFunc}
use Rattle.validate_visit.specs.declared.op.ReferenceOp.TheVariants.{RefAsNonNull, BrOnNull, BrOnNonNull}
use Rattle.validate_visit.specs.declared.op.ReferenceOp.TheVariants.{RefEq, RefTestNonNull, RefTestNullable}
use Rattle.validate_visit.specs.declared.op.ReferenceOp.TheVariants.{RefCastNonNull, RefCastNullable}
use Rattle.validate_visit.specs.declared.op.ReferenceOp.TheVariants.{BrOnCast, BrOnCastFail, RefI31, I31Get}
use Rattle.validate_visit.specs.declared.op.ReferenceOp.TheVariants.{AnyConvertExtern, ExternConvertAny}
use Rattle.validate_visit.specs.declared.op.ReferenceOp.TheVariants.{RefGetDesc, RefCastDescEqNonNull}
use Rattle.validate_visit.specs.declared.op.ReferenceOp.TheVariants.{RefCastDescEqNullable, BrOnCastDescEq}
use Rattle.validate_visit.specs.declared.op.ReferenceOp.TheVariants.{BrOnCastDescEqFail}
use Rattle.validation_rules.specs.Branches.{has_label, label_types_at, target}
use Rattle.validation_rules.specs.Casts.{ref_test_row, ref_cast_row, br_on_cast_row, br_on_cast_fail_row}
use Rattle.validation_rules.specs.Context.{ValType, I32, Ref, Context}
use Rattle.validation_rules.specs.Descriptors.{ref_get_desc_row, ref_cast_desc_eq_row, br_on_cast_desc_eq_row}
use Rattle.validation_rules.specs.Descriptors.{br_on_cast_desc_eq_fail_row}
use Rattle.validation_rules.specs.Exact.{function_heap}
use Rattle.validation_rules.specs.Fits.{MaybeType, Bottom, UnknownRef, Known, fits}
use Rattle.validation_rules.specs.Found.{ref_eq_row, measure_row, convert_ref_row}
use Rattle.validation_rules.specs.Rows.{Head, Row, guard}
use Rattle.validation_rules.specs.Shapes.{plain_row, plain_row_if, lookup_row, looking_row, looking_row_if}
use Rattle.validation_rules.specs.Shapes.{conversion_row}

-- ---- null, and references to functions

-- The gate of the type of null is open. To a type index of 2^20 or more no reference can be made, so
-- that it has no gate; of at most 1,000,000 types none has such an index.
abbrev pub is_null_gate_open : Context → HeapType → Bool
is_null_gate_open cx h = not (fits_reference h) || is_ref_enabled cx.features (nullable_reference h)

-- what null refers to, in canonical form
abbrev pub null_heap : Context → HeapType → Option HeapType
null_heap cx h = guard (is_null_gate_open cx h) (cx.of_module.canonical_heap h)

abbrev pub ref_null_row : Context → HeapType → Row
ref_null_row cx h = lookup_row (null_heap cx h) (λ k. plain_row [] (Ref (nullable_reference k) ∷ []))

-- a function that the module lets be referred to, by its type
abbrev pub ref_func_row : Context → ℕ → Row
ref_func_row cx f =
    lookup_row (cx.of_module.type_id_of f)
    (λ id. plain_row_if (cx.of_module.is_referenced f) []
    (Ref (non_null_reference (function_heap cx f (Id id))) ∷ []))

-- ---- what is found of a reference

-- the operand without its null, if it is a reference
abbrev pub operand_without_null : MaybeType → Option MaybeType
operand_without_null Bottom = Some (UnknownRef None)
operand_without_null (UnknownRef a) = Some (UnknownRef a)
operand_without_null (Known (Ref r)) = Some (Known (Ref (without_null r)))
operand_without_null (Known _) = None

abbrev pub null_test_pushes : List MaybeType → Option (List MaybeType)
null_test_pushes (x ∷ []) = option_map (λ y. Known I32 ∷ []) (operand_without_null x)
null_test_pushes _ = None

-- Operands that fit these types, and above them a reference, which goes on without its null. With no
-- types it is what `ref.as_non_null` does.
abbrev pub non_null_pushes : Context → List ValType → List MaybeType → Option (List MaybeType)
non_null_pushes cx [] (x ∷ []) = option_map (λ y. y ∷ []) (operand_without_null x)
non_null_pushes cx (t ∷ ts) (x ∷ xs) =
    guard (fits cx x t) (option_map (λ ys. Known t ∷ ys) (non_null_pushes cx ts xs))
non_null_pushes cx _ _ = None

-- ---- branches

-- where the reference is null, to a label of the types below it
abbrev pub br_on_null_row : Context → List Head → ℕ → Row
br_on_null_row cx hs d =
    let ts = label_types_at cx hs d in
    record (looking_row_if (has_label hs d) (suc (length ts)) (non_null_pushes cx ts)) {
      targets = target cx hs d ∷ [];
    }

-- types whose last is a reference: those before it, and the reference
abbrev pub last_reference : List ValType → Option (List ValType × RefType)
last_reference [] = None
last_reference (Ref r ∷ []) = Some ([], r)
last_reference (t ∷ []) = None
last_reference (t ∷ u ∷ ts) =
    option_map (λ (p : List ValType × RefType). (t ∷ p.0, p.1)) (last_reference (u ∷ ts))

-- a reference without its null
abbrev pub without_null_known : ValType → ValType
without_null_known (Ref r) = Ref (without_null r)
without_null_known t = t

-- the last of these without its null
abbrev pub last_without_null : List ValType → List ValType
last_without_null [] = []
last_without_null (t ∷ []) = without_null_known t ∷ []
last_without_null (t ∷ u ∷ ts) = t ∷ last_without_null (u ∷ ts)

-- to label d, whose types are these
abbrev pub br_on_non_null_row_for : Context → List Head → ℕ → (List ValType × RefType) → Row
br_on_non_null_row_for cx hs d p =
    record (plain_row_if (has_label hs d) (p.0 ++ Ref (with_null p.1) ∷ []) p.0) {
      targets = record { depth = d; carried = last_without_null } ∷ [];
    }

-- Where the reference isn't null, to a label whose last type is that of the reference. Below it lie
-- operands of the other types, which stay where it is null.
abbrev pub br_on_non_null_row : Context → List Head → ℕ → Row
br_on_non_null_row cx hs d =
    lookup_row (last_reference (label_types_at cx hs d)) (br_on_non_null_row_for cx hs d)

-- ---- the group

-- a reference to an integer of 31 bits
abbrev pub i31 : ValType
i31 = Ref (non_null_reference (Abstract false I31))

abbrev pub reference_row : Context → List Head → ReferenceOp → Row
reference_row cx hs (RefNull h) = ref_null_row cx h
reference_row cx hs RefIsNull = looking_row 1 null_test_pushes
reference_row cx hs (RefFunc f) = ref_func_row cx f
reference_row cx hs RefAsNonNull = looking_row 1 (non_null_pushes cx [])
reference_row cx hs (BrOnNull d) = br_on_null_row cx hs d
reference_row cx hs (BrOnNonNull d) = br_on_non_null_row cx hs d
reference_row cx hs RefEq = ref_eq_row cx
reference_row cx hs (RefTestNonNull h) = ref_test_row cx false h
reference_row cx hs (RefTestNullable h) = ref_test_row cx true h
reference_row cx hs (RefCastNonNull h) = ref_cast_row cx false h
reference_row cx hs (RefCastNullable h) = ref_cast_row cx true h
reference_row cx hs (BrOnCast cast) = br_on_cast_row cx hs cast
reference_row cx hs (BrOnCastFail cast) = br_on_cast_fail_row cx hs cast
reference_row cx hs (RefGetDesc i) = ref_get_desc_row cx i
reference_row cx hs (RefCastDescEqNonNull h) = ref_cast_desc_eq_row cx false h
reference_row cx hs (RefCastDescEqNullable h) = ref_cast_desc_eq_row cx true h
reference_row cx hs (BrOnCastDescEq cast) = br_on_cast_desc_eq_row cx hs cast
reference_row cx hs (BrOnCastDescEqFail cast) = br_on_cast_desc_eq_fail_row cx hs cast
reference_row cx hs RefI31 = conversion_row i31 I32
reference_row cx hs (I31Get sign) = measure_row cx I31
reference_row cx hs AnyConvertExtern = convert_ref_row cx Extern Any
reference_row cx hs ExternConvertAny = convert_ref_row cx Any Extern
