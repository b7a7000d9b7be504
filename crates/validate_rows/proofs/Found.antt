-- An operand that is found, and a reference without its null.
use Rattle.std.proofs.Common.{◌<◌, ◌≡◌, [], ◌∷◌, length, arith, Bool, Option, Some, None, refl, subst}
use Rattle.std.specs.Option.{option_and_then}
use Rattle.validate_resources.specs.Context.{ModuleContext}
use Rattle.validation_rules.proofs.Steps.{some_injective}
use Rattle.validate_types.specs.declared.types.ValType.TheVariants.{I32, I64, F32, F64, V128, Ref}
use Rattle.validation_rules.specs.Fits.{MaybeType, Bottom, UnknownRef, Known}
use Rattle.validation_rules.specs.References.{operand_without_null}
use Rattle.validation_rules.specs.Valid.{IsValidOperand}
use Rattle.std.specs.Prelude.{List}
use Rattle.validate_stacks.specs.State.{BodyState, IsValidBody}
use Rattle.validate_rows.proofs.SelectSteps.{found_valid}
use Rattle.validation_rules.specs.Pops.{found_by_pop}
use Rattle.validation_rules.specs.Static.{Frame}
use Rattle.validate_stacks.specs.Steps.{found_in_body, found_in_frames, innermost_operands}

without_null_valid : (md : ModuleContext) (x y : MaybeType) → IsValidOperand md x → operand_without_null x ≡ Some y → IsValidOperand md y
without_null_valid md Bottom y h e = subst (IsValidOperand md) (some_injective _ _ e) tt
without_null_valid md (UnknownRef a) y h e = subst (IsValidOperand md) (some_injective _ _ e) tt
without_null_valid md (Known (Ref r)) y h e = subst (IsValidOperand md) (some_injective _ _ e) h
without_null_valid md (Known I32) y h e = absurd cc
without_null_valid md (Known I64) y h e = absurd cc
without_null_valid md (Known F32) y h e = absurd cc
without_null_valid md (Known F64) y h e = absurd cc
without_null_valid md (Known V128) y h e = absurd cc

-- an own operand is found
pub own_found : (v : BodyState) → 0 < length (innermost_operands v.present.frames) → (t : MaybeType) × (found_in_body v ≡ Some t)
own_found v h = by v.present.frames h
  where
    in_frame : (dead : Bool) (own : List MaybeType) → 0 < length own → (t : MaybeType) × (found_by_pop dead own ≡ Some t)
    in_frame dead [] h = absurd (omega (arith, h))
    in_frame dead (t ∷ own) h = (t, refl)

    by : (fs : List Frame) → 0 < length (innermost_operands fs) → (t : MaybeType) × (found_in_frames fs ≡ Some t)
    by [] h = absurd (omega (arith, h))
    by (f ∷ fs) h = in_frame f.dead f.operands h

-- a reference that is found is valid without its null
pub reference_valid : (md : ModuleContext) (v : BodyState) (t : MaybeType) → IsValidBody md v → option_and_then operand_without_null (found_in_body v) ≡ Some t → IsValidOperand md t
reference_valid md v t valid e = by (found_in_body v) refl e
  where
    by : (o : Option MaybeType) → found_in_body v ≡ o → option_and_then operand_without_null o ≡ Some t → IsValidOperand md t
    by None q e = absurd cc
    by (Some x) q e = without_null_valid md x t (found_valid md v x valid q) e
