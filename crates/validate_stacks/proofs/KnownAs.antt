-- Operands that are known to be as expected fit.
use Rattle.std.proofs.Common.{◌≡◌, inl, inr, Bool, true, false, Some, refl, sym, ◌∙◌, ap, subst}
use Rattle.validate_resources.specs.Context.{ModuleContext, Valid, IsLawful, is_valid_heap}
use Rattle.validate_types.specs.Refs.{reference}
use Rattle.validate_types.specs.declared.heap.HeapType.{HeapType}
use Rattle.validate_types.specs.declared.heap.HeapType.TheVariants.{Concrete}
use Rattle.validate_types.specs.declared.refs.RefType.{RefType}
use Rattle.validate_types.specs.declared.types.ValType.{ValType}
use Rattle.validate_types.specs.declared.types.ValType.TheVariants.{Ref}
use Rattle.validation_rules.specs.Fits.{MaybeType, fits}
use Rattle.validate_types.specs.KnownAs.{IsKnownAs, IsToSame}
use Rattle.validate_stacks.specs.Pops.{may_pop}
use Rattle.validate_stacks.specs.State.{BodyState, body_context}

module _ (md : ModuleContext) (laws : IsLawful md) where
  -- two references to one heap type
  null_below : (n m : Bool) (h : HeapType) → is_valid_heap md h ≡ true → (m ≡ false → n ≡ false) → md.below (Ref (reference n h)) (Ref (reference m h)) ≡ true
  null_below false m h valid less = laws.non_null_below (reference m h) valid
  null_below true true h valid less = laws.reflexive (Ref (reference true h)) valid
  null_below true false h valid less = let never : true ≡ false = less refl in cc

  same_below : (r s : RefType) → Valid md (Ref s) → IsToSame r.heap_type s.heap_type → (s.nullable ≡ false → r.nullable ≡ false) → md.below (Ref r) (Ref s) ≡ true
  same_below r s valid (inl e) less = subst (λ h. md.below (Ref (reference r.nullable h)) (Ref s) ≡ true) (sym e) (null_below r.nullable s.nullable s.heap_type valid less)
  same_below r s valid (inr (u, h, k)) less =
      let known : is_valid_heap md (Concrete u) ≡ true = subst (λ x. is_valid_heap md x ≡ true) k valid in
      let up : md.below (Ref (reference r.nullable (Concrete u))) (Ref s) ≡ true = subst (λ x. md.below (Ref (reference r.nullable (Concrete u))) (Ref (reference s.nullable x)) ≡ true) (sym k) (null_below r.nullable s.nullable (Concrete u) known less) in
      subst (λ x. md.below (Ref (reference r.nullable x)) (Ref s) ≡ true) (sym h) (laws.transitive _ _ _ (laws.exact_below r.nullable u known) up)

  pub known_as_fits : (v : BodyState) (t : MaybeType) (w : ValType) → Valid md w → IsKnownAs t w → may_pop (body_context md v) (Some t) (Some w) ≡ true
  known_as_fits v t w valid (inl e) = ap (λ x. fits (body_context md v) x w) e ∙ laws.reflexive w valid
  known_as_fits v t w valid (inr p) =
      let below = same_below p.found p.expected (subst (Valid md) p.expected_is valid) p.to_same p.null in
      ap (λ x. fits (body_context md v) x w) p.found_is ∙ ap (md.below (Ref p.found)) p.expected_is ∙ below
