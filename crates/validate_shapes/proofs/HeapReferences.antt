-- References to heap types, and lists of types that end with one.
use Rattle.std.proofs.Common.{◌≡◌, Bool, true, List, [], ◌∷◌, ◌++◌, Some, None, is_some, refl, sym, ap, ◌∙◌, if◌then◌else◌}
use Rattle.std.specs.Option.{option_map}
use Rattle.validate_types.specs.Refs.{reference, reference_to, fits_reference}
use Rattle.validate_types.specs.declared.heap.HeapType.{HeapType}
use Rattle.validate_types.specs.declared.heap.HeapType.TheVariants.{Abstract, Concrete, Exact}
use Rattle.validate_types.specs.declared.heap.UnpackedIndex.TheVariants.{Module, Id}
use Rattle.validate_resources.specs.Context.{ModuleContext, is_valid_heap}
use Rattle.std.proofs.lemmas.Bool.{and_parts}
use Rattle.validate_types.specs.declared.refs.RefType.{RefType}
use Rattle.validation_rules.specs.Context.{ValType, I32, I64, F32, F64, V128, Ref}
use Rattle.validation_rules.specs.References.{last_reference}
use Rattle.validation_rules.proofs.Steps.{some_injective}

-- a reference can be made to each valid heap type
module _ (md : ModuleContext) where
  fits_valid : (h : HeapType) → is_valid_heap md h ≡ true → fits_reference h ≡ true
  fits_valid (Abstract s a) e = refl
  fits_valid (Concrete (Module i)) e = cc
  fits_valid (Concrete (Id id)) e = (and_parts (is_some (md.type_of_id id)) _ e).1
  fits_valid (Exact (Module i)) e = cc
  fits_valid (Exact (Id id)) e = (and_parts (is_some (md.type_of_id id)) _ e).1

  made : (h : HeapType) (n : Bool) → is_valid_heap md h ≡ true → reference_to n h ≡ Some (reference n h)
  made h n e = ap (λ b. if b then Some (reference n h) else None) (fits_valid h e)

  pub not_made : (h : HeapType) (n : Bool) → is_valid_heap md h ≡ true → reference_to n h ≡ None → ⊥
  not_made h n e k = let clash : Some (reference n h) ≡ None = sym (made h n e) ∙ k in absurd cc

  pub made_is : (h : HeapType) (n : Bool) (r : RefType) → is_valid_heap md h ≡ true → reference_to n h ≡ Some r → reference n h ≡ r
  made_is h n r e k = some_injective _ _ (sym (made h n e) ∙ k)

-- ---- the last type of a list

pub ends_with : (xs : List ValType) (r : RefType) → last_reference (xs ++ Ref r ∷ []) ≡ Some (xs, r)
ends_with [] r = refl
ends_with (x ∷ []) r = refl
ends_with (x ∷ y ∷ xs) r = ap (option_map (λ (p : List ValType × RefType). (x ∷ p.0, p.1))) (ends_with (y ∷ xs) r)

pub ends_without : (xs : List ValType) (t : ValType) → ((r : RefType) → t ≡ Ref r → ⊥) → last_reference (xs ++ t ∷ []) ≡ None
ends_without [] (Ref r) n = absurd (n r refl)
ends_without [] I32 n = refl
ends_without [] I64 n = refl
ends_without [] F32 n = refl
ends_without [] F64 n = refl
ends_without [] V128 n = refl
ends_without (x ∷ []) t n = ap (option_map (λ (p : List ValType × RefType). (x ∷ p.0, p.1))) (ends_without [] t n)
ends_without (x ∷ y ∷ xs) t n = ap (option_map (λ (p : List ValType × RefType). (x ∷ p.0, p.1))) (ends_without (y ∷ xs) t n)
