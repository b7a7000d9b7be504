-- The row of an access, by what it takes and gives.
use Rattle.std.proofs.Common.{◌≡◌, Bool, true, false, ◌||◌, List, [], ◌∷◌, ◌++◌, refl, sym, ap, ◌∙◌, subst}
use Rattle.std.specs.List.{AllByRecursion}
use Rattle.validate_resources.specs.Context.{ModuleContext, Valid}
use Rattle.validate_types.specs.declared.types.FieldType.{FieldType}
use Rattle.validate_visit.specs.declared.shared.FieldAccess.{FieldAccess}
use Rattle.validate_visit.specs.declared.shared.FieldAccess.TheVariants.{Whole, GetPacked}
use Rattle.validate_visit.specs.declared.shared.Update.TheVariants.{Value, Rmw}
use Rattle.validate_visit.specs.declared.shared.Exchange.TheVariants.{Get, Set, Xchg, Cmpxchg}
use Rattle.validation_rules.specs.Context.{ValType, Context}
use Rattle.validation_rules.specs.Shapes.{plain_row_if}
use Rattle.validation_rules.specs.Shared.{is_accessible, expected_by, pushed_by, place_row}
use Rattle.validation_rules.specs.Structs.{field_value}

pub or_true : (b : Bool) → (b || true) ≡ true
or_true true = refl
or_true false = refl

-- the row of a place, where what it says of it is known by these values
pub place_found : (cx : Context) (shared : Bool) (access : FieldAccess) (place : List ValType) (f : FieldType) (b : Bool) (expected pushed : List ValType) → is_accessible cx.of_module shared access f ≡ b → expected ≡ place ++ expected_by access (field_value f) → pushed ≡ pushed_by access (field_value f) → place_row cx shared access place f ≡ plain_row_if b expected pushed
place_found cx shared access place f b expected pushed e w p =
    ap (λ c. plain_row_if c (place ++ expected_by access (field_value f)) (pushed_by access (field_value f))) e
    ∙ (ap (λ ts. plain_row_if b ts (pushed_by access (field_value f))) (sym w)
    ∙ ap (λ ts. plain_row_if b expected ts) (sym p))

module _ (md : ModuleContext) where
  abbrev AllValid : List ValType → Type 0
  AllValid ts = AllByRecursion (Valid md) ts

  expected_valid : (access : FieldAccess) (t : ValType) → Valid md t → AllValid (expected_by access t)
  expected_valid (Whole (Value Get)) t v = tt
  expected_valid (Whole (Value Set)) t v = (v, tt)
  expected_valid (Whole (Value Xchg)) t v = (v, tt)
  expected_valid (Whole (Value Cmpxchg)) t v = (v, (v, tt))
  expected_valid (Whole (Rmw op)) t v = (v, tt)
  expected_valid (GetPacked sign) t v = tt

  pushed_valid : (access : FieldAccess) (t : ValType) → Valid md t → AllValid (pushed_by access t)
  pushed_valid (Whole (Value Set)) t v = tt
  pushed_valid (Whole (Value Get)) t v = (v, tt)
  pushed_valid (Whole (Value Xchg)) t v = (v, tt)
  pushed_valid (Whole (Value Cmpxchg)) t v = (v, tt)
  pushed_valid (Whole (Rmw op)) t v = (v, tt)
  pushed_valid (GetPacked sign) t v = (v, tt)

  both_valid : (xs ys : List ValType) → AllValid xs → AllValid ys → AllValid (xs ++ ys)
  both_valid [] ys h k = k
  both_valid (x ∷ xs) ys h k = (h.0, both_valid xs ys h.1 k)

  -- what it takes and gives is valid where the operands that name the place are, and what is held is
  pub types_valid : (access : FieldAccess) (place : List ValType) (t : ValType) (expected pushed : List ValType) → expected ≡ place ++ expected_by access t → pushed ≡ pushed_by access t → AllValid place → Valid md t → AllValid expected × AllValid pushed
  types_valid access place t expected pushed w p h v =
      (subst AllValid (sym w) (both_valid place (expected_by access t) h (expected_valid access t v)), subst AllValid (sym p) (pushed_valid access t v))
