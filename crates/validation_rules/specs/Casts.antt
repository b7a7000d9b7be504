-- The rows of casts, and of branches by a cast (WebAssembly core specification, "Validation: Reference
-- Instructions" and "Control Instructions"; that a branch may cast to any type of the hierarchy is of a
-- proposal, "Custom Descriptors").
-- A test or a cast takes any reference of the hierarchy, or null. `br_on_cast` carries the type that is
-- cast to and leaves the difference, `br_on_cast_fail` the other way round; the label's last type lies
-- above what is carried.
use Rattle.std.specs.Prelude.{ℕ, Bool, true, false, not, ◌&&◌, List, [], ◌∷◌, ◌++◌, Option, Some, None}
use Rattle.std.specs.Prelude.{if◌then◌else◌}
use Rattle.std.specs.Bool.{beq}
use Rattle.std.specs.Option.{option_map, option_and_then}
use Rattle.validate_types.specs.Abstract.{is_abstract_below}
use Rattle.validate_types.specs.Features.{is_ref_enabled}
use Rattle.validate_types.specs.Refs.{nullable_reference, reference_to, difference}
use Rattle.validate_types.specs.declared.heap.AbstractHeapType.TheVariants.{Cont}
use Rattle.validate_types.specs.declared.heap.HeapType.{HeapType}
use Rattle.validate_types.specs.declared.heap.HeapType.TheVariants.{Abstract}
use Rattle.validate_types.specs.declared.refs.RefType.{RefType}
use Rattle.validate_visit.specs.declared.op.BranchCast.{BranchCast}
use Rattle.validation_rules.specs.Branches.{has_label, label_types_at}
use Rattle.validation_rules.specs.Context.{ModuleContext, ValType, I32, Ref, Context}
use Rattle.validation_rules.specs.Exact.{has_custom_descriptors}
use Rattle.validation_rules.specs.Rows.{Head, Row, guard}
use Rattle.validation_rules.specs.Shapes.{plain_row, plain_row_if, lookup_row}

-- ---- the types of casts

-- a reference type whose gates are open and whose indices are known, in canonical form
abbrev pub checked_ref : Context → RefType → Option RefType
checked_ref cx r = guard (is_ref_enabled cx.features r) (cx.of_module.canonical_ref r)

-- the top type of the hierarchy that the reference is in
abbrev pub top_of : ModuleContext → RefType → HeapType
top_of md r = md.top_type r.heap_type

-- the type of all continuations
abbrev pub is_cont : HeapType → Bool
is_cont (Abstract shared Cont) = true
is_cont _ = false

-- no cast leads to a continuation
abbrev pub is_castable : ModuleContext → RefType → Bool
is_castable md r = not (is_cont (top_of md r))

-- the type, where a cast may lead to it
abbrev pub castable_type : ModuleContext → RefType → Option RefType
castable_type md r = guard (is_castable md r) (Some r)

-- ---- tests and casts: of any reference of the hierarchy, or null

-- the type of a test or a cast, where a reference to the heap type can be made
abbrev pub cast_type : Context → Bool → HeapType → Option RefType
cast_type cx nullable h =
    option_and_then (castable_type cx.of_module) (option_and_then (checked_ref cx) (reference_to nullable h))

-- what is tested or cast
abbrev pub cast_operand : ModuleContext → RefType → ValType
cast_operand md r = Ref (nullable_reference (top_of md r))

abbrev pub ref_test_row : Context → Bool → HeapType → Row
ref_test_row cx nullable h =
    lookup_row (cast_type cx nullable h) (λ r. plain_row (cast_operand cx.of_module r ∷ []) (I32 ∷ []))

abbrev pub ref_cast_row : Context → Bool → HeapType → Row
ref_cast_row cx nullable h =
    lookup_row (cast_type cx nullable h) (λ r. plain_row (cast_operand cx.of_module r ∷ []) (Ref r ∷ []))

-- ---- branches by a cast

-- the operand's type, what is carried to the label, and what is left where it isn't taken
pub record CastTypes : Type 0 where
  pub from : RefType
  pub carried : RefType
  pub left : RefType

-- one abstract type in both places: each lies below the other
abbrev pub is_same_top : HeapType → HeapType → Bool
is_same_top (Abstract shared a) (Abstract shared_too b) =
    beq shared shared_too && (is_abstract_below a b && is_abstract_below b a)
is_same_top _ _ = false

-- the other type lies below the one; where references can be exact, it is of the same hierarchy
abbrev pub is_cast_target : Context → RefType → RefType → Bool
is_cast_target cx from to =
    if has_custom_descriptors cx
    then is_same_top (top_of cx.of_module from) (top_of cx.of_module to)
    else cx.of_module.below (Ref to) (Ref from)

-- the one type may be cast to the other, which is no continuation
abbrev pub may_cast : Context → RefType → RefType → Bool
may_cast cx from to = is_castable cx.of_module to && is_cast_target cx from to

-- both types of a cast that may be, in canonical form
abbrev pub checked_cast : Context → BranchCast → Option (RefType × RefType)
checked_cast cx cast =
    option_and_then
    (λ from. option_and_then (λ to. guard (may_cast cx from to) (Some (from, to)))
    (checked_ref cx cast.to_ref_type))
    (checked_ref cx cast.from_ref_type)

-- all types but the last, and the last
abbrev pub split_last : List ValType → Option (List ValType × ValType)
split_last [] = None
split_last (t ∷ []) = Some ([], t)
split_last (t ∷ u ∷ ts) =
    option_map (λ (p : List ValType × ValType). (t ∷ p.0, p.1)) (split_last (u ∷ ts))

-- the same types, with this one in the place of the last
abbrev pub with_last : ValType → List ValType → List ValType
with_last u [] = []
with_last u (t ∷ []) = u ∷ []
with_last u (t ∷ w ∷ ts) = t ∷ with_last u (w ∷ ts)

-- to label d, whose types are these, the last of which lies above what is carried in its place
abbrev pub cast_branch_row_for : Context → ℕ → CastTypes → (List ValType × ValType) → Row
cast_branch_row_for cx d types p =
    record
    (plain_row_if (cx.of_module.below (Ref types.carried) p.1)
    (p.0 ++ Ref types.from ∷ []) (p.0 ++ Ref types.left ∷ [])) {
      targets = record { depth = d; carried = with_last (Ref types.carried) } ∷ [];
    }

abbrev pub cast_branch_row : Context → List Head → ℕ → CastTypes → Row
cast_branch_row cx hs d types =
    lookup_row (guard (has_label hs d) (split_last (label_types_at cx hs d))) (cast_branch_row_for cx d types)

-- where the operand is of the type that it is cast to, with that; else it goes on as what is left
abbrev pub types_on_cast : (RefType × RefType) → CastTypes
types_on_cast p = record { from = p.0; carried = p.1; left = difference p.0 p.1 }

-- where the operand isn't of the type that it is cast to, with what is left; else it goes on as that
abbrev pub types_on_cast_fail : (RefType × RefType) → CastTypes
types_on_cast_fail p = record { from = p.0; carried = difference p.0 p.1; left = p.1 }

abbrev pub br_on_cast_row : Context → List Head → BranchCast → Row
br_on_cast_row cx hs cast =
    lookup_row (checked_cast cx cast) (λ p. cast_branch_row cx hs cast.relative_depth (types_on_cast p))

abbrev pub br_on_cast_fail_row : Context → List Head → BranchCast → Row
br_on_cast_fail_row cx hs cast =
    lookup_row (checked_cast cx cast)
    (λ p. cast_branch_row cx hs cast.relative_depth (types_on_cast_fail p))
