-- Parts of items that can't be read: then neither can the items.
use Rattle.std.proofs.Common.{ap, refl, ◌∙◌, ◌≡◌, ℕ, Bool, false, if◌then◌else◌, nat_eq, List, [], ◌∷◌, ◌++◌, Option, Some, None}
use Rattle.std.specs.Option.{option_and_then}
use Rattle.binary_operators.specs.Integers.{unsigned}
use Rattle.binary_operators.specs.Types.{ref_type}
use Rattle.binary_operators.specs.Values.{so_many, list_of}
use Rattle.binary_operators.specs.declared.types.CanonicalTypes.{CanonicalTypes}
use Rattle.module_rules.specs.declared.items.DeclaredTable.{DeclaredTable}
use Rattle.module_rules.specs.declared.items.TableInit.TheVariants.{Expr}
use Rattle.module_rules.specs.declared.module.Place.TheVariants.{Table as OfTable}
use Rattle.module_rules.specs.declared.segments.Data.{Data}
use Rattle.module_rules.specs.declared.segments.DataKind.{DataKind}
use Rattle.module_rules.specs.declared.segments.Element.{Element}
use Rattle.module_rules.specs.declared.segments.ElementKind.{ElementKind}
use Rattle.validate_types.specs.declared.refs.RefType.{RefType}
use Rattle.binary_modules.specs.Initializers.{Expression, expression}
use Rattle.binary_modules.specs.Items.{Item, initialized_table}
use Rattle.binary_modules.specs.Limits.{table_type}
use Rattle.binary_modules.specs.Parts.{sized}
use Rattle.binary_modules.specs.Segments.{Target, Listed, data_target, data_behind, element_target, element_items, element_behind}
use Rattle.binary_modules.specs.Segments.{function_items, kind_and_functions, with_type, expression_items, type_and_expressions}

-- whatever is read first, there is none
none_of : {A B : Type 0} (o : Option A) → option_and_then {U = B} (λ (x : A). None) o ≡ None
none_of None = refl
none_of (Some x) = refl

none_of_both : {A B C : Type 0} (o : Option A) (next : A → Option B) → option_and_then {U = C} (λ (x : A). option_and_then {U = C} (λ (y : B). None) (next x)) o ≡ None
none_of_both None next = refl
none_of_both (Some x) next = none_of (next x)

-- ---- lists

pub no_count : {A : Type 0} (item : List ℕ → Option (A × List ℕ)) (bytes : List ℕ) → unsigned 32 bytes ≡ None → list_of item bytes ≡ None
unfolding list_of
no_count item bytes e = ap (λ o. option_and_then (λ (n : ℕ × List ℕ). so_many item n.0 n.1) o) e

pub no_list : {A : Type 0} (item : List ℕ → Option (A × List ℕ)) (count : ℕ) (bytes behind : List ℕ) → unsigned 32 bytes ≡ Some (count, behind) → so_many item count behind ≡ None → list_of item bytes ≡ None
unfolding list_of
no_list item count bytes behind c e =
    ap (λ o. option_and_then (λ (n : ℕ × List ℕ). so_many item n.0 n.1) o) c ∙ e

-- ---- tables

-- a table that has a first value, behind a byte that says so
abbrev table_with : DeclaredTable × List ℕ → Expression × List ℕ → Option (Item DeclaredTable × List ℕ)
table_with table value = Some (
  record {
    declared = table.0;
    initializers = record { place = λ i. OfTable i; expression = value.0 } ∷ [];
  },
  value.1,
)

pub no_reserved : (types : CanonicalTypes) (bytes behind : List ℕ) (reserved : ℕ) → bytes ≡ reserved ∷ behind → nat_eq reserved 0 ≡ false → initialized_table types bytes ≡ None
unfolding initialized_table
no_reserved types bytes behind reserved b other =
    ap (initialized_table types) b
    ∙ ap (λ (c : Bool). option_and_then {U = Item DeclaredTable × List ℕ} (λ (table : DeclaredTable × List ℕ). option_and_then {U = Item DeclaredTable × List ℕ} (λ (value : Expression × List ℕ). if c then table_with table value else None) (expression types table.1)) (table_type Expr types behind)) other
    ∙ none_of_both (table_type Expr types behind) (λ (table : DeclaredTable × List ℕ). expression types table.1)

-- ---- segments

pub no_kind : (bytes behind : List ℕ) (kind : ℕ) → bytes ≡ kind ∷ behind → nat_eq kind 0 ≡ false → kind_and_functions bytes ≡ None
unfolding kind_and_functions
no_kind bytes behind kind b other =
    ap kind_and_functions b
    ∙ ap (λ (c : Bool). option_and_then {U = Listed × List ℕ} (λ (items : Listed × List ℕ). if c then Some items else None) (function_items behind)) other
    ∙ none_of (function_items behind)

pub no_listed : (ty : RefType) (types : CanonicalTypes) (bytes : List ℕ) → list_of (expression types) bytes ≡ None → expression_items ty types bytes ≡ None
unfolding expression_items
no_listed ty types bytes e = ap (with_type ty) e

pub no_expressions : (types : CanonicalTypes) (bytes behind : List ℕ) (ty : RefType) → ref_type types bytes ≡ Some (ty, behind) → expression_items ty types behind ≡ None → type_and_expressions types bytes ≡ None
unfolding type_and_expressions
no_expressions types bytes behind ty t e =
    ap (λ o. option_and_then (λ (ty : RefType × List ℕ). expression_items ty.0 types ty.1) o) t ∙ e

abbrev element_of : Target ElementKind → Listed × List ℕ → Option (Item Element × List ℕ)
element_of target listed = Some (
  record {
    declared = record { kind = target.kind; items = listed.0.items; offset = 0 };
    initializers = target.initializers ++ listed.0.initializers;
  },
  listed.1,
)

pub no_items : (flags : ℕ) (types : CanonicalTypes) (bytes behind : List ℕ) (target : Target ElementKind) → element_target flags types bytes ≡ Some (target, behind) → element_items flags types behind ≡ None → element_behind flags types bytes ≡ None
unfolding element_behind
no_items flags types bytes behind target t e =
    ap (λ o. option_and_then {U = Item Element × List ℕ} (λ (target : Target ElementKind × List ℕ). option_and_then {U = Item Element × List ℕ} (element_of target.0) (element_items flags types target.1)) o) t
    ∙ ap (λ o. option_and_then {U = Item Element × List ℕ} (element_of target) o) e

abbrev data_of : Target DataKind → List ℕ × List ℕ → Option (Item Data × List ℕ)
data_of target written = Some (
  record { declared = record { kind = target.kind; offset = 0 }; initializers = target.initializers },
  written.1,
)

pub no_bytes : (flags : ℕ) (types : CanonicalTypes) (bytes behind : List ℕ) (target : Target DataKind) → data_target flags types bytes ≡ Some (target, behind) → sized behind ≡ None → data_behind flags types bytes ≡ None
unfolding data_behind
no_bytes flags types bytes behind target t e =
    ap (λ o. option_and_then {U = Item Data × List ℕ} (λ (target : Target DataKind × List ℕ). option_and_then {U = Item Data × List ℕ} (data_of target.0) (sized target.1)) o) t
    ∙ ap (λ o. option_and_then {U = Item Data × List ℕ} (data_of target) o) e
