-- A list of constant expressions, of which the items were counted first.
use Rattle.std.proofs.Common.{ap, ◌∙◌, ◌≡◌, refl, ℕ, List, [], ◌∷◌, map, Some, Option}
use Rattle.std.specs.Option.{option_and_then}
use Rattle.binary_operators.specs.Integers.{unsigned}
use Rattle.binary_operators.specs.Values.{so_many, list_of}
use Rattle.module_rules.specs.declared.module.Place.TheVariants.{Element as ElementItem}
use Rattle.binary_modules.specs.Initializers.{Expression}
use Rattle.binary_modules.specs.Items.{placed_at}
use Rattle.binary_modules.specs.Segments.{expression_item}

pub list_is : {A : Type 0} (item : List ℕ → Option (A × List ℕ)) (count : ℕ) (bytes behind : List ℕ) (items : List A) (rest : List ℕ) → unsigned 32 bytes ≡ Some (count, behind) → so_many item count behind ≡ Some (items, rest) → list_of item bytes ≡ Some (items, rest)
unfolding list_of
list_is item count bytes behind items rest c e =
    ap (λ o. option_and_then (λ (n : ℕ × List ℕ). so_many item n.0 n.1) o) c ∙ e

pub placed_items : (index : ℕ) (values : List Expression) → placed_at index (map expression_item values) ≡ map (λ (e : Expression). (ElementItem index, e)) values
placed_items index [] = refl
placed_items index (e ∷ values) = ap (λ l. (ElementItem index, e) ∷ l) (placed_items index values)
