-- Constant expressions that are added one behind another.
use Rattle.std.proofs.Common.{ap, arith, sym, ◌∙◌, ◌≡◌, ℕ, ◌+◌, List, [], ◌∷◌, ◌++◌, length, map, append_assoc, append-nil, add-zero}
use Rattle.std.specs.Prelude.{flat_map}
use Rattle.std.proofs.lemmas.List.{map-append}
use Rattle.std.proofs.lemmas.List.Concat.{flat_map-append}
use Rattle.module_rules.specs.declared.module.Place.{Place}
use Rattle.binary_modules.specs.Initializers.{Expression}
use Rattle.binary_modules.specs.Items.{Initializer as ItemInitializer, Item, placed}
use Rattle.binary_modules.specs.Kept.{Adds, told, told_expression}
use Rattle.binary_modules.specs.declared.initializers.Initializers.{Initializers}

abbrev pub functions_in : Place × Expression → List ℕ
functions_in e = e.1.functions

pub adds_none : (v : Initializers) → Adds v [] v
adds_none v = record {
  expressions = sym (append-nil (map told v.expressions.items));
  functions = sym (append-nil v.functions.items);
}

pub adds_both : (a b c : Initializers) (first second : List (Place × Expression)) → Adds a first b → Adds b second c → Adds a (first ++ second) c
adds_both a b c first second h k = record {
  expressions =
      k.expressions
      ∙ ap (λ l. l ++ map told_expression second) h.expressions
      ∙ append_assoc (map told a.expressions.items) (map told_expression first) (map told_expression second)
      ∙ ap (λ l. map told a.expressions.items ++ l) (sym (map-append told_expression first second));
  functions =
      k.functions
      ∙ ap (λ l. l ++ flat_map functions_in second) h.functions
      ∙ append_assoc a.functions.items (flat_map functions_in first) (flat_map functions_in second)
      ∙ ap (λ l. a.functions.items ++ l) (sym (flat_map-append functions_in first second));
}

pub placed_more : {A : Type 0} (i : ℕ) (items : List (Item A)) (x : Item A) → placed i items ++ placed (i + length items) (x ∷ []) ≡ placed i (items ++ x ∷ [])
placed_more i [] x = ap (λ n. placed n (x ∷ [])) (add-zero i)
placed_more i (y ∷ items) x =
    let here = map (λ (v : ItemInitializer). (v.place i, v.expression)) y.initializers in
    let next : i + length (y ∷ items) ≡ (i + 1) + length items = omega arith in
    append_assoc here (placed (i + 1) items) (placed (i + length (y ∷ items)) (x ∷ []))
    ∙ ap (λ n. here ++ (placed (i + 1) items ++ placed n (x ∷ []))) next
    ∙ ap (λ l. here ++ l) (placed_more (i + 1) items x)
