-- The functions that `ref.func` may name (WebAssembly core specification, "Modules": the context's
-- references): those that a module names outside of its functions.
use Rattle.std.specs.Prelude.{ℕ, Bool, List, [], ◌∷◌, ◌++◌, ◌==◌}
use Rattle.std.specs.List.{list_any, flat_map}
use Rattle.module_rules.specs.Declarations.{Declarations}
use Rattle.module_rules.specs.Exported.{Exported}
use Rattle.module_rules.specs.declared.items.ExternalKind.{ExternalKind}
use Rattle.module_rules.specs.declared.items.ExternalKind.TheVariants.{Func}
use Rattle.module_rules.specs.declared.segments.Element.{Element}
use Rattle.module_rules.specs.declared.segments.ElementItems.{ElementItems}
use Rattle.module_rules.specs.declared.segments.ElementItems.TheVariants.{Functions, Expressions}

abbrev pub exported_functions : ExternalKind → ℕ → List ℕ
exported_functions Func i = i ∷ []
exported_functions _ i = []

abbrev pub listed_functions : ElementItems → List ℕ
listed_functions (Functions fs) = fs
listed_functions (Expressions ty count) = []

-- by an export, by an element segment, or by a constant expression
abbrev pub named_functions : Declarations → List ℕ
named_functions d =
    flat_map (λ (e : Exported). exported_functions e.kind e.index) d.exports
    ++ flat_map (λ (e : Element). listed_functions e.items) d.elements
    ++ d.expression_functions

abbrev pub is_referenced : Declarations → ℕ → Bool
is_referenced d f = list_any (λ i. i == f) (named_functions d)
