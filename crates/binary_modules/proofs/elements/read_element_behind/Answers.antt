-- The constant expressions of the items stand behind that of the offset. Without items there is no segment.
use Rattle.std.proofs.Common.{ap, subst, sym, ◌∙◌, ◌++◌, List, ℕ, Some, append-nil}
use Rattle.std.specs.Option.{option_and_then}
use Rattle.std.proofs.lemmas.List.{map-append}
use Rattle.std.proofs.lemmas.Result.{err_from_is_err_and}
use Rattle.module_rules.specs.declared.module.Place.{Place}
use Rattle.module_rules.specs.declared.segments.Element.{Element}
use Rattle.module_rules.specs.declared.segments.ElementKind.{ElementKind}
use Rattle.binary_modules.specs.Initializers.{Expression}
use Rattle.binary_modules.specs.Items.{Initializer, Item, placed_at}
use Rattle.binary_modules.specs.Kept.{Adds}
use Rattle.binary_modules.specs.Segments.{Target, Listed, element_items, element_behind}
use Rattle.binary_modules.proofs.Added.{adds_both}
use Rattle.binary_modules.proofs.Unreadable.{no_items}
use Rattle.binary_modules.proofs.elements.read_element_behind.Goals as goal

pub returns-clause-read : goal.returns-clause-read
unfolding element_behind
returns-clause-read c =
    let t = c.in_ok-kind.ensures.read in
    let l = c.in_ok-items.ensures.read in
    let index = c.args.head.index in
    let Q : List (Place × Expression) → Type 0 = λ x. Adds c.args.initializers.now x c.read_element_items.new.initializers in
    let at = λ (v : Initializer). (let p : Place × Expression = (v.place index, v.expression) in p) in
    let segment = λ (target : Target ElementKind) (listed : Listed × List ℕ). (
    let read : Item Element × List ℕ = (
      record {
        declared = record { kind = target.kind; items = listed.0.items; offset = 0 };
        initializers = target.initializers ++ listed.0.initializers;
      },
      listed.1,
    ) in read) in (
      (segment t.0 (l.0, c.read_element_items.new.reader.left)).0,
      ap (λ o. option_and_then {U = Item Element × List ℕ} (λ (target : Target ElementKind × List ℕ). option_and_then {U = Item Element × List ℕ} (λ (listed : Listed × List ℕ). Some (segment target.0 listed)) (element_items c.args.head.flags c.args.canonical target.1)) o) t.1
          ∙ ap (λ o. option_and_then {U = Item Element × List ℕ} (λ (listed : Listed × List ℕ). Some (segment t.0 listed)) o) l.1,
      ap (λ k. record { kind = k; items = l.0.items; offset = 0 }) t.2
          ∙ ap (λ i. record { kind = c.in_ok-kind.kind; items = i; offset = 0 }) l.2,
      subst Q (sym (append-nil (placed_at index (t.0.initializers ++ l.0.initializers)) ∙ map-append at t.0.initializers l.0.initializers))
          (adds_both c.args.initializers.now c.read_element_target.new.initializers c.read_element_items.new.initializers (placed_at index t.0.initializers) (placed_at index l.0.initializers) t.3 l.3),
    )

pub returns-in_err-items-clause-refused : goal.returns-in_err-items-clause-refused
returns-in_err-items-clause-refused c =
    let p = err_from_is_err_and c.from_residual-in_err-items.result c.from_residual-in_err-items.ensures.1 in
    let t = c.in_ok-kind.ensures.read in
    rw (p.1, p.2) (λ short. no_items c.args.head.flags c.args.canonical c.args.reader.now.left c.read_element_target.new.reader.left t.0 t.1 (c.in_err-items.ensures.refused short))
