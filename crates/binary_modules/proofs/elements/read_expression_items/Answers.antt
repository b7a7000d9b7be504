-- As many expressions as are counted, each an item, or no list of them.
use Rattle.std.proofs.Common.{ap, subst, sym, List, length, map}
use Rattle.std.proofs.lemmas.Result.{err_from_is_err_and}
use Rattle.module_rules.specs.declared.module.Place.{Place}
use Rattle.module_rules.specs.declared.segments.ElementItems.TheVariants.{Expressions}
use Rattle.binary_modules.specs.Initializers.{Expression, expression}
use Rattle.binary_modules.specs.Kept.{Adds}
use Rattle.binary_modules.specs.Segments.{expression_items, expression_item, with_type}
use Rattle.binary_modules.proofs.Grouped.{so_many_length}
use Rattle.binary_modules.proofs.Listed.{list_is, placed_items}
use Rattle.binary_modules.proofs.Unreadable.{no_count, no_list, no_listed}
use Rattle.binary_modules.proofs.elements.read_expression_items.Goals as goal

pub returns-clause-read : goal.returns-clause-read
unfolding expression_items
returns-clause-read c =
    let e = c.in_ok-read_expressions.ensures.read in
    let values = e.0 in
    let rest = c.read_expressions.new.reader.left in
    let reading = expression c.args.canonical in
    let many = so_many_length reading c.in_ok-count.count c.read_var_u32.new.self.left values rest e.1 in
    let Q : List (Place × Expression) → Type 0 = λ l. Adds c.args.initializers.now l c.read_expressions.new.initializers in (
      record { items = Expressions c.args.ty (length values); initializers = map expression_item values },
      ap (λ o. with_type c.args.ty o) (list_is reading c.in_ok-count.count c.args.reader.now.left c.read_var_u32.new.self.left values rest c.in_ok-count.ensures.read e.1),
      ap (λ n. Expressions c.args.ty n) many,
      subst Q (sym (placed_items c.args.index values)) e.2,
    )

pub returns-in_err-count-clause-refused : goal.returns-in_err-count-clause-refused
returns-in_err-count-clause-refused c =
    let p = err_from_is_err_and c.from_residual.result c.from_residual.ensures.1 in
    rw (p.1, p.2) (λ short. no_listed c.args.ty c.args.canonical c.args.reader.now.left (no_count (expression c.args.canonical) c.args.reader.now.left c.in_err-count.ensures.refused))

pub returns-in_err-read_expressions-clause-refused : goal.returns-in_err-read_expressions-clause-refused
returns-in_err-read_expressions-clause-refused c =
    let p = err_from_is_err_and c.from_residual-in_err-read_expressions.result c.from_residual-in_err-read_expressions.ensures.1 in
    rw (p.1, p.2) (λ short. no_listed c.args.ty c.args.canonical c.args.reader.now.left (
    no_list (expression c.args.canonical) c.in_ok-count.count c.args.reader.now.left c.read_var_u32.new.self.left c.in_ok-count.ensures.read (c.in_err-read_expressions.ensures.refused short)))
