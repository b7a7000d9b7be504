-- The table, and the offset in it.
use Rattle.std.proofs.Common.{rules, refl, ◌∷◌, []}
use Rattle.module_rules.specs.declared.module.Place.TheVariants.{ElementOffset}
use Rattle.module_rules.specs.declared.segments.ElementKind.TheVariants.{Active}
use Rattle.binary_modules.specs.Segments.{active_elements}
use Rattle.binary_modules.proofs.elements.read_active_elements.Goals as goal

pub returns-clause-read : goal.returns-clause-read
unfolding active_elements
returns-clause-read c =
    let e = c.in_ok-read.ensures.read in (
      record {
        kind = Active c.in_ok-table_index.table_index;
        initializers = record { place = λ i. ElementOffset i; expression = e.0 } ∷ [];
      },
      search rules,
      refl,
      e.2,
    )
