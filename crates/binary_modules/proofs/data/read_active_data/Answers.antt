-- The memory, and the offset in it.
use Rattle.std.proofs.Common.{rules, refl, ◌∷◌, []}
use Rattle.module_rules.specs.declared.module.Place.TheVariants.{DataOffset}
use Rattle.module_rules.specs.declared.segments.DataKind.TheVariants.{Active}
use Rattle.binary_modules.specs.Segments.{active_data}
use Rattle.binary_modules.proofs.data.read_active_data.Goals as goal

pub returns-clause-read : goal.returns-clause-read
unfolding active_data
returns-clause-read c =
    let e = c.in_ok-read.ensures.read in (
      record {
        kind = Active c.in_ok-memory_index.memory_index;
        initializers = record { place = λ i. DataOffset i; expression = e.0 } ∷ [];
      },
      search rules,
      refl,
      e.2,
    )
