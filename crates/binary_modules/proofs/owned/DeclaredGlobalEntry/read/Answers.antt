-- The global, and its first value.
use Rattle.std.proofs.Common.{rules, refl, ◌∷◌, []}
use Rattle.module_rules.specs.declared.module.Place.TheVariants.{Global}
use Rattle.binary_modules.specs.Items.{global}
use Rattle.binary_modules.proofs.owned.DeclaredGlobalEntry.read.Goals as goal

pub returns-clause-read : goal.returns-clause-read
unfolding global
returns-clause-read c =
    let e = c.in_ok-read.ensures.read in (
      record {
        declared = record c.in_ok-global.global { offset = 0 };
        initializers = record { place = λ i. Global i; expression = e.0 } ∷ [];
      },
      search rules,
      refl,
      e.2,
    )
