-- The table, and its constant expression. Another byte than 0x00 is ahead of no table.
use Rattle.std.proofs.Common.{rules, refl, ◌∷◌, [], ne_eqb}
use Rattle.module_rules.specs.declared.module.Place.TheVariants.{Table}
use Rattle.binary_modules.specs.Items.{initialized_table}
use Rattle.binary_modules.proofs.Unreadable.{no_reserved}
use Rattle.binary_modules.proofs.owned.read_initialized_table.Goals as goal

pub returns-clause-read : goal.returns-clause-read
unfolding initialized_table
returns-clause-read c =
    let e = c.in_ok-read.ensures.read in (
      record {
        declared = record c.in_ok-table.table { offset = 0 };
        initializers = record { place = λ i. Table i; expression = e.0 } ∷ [];
      },
      search rules,
      refl,
      e.2,
    )

pub returns-then-reserved-ne0-clause-refused : goal.returns-then-reserved-ne0-clause-refused
returns-then-reserved-ne0-clause-refused c = λ short.
    let reserved = c.in_ok-reserved.reserved in
    no_reserved c.args.canonical c.args.reader.now.left c.read_u8.new.self.left reserved c.in_ok-reserved.ensures.read (ne_eqb reserved 0 c.if-reserved-ne0.true)
