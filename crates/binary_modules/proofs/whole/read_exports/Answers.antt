-- There are none before.
use Rattle.std.proofs.Common.{ap, ◌∙◌, ◌++◌, map}
use Rattle.std.proofs.lemmas.Result.{err_from_is_err_and}
use Rattle.module_rules.specs.Exported.{Exported}
use Rattle.binary_modules.specs.Items.{declared_items}
use Rattle.binary_modules.proofs.whole.read_exports.Goals as goal

pub returns-clause-read : goal.returns-clause-read
returns-clause-read c =
    let e = c.in_ok-read_plain_section.ensures.read in (
      e.0,
      record {
        are_read = e.1.are_read;
        are_behind =
            e.1.are_behind
            ∙ ap (λ l. map (λ (x : Exported). record x { offset = 0 }) l ++ declared_items e.0) c.new-exports.ensures.items;
      },
    )

pub returns-in_err-read_plain_section-clause-refused : goal.returns-in_err-read_plain_section-clause-refused
returns-in_err-read_plain_section-clause-refused c =
    let p = err_from_is_err_and c.from_residual.result c.from_residual.ensures.1 in
    rw (p.1, p.2) (λ short read. c.in_err-read_plain_section.ensures.refused short read)
