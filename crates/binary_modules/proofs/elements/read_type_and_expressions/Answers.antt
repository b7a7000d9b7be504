-- The items are those behind their type, or none are.
use Rattle.std.proofs.Common.{ap, ◌∙◌}
use Rattle.std.proofs.lemmas.Result.{err_from_is_err_and}
use Rattle.std.specs.Option.{option_and_then}
use Rattle.std.specs.Prelude.{ℕ, List}
use Rattle.validate_types.specs.declared.refs.RefType.{RefType}
use Rattle.binary_modules.specs.Segments.{expression_items, type_and_expressions}
use Rattle.binary_modules.proofs.Unreadable.{no_expressions}
use Rattle.binary_modules.proofs.elements.read_type_and_expressions.Goals as goal

pub returns-clause-read : goal.returns-clause-read
unfolding type_and_expressions
returns-clause-read c =
    let e = c.in_ok-items.ensures.read in (
      e.0,
      ap (λ o. option_and_then (λ (ty : RefType × List ℕ). expression_items ty.0 c.args.canonical ty.1) o) c.in_ok-ty.ensures.read
          ∙ e.1,
      e.2,
      e.3,
    )

pub returns-in_err-items-clause-refused : goal.returns-in_err-items-clause-refused
returns-in_err-items-clause-refused c =
    let p = err_from_is_err_and c.from_residual-in_err-items.result c.from_residual-in_err-items.ensures.1 in
    rw (p.1, p.2) (λ short. no_expressions c.args.canonical c.args.reader.now.left c.read_ref_type.new.reader.left c.in_ok-ty.ty c.in_ok-ty.ensures.read (c.in_err-items.ensures.refused short))
