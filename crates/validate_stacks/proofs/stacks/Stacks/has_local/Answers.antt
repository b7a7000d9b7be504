use Rattle.std.proofs.Common.{Some, sym, ap, ◌∙◌}
use Rattle.std.specs.Option.{option_copied}
use Rattle.validate_stacks.proofs.stacks.Stacks.has_local.Goals as goal

pub returns-in-Some-clause-found : goal.returns-in-Some-clause-found
returns-in-Some-clause-found c = λ h.
    sym c.own_operand.ensures ∙ ap option_copied c.in-Some.is ∙ ap Some (c.is_same_number.ensures h ∙ c.operand.ensures)
