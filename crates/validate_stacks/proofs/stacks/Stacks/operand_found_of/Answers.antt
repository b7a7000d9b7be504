use Rattle.std.proofs.Common.{◌∙◌}
use Rattle.validate_stacks.proofs.stacks.Stacks.operand_found_of.Goals as goal

pub returns-then-depth-own : goal.returns-then-depth-own
returns-then-depth-own c = c.copied.ensures ∙ c.own_operand.ensures
