use Rattle.std.proofs.Common.{sym}
use Rattle.validate_stacks.proofs.stacks.Stacks.is_fitting_at.Goals as goal

pub returns-then-is_number_at : goal.returns-then-is_number_at
returns-then-is_number_at g c = sym (c.is_number_at.ensures c.if-is_number_at.true)
