use Rattle.validate_operators.proofs.Params.{starting_const}
use Rattle.validate_operators.proofs.validator.OperatorValidator.start_const_expr.Goals as goal

pub returns-clause-starting : goal.returns-clause-starting
returns-clause-starting c =
    starting_const c.args.features.now c.args.ty c.open_outermost.result c.restart.new.self.body c.open_outermost.new.stacks.body c.restart.ensures c.open_outermost.ensures.opened
