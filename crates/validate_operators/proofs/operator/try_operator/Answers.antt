use Rattle.validation_rules.specs.Operators.{operator}
use Rattle.validate_operators.proofs.LeftParts.{told_back, told_meets}
use Rattle.validate_operators.proofs.operator.try_operator.Goals as goal

pub returns-clause-row : goal.returns-clause-row
returns-clause-row g c =
    told_meets (g.R.WasmModuleResources.context c.args.resources.now) (λ cx. operator cx c.args.op.now) c.args.stacks.now c.operator_by_call-answer.new.context.0 c.args.offset c.operator_by_call-answer.result c.placed.result c.operator_by_call-answer.ensures.row c.requires.valid c.placed.ensures.same c.placed.ensures.refused c.placed.ensures.offset

pub returns-clause-back : goal.returns-clause-back
returns-clause-back g c =
    told_back (g.R.WasmModuleResources.context c.args.resources.now) (λ cx. operator cx c.args.op.now) c.args.stacks.now c.operator_by_call-answer.new.context.0 c.args.offset c.operator_by_call-answer.result c.placed.result c.operator_by_call-answer.ensures.row c.placed.ensures.same
