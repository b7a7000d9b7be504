-- The operator passes and leaves a frame open, or nothing is changed.
use Rattle.validate_operators.specs.Validator.{stacks_of}
use Rattle.module_check.proofs.Turned.{turned_open, turn_refused}
use Rattle.module_check.proofs.common.open_turn.Goals as goal

pub returns-then-passes : goal.returns-then-passes
returns-then-passes g c =
    turned_open (g.R.WasmModuleResources.context c.args.resources.now) c.passes.result c.args.reader.now c.passes.new.reader (stacks_of c.args.v.now) (stacks_of c.passes.new.v) c.passes.ensures.passed (λ passed. c.passes.ensures.open passed c.requires.closes_none) c.if-passes.true

pub returns-else-passes : goal.returns-else-passes
returns-else-passes g c =
    turn_refused (g.R.WasmModuleResources.context c.args.resources.now) c.passes.result c.args.reader.now c.passes.new.reader (stacks_of c.args.v.now) (stacks_of c.passes.new.v) c.passes.ensures.passed c.if-passes.false
