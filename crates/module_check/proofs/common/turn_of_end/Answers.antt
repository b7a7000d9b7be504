-- It passes, and frames are counted, or nothing is changed.
use Rattle.validate_operators.specs.Validator.{stacks_of}
use Rattle.module_check.proofs.Turned.{turn_closed, turn_open, turn_refused}
use Rattle.module_check.proofs.common.turn_of_end.Goals as goal

pub returns-then-not-passes : goal.returns-then-not-passes
returns-then-not-passes g c =
    turn_refused (g.R.WasmModuleResources.context c.args.resources.now) c.passes.result c.args.reader.now c.passes.new.reader (stacks_of c.args.v.now) (stacks_of c.passes.new.v) c.passes.ensures.passed c.if-not-passes.true

pub returns-then-control_stack_height-eq0 : goal.returns-then-control_stack_height-eq0
returns-then-control_stack_height-eq0 g c =
    turn_closed (g.R.WasmModuleResources.context c.args.resources.now) c.passes.result c.args.reader.now c.passes.new.reader (stacks_of c.args.v.now) (stacks_of c.passes.new.v) c.control_stack_height.result c.passes.ensures.passed c.if-not-passes.false c.control_stack_height.ensures c.if-control_stack_height-eq0.true

pub returns : goal.returns
returns g c =
    turn_open (g.R.WasmModuleResources.context c.args.resources.now) c.passes.result c.args.reader.now c.passes.new.reader (stacks_of c.args.v.now) (stacks_of c.passes.new.v) c.control_stack_height.result c.passes.ensures.passed c.if-not-passes.false c.control_stack_height.ensures c.if-control_stack_height-eq0.false
