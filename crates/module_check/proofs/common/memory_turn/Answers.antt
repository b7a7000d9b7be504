-- The operator passes and leaves a frame open, or nothing is changed.
use Rattle.validate_operators.specs.Validator.{stacks_of}
use Rattle.module_check.proofs.Turned.{turned_open, turn_refused}
use Rattle.module_check.proofs.common.memory_turn.Goals as goal

pub returns-then-passes_memory : goal.returns-then-passes_memory
returns-then-passes_memory g c =
    turned_open (g.R.WasmModuleResources.context c.args.resources.now) c.passes_memory.result c.args.reader.now c.passes_memory.new.reader (stacks_of c.args.v.now) (stacks_of c.passes_memory.new.v) c.passes_memory.ensures.passed c.passes_memory.ensures.open c.if-passes_memory.true

pub returns-else-passes_memory : goal.returns-else-passes_memory
returns-else-passes_memory g c =
    turn_refused (g.R.WasmModuleResources.context c.args.resources.now) c.passes_memory.result c.args.reader.now c.passes_memory.new.reader (stacks_of c.args.v.now) (stacks_of c.passes_memory.new.v) c.passes_memory.ensures.passed c.if-passes_memory.false
