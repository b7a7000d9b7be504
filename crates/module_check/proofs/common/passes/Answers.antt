-- The operator that is handed in passes at once, or nothing is changed.
use Rattle.validate_operators.specs.Validator.{stacks_of}
use Rattle.module_check.proofs.Turned.{at_once, not_at_once, open_at_once}
use Rattle.module_check.proofs.common.passes.Goals as goal

pub returns-then-passes_at_once-clause-passed : goal.returns-then-passes_at_once-clause-passed
returns-then-passes_at_once-clause-passed g c =
    at_once (g.R.WasmModuleResources.context c.args.resources.now) c.args.op c.args.reader.now c.args.rest (stacks_of c.args.v.now) (stacks_of c.passes_at_once.new.self) c.passes_at_once.result c.requires.like c.passes_at_once.ensures c.if-passes_at_once.true

pub returns-then-passes_at_once-clause-open : goal.returns-then-passes_at_once-clause-open
returns-then-passes_at_once-clause-open g c = λ passed none.
    open_at_once (g.R.WasmModuleResources.context c.args.resources.now) c.args.op (stacks_of c.args.v.now) (stacks_of c.passes_at_once.new.self) c.passes_at_once.result c.requires.visit none c.passes_at_once.ensures c.if-passes_at_once.true

pub returns-clause-passed : goal.returns-clause-passed
returns-clause-passed g c =
    not_at_once (g.R.WasmModuleResources.context c.args.resources.now) c.args.op c.args.reader.now (stacks_of c.args.v.now) (stacks_of c.passes_at_once.new.self) c.passes_at_once.result c.passes_at_once.ensures c.if-passes_at_once.false
