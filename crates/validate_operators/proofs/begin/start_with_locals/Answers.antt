use Rattle.std.proofs.Common.{arith, rules, ◌≡◌, false}
use Rattle.validate_operators.specs.Validator.{state}
use Rattle.validate_operators.specs.Begin.{CannotBegin}
use Rattle.validate_operators.proofs.Locals.{one_local_more, bad_group}
use Rattle.validate_operators.proofs.begin.start_with_locals.Goals as goal

pub loop-local-preserved : goal.loop-local-preserved
loop-local-preserved g c =
    let md = g.R.WasmModuleResources.context c.args.resources.now in
    record {
      starting = c.define_locals.ensures.starting;
      has_locals = one_local_more md c.args.features.now c.args.kind c.args.locals.now c.loop-local.local-index _ (state c.loop-local.v) (state c.define_locals.new.self) (omega arith) c.loop-local.invariant.has_locals c.in_ok-define_locals.ensures.defined;
    }

pub returns-in_err-define_locals-clause-refused : goal.returns-in_err-define_locals-clause-refused
returns-in_err-define_locals-clause-refused g c =
    let md = g.R.WasmModuleResources.context c.args.resources.now in
    let e = c.in_err-define_locals in
    let bad : e.field-0.0.wants_memory ≡ false → CannotBegin md c.args.features.now c.args.kind c.args.offset c.args.locals.now e.field-0.0.offset =
    λ memory. bad_group md c.args.features.now c.args.kind c.args.offset c.args.locals.now c.loop-local.local-index _ (state c.loop-local.v) e.field-0.0.offset c.loop-local-test.true c.loop-local.invariant.has_locals e.ensures.offset (e.ensures.refused memory) in
    search (rules, bad)
