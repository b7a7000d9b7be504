-- What was read and accepted is the code of the body; where something isn't, the bytes are none.
use Rattle.std.proofs.Common.{inl, inr}
use Rattle.std.proofs.lemmas.Result.{err_from_is_err_and}
use Rattle.validate_operators.specs.Validator.{state}
use Rattle.module_check.specs.Constant.{may_stand}
use Rattle.module_check.proofs.Begun.{function_code, expression_code, no_groups, function_fault, expression_fault}
use Rattle.module_check.proofs.body.check_body_from.Goals as goal

pub returns-in_ok-check_operators-in-Function-clause-accepted : goal.returns-in_ok-check_operators-in-Function-clause-accepted
returns-in_ok-check_operators-in-Function-clause-accepted g c = λ features starts.
    let defined = c.in_ok-define_locals-in-Function.ensures in
    function_code (g.R.WasmModuleResources.context c.args.context.now.resources.now) features c.args.context.now.types (may_stand c.args.context.now.constant) (state c.args.v.now)
    (state c.define_locals.new.v) c.args.reader.now.left c.define_locals.new.reader.left c.args.kind c.in-Function.field-0
    c.in-Function.is starts defined.defined defined.starting c.in_ok-check_operators-in-Function.ensures.accepted

pub returns-in_ok-check_operators-in-Expression-clause-accepted : goal.returns-in_ok-check_operators-in-Expression-clause-accepted
returns-in_ok-check_operators-in-Expression-clause-accepted g c = λ features starts.
    expression_code (g.R.WasmModuleResources.context c.args.context.now.resources.now) features c.args.context.now.types (may_stand c.args.context.now.constant) (state c.args.v.now)
    c.args.reader.now.left c.args.kind c.in-Expression.field-0 c.in-Expression.is starts c.requires
    c.in_ok-check_operators-in-Expression.ensures.accepted

pub returns-in_err-define_locals-in-Function-clause-fault : goal.returns-in_err-define_locals-in-Function-clause-fault
returns-in_err-define_locals-in-Function-clause-fault g c =
    let p = err_from_is_err_and c.from_residual.result c.from_residual.ensures.1 in
    rw (p.1, p.2) (λ refusal features starts. inl (
      c.in_err-define_locals-in-Function.ensures.covered,
      no_groups (g.R.WasmModuleResources.context c.args.context.now.resources.now) features c.args.context.now.types (may_stand c.args.context.now.constant) (state c.args.v.now) (state c.args.v.now)
          c.args.reader.now.left c.args.reader.now.left c.args.kind c.in-Function.field-0 c.in-Function.is starts (c.in_err-define_locals-in-Function.ensures.refused refusal),
    ))

pub returns-in_err-check_operators-in-Function-clause-fault : goal.returns-in_err-check_operators-in-Function-clause-fault
returns-in_err-check_operators-in-Function-clause-fault g c =
    let p = err_from_is_err_and c.from_residual-in_err-check_operators-in-Function.result c.from_residual-in_err-check_operators-in-Function.ensures.1 in
    rw (p.1, p.2) (λ refusal features starts. inr (
    function_fault (g.R.WasmModuleResources.context c.args.context.now.resources.now) features c.args.context.now.types (may_stand c.args.context.now.constant) (state c.args.v.now) (state c.define_locals.new.v)
    c.args.reader.now.left c.define_locals.new.reader.left c.args.kind c.in-Function.field-0 _ _ _ c.in-Function.is c.end_of.ensures starts c.in_ok-define_locals-in-Function.ensures.defined
    c.in_err-check_operators-in-Function.ensures.fault))

pub returns-in_err-check_operators-in-Expression-clause-fault : goal.returns-in_err-check_operators-in-Expression-clause-fault
returns-in_err-check_operators-in-Expression-clause-fault g c =
    let p = err_from_is_err_and c.from_residual-in_err-check_operators-in-Expression.result c.from_residual-in_err-check_operators-in-Expression.ensures.1 in
    rw (p.1, p.2) (λ refusal features starts. inr (
    expression_fault (g.R.WasmModuleResources.context c.args.context.now.resources.now) features c.args.context.now.types (may_stand c.args.context.now.constant) (state c.args.v.now)
    c.args.reader.now.left c.args.kind c.in-Expression.field-0 _ _ _ c.in-Expression.is c.end_of.ensures starts c.in_err-check_operators-in-Expression.ensures.fault))
