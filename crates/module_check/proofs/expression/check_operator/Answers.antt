-- The operator is constant, and its row doesn't hold.
use Rattle.std.proofs.Common.{inl, inr}
use Rattle.std.proofs.lemmas.Result.{err_from_is_err_and}
use Rattle.validation_rules.specs.Operators.{operator}
use Rattle.validate_operators.specs.Validator.{state}
use Rattle.module_check.proofs.Behind.{refused_for}
use Rattle.module_check.proofs.Turned.{fails}
use Rattle.module_check.proofs.expression.check_operator.Goals as goal

pub returns-in_err-check_ref-clause-refused : goal.returns-in_err-check_ref-clause-refused
returns-in_err-check_ref-clause-refused g c =
    let p = err_from_is_err_and c.from_residual-in_err-check_ref.result c.from_residual-in_err-check_ref.ensures.1 in
    rw (p.1, p.2) (λ refusal.
    let row = fails (g.R.WasmModuleResources.context c.args.resources.now) (λ cx. operator cx c.args.op.now) c.args.offset (state c.args.v.now) (state c.check_ref.new.self) c.in_err-check_ref.field-0.0
    c.in_err-check_ref.ensures.row refusal in
    (inr row.0, row.1))

pub returns-in_err-check_constant-clause-refused : goal.returns-in_err-check_constant-clause-refused
returns-in_err-check_constant-clause-refused g c =
    let p = err_from_is_err_and c.from_residual.result c.from_residual.ensures.1 in
    rw (p.1, p.2) (refused_for _ _ c.args.offset _ inl c.in_err-check_constant.ensures.refused)
