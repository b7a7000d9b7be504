-- The bytes are read by the module's types, under its proposals.
use Rattle.std.proofs.Common.{sym, ◌∙◌}
use Rattle.module_rules.specs.Features.{operator_features}
use Rattle.module_check.specs.Constant.{may_stand}
use Rattle.module_check.specs.Loaded.{declared}
use Rattle.module_check.proofs.Wherever.{wherever}
use Rattle.module_check.proofs.loaded.LoadedModule.check_bytes.Goals as goal

pub returns-clause-accepted : goal.returns-clause-accepted
returns-clause-accepted c = λ accepted.
    let code = c.check_body.ensures.accepted accepted in
    (c.types-types.result, c.types-types.ensures, rw (c.operator_features-features.ensures, c.duplicate-reader.ensures) at code)

pub returns-clause-refused : goal.returns-clause-refused
returns-clause-refused c = λ refused memory types are a.
    let none = c.check_body.ensures.refused refused memory in
    let there = rw (c.operator_features-features.ensures, c.duplicate-reader.ensures) at none in
    there (wherever (declared c.args.self.now) (operator_features c.args.self.now.features) c.args.kind (may_stand c.args.constant) c.args.bytes.now.left types c.types-types.result
    (are.canonical ∙ sym c.types-types.ensures.canonical) (are.behind ∙ sym c.types-types.ensures.behind) a)

pub returns-clause-uncovered : goal.returns-clause-uncovered
returns-clause-uncovered c = λ offset uncovered.
    let code = c.check_body.ensures.uncovered offset uncovered in
    (c.types-types.result, c.types-types.ensures, rw (c.operator_features-features.ensures, c.duplicate-reader.ensures) at code)

pub returns-clause-malformed : goal.returns-clause-malformed
returns-clause-malformed c = λ error malformed.
    let code = c.check_body.ensures.malformed error malformed in
    (c.types-types.result, c.types-types.ensures, rw (c.operator_features-features.ensures, c.duplicate-reader.ensures) at code)

pub returns-clause-invalid : goal.returns-clause-invalid
returns-clause-invalid c = λ error refused.
    let code = c.check_body.ensures.invalid error refused in
    (c.types-types.result, c.types-types.ensures, rw (c.operator_features-features.ensures, c.duplicate-reader.ensures) at code)
