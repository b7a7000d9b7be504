-- What stands there is a constant expression, or a body behind them all.
use Rattle.std.proofs.Common.{◌≤◌, ◌<◌, ◌-◌, ap, get_or, length, subst, ◌∙◌}
use Rattle.module_check.proofs.Counted.{accepted_body, accepted_there}
use Rattle.module_check.proofs.Row.{body_stands, expression_stands, safe_there}
use Rattle.module_check.proofs.items.check_item.Goals as goal

pub returns-in-Some-clause-safe : goal.returns-in-Some-clause-safe
returns-in-Some-clause-safe c accepted =
    let place = c.args.place in
    let listed = c.expressions-expressions.ensures in
    let found = c.in-Some.ensures.lookup in
    safe_there c.args.module.now place (expression_stands c.args.module.now _ _ place c.in-Some.expression.now (subst (λ n. place < n) (ap length listed) found.3.0) (found.1 ∙ ap (λ es. get_or es place c.in-Some.expression.now) listed) (c.check_expression.ensures.safe accepted))

pub returns-in-Some-clause-refused : goal.returns-in-Some-clause-refused
returns-in-Some-clause-refused c refused memory =
    let place = c.args.place in
    let listed = c.expressions-expressions.ensures in
    let found = c.in-Some.ensures.lookup in
    expression_stands c.args.module.now _ _ place c.in-Some.expression.now (subst (λ n. place < n) (ap length listed) found.3.0) (found.1 ∙ ap (λ es. get_or es place c.in-Some.expression.now) listed) (c.check_expression.ensures.refused refused memory)

pub returns-in-Some-clause-uncovered : goal.returns-in-Some-clause-uncovered
returns-in-Some-clause-uncovered c offset uncovered =
    let place = c.args.place in
    let listed = c.expressions-expressions.ensures in
    let found = c.in-Some.ensures.lookup in
    expression_stands c.args.module.now _ _ place c.in-Some.expression.now (subst (λ n. place < n) (ap length listed) found.3.0) (found.1 ∙ ap (λ es. get_or es place c.in-Some.expression.now) listed) (c.check_expression.ensures.uncovered offset uncovered)

pub returns-in-Some-clause-malformed : goal.returns-in-Some-clause-malformed
returns-in-Some-clause-malformed c error malformed =
    let place = c.args.place in
    let listed = c.expressions-expressions.ensures in
    let found = c.in-Some.ensures.lookup in
    expression_stands c.args.module.now _ _ place c.in-Some.expression.now (subst (λ n. place < n) (ap length listed) found.3.0) (found.1 ∙ ap (λ es. get_or es place c.in-Some.expression.now) listed) (c.check_expression.ensures.malformed error malformed)

pub returns-in-Some-clause-invalid : goal.returns-in-Some-clause-invalid
returns-in-Some-clause-invalid c error invalid =
    let place = c.args.place in
    let listed = c.expressions-expressions.ensures in
    let found = c.in-Some.ensures.lookup in
    expression_stands c.args.module.now _ _ place c.in-Some.expression.now (subst (λ n. place < n) (ap length listed) found.3.0) (found.1 ∙ ap (λ es. get_or es place c.in-Some.expression.now) listed) (error.offset, c.check_expression.ensures.invalid error invalid)

pub returns-in-Some-clause-unaccepted : goal.returns-in-Some-clause-unaccepted
returns-in-Some-clause-unaccepted c _ refused memory accepted =
    let place = c.args.place in
    let listed = c.expressions-expressions.ensures in
    let found = c.in-Some.ensures.lookup in
    c.check_expression.ensures.refused refused memory (accepted_there c.args.module.now place c.in-Some.expression.now (subst (λ n. place < n) (ap length listed) found.3.0) (found.1 ∙ ap (λ es. get_or es place c.in-Some.expression.now) listed) accepted)

pub returns-in-None-clause-safe : goal.returns-in-None-clause-safe
returns-in-None-clause-safe c accepted =
    let place = c.args.place in
    let count = ap length c.expressions-expressions.ensures in
    safe_there c.args.module.now place (body_stands c.args.module.now _ _ place _ _ (subst (λ n. n ≤ place) count c.in-None.ensures.lookup.3) (c.saturating_sub.ensures ∙ ap (λ n. place - n) count) c.function_of-function.ensures (c.check_function.ensures.safe accepted))

pub returns-in-None-clause-refused : goal.returns-in-None-clause-refused
returns-in-None-clause-refused c refused memory =
    let place = c.args.place in
    let count = ap length c.expressions-expressions.ensures in
    body_stands c.args.module.now _ _ place _ _ (subst (λ n. n ≤ place) count c.in-None.ensures.lookup.3) (c.saturating_sub.ensures ∙ ap (λ n. place - n) count) c.function_of-function.ensures (c.check_function.ensures.refused refused memory)

pub returns-in-None-clause-uncovered : goal.returns-in-None-clause-uncovered
returns-in-None-clause-uncovered c offset uncovered =
    let place = c.args.place in
    let count = ap length c.expressions-expressions.ensures in
    body_stands c.args.module.now _ _ place _ _ (subst (λ n. n ≤ place) count c.in-None.ensures.lookup.3) (c.saturating_sub.ensures ∙ ap (λ n. place - n) count) c.function_of-function.ensures (c.check_function.ensures.uncovered offset uncovered)

pub returns-in-None-clause-malformed : goal.returns-in-None-clause-malformed
returns-in-None-clause-malformed c error malformed =
    let place = c.args.place in
    let count = ap length c.expressions-expressions.ensures in
    body_stands c.args.module.now _ _ place _ _ (subst (λ n. n ≤ place) count c.in-None.ensures.lookup.3) (c.saturating_sub.ensures ∙ ap (λ n. place - n) count) c.function_of-function.ensures (c.check_function.ensures.malformed error malformed)

pub returns-in-None-clause-invalid : goal.returns-in-None-clause-invalid
returns-in-None-clause-invalid c error invalid =
    let place = c.args.place in
    let count = ap length c.expressions-expressions.ensures in
    body_stands c.args.module.now _ _ place _ _ (subst (λ n. n ≤ place) count c.in-None.ensures.lookup.3) (c.saturating_sub.ensures ∙ ap (λ n. place - n) count) c.function_of-function.ensures (error.offset, c.check_function.ensures.invalid error invalid)

pub returns-in-None-clause-unaccepted : goal.returns-in-None-clause-unaccepted
returns-in-None-clause-unaccepted c within refused memory accepted =
    let place = c.args.place in
    let count = ap length c.expressions-expressions.ensures in
    c.check_function.ensures.refused refused memory (accepted_body c.args.module.now place _ _ (subst (λ n. n ≤ place) count c.in-None.ensures.lookup.3) within (c.saturating_sub.ensures ∙ ap (λ n. place - n) count) c.function_of-function.ensures accepted)
