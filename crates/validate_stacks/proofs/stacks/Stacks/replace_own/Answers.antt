use Rattle.std.proofs.Common.{◌≡◌, ◌-◌, ◌+◌, [], ◌≢◌, sym, ◌∙◌, ap, subst, arith}
use Rattle.validate_stacks.specs.AtOnce.{body_dropped}
use Rattle.validate_stacks.specs.State.{BodyState}
use Rattle.validate_stacks.specs.Steps.{innermost_operands, body_popped, body_pushed}
use Rattle.validate_stacks.proofs.AtOnce.{some_left, dropped_next, dropped_none, match_made}
use Rattle.validate_stacks.proofs.stacks.Stacks.replace_own.Goals as goal

pub returns-then-count-eq0-clause-exact : goal.returns-then-count-eq0-clause-exact
returns-then-count-eq0-clause-exact c =
    let v = c.args.self.now.body in
    let none : c.args.count ≡ 0 = omega (arith, c.if-count-eq0.true) in
    let same : v ≡ body_dropped c.args.count v = sym (ap (λ j. body_dropped j v) none ∙ dropped_none v) in
    match_made _ c.push_at_once.result (λ e. e ∙ ap (body_pushed c.args.pushed) same) c.push_at_once.ensures.exact

pub replace_operand-requires-clause-own : goal.replace_operand-requires-clause-own
replace_operand-requires-clause-own c =
    subst (λ (w : BodyState). innermost_operands w.present.frames ≢ []) (sym c.drop_operands.ensures.dropped) (some_left (c.args.count - 1) c.args.self.now.body (omega (arith, c.requires.own, c.if-count-eq0.false)))

pub returns-clause-exact : goal.returns-clause-exact
returns-clause-exact c =
    let v = c.args.self.now.body in
    let back : c.args.count - 1 + 1 ≡ c.args.count = omega (arith, c.if-count-eq0.false) in
    c.replace_operand.ensures.replaced ∙ ap (λ u. body_pushed c.args.pushed (body_popped u)) c.drop_operands.ensures.dropped ∙ ap (body_pushed c.args.pushed) (dropped_next (c.args.count - 1) v ∙ ap (λ j. body_dropped j v) back)
