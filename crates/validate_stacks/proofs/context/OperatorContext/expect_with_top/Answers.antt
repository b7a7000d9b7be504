use Rattle.std.proofs.Common.{rules, ◌&&◌, ap, ap₂, ◌∙◌}
use Rattle.validate_stacks.specs.Pops.{has_operands_fitting}
use Rattle.validate_stacks.specs.State.{body_context}
use Rattle.validate_stacks.specs.AtOnce.{body_dropped}
use Rattle.validate_stacks.proofs.MatchedOperands.{under_next}
use Rattle.validate_stacks.proofs.Moves.{dropped_below}
use Rattle.validate_stacks.proofs.context.OperatorContext.expect_with_top.Goals as goal

pub returns-in_err-expect_among-clause-unfit : goal.returns-in_err-expect_among-clause-unfit
returns-in_err-expect_among-clause-unfit g c =
    let cx = body_context (g.R.WasmModuleResources.context c.args.self.now.resources.now) c.args.self.now.stacks.now.body in
    let below = body_dropped c.args.above c.args.self.now.stacks.now.body in
    let under = c.args.under.now in
    let unfit = under_next cx under c.args.top below ∙ ap (λ b. b && has_operands_fitting cx under (body_dropped 1 below)) c.in_err-expect_among.ensures.unfit in
    search (rules, unfit)

pub returns-clause-fit : goal.returns-clause-fit
returns-clause-fit g c =
    let v = c.args.self.now.stacks.now.body in
    let cx = body_context (g.R.WasmModuleResources.context c.args.self.now.resources.now) v in
    let under = c.args.under.now in
    let same = under_next cx under c.args.top (body_dropped c.args.above v) ∙ ap₂ (λ p w. p && has_operands_fitting cx under w) c.in_ok-expect_among.ensures.fit (dropped_below 1 c.args.above v) in
    search (rules, same, c.expect_among-2.ensures.fit)

pub returns-clause-unfit : goal.returns-clause-unfit
returns-clause-unfit g c =
    let v = c.args.self.now.stacks.now.body in
    let cx = body_context (g.R.WasmModuleResources.context c.args.self.now.resources.now) v in
    let under = c.args.under.now in
    let same = under_next cx under c.args.top (body_dropped c.args.above v) ∙ ap₂ (λ p w. p && has_operands_fitting cx under w) c.in_ok-expect_among.ensures.fit (dropped_below 1 c.args.above v) in
    search (rules, same, c.expect_among-2.ensures.unfit)
