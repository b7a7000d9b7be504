use Rattle.std.proofs.Common.{rules, arith, replicate, sym, ap, ◌∙◌}
use Rattle.std.proofs.lemmas.List.{length-replicate}
use Rattle.validate_stacks.specs.Pops.{body_popped_each, body_pushed_each}
use Rattle.validate_stacks.proofs.Moves.{popped, not_taken, not_popped}
use Rattle.validate_stacks.proofs.PopRuns.{on_err, reverse-replicate}
use Rattle.validate_stacks.proofs.context.OperatorContext.pop_run.Goals as goal

pub returns-in_err-expect_run-clause-exchanged : goal.returns-in_err-expect_run-clause-exchanged
returns-in_err-expect_run-clause-exchanged g c =
    let md = g.R.WasmModuleResources.context c.args.self.resources.now in
    not_taken md _ (replicate c.args.n c.args.elem) (body_pushed_each c.args.pushed.now) c.args.self.stacks.now _ c.requires.visit.open_frame (search rules) c.in_err-expect_run.ensures.unfit

pub returns-in_err-expect_run-clause-idle : goal.returns-in_err-expect_run-clause-idle
returns-in_err-expect_run-clause-idle g c idle none =
    let md = g.R.WasmModuleResources.context c.args.self.resources.now in
    let v = c.args.self.stacks.now.body in
    on_err _ (ap (λ ws. body_popped_each md ws v) (sym (reverse-replicate c.args.n c.args.elem)) ∙ not_popped md (replicate c.args.n c.args.elem) v c.requires.visit.open_frame c.in_err-expect_run.ensures.unfit)

pub returns-clause-exchanged : goal.returns-clause-exchanged
returns-clause-exchanged g c =
    let md = g.R.WasmModuleResources.context c.args.self.resources.now in
    popped md _ (replicate c.args.n c.args.elem) (body_pushed_each c.args.pushed.now) c.args.self.stacks.now _ c.min.result c.exchange.result c.in_ok-expect_run.ensures.fit (omega (arith, c.min.ensures, c.own_operand_count-own.ensures, length-replicate c.args.n c.args.elem)) c.exchange.ensures.told c.exchange.ensures.exact
