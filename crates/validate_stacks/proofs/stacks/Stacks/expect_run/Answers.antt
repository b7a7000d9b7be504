use Rattle.std.proofs.Common.{◌≡◌, ◌&&◌, ℕ, true, sym, ap, ap₂, ◌∙◌, arith, replicate}
use Rattle.validate_stacks.specs.Pops.{has_operands_fitting}
use Rattle.validate_stacks.specs.State.{body_context}
use Rattle.validate_stacks.proofs.PopRuns.{on_err, run_cut, run_beyond}
use Rattle.validate_stacks.proofs.stacks.Stacks.expect_run.Goals as goal
use Rattle.validate_stacks.proofs.stacks.Stacks.expect_run.Goals.{then-own-count+else-not-is_fitting_at, else-own-count}

pub returns-in_err-expect_own_run-clause-unfit : goal.returns-in_err-expect_own_run-clause-unfit
returns-in_err-expect_own_run-clause-unfit g c =
    let v = c.args.self.now.body in
    let cx = body_context (g.R.WasmModuleResources.context c.args.resources.now) v in
    on_err _ (run_cut cx c.args.elem v c.args.own c.args.count c.min.result (sym c.requires.own) c.min.ensures c.in_err-expect_own_run.ensures.unfit)

pub returns-then-not-is_fitting_at-clause-unfit : goal.returns-then-not-is_fitting_at-clause-unfit
returns-then-not-is_fitting_at-clause-unfit g c =
    let v = c.args.self.now.body in
    let cx = body_context (g.R.WasmModuleResources.context c.args.resources.now) v in
    let own_fit = c.in_ok-expect_own_run.ensures.fit in
    let least : c.min.result ≡ c.args.own = omega (arith, c.min.ensures, c.if-own-count.true) in
    run_beyond cx c.args.elem v c.args.own c.args.count (sym c.requires.own) c.if-own-count.true
    ∙ ap₂ (λ p q. p && q) (ap (λ k. has_operands_fitting cx (replicate k c.args.elem) v) (sym least) ∙ own_fit) (sym c.is_fitting_at.ensures ∙ c.if-not-is_fitting_at.true)

pub returns-clause-fit : goal.returns-clause-fit
returns-clause-fit g c =
    let v = c.args.self.now.body in
    let cx = body_context (g.R.WasmModuleResources.context c.args.resources.now) v in
    let cut : (k : ℕ) → c.min.result ≡ k → has_operands_fitting cx (replicate k c.args.elem) v ≡ true = λ k e. ap (λ j. has_operands_fitting cx (replicate j c.args.elem) v) (sym e) ∙ c.in_ok-expect_own_run.ensures.fit in
    elim c.if-own-count.branch [
      | then-own-count+else-not-is_fitting_at w ↦
          run_beyond cx c.args.elem v c.args.own c.args.count (sym c.requires.own) w.if-own-count.true
          ∙ ap₂ (λ p q. p && q) (cut c.args.own (omega (arith, c.min.ensures, w.if-own-count.true))) (sym w.is_fitting_at.ensures ∙ w.if-not-is_fitting_at.false)
      | else-own-count w ↦ cut c.args.count (omega (arith, c.min.ensures, w.if-own-count.false))
    ]
