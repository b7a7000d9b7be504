use Rattle.std.proofs.Common.{rules, ◌≡◌, ◌&&◌, ◌+◌, true, drop, sym, ap, ap₂, ◌∙◌, arith}
use Rattle.std.specs.List.{list_all}
use Rattle.std.proofs.lemmas.List.{drop_all, drop_more}
use Rattle.validation_rules.proofs.Pops.{and_false}
use Rattle.validate_stacks.specs.AtOnce.{body_dropped}
use Rattle.validate_rows.specs.Targets.{is_table_target}
use Rattle.validate_rows.proofs.branches.expect_targets.Goals as goal

pub loop-relative_depth-preserved : goal.loop-relative_depth-preserved
loop-relative_depth-preserved g c =
    let is_one = is_table_target (g.R.WasmModuleResources.context c.args.context.now.resources.now) (body_dropped 1 c.args.context.now.stacks.now.body) c.args.count in
    let ds = c.args.table.now.targets.now in
    let i = c.loop-relative_depth.relative_depth-index in
    record {
      rest = sym (ap (λ b. b && list_all is_one (drop (i + 1) ds)) c.in_ok-expect_target.ensures.fits)
          ∙ (sym (ap (list_all is_one) (drop_more ds i _ (omega arith))) ∙ c.loop-relative_depth.invariant.rest);
    }

pub returns-in_err-expect_target-clause-unfit : goal.returns-in_err-expect_target-clause-unfit
returns-in_err-expect_target-clause-unfit g c =
    let is_one = is_table_target (g.R.WasmModuleResources.context c.args.context.now.resources.now) (body_dropped 1 c.args.context.now.stacks.now.body) c.args.count in
    let ds = c.args.table.now.targets.now in
    let i = c.loop-relative_depth.relative_depth-index in
    let none = ap (λ b. c.args.table.now.complete && b) (sym c.loop-relative_depth.invariant.rest ∙ (ap (list_all is_one) (drop_more ds i _ (omega arith)) ∙ ap (λ b. b && list_all is_one (drop (i + 1) ds)) c.in_err-expect_target.ensures.unfit)) ∙ and_false c.args.table.now.complete in
    search (rules, none)

pub returns-clause-fits : goal.returns-clause-fits
returns-clause-fits g c =
    let is_one = is_table_target (g.R.WasmModuleResources.context c.args.context.now.resources.now) (body_dropped 1 c.args.context.now.stacks.now.body) c.args.count in
    let ds = c.args.table.now.targets.now in
    let all = sym c.loop-relative_depth.invariant.rest ∙ ap (list_all is_one) (drop_all c.loop-relative_depth.relative_depth-index ds (omega arith)) in
    let full : c.args.table.now.complete ≡ true = search rules in
    ap₂ (λ p q. p && q) full all
