use Rattle.std.proofs.Common.{◌++◌, [], ◌∷◌, rules, arith, true, false}
use Rattle.std.proofs.lemmas.List.{length-append}
use Rattle.validate_stacks.specs.Pops.{body_pushed_each}
use Rattle.validate_stacks.proofs.Moves.{popped, not_taken, fits_now}
use Rattle.validate_stacks.proofs.context.OperatorContext.exchange_with_top.Goals as goal

pub returns-in_err-expect_with_top : goal.returns-in_err-expect_with_top
returns-in_err-expect_with_top g c =
    let md = g.R.WasmModuleResources.context c.args.self.resources.now in
    let expected = c.args.under.now ++ c.args.above ∷ [] in
    let unfit = fits_now md expected c.args.self.stacks.now.body false c.in_err-expect_with_top.ensures.unfit in
    not_taken md _ expected (body_pushed_each c.args.pushed.now) c.args.self.stacks.now _ c.requires.visit.open_frame (search rules) unfit

pub returns : goal.returns
returns g c =
    let md = g.R.WasmModuleResources.context c.args.self.resources.now in
    let expected = c.args.under.now ++ c.args.above ∷ [] in
    let fit = fits_now md expected c.args.self.stacks.now.body true c.in_ok-expect_with_top.ensures.fit in
    popped md _ expected (body_pushed_each c.args.pushed.now) c.args.self.stacks.now _ c.min.result c.exchange.result fit (omega (arith, c.min.ensures, c.saturating_add.ensures, c.own_operand_count-own.ensures, length-append c.args.under.now (c.args.above ∷ []))) c.exchange.ensures.told c.exchange.ensures.exact
