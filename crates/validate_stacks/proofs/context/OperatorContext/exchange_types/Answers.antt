use Rattle.std.proofs.Common.{rules, arith, true, false}
use Rattle.validate_stacks.specs.Pops.{body_pushed_each}
use Rattle.validate_stacks.proofs.Moves.{popped, not_taken, fits_now}
use Rattle.validate_stacks.proofs.context.OperatorContext.exchange_types.Goals as goal

pub returns-in_err-expect_among : goal.returns-in_err-expect_among
returns-in_err-expect_among g c =
    let md = g.R.WasmModuleResources.context c.args.self.resources.now in
    let unfit = fits_now md c.args.expected.now c.args.self.stacks.now.body false c.in_err-expect_among.ensures.unfit in
    not_taken md _ c.args.expected.now (body_pushed_each c.args.pushed.now) c.args.self.stacks.now _ c.requires.visit.open_frame (search rules) unfit

pub returns : goal.returns
returns g c =
    let md = g.R.WasmModuleResources.context c.args.self.resources.now in
    let fit = fits_now md c.args.expected.now c.args.self.stacks.now.body true c.in_ok-expect_among.ensures.fit in
    popped md _ c.args.expected.now (body_pushed_each c.args.pushed.now) c.args.self.stacks.now _ c.min.result c.exchange.result fit (omega (arith, c.min.ensures, c.own_operand_count-own.ensures)) c.exchange.ensures.told c.exchange.ensures.exact
