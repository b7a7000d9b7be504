use Rattle.std.proofs.Common.{rules, true, false, arith}
use Rattle.validate_stacks.proofs.ClosedFrames.{frame_found, wants_valid, closes_whole, stays_unfit, stays_over}
use Rattle.validate_stacks.proofs.Moves.{fits_now}
use Rattle.validate_stacks.proofs.context.OperatorContext.find_results.Goals as goal

pub expect_among-requires-clause-types : goal.expect_among-requires-clause-types
expect_among-requires-clause-types g c =
    let md = g.R.WasmModuleResources.context c.args.self.now.resources.now in
    let v = c.args.self.now.stacks.now.body in
    let there = frame_found v c.requires.open_frame in
    wants_valid md v there.0 c.args.results.now (g.met.R.WasmModuleResources.lawful c.args.self.now.resources.now) there.1 c.requires.state (c.requires.results there.0 there.1)

pub returns-in_err-expect_among-clause-stays : goal.returns-in_err-expect_among-clause-stays
returns-in_err-expect_among-clause-stays g c =
    let md = g.R.WasmModuleResources.context c.args.self.now.resources.now in
    let v = c.args.self.now.stacks.now.body in
    let rs = c.args.results.now in
    let stays = stays_unfit md v rs c.requires.open_frame c.requires.results (fits_now md rs v false c.in_err-expect_among.ensures.unfit) in
    search (rules, stays)

pub returns-then-own-results-clause-stays : goal.returns-then-own-results-clause-stays
returns-then-own-results-clause-stays g c =
    let md = g.R.WasmModuleResources.context c.args.self.now.resources.now in
    stays_over md c.args.self.now.stacks.now.body c.args.results.now c.requires.open_frame c.requires.results (omega (arith, c.own_operand_count-own.ensures, c.if-own-results.true))

pub returns-clause-closes : goal.returns-clause-closes
returns-clause-closes g c =
    let md = g.R.WasmModuleResources.context c.args.self.now.resources.now in
    let v = c.args.self.now.stacks.now.body in
    let rs = c.args.results.now in
    closes_whole md v rs c.requires.open_frame c.requires.results (fits_now md rs v true c.in_ok-expect_among.ensures.fit) (omega (arith, c.own_operand_count-own.ensures, c.if-own-results.false))
