use Rattle.std.proofs.Common.{rules, arith, true, false, [], ◌∷◌}
use Rattle.validate_stacks.specs.Moves.{body_set_then}
use Rattle.validate_stacks.proofs.Phases.{step_set}
use Rattle.validate_stacks.proofs.Moves.{popped, not_taken, fits_now}
use Rattle.validate_stacks.proofs.context.OperatorContext.exchange_setting.Goals as goal

pub returns-in_err-expect_among : goal.returns-in_err-expect_among
returns-in_err-expect_among g c =
    let md = g.R.WasmModuleResources.context c.args.self.resources.now in
    let unfit = fits_now md (c.args.ty ∷ []) c.args.self.stacks.now.body false c.in_err-expect_among.ensures.unfit in
    not_taken md _ (c.args.ty ∷ []) (body_set_then c.args.local_index c.args.pushed.now) c.args.self.stacks.now _ c.requires.visit.open_frame (search rules) unfit

pub returns : goal.returns
returns g c =
    let md = g.R.WasmModuleResources.context c.args.self.resources.now in
    let fit = fits_now md (c.args.ty ∷ []) c.args.self.stacks.now.body true c.in_ok-expect_among.ensures.fit in
    popped md _ (c.args.ty ∷ []) (body_set_then c.args.local_index c.args.pushed.now) c.args.self.stacks.now _ c.min.result c.set_local.result fit (omega (arith, c.min.ensures, c.own_operand_count-own.ensures)) c.set_local.ensures.told c.set_local.ensures.exact

pub set_local-requires-clause-set : goal.set_local-requires-clause-set
set_local-requires-clause-set g c = step_set c.args.self.stacks.now c.requires.visit.attempt
