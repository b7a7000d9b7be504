use Rattle.std.proofs.Common.{true}
use Rattle.validate_stacks.proofs.Moves.{fits_now}
use Rattle.validate_shapes.proofs.BranchSteps.{ending_is}
use Rattle.validate_shapes.proofs.Moves.{ended_moves}
use Rattle.validate_shapes.proofs.plain.ending.Goals as goal

pub returns-clause-row : goal.returns-clause-row
returns-clause-row g c =
    let md = g.R.WasmModuleResources.context c.args.context.resources.now in
    let v = c.args.context.stacks.now.body in
    let types = c.args.types.now in
    ended_moves md _ _ c.args.context.stacks.now _ types (ending_is md v c.requires.visit.open_frame types) (fits_now md types v true c.in_ok-expect_operands.ensures.fit) c.requires.visit.valid c.mark_unreachable.result c.mark_unreachable.ensures.told c.mark_unreachable.ensures.exact
