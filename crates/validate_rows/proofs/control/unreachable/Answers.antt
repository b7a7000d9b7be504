use Rattle.std.proofs.Common.{refl}
use Rattle.validate_stacks.specs.Steps.{body_unreachable}
use Rattle.validate_shapes.proofs.BranchSteps.{unreachable_is}
use Rattle.validate_shapes.proofs.Moves.{unreachable_valid, made_moves}
use Rattle.validate_rows.proofs.control.unreachable.Goals as goal

pub returns-clause-row : goal.returns-clause-row
returns-clause-row g c =
    let md = g.R.WasmModuleResources.context c.args.context.resources.now in
    let v = c.args.context.stacks.now.body in
    made_moves md _ _ c.args.context.stacks.now _ (body_unreachable v) (unreachable_is md v (body_unreachable v) c.requires.open_frame refl) (unreachable_valid md v c.requires.valid) refl c.mark_unreachable.result c.mark_unreachable.ensures.told c.mark_unreachable.ensures.exact
