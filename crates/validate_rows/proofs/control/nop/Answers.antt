use Rattle.std.proofs.Common.{[], refl}
use Rattle.validate_stacks.specs.Moves.{Moves}
use Rattle.validate_stacks.proofs.Whole.{popped_none}
use Rattle.validate_shapes.proofs.Rows.{plain_passes}
use Rattle.validate_rows.proofs.control.nop.Goals as goal

pub returns-clause-row : goal.returns-clause-row
unfolding Moves
returns-clause-row g c =
    let md = g.R.WasmModuleResources.context c.args.context.resources.now in
    let v = c.args.context.stacks.now.body in
    record { step = plain_passes md v v v [] [] c.requires.open_frame (popped_none md v) refl; valid = c.requires.valid; kept = refl }
