use Rattle.std.proofs.Common.{rules, false, refl}
use Rattle.validate_visit.specs.declared.frame.FrameKind.TheVariants.{LegacyCatch}
use Rattle.validate_stacks.specs.Pops.{body_pushed_each}
use Rattle.validate_stacks.specs.Steps.{body_with_frame, body_without_frame}
use Rattle.validate_shapes.proofs.Moves.{unmoved}
use Rattle.validate_shapes.proofs.PartMoves.{begun_moves}
use Rattle.validate_rows_gc.proofs.LegacySteps.{catch_unknown, catch_refused, catch_passes}
use Rattle.validate_rows_gc.proofs.legacy.catch.Goals as goal

pub returns-in_err-popped : goal.returns-in_err-popped
returns-in_err-popped g c =
    let none = catch_refused (g.R.WasmModuleResources.context c.args.context.resources.now) c.args.context.stacks.now.body c.args.tag_index (c.in_err-popped.ensures.refused false) in
    unmoved _ _ _ _ _ _ (search rules) refl (search (rules, none))

pub returns-in_err-types : goal.returns-in_err-types
returns-in_err-types g c =
    let none = catch_unknown (g.R.WasmModuleResources.context c.args.context.resources.now) c.args.context.stacks.now.body c.args.tag_index c.in_err-types.ensures.refused in
    unmoved _ _ _ _ _ _ (search rules) refl (search (rules, none))

pub returns : goal.returns
returns g c =
    let md = g.R.WasmModuleResources.context c.args.context.resources.now in
    let v = c.args.context.stacks.now.body in
    let bt = c.in_ok-popped.block_type in
    let types = c.in_ok-types.types.now in
    let begun = body_with_frame LegacyCatch bt (body_without_frame v) in
    let step = catch_passes md v c.args.tag_index types begun (body_pushed_each types begun) c.in_ok-types.ensures.found (c.in_ok-popped.ensures.begins false) refl in
    begun_moves md _ _ c.args.context.stacks.now _ c.requires.open_frame (g.met.R.WasmModuleResources.lawful c.args.context.resources.now) c.requires.valid LegacyCatch bt types c.in_ok-popped.ensures.block c.in_ok-types.ensures.valid
    step c.reopen_with.result c.reopen_with.ensures.told c.reopen_with.ensures.exact
