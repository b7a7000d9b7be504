use Rattle.std.proofs.Common.{rules, true, [], refl}
use Rattle.validate_visit.specs.declared.frame.FrameKind.TheVariants.{LegacyCatchAll}
use Rattle.validate_shapes.proofs.Moves.{unmoved}
use Rattle.validate_shapes.proofs.PartMoves.{begun_moves}
use Rattle.validate_rows_gc.proofs.legacy.catch_all.Goals as goal

pub returns-in_err-popped : goal.returns-in_err-popped
returns-in_err-popped g c =
    let none = c.in_err-popped.ensures.refused true in
    unmoved _ _ _ _ _ _ (search rules) refl (search (rules, none))

pub returns : goal.returns
returns g c =
    let md = g.R.WasmModuleResources.context c.args.context.resources.now in
    begun_moves md _ _ c.args.context.stacks.now _ c.requires.open_frame (g.met.R.WasmModuleResources.lawful c.args.context.resources.now) c.requires.valid LegacyCatchAll c.in_ok-popped.block_type [] c.in_ok-popped.ensures.block tt
    (c.in_ok-popped.ensures.begins true) c.reopen_with.result c.reopen_with.ensures.told c.reopen_with.ensures.exact
