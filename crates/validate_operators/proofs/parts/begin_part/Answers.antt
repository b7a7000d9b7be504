use Rattle.validate_operators.proofs.LeftParts.{begun_fine, fine_moved}
use Rattle.validate_operators.proofs.parts.begin_part.Goals as goal

pub returns-clause-valid : goal.returns-clause-valid
returns-clause-valid g c =
    let md = g.R.WasmModuleResources.context c.args.context.resources.now in
    let begun = begun_fine md c.args.context.stacks.now.body c.requires.visit.valid c.args.kind c.args.block_type c.args.pushed.now c.requires.visit.open_frame c.requires.frame c.requires.pushed in
    (fine_moved md c.args.context.stacks.now _ _ c.requires.visit.valid begun c.reopen_with.result c.reopen_with.ensures.exact).0

pub returns-clause-kept : goal.returns-clause-kept
returns-clause-kept g c =
    let md = g.R.WasmModuleResources.context c.args.context.resources.now in
    let begun = begun_fine md c.args.context.stacks.now.body c.requires.visit.valid c.args.kind c.args.block_type c.args.pushed.now c.requires.visit.open_frame c.requires.frame c.requires.pushed in
    (fine_moved md c.args.context.stacks.now _ _ c.requires.visit.valid begun c.reopen_with.result c.reopen_with.ensures.exact).1
