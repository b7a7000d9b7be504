use Rattle.validate_operators.proofs.LeftParts.{closed_fine, fine_moved}
use Rattle.validate_operators.proofs.parts.close_part.Goals as goal

pub returns-clause-valid : goal.returns-clause-valid
returns-clause-valid g c =
    let md = g.R.WasmModuleResources.context c.args.context.resources.now in
    (fine_moved md c.args.context.stacks.now _ _ c.requires.valid (closed_fine md c.args.context.stacks.now.body c.requires.valid) c.close.result c.close.ensures.exact).0

pub returns-clause-kept : goal.returns-clause-kept
returns-clause-kept g c =
    let md = g.R.WasmModuleResources.context c.args.context.resources.now in
    (fine_moved md c.args.context.stacks.now _ _ c.requires.valid (closed_fine md c.args.context.stacks.now.body c.requires.valid) c.close.result c.close.ensures.exact).1
