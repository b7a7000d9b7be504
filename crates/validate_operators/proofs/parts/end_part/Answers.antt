use Rattle.std.proofs.Common.{rules, sym, ap, ◌∙◌}
use Rattle.std.specs.Option.{option_copied}
use Rattle.validate_stacks.proofs.ClosedFrames.{block_valid, frame_told, takes_valid}
use Rattle.validate_operators.proofs.parts.end_part.Goals as goal

pub has_results-requires-clause-frame : goal.has_results-requires-clause-frame
has_results-requires-clause-frame g c =
    frame_told c.args.context.stacks.now.body c.in-Some.frame.now _ (sym c.get_frame.ensures ∙ ap option_copied c.in-Some.is) (search rules)

pub begin_part-requires-clause-pushed : goal.begin_part-requires-clause-pushed
begin_part-requires-clause-pushed g c =
    let md = g.R.WasmModuleResources.context c.args.context.resources.now in
    let v = c.args.context.stacks.now.body in
    let block = block_valid md v c.in-Some.frame.now (sym c.get_frame.ensures ∙ ap option_copied c.in-Some.is) c.requires.valid in
    takes_valid md v.shared _ _ (g.met.R.WasmModuleResources.lawful c.args.context.resources.now) block c.params-pushed.ensures
