use Rattle.std.proofs.Common.{rules, ◌≡◌, true, sym, ap, ◌∙◌, refl}
use Rattle.std.specs.Option.{option_copied}
use Rattle.validation_rules.specs.Rows.{is_try}
use Rattle.validate_stacks.specs.Pops.{body_pushed_each}
use Rattle.validate_stacks.specs.Steps.{body_without_frame}
use Rattle.validate_stacks.proofs.ClosedFrames.{frame_told, some_frame}
use Rattle.validate_shapes.proofs.Moves.{unmoved}
use Rattle.validate_shapes.proofs.PartMoves.{closed_moves}
use Rattle.validate_rows_gc.proofs.LegacySteps.{delegate_none, delegate_of_another, delegate_nowhere, delegate_passes}
use Rattle.validate_rows_gc.proofs.legacy.delegate.Goals as goal

pub unreachable-requires : goal.unreachable-requires
unreachable-requires g c = some_frame c.args.context.stacks.now.body c.requires.open_frame (sym c.get_frame.ensures ∙ ap option_copied c.in_default.is)

pub find_results-requires-clause-results : goal.find_results-requires-clause-results
find_results-requires-clause-results g c =
    frame_told c.args.context.stacks.now.body c.in-Some.frame.now _ (sym c.get_frame.ensures ∙ ap option_copied c.in-Some.is) c.results-results.ensures

pub returns-in_err-popped : goal.returns-in_err-popped
returns-in_err-popped g c =
    let none = delegate_none (g.R.WasmModuleResources.context c.args.context.resources.now) c.args.context.stacks.now.body c.args.relative_depth c.requires.open_frame c.in_err-popped.ensures.stays in
    unmoved _ _ _ _ _ _ (search rules) refl (search (rules, none))

pub returns-then-not-is_try : goal.returns-then-not-is_try
returns-then-not-is_try g c =
    let there = sym c.get_frame.ensures ∙ ap option_copied c.in-Some.is in
    let none = delegate_of_another (g.R.WasmModuleResources.context c.args.context.resources.now) c.args.context.stacks.now.body c.args.relative_depth c.in-Some.frame.now there (sym c.is_try.ensures ∙ c.if-not-is_try.true) in
    unmoved _ _ _ _ _ _ (search rules) refl (search (rules, none))

pub returns-in_default-get_frame : goal.returns-in_default-get_frame
returns-in_default-get_frame g c =
    let there = sym c.get_frame.ensures ∙ ap option_copied c.in-Some.is in
    let missing = sym c.get_frame-2.ensures ∙ ap option_copied c.in_default-get_frame.is in
    let none = delegate_nowhere (g.R.WasmModuleResources.context c.args.context.resources.now) c.args.context.stacks.now.body c.args.relative_depth c.in-Some.frame.now there missing in
    unmoved _ _ _ _ _ _ (search rules) refl (search (rules, none))

pub returns : goal.returns
returns g c =
    let md = g.R.WasmModuleResources.context c.args.context.resources.now in
    let v = c.args.context.stacks.now.body in
    let rs = c.results-results.result.now in
    let left = body_without_frame v in
    let there = sym c.get_frame.ensures ∙ ap option_copied c.in-Some.is in
    let outer = sym c.get_frame-2.ensures ∙ ap option_copied c.in-Some-get_frame.is in
    let part : is_try c.in-Some.frame.now.kind ≡ true = sym c.is_try.ensures ∙ c.if-not-is_try.false in
    let step = delegate_passes md v c.args.relative_depth c.in-Some.frame.now there left (body_pushed_each rs left) _ rs c.in_ok-popped.ensures.closes part outer c.results-results.ensures refl in
    closed_moves md _ _ c.args.context.stacks.now _ c.requires.open_frame (g.met.R.WasmModuleResources.lawful c.args.context.resources.now) c.requires.valid rs (frame_told v c.in-Some.frame.now _ there c.results-results.ensures)
    step c.close.result c.close.ensures.told c.close.ensures.exact
