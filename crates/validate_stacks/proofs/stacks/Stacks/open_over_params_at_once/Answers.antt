use Rattle.std.proofs.Common.{◌∷◌, Some, length, reverse, sym, ◌∙◌, ap}
use Rattle.std.specs.Option.{option_map}
use Rattle.validation_rules.specs.Static.{opened_frame}
use Rattle.validate_stacks.specs.AtOnce.{body_dropped}
use Rattle.validate_stacks.specs.Blocks.{body_with_block}
use Rattle.validate_stacks.specs.Pops.{body_popped_each}
use Rattle.validate_stacks.specs.State.{BodyState, body_with_frames}
use Rattle.validate_stacks.specs.Steps.{head_of}
use Rattle.validate_stacks.proofs.AtOnce.{match_made, over_known, popped_dropped}
use Rattle.validate_stacks.proofs.ClosedFrames.{takes_valid}
use Rattle.validate_stacks.proofs.stacks.Stacks.open_over_params_at_once.Goals as goal

pub has_same_numbers-requires-clause-own : goal.has_same_numbers-requires-clause-own
has_same_numbers-requires-clause-own g c = c.has_own.ensures c.if-not-has_own.false

pub has_same_numbers-requires-clause-types : goal.has_same_numbers-requires-clause-types
has_same_numbers-requires-clause-types g c =
    takes_valid (g.R.WasmModuleResources.context c.args.resources.now) c.args.self.now.body.shared c.args.block_type c.params-popped.result.now
    (g.met.R.WasmModuleResources.lawful c.args.resources.now) c.requires.block c.params-popped.ensures

pub returns : goal.returns
returns g c =
    let md = g.R.WasmModuleResources.context c.args.resources.now in
    let v = c.args.self.now.body in
    let ts = c.params-popped.result.now in
    let left : BodyState = body_dropped (length ts) v in
    let opens = body_with_block md c.args.kind c.args.block_type in
    let same = sym c.params-popped.ensures in
    let fit = c.has_same_numbers.ensures.fitting c.if-not-has_same_numbers.false in
    let over = over_known ts c.args.kind c.args.block_type v (c.has_own.ensures c.if-not-has_own.false) (c.has_same_numbers.ensures.known c.if-not-has_same_numbers.false) in
    match_made _ c.open_over_own.result
    (λ e.
    ap (λ ps. option_map opens (body_popped_each md (reverse ps) v)) same
    ∙ ap (option_map opens) (popped_dropped md ts v fit)
    ∙ ap (λ ps. Some (body_with_frames (opened_frame (head_of c.args.kind c.args.block_type) ps ∷ left.present.frames) left)) same
    ∙ ap Some (sym over ∙ sym e))
    c.open_over_own.ensures
