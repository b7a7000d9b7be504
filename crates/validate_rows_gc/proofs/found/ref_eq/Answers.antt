use Rattle.std.proofs.Common.{rules, ◌≡◌, Some, arith, refl, sym, ap, ◌∙◌}
use Rattle.std.specs.Option.{option_and_then}
use Rattle.validate_types.specs.declared.heap.AbstractHeapType.TheVariants.{Eq}
use Rattle.validation_rules.specs.Context.{I32}
use Rattle.validation_rules.specs.Fits.{Known}
use Rattle.validate_stacks.specs.Steps.{found_in_body, body_popped}
use Rattle.validate_stacks.proofs.AtOnce.{found_below}
use Rattle.validate_stacks.proofs.PopRuns.{found_first}
use Rattle.validate_stacks.proofs.Validity.{kept_on, popped_valid, popped_kept}
use Rattle.validate_shapes.proofs.Moves.{unmoved}
use Rattle.validate_rows_gc.specs.Found.{operand_found_below}
use Rattle.validate_rows_gc.proofs.FoundSteps.{first_missing, second_missing, not_alike, alike, two_dropped, replaced_moves}
use Rattle.validate_rows_gc.proofs.found.ref_eq.Given.{Over}
use Rattle.validate_rows_gc.proofs.found.ref_eq.Goals.{In_ok-above, In_ok-below}
use Rattle.validate_rows_gc.proofs.found.ref_eq.Goals as goal

top : (g : Over) (c : In_ok-above g) → found_in_body c.args.context.stacks.now.body ≡ Some c.in_ok-above.above
top g c = sym (found_first c.args.context.stacks.now.body) ∙ c.in_ok-above.ensures.found

next : (g : Over) (c : In_ok-below g) → found_in_body (body_popped c.args.context.stacks.now.body) ≡ Some c.in_ok-below.below
next g c = sym (found_below c.args.context.stacks.now.body) ∙ c.in_ok-below.ensures.found

pub returns-in_err-above : goal.returns-in_err-above
returns-in_err-above g c =
    let md = g.R.WasmModuleResources.context c.args.context.resources.now in
    let v = c.args.context.stacks.now.body in
    let none = first_missing md v c.requires.open_frame (ap (option_and_then (operand_found_below md Eq)) (sym (found_first v)) ∙ c.in_err-above.ensures.refused) in
    unmoved _ _ _ _ _ _ (search rules) refl (search (rules, none))

pub returns-in_err-below : goal.returns-in_err-below
returns-in_err-below g c =
    let md = g.R.WasmModuleResources.context c.args.context.resources.now in
    let v = c.args.context.stacks.now.body in
    let none = second_missing md v c.requires.open_frame (body_popped v) _ (top g (goal.at.returns-in_err-below g c).In_ok-above) refl (ap (option_and_then (operand_found_below md Eq)) (sym (found_below v)) ∙ c.in_err-below.ensures.refused) in
    unmoved _ _ _ _ _ _ (search rules) refl (search (rules, none))

pub returns-then-not-is_same_sharedness : goal.returns-then-not-is_same_sharedness
returns-then-not-is_same_sharedness g c =
    let md = g.R.WasmModuleResources.context c.args.context.resources.now in
    let v = c.args.context.stacks.now.body in
    let at = goal.at.returns-then-not-is_same_sharedness g c in
    let none = not_alike md v c.requires.open_frame (body_popped v) _ (top g at.In_ok-above) refl _ (next g at.In_ok-below) c.in_ok-below.ensures.passed c.in_ok-above.ensures.passed (sym c.is_same_sharedness.ensures ∙ c.if-not-is_same_sharedness.true) in
    unmoved _ _ _ _ _ _ (search rules) refl (search (rules, none))

pub returns : goal.returns
returns g c =
    let md = g.R.WasmModuleResources.context c.args.context.resources.now in
    let v = c.args.context.stacks.now.body in
    let u = body_popped v in
    let at = goal.at.returns g c in
    let step = alike md v c.requires.open_frame u _ (top g at.In_ok-above) refl _ (next g at.In_ok-below) c.in_ok-below.ensures.passed c.in_ok-above.ensures.passed (sym c.is_same_sharedness.ensures ∙ c.if-not-is_same_sharedness.false) (body_popped u) refl in
    let whole = two_dropped c.min.result v (omega (arith, c.min.ensures, c.own_operand_count-own.ensures)) in
    replaced_moves md _ _ c.args.context.stacks.now _ c.min.result (body_popped u) (Known I32) whole step refl (popped_valid md u (popped_valid md v c.requires.valid)) (kept_on v u (body_popped u) (popped_kept v) (popped_kept u)) c.replace.result c.replace.ensures.told c.replace.ensures.exact
