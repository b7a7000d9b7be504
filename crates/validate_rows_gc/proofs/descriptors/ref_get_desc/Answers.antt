use Rattle.std.proofs.Common.{rules, ◌≡◌, true, Some, arith, refl, sym, ap, ap₂, ◌∙◌, subst}
use Rattle.std.specs.Option.{option_and_then}
use Rattle.validate_resources.specs.Context.{descriptor_of, is_valid_heap}
use Rattle.validate_types.specs.Refs.{non_null_reference}
use Rattle.validate_types.specs.declared.heap.HeapType.{HeapType}
use Rattle.validation_rules.specs.Context.{Ref}
use Rattle.validation_rules.specs.Descriptors.{ref_get_desc_row}
use Rattle.validation_rules.specs.Exact.{declared_heap}
use Rattle.validation_rules.specs.Fits.{Known}
use Rattle.validation_rules.proofs.Valid.{declared_valid}
use Rattle.validate_stacks.specs.Pops.{may_pop}
use Rattle.validate_stacks.specs.State.{body_context}
use Rattle.validate_stacks.specs.Steps.{body_popped, body_pushed}
use Rattle.validate_stacks.proofs.PopRuns.{found_first}
use Rattle.validate_stacks.proofs.Validity.{popped_valid, popped_kept}
use Rattle.validate_shapes.proofs.Moves.{unmoved, moves_barred}
use Rattle.validate_rows_gc.proofs.DescriptorSteps.{untyped, not_exact, undescribed, get_missing, get_there, is_there, not_there}
use Rattle.validate_rows_gc.proofs.FoundSteps.{one_dropped, replaced_moves}
use Rattle.validate_rows_gc.proofs.descriptors.ref_get_desc.Goals as goal

pub returns-in_err-from : goal.returns-in_err-from
returns-in_err-from g c =
    let none = untyped (g.R.WasmModuleResources.context c.args.context.resources.now) c.args.context.stacks.now.body c.requires.open_frame c.args.type_index in
    moves_barred _ _ c.args.context.stacks.now (λ cx hs. ref_get_desc_row cx c.args.type_index) _ (search rules) (search (rules, none, c.in_err-from.ensures.refused))

pub returns-in_err-exact : goal.returns-in_err-exact
returns-in_err-exact g c =
    let none = not_exact (g.R.WasmModuleResources.context c.args.context.resources.now) c.args.context.stacks.now.body c.requires.open_frame c.args.type_index in
    moves_barred _ _ c.args.context.stacks.now (λ cx hs. ref_get_desc_row cx c.args.type_index) _ (search rules) (search (rules, none, c.in_err-exact.ensures.refused))

pub returns-in_err-expect_operands : goal.returns-in_err-expect_operands
returns-in_err-expect_operands g c =
    let md = g.R.WasmModuleResources.context c.args.context.resources.now in
    let v = c.args.context.stacks.now.body in
    let none = get_missing md v c.requires.open_frame c.args.type_index c.in_ok-from.from c.in_ok-exact.exact c.in_ok-from.ensures.found c.in_ok-exact.ensures.found (not_there md v c.requires.open_frame c.in_ok-from.from c.in_err-expect_operands.ensures.unfit) in
    unmoved _ _ _ _ _ _ (search rules) refl (search (rules, none))

pub returns-in_err-descriptor : goal.returns-in_err-descriptor
returns-in_err-descriptor g c =
    let none = undescribed (g.R.WasmModuleResources.context c.args.context.resources.now) c.args.context.stacks.now.body c.requires.open_frame c.args.type_index (ap (option_and_then descriptor_of) c.in_err-descriptor.ensures.unknown) in
    unmoved _ _ _ _ _ _ (search rules) refl (search (rules, none))

pub returns-in_default : goal.returns-in_default
returns-in_default g c =
    let none = undescribed (g.R.WasmModuleResources.context c.args.context.resources.now) c.args.context.stacks.now.body c.requires.open_frame c.args.type_index (c.in_ok-descriptor.ensures.found ∙ c.in_default.is) in
    unmoved _ _ _ _ _ _ (search rules) refl (search (rules, none))

pub returns-in_err-found : goal.returns-in_err-found
returns-in_err-found g c =
    let md = g.R.WasmModuleResources.context c.args.context.resources.now in
    let v = c.args.context.stacks.now.body in
    let cx = body_context md v in
    let none = get_missing md v c.requires.open_frame c.args.type_index c.in_ok-from.from c.in_ok-exact.exact c.in_ok-from.ensures.found c.in_ok-exact.ensures.found (ap (λ f. may_pop cx f (Some c.in_ok-from.from)) (sym (found_first v) ∙ c.in_err-found.ensures.missing)) in
    unmoved _ _ _ _ _ _ (search rules) refl (search (rules, none))

pub returns : goal.returns
returns g c =
    let md = g.R.WasmModuleResources.context c.args.context.resources.now in
    let v = c.args.context.stacks.now.body in
    let cx = body_context md v in
    let t = Known (Ref (non_null_reference c.declared_heap.result)) in
    let valid = subst (λ (h : HeapType). is_valid_heap md h ≡ true) (sym c.declared_heap.ensures) (declared_valid cx (g.met.R.WasmModuleResources.lawful c.args.context.resources.now) _ _ (c.in_ok-descriptor.ensures.valid _ (c.in-Some.is ∙ ap Some (sym c.unpack.ensures)))) in
    let fits = is_there md v c.in_ok-from.from c.in_ok-expect_operands.ensures.fit in
    let there = get_there md v c.requires.open_frame c.args.type_index c.in_ok-from.from c.in_ok-exact.exact c.in_ok-from.ensures.found c.in_ok-exact.ensures.found c.in-Some.descriptor _ (c.in_ok-descriptor.ensures.found ∙ c.in-Some.is) (sym (found_first v) ∙ c.in_ok-found.ensures.found) fits in
    let step = there ∙ ap (λ (h : HeapType). Some (body_pushed (Known (Ref (non_null_reference h))) (body_popped v))) (sym (c.declared_heap.ensures ∙ ap₂ declared_heap c.is_found_exact.ensures c.unpack.ensures)) in
    let whole = one_dropped c.min.result v (omega (arith, c.min.ensures, c.own_operand_count-own.ensures)) in
    replaced_moves md _ _ c.args.context.stacks.now _ c.min.result (body_popped v) t whole step valid (popped_valid md v c.requires.valid) (popped_kept v) c.replace.result c.replace.ensures.told c.replace.ensures.exact
