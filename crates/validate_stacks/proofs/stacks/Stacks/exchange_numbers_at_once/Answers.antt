use Rattle.std.proofs.Common.{◌≡◌, ◌-◌, ◌+◌, ◌<◌, [], ◌≢◌, Some, length, min, sym, ◌∙◌, ap, subst, arith}
use Rattle.std.specs.Option.{option_map}
use Rattle.std.proofs.lemmas.Option.{slice_get-get_or}
use Rattle.validate_stacks.specs.AtOnce.{pushed_list, body_dropped}
use Rattle.validate_stacks.specs.Pops.{body_pushed_each}
use Rattle.validate_stacks.specs.State.{BodyState}
use Rattle.validate_stacks.specs.Steps.{innermost_operands, body_popped, body_pushed, found_after_pops_in_body}
use Rattle.validation_rules.specs.Fits.{Known}
use Rattle.validate_stacks.proofs.AtOnce.{exchanged, some_left, dropped_next, known_stays}
use Rattle.validate_stacks.proofs.stacks.Stacks.exchange_numbers_at_once.Goals as goal

pub replace_operand-requires-clause-own : goal.replace_operand-requires-clause-own
replace_operand-requires-clause-own g c =
    let v = c.args.self.now.body in
    let own = c.has_own.ensures c.if-not-has_own.false in
    subst (λ (w : BodyState). innermost_operands w.present.frames ≢ []) (sym c.drop_operands.ensures.dropped) (some_left (length c.args.expected.now - 1) v (omega (arith, own, c.if-count-eq0.false)))

pub returns-in-None-clause-exact : goal.returns-in-None-clause-exact
returns-in-None-clause-exact g c =
    let md = g.R.WasmModuleResources.context c.args.resources.now in
    let v = c.args.self.now.body in
    let k = length c.args.expected.now in
    let own = c.has_own.ensures c.if-not-has_own.false in
    let fit = c.has_same_numbers.ensures.fitting c.if-not-has_same_numbers.false in
    let least : k ≡ min k (length (innermost_operands v.present.frames)) = omega (arith, own) in
    exchanged md c.args.expected.now v fit k least c.args.pushed _ (c.drop_operands-in-None.ensures.dropped ∙ ap (λ p. body_pushed_each (pushed_list p) (body_dropped k v)) (sym c.in-None.is))

pub returns-then-not-is_same_number-clause-exact : goal.returns-then-not-is_same_number-clause-exact
returns-then-not-is_same_number-clause-exact g c =
    let md = g.R.WasmModuleResources.context c.args.resources.now in
    let v = c.args.self.now.body in
    let k = length c.args.expected.now in
    let own = c.has_own.ensures c.if-not-has_own.false in
    let fit = c.has_same_numbers.ensures.fitting c.if-not-has_same_numbers.false in
    let least : k ≡ min k (length (innermost_operands v.present.frames)) = omega (arith, own) in
    let back : k - 1 + 1 ≡ k = omega (arith, c.if-count-eq0.false) in
    let left = (rw c.known.ensures at c.replace_operand.ensures.replaced) ∙ ap (λ u. body_pushed (Known c.in-Some.ty) (body_popped u)) c.drop_operands.ensures.dropped ∙ ap (body_pushed (Known c.in-Some.ty)) (dropped_next (k - 1) v ∙ ap (λ j. body_dropped j v) back) in
    exchanged md c.args.expected.now v fit k least c.args.pushed _ (left ∙ ap (λ p. body_pushed_each (pushed_list p) (body_dropped k v)) (sym c.in-Some.is))

pub returns-else-not-is_same_number-clause-exact : goal.returns-else-not-is_same_number-clause-exact
returns-else-not-is_same_number-clause-exact g c =
    let md = g.R.WasmModuleResources.context c.args.resources.now in
    let v = c.args.self.now.body in
    let k = length c.args.expected.now in
    let own = c.has_own.ensures c.if-not-has_own.false in
    let fit = c.has_same_numbers.ensures.fitting c.if-not-has_same_numbers.false in
    let least : k ≡ min k (length (innermost_operands v.present.frames)) = omega (arith, own) in
    let some : 0 < k = omega (arith, c.if-count-eq0.false) in
    let back : k - 1 + 1 ≡ k = omega (arith, some) in
    let lowest : found_after_pops_in_body (k - 1) v ≡ Some (Known c.in-Some.ty) = c.has_same_numbers.ensures.lowest c.if-not-has_same_numbers.false some ∙ ap (option_map Known) (slice_get-get_or c.args.expected.now 0 _ some) ∙ ap (λ t. Some (Known t)) (sym (c.is_same_number.ensures c.if-not-is_same_number.false)) in
    let left = c.drop_operands.ensures.dropped ∙ known_stays (k - 1) c.in-Some.ty v (omega (arith, own, some)) lowest ∙ ap (λ j. body_pushed (Known c.in-Some.ty) (body_dropped j v)) back in
    exchanged md c.args.expected.now v fit k least c.args.pushed _ (left ∙ ap (λ p. body_pushed_each (pushed_list p) (body_dropped k v)) (sym c.in-Some.is))
