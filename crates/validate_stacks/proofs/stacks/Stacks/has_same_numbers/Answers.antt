use Rattle.std.proofs.Common.{◌-◌, ◌<◌, arith, refl, sym, ap, ◌∙◌, length}
use Rattle.std.specs.Option.{option_map}
use Rattle.std.proofs.lemmas.Option.{slice_get-get_or}
use Rattle.validate_resources.specs.Context.{Valid}
use Rattle.validation_rules.specs.Fits.{Known}
use Rattle.validate_stacks.specs.State.{body_context}
use Rattle.validate_stacks.proofs.AtOnce.{known_fits, known_starts, known_goes_on}
use Rattle.validate_stacks.proofs.MatchedOperands.{matching_starts, goes_on_there}
use Rattle.validate_stacks.proofs.Validity.{all_at}
use Rattle.validate_stacks.proofs.stacks.Stacks.has_same_numbers.Goals as goal

pub loop-left-init : goal.loop-left-init
loop-left-init g c =
    let cx = body_context (g.R.WasmModuleResources.context c.args.resources.now) c.args.self.now.body in
    record { within = omega arith; rest = matching_starts cx c.args.expected.now c.args.self.now.body; known = known_starts c.args.expected.now c.args.self.now.body; lowest = λ h. absurd (omega (arith, h)) }

pub loop-left-preserved : goal.loop-left-preserved
loop-left-preserved g c =
    let md = g.R.WasmModuleResources.context c.args.resources.now in
    let v = c.args.self.now.body in
    let n = c.loop-left.left in
    let here : n - 1 < length c.args.expected.now = omega (arith, c.loop-left-test.true, c.loop-left.invariant.within) in
    let found = c.is_same_number_at.ensures c.if-not-is_same_number_at.false in
    let passed = known_fits md (g.met.R.WasmModuleResources.lawful c.args.resources.now) v _ _ (all_at (Valid md) c.args.expected.now (n - 1) _ here c.requires.types) found in
    record {
      within = omega (arith, c.loop-left.invariant.within);
      rest = goes_on_there md c.args.expected.now v v refl n _ (omega (arith, c.loop-left-test.true)) here _ refl passed c.loop-left.invariant.rest;
      known = known_goes_on c.args.expected.now v n _ (omega (arith, c.loop-left-test.true)) here c.requires.own found c.loop-left.invariant.known;
      lowest = λ _. found ∙ ap (option_map Known) (sym (slice_get-get_or c.args.expected.now (n - 1) _ here));
    }
