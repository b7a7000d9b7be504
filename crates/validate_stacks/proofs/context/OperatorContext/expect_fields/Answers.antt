use Rattle.std.proofs.Common.{arith, length, ◌+◌, ◌-◌, ◌<◌, Some, sym, ap, ◌∙◌, subst}
use Rattle.std.proofs.lemmas.List.{length-map}
use Rattle.validate_resources.specs.Context.{Valid}
use Rattle.validate_types.specs.Types.{unpacked_fields}
use Rattle.validation_rules.specs.Structs.{field_value}
use Rattle.validate_stacks.specs.AtOnce.{body_dropped}
use Rattle.validate_stacks.specs.Pops.{may_pop}
use Rattle.validate_stacks.specs.State.{body_context}
use Rattle.validate_stacks.proofs.FieldValues.{value_valid, value_at}
use Rattle.validate_stacks.proofs.MatchedOperands.{counted_starts, counted_goes_on, counted_stops}
use Rattle.validate_stacks.proofs.Moves.{found_at_depth}
use Rattle.validate_stacks.proofs.context.OperatorContext.expect_fields.Goals as goal

pub loop-left-init : goal.loop-left-init
loop-left-init g c =
    let cx = body_context (g.R.WasmModuleResources.context c.args.self.now.resources.now) c.args.self.now.stacks.now.body in
    let fields = c.args.fields.now in
    record { within = omega arith; rest = counted_starts cx (unpacked_fields fields) (body_dropped c.args.above c.args.self.now.stacks.now.body) (length fields) (length-map fields field_value) }

pub is_fitting_at-requires-clause-expected : goal.is_fitting_at-requires-clause-expected
is_fitting_at-requires-clause-expected g c =
    let md = g.R.WasmModuleResources.context c.args.self.now.resources.now in
    subst (Valid md) (sym c.unpack-expected.ensures) (value_valid md c.args.fields.now (c.loop-left.left - 1) _ c.requires.types (omega (arith, c.loop-left-test.true, c.loop-left.invariant.within)))

pub returns-then-not-is_fitting_at-clause-unfit : goal.returns-then-not-is_fitting_at-clause-unfit
returns-then-not-is_fitting_at-clause-unfit g c =
    let md = g.R.WasmModuleResources.context c.args.self.now.resources.now in
    let v = c.args.self.now.stacks.now.body in
    let n = c.loop-left.left in
    let fields = c.args.fields.now in
    let k = length fields - 1 - (n - 1) in
    let here : n - 1 < length fields = omega (arith, c.loop-left-test.true, c.loop-left.invariant.within) in
    let found = found_at_depth c.args.above (k + c.args.above) k v (omega arith) in
    let failed = ap (λ o. may_pop (body_context md v) o (Some c.unpack-expected.result)) (sym found) ∙ sym c.is_fitting_at.ensures ∙ c.if-not-is_fitting_at.true in
    counted_stops md (unpacked_fields fields) (body_dropped c.args.above v) n _ c.unpack-expected.result (omega (arith, c.loop-left-test.true)) (value_at fields (n - 1) _ ∙ sym c.unpack-expected.ensures) (length fields) (length-map fields field_value) here failed c.loop-left.invariant.rest

pub loop-left-preserved : goal.loop-left-preserved
loop-left-preserved g c =
    let md = g.R.WasmModuleResources.context c.args.self.now.resources.now in
    let v = c.args.self.now.stacks.now.body in
    let n = c.loop-left.left in
    let fields = c.args.fields.now in
    let k = length fields - 1 - (n - 1) in
    let here : n - 1 < length fields = omega (arith, c.loop-left-test.true, c.loop-left.invariant.within) in
    let found = found_at_depth c.args.above (k + c.args.above) k v (omega arith) in
    let passed = ap (λ o. may_pop (body_context md v) o (Some c.unpack-expected.result)) (sym found) ∙ sym c.is_fitting_at.ensures ∙ c.if-not-is_fitting_at.false in
    record {
      within = omega (arith, c.loop-left.invariant.within);
      rest = counted_goes_on md (unpacked_fields fields) (body_dropped c.args.above v) n _ c.unpack-expected.result (omega (arith, c.loop-left-test.true)) (value_at fields (n - 1) _ ∙ sym c.unpack-expected.ensures) (length fields) (length-map fields field_value) here passed c.loop-left.invariant.rest;
    }

pub mismatch-requires : goal.mismatch-requires
mismatch-requires g c =
    let md = g.R.WasmModuleResources.context c.args.self.now.resources.now in
    subst (Valid md) (sym c.unpack-expected.ensures) (value_valid md c.args.fields.now (c.loop-left.left - 1) _ c.requires.types (omega (arith, c.loop-left-test.true, c.loop-left.invariant.within)))
