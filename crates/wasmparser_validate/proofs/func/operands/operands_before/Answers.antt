use Rattle.std.proofs.Common.{◌≡◌, Some, sym, subst, add-one, arith}
use Rattle.validate_stacks.proofs.Validity.{kept_on}
use Rattle.validate_operators.specs.Runs.{body_before}
use Rattle.validate_operators.specs.Validator.{state}
use Rattle.validate_operators.proofs.Listed.{refused_row, accepted_next, ordered_on, safe_accepted}
use Rattle.wasmparser_validate.specs.Operands.{AreTypesOfRuns}
use Rattle.wasmparser_validate.proofs.Held.{types_of_runs}
use Rattle.wasmparser_validate.proofs.func.operands.operands_before.Goals as goal

pub returns-in-Err-clause-refused : goal.returns-in-Err-clause-refused
returns-in-Err-clause-refused g c =
    let md = g.R.WasmModuleResources.context c.args.resources.now in
    λ _. refused_row md (state c.args.v.now) c.args.ops.now c.loop-index.index _ (omega arith) (state c.loop-index.v) (state c.check.new.self) c.in-Err.refusal c.loop-index.invariant.kept c.loop-index.invariant.run c.in-Err.ensures.row

pub loop-index-preserved : goal.loop-index-preserved
loop-index-preserved g c =
    let md = g.R.WasmModuleResources.context c.args.resources.now in
    let v = state c.args.v.now in
    let ops = c.args.ops.now in
    let i = c.loop-index.index in
    let u = state c.loop-index.v in
    let w = state c.check.new.self in
    record {
      run = rw add-one (accepted_next md v ops i _ (omega arith) u w c.in-Ok.field-0 c.loop-index.invariant.kept c.loop-index.invariant.run c.in-Ok.ensures.row);
      valid = c.check.ensures.valid;
      kept = kept_on v u w c.loop-index.invariant.kept c.check.ensures.kept;
      ordered = ordered_on md v ops i _ (omega arith) u w c.in-Ok.field-0 c.loop-index.invariant.kept c.loop-index.invariant.run c.in-Ok.ensures.row c.loop-index.invariant.ordered;
    }

pub returns-in-Ok-operand_types-clause-below : goal.returns-in-Ok-operand_types-clause-below
returns-in-Ok-operand_types-clause-below g c =
    let md = g.R.WasmModuleResources.context c.args.resources.now in
    let v = state c.args.v.now in
    let ops = c.args.ops.now in
    let s = (state c.loop-index.v).present in
    let at_end : c.loop-index.index ≡ c.args.k = omega arith in
    let run = subst (λ n. body_before md v ops n ≡ Some s) at_end c.loop-index.invariant.run in
    λ ty starts accepted. subst (AreTypesOfRuns md v ops ty c.args.k) (sym c.in-Ok-operand_types.ensures)
    (types_of_runs md v ops ty c.args.k s starts (safe_accepted md v ops ty (g.met.R.WasmModuleResources.lawful c.args.resources.now) starts accepted) run)
