use Rattle.std.proofs.Common.{sym, subst}
use Rattle.validation_rules.specs.Operators.{operator}
use Rattle.validate_stacks.specs.Visits.{MayVisit}
use Rattle.validate_stacks.proofs.AtOnce.{done_at_once, same_at_once}
use Rattle.validate_operators.proofs.Listed.{row_before}
use Rattle.wasmparser_validate.specs.Validator.{stacks_of}
use Rattle.validate_tests.proofs.visits.check_in_halves.Goals as goal

pub returns-then-passes_at_once : goal.returns-then-passes_at_once
returns-then-passes_at_once g c =
    let md = g.R.WasmModuleResources.context c.args.lists.now in
    done_at_once md (λ cx. operator cx c.args.op.now) (stacks_of c.args.v.now) (stacks_of c.passes_at_once.new.v) c.passes_at_once.result c.passes_at_once.ensures c.if-passes_at_once.true 7

pub check_slowly-requires : goal.check_slowly-requires
check_slowly-requires g c =
    let md = g.R.WasmModuleResources.context c.args.lists.now in
    let same = same_at_once md (λ cx. operator cx c.args.op.now) (stacks_of c.args.v.now) (stacks_of c.passes_at_once.new.v) c.passes_at_once.result c.passes_at_once.ensures c.if-passes_at_once.false in
    subst (MayVisit md) (sym same) c.requires

pub returns : goal.returns
returns g c =
    let md = g.R.WasmModuleResources.context c.args.lists.now in
    row_before md (λ cx. operator cx c.args.op.now) 7 (stacks_of c.args.v.now) (stacks_of c.passes_at_once.new.v) c.passes_at_once.result c.check_slowly.result _ c.passes_at_once.ensures c.if-passes_at_once.false c.check_slowly.ensures.row
