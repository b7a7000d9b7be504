-- An operator passes at once, or nothing is changed before its check.
use Rattle.std.proofs.Common.{Ok, IfSome, sym, subst}
use Rattle.validation_rules.specs.Operators.{operator}
use Rattle.validate_stacks.specs.Attempts.{Stacked}
use Rattle.validate_stacks.specs.Visits.{step_body, MayVisit, Meets}
use Rattle.validation_rules.specs.Static.{RowFails}
use Rattle.validate_stacks.proofs.AtOnce.{done_at_once, same_at_once}
use Rattle.validate_operators.specs.Validator.{state, stacks_of}
use Rattle.module_check.specs.Refusals.{IsRefusedFor}
use Rattle.module_check.proofs.operators.is_accepted.Goals as goal

pub returns-then-passes_at_once-clause-row : goal.returns-then-passes_at_once-clause-row
returns-then-passes_at_once-clause-row g c = λ is.
    done_at_once (g.R.WasmModuleResources.context c.args.resources.now) (λ cx. operator cx c.args.op.now) (stacks_of c.args.v.now) (stacks_of c.passes_at_once.new.self) c.passes_at_once.result c.passes_at_once.ensures c.if-passes_at_once.true c.args.offset

pub is_accepted_by_check-requires : goal.is_accepted_by_check-requires
is_accepted_by_check-requires g c =
    let md = g.R.WasmModuleResources.context c.args.resources.now in
    let same = same_at_once md (λ cx. operator cx c.args.op.now) (stacks_of c.args.v.now) (stacks_of c.passes_at_once.new.self) c.passes_at_once.result c.passes_at_once.ensures c.if-passes_at_once.false in
    subst (MayVisit md) (sym same) c.requires

pub returns-clause-row : goal.returns-clause-row
returns-clause-row g c = λ accepted.
    let md = g.R.WasmModuleResources.context c.args.resources.now in
    let same = same_at_once md (λ cx. operator cx c.args.op.now) (stacks_of c.args.v.now) (stacks_of c.passes_at_once.new.self) c.passes_at_once.result c.passes_at_once.ensures c.if-passes_at_once.false in
    subst (λ (s : Stacked). Meets md (λ cx. operator cx c.args.op.now) c.args.offset s.body (Ok tt) (state c.is_accepted_by_check.new.v)) same (c.is_accepted_by_check.ensures.row accepted)

pub returns-clause-refused : goal.returns-clause-refused
returns-clause-refused g c = λ refused.
    let md = g.R.WasmModuleResources.context c.args.resources.now in
    let same = same_at_once md (λ cx. operator cx c.args.op.now) (stacks_of c.args.v.now) (stacks_of c.passes_at_once.new.self) c.passes_at_once.result c.passes_at_once.ensures c.if-passes_at_once.false in
    subst (λ (s : Stacked). IfSome c.is_accepted_by_check.new.refusal (IsRefusedFor (RowFails (step_body md (λ cx. operator cx c.args.op.now) s.body)) c.args.offset)) same (c.is_accepted_by_check.ensures.refused refused)
