use Rattle.std.proofs.Common.{sym, subst}
use Rattle.validation_rules.specs.Operators.{operator}
use Rattle.validate_stacks.specs.Attempts.{Stacked}
use Rattle.validate_stacks.specs.Visits.{MayVisit}
use Rattle.validate_stacks.proofs.AtOnce.{done_at_once, same_at_once}
use Rattle.validate_operators.specs.Memory.{TakesNoMemory}
use Rattle.validate_operators.specs.Validator.{stacks_of}
use Rattle.validate_operators.proofs.Listed.{row_before, visit_valid, visit_kept}
use Rattle.validate_operators.proofs.validator.OperatorValidator.check_ref.Goals as goal

pub returns-then-passes_at_once-clause-row : goal.returns-then-passes_at_once-clause-row
returns-then-passes_at_once-clause-row g c =
    let md = g.R.WasmModuleResources.context c.args.resources.now in
    done_at_once md (λ cx. operator cx c.args.op.now) (stacks_of c.args.self.now) (stacks_of c.passes_at_once.new.self) c.passes_at_once.result c.passes_at_once.ensures c.if-passes_at_once.true c.args.offset

pub returns-then-passes_at_once-clause-valid : goal.returns-then-passes_at_once-clause-valid
returns-then-passes_at_once-clause-valid g c = visit_valid _ _ _ _ _ _ (returns-then-passes_at_once-clause-row g c)

pub returns-then-passes_at_once-clause-kept : goal.returns-then-passes_at_once-clause-kept
returns-then-passes_at_once-clause-kept g c = visit_kept _ _ _ _ _ _ (returns-then-passes_at_once-clause-row g c)

pub check_slowly-requires : goal.check_slowly-requires
check_slowly-requires g c =
    let md = g.R.WasmModuleResources.context c.args.resources.now in
    let same = same_at_once md (λ cx. operator cx c.args.op.now) (stacks_of c.args.self.now) (stacks_of c.passes_at_once.new.self) c.passes_at_once.result c.passes_at_once.ensures c.if-passes_at_once.false in
    subst (MayVisit md) (sym same) c.requires

pub returns-clause-row : goal.returns-clause-row
returns-clause-row g c =
    let md = g.R.WasmModuleResources.context c.args.resources.now in
    row_before md (λ cx. operator cx c.args.op.now) c.args.offset (stacks_of c.args.self.now) (stacks_of c.passes_at_once.new.self) c.passes_at_once.result c.check_slowly.result _ c.passes_at_once.ensures c.if-passes_at_once.false c.check_slowly.ensures.row

pub returns-clause-memory : goal.returns-clause-memory
returns-clause-memory g c =
    let md = g.R.WasmModuleResources.context c.args.resources.now in
    let same = same_at_once md (λ cx. operator cx c.args.op.now) (stacks_of c.args.self.now) (stacks_of c.passes_at_once.new.self) c.passes_at_once.result c.passes_at_once.ensures c.if-passes_at_once.false in
    subst (λ (s : Stacked). TakesNoMemory md c.args.op.now s.body c.check_slowly.result) same c.check_slowly.ensures.memory

pub returns-clause-valid : goal.returns-clause-valid
returns-clause-valid g c = visit_valid _ _ _ _ _ _ (returns-clause-row g c)

pub returns-clause-kept : goal.returns-clause-kept
returns-clause-kept g c = visit_kept _ _ _ _ _ _ (returns-clause-row g c)
