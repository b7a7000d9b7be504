use Rattle.std.proofs.Common.{◌≡◌, OnErr, sym, subst}
use Rattle.validation_rules.specs.Operators.{operator}
use Rattle.validate_stacks.specs.Attempts.{Stacked}
use Rattle.validate_stacks.specs.Visits.{MayVisit, Meets}
use Rattle.validate_stacks.proofs.AtOnce.{done_at_once, same_at_once}
use Rattle.validate_operators.specs.Validator.{state, stacks_of}
use Rattle.validate_operators.proofs.Listed.{visit_valid, visit_kept}
use Rattle.validate_operators.proofs.attempts.try_op.Goals as goal

pub returns-then-passes_at_once-clause-meets : goal.returns-then-passes_at_once-clause-meets
returns-then-passes_at_once-clause-meets g c =
    let md = g.R.WasmModuleResources.context c.args.resources.now in
    done_at_once md (λ cx. operator cx c.args.op) (stacks_of c.args.v.now) (stacks_of c.passes_at_once.new.self) c.passes_at_once.result c.passes_at_once.ensures c.if-passes_at_once.true c.args.offset

pub returns-then-passes_at_once-clause-valid : goal.returns-then-passes_at_once-clause-valid
returns-then-passes_at_once-clause-valid g c = visit_valid _ _ _ _ _ _ (returns-then-passes_at_once-clause-meets g c)

pub returns-then-passes_at_once-clause-kept : goal.returns-then-passes_at_once-clause-kept
returns-then-passes_at_once-clause-kept g c = visit_kept _ _ _ _ _ _ (returns-then-passes_at_once-clause-meets g c)

pub try_slowly-requires : goal.try_slowly-requires
try_slowly-requires g c =
    let md = g.R.WasmModuleResources.context c.args.resources.now in
    let same = same_at_once md (λ cx. operator cx c.args.op) (stacks_of c.args.v.now) (stacks_of c.passes_at_once.new.self) c.passes_at_once.result c.passes_at_once.ensures c.if-passes_at_once.false in
    subst (MayVisit md) (sym same) c.requires.visit

pub returns-clause-meets : goal.returns-clause-meets
returns-clause-meets g c =
    let md = g.R.WasmModuleResources.context c.args.resources.now in
    let same = same_at_once md (λ cx. operator cx c.args.op) (stacks_of c.args.v.now) (stacks_of c.passes_at_once.new.self) c.passes_at_once.result c.passes_at_once.ensures c.if-passes_at_once.false in
    subst (λ (s : Stacked). Meets md (λ cx. operator cx c.args.op) c.args.offset s.body c.try_slowly.result (state c.try_slowly.new.self)) same c.try_slowly.ensures.row

pub returns-clause-back : goal.returns-clause-back
returns-clause-back g c =
    let md = g.R.WasmModuleResources.context c.args.resources.now in
    let same = same_at_once md (λ cx. operator cx c.args.op) (stacks_of c.args.v.now) (stacks_of c.passes_at_once.new.self) c.passes_at_once.result c.passes_at_once.ensures c.if-passes_at_once.false in
    subst (λ (s : Stacked). OnErr c.try_slowly.result (state c.try_slowly.new.self ≡ s.body)) same c.try_slowly.ensures.back

pub returns-clause-valid : goal.returns-clause-valid
returns-clause-valid g c = visit_valid _ _ _ _ _ _ (returns-clause-meets g c)

pub returns-clause-kept : goal.returns-clause-kept
returns-clause-kept g c = visit_kept _ _ _ _ _ _ (returns-clause-meets g c)
