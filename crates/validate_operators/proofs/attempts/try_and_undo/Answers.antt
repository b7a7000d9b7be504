use Rattle.std.proofs.Common.{IsSome, refl, sym, ap, ◌∙◌, subst}
use Rattle.validate_stacks.specs.Attempts.{body_of, Stacked}
use Rattle.validate_stacks.specs.Pops.{IsKept}
use Rattle.validate_stacks.specs.State.{BodyState}
use Rattle.validate_stacks.specs.Visits.{MayVisit, Meets}
use Rattle.validation_rules.specs.Operators.{operator}
use Rattle.validate_operators.proofs.Attempted.{accepted_begun, refused_begun}
use Rattle.validate_stacks.proofs.Phases.{undone_whole}
use Rattle.validate_operators.specs.Validator.{state, stacks_of}
use Rattle.validate_operators.proofs.Listed.{visit_at}
use Rattle.validate_operators.proofs.attempts.try_and_undo.Goals as goal

pub check-answer-requires : goal.check-answer-requires
check-answer-requires g c =
    let md = g.R.WasmModuleResources.context c.args.resources.now in
    subst (MayVisit md) (sym c.begin_try_op.ensures.begun) (record { open_frame = c.requires.visit.open_frame; valid = c.requires.visit.valid; attempt = refl })

pub rollback-requires : goal.rollback-requires
rollback-requires g c =
    subst IsSome (sym (ap (λ (x : BodyState). x.undone) c.check-answer.ensures.kept ∙ ap (λ (x : Stacked). x.body.undone) c.begin_try_op.ensures.begun)) refl

pub returns-clause-same : goal.returns-clause-same
returns-clause-same g c =
    ap body_of c.rollback.ensures.back ∙ undone_whole (stacks_of c.args.v.now) (stacks_of c.check-answer.new.self) c.requires.idle (subst (λ (x : Stacked). IsKept x.body (state c.check-answer.new.self)) c.begin_try_op.ensures.begun c.check-answer.ensures.kept)

pub returns-clause-offset : goal.returns-clause-offset
returns-clause-offset g c =
    let md = g.R.WasmModuleResources.context c.args.resources.now in
    visit_at md _ _ (state c.begin_try_op.new.self) (state c.check-answer.new.self) _ c.check-answer.ensures.row

pub returns-clause-accepted : goal.returns-clause-accepted
returns-clause-accepted g c =
    let md = g.R.WasmModuleResources.context c.args.resources.now in
    accepted_begun md (λ cx. operator cx c.args.op) c.args.offset (stacks_of c.args.v.now) (state c.check-answer.new.self) c.check-answer.result (subst (λ (x : Stacked). Meets md (λ cx. operator cx c.args.op) c.args.offset x.body c.check-answer.result (state c.check-answer.new.self)) c.begin_try_op.ensures.begun c.check-answer.ensures.row)

pub returns-clause-refused : goal.returns-clause-refused
returns-clause-refused g c =
    let md = g.R.WasmModuleResources.context c.args.resources.now in
    refused_begun md (λ cx. operator cx c.args.op) c.args.offset (stacks_of c.args.v.now) (state c.check-answer.new.self) c.check-answer.result (subst (λ (x : Stacked). Meets md (λ cx. operator cx c.args.op) c.args.offset x.body c.check-answer.result (state c.check-answer.new.self)) c.begin_try_op.ensures.begun c.check-answer.ensures.row)
