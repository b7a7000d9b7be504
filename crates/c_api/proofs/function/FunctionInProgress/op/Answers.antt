-- The operator joins the list, or none can be taken.
use Rattle.std.proofs.Common.{◌≡◌, ◌∙◌, true, false, sym, ap, subst}
use Rattle.validate_operators.specs.Validator.{state}
use Rattle.wasmparser_validate.specs.Functions.{function_state, body_state, Fails}
use Rattle.validate_stacks.specs.State.{IsValidBody}
use Rattle.validate_types.specs.Features.{has, simd}
use Rattle.c_api.specs.Functions.{InProgress, module_under, Takes}
use Rattle.c_api.specs.Modules.{context_in, features_in, module_of}
use Rattle.c_api.specs.Operators.{HasNoRow}
use Rattle.c_api.specs.VisitsMade.{IsVisited}
use Rattle.c_api.proofs.Answered.{not_both}
use Rattle.c_api.proofs.Untaken.{sound_told, vector_unread, fails, unchanged}
use Rattle.c_api.proofs.Taken.{sound, takes, some_taken}
use Rattle.c_api.proofs.function.FunctionInProgress.op.Goals as goal

pub visit_open-requires : goal.visit_open-requires
visit_open-requires c =
    let s = c.self.invariant.sound in
    record {
      idle = s.idle;
      valid = subst (λ h. IsValidBody (context_in h) (state c.self.inside.visits.validator)) (sym c.deref.ensures) s.valid;
    }

pub invariant_of-self : goal.invariant_of-self
invariant_of-self c =
    let f = c.self.inside in
    let w = c.visit_open.new.self in
    let x = subst (λ h. IsVisited h c.args.bytes.now c.args.offset c.in-Ok.taken f.visits w) c.deref.ensures c.in-Ok.ensures.accepted in
    let valid = subst (λ h. IsValidBody (context_in h) (state w.validator)) c.deref.ensures c.visit_open.ensures.valid in
    record {
      sound = sound f.module f.first_frame f.visits w c.args.bytes.now c.args.offset c.in-Ok.taken f.failed f.failed x c.visit_open.ensures.kept c.if-self.false c.self.invariant.sound (c.self.invariant.sound.run c.if-self.false) valid;
      none_before = λ (e : true ≡ false). absurd (not_both e);
      some_before = λ _. some_taken f.module f.first_frame f.visits w c.args.bytes.now c.args.offset c.in-Ok.taken f.failed f.failed x c.visit_open.ensures.kept c.if-self.false;
    }

pub invariant_of-self-in-Err : goal.invariant_of-self-in-Err
invariant_of-self-in-Err c =
    let f = c.self.inside in
    let w = c.visit_open.new.self in
    let same = ap (λ (a : _). a.operators) c.in-Err.ensures.list in
    let valid = subst (λ h. IsValidBody (context_in h) (state w.validator)) c.deref.ensures c.visit_open.ensures.valid in
    record {
      sound = sound_told (context_in (module_of f.module)) f.first_frame (state f.visits.validator) (state w.validator) f.visits.accepted.operators w.accepted.operators f.failed c.fails_at-self-inside.result c.self.invariant.sound
          c.verdict_on-verdict.result c.args.on_refusal c.if-self.false c.visit_open.ensures.kept valid same c.fails_at-self-inside.ensures.failed
          (λ at e. (c.in-Err.ensures.unread (vector_unread c.in-Err.error (c.verdict_on-verdict.ensures.vector at e))).same_state) (λ is. (c.in-Err.ensures.back is).same_state);
      none_before = λ e. same ∙ c.self.invariant.none_before e;
      some_before = λ e none. c.self.invariant.some_before e (sym same ∙ none);
    }

pub returns-in-Ok-clause-accepted : goal.returns-in-Ok-clause-accepted
returns-in-Ok-clause-accepted c =
    let f = c.self.inside in
    let w = c.visit_open.new.self in
    let x = subst (λ h. IsVisited h c.args.bytes.now c.args.offset c.in-Ok.taken f.visits w) c.deref.ensures c.in-Ok.ensures.accepted in
    let new : InProgress = function_state f.module f.first_frame (state w.validator) w.accepted.operators f.failed in
    subst (λ (g : InProgress). Takes c.args.bytes.now c.args.offset c.in-Ok.taken g new) c.self.view_is
    (takes f.module f.first_frame f.visits w c.args.bytes.now c.args.offset c.in-Ok.taken f.failed f.failed x c.visit_open.ensures.kept c.if-self.false c.if-self.false)

pub returns-in-Err-clause-refused : goal.returns-in-Err-clause-refused
returns-in-Err-clause-refused c = c.verdict_on-verdict.ensures.not_accepted

pub returns-in-Err-clause-cannot : goal.returns-in-Err-clause-cannot
returns-in-Err-clause-cannot c = λ memory none_failed is_open.
    subst (λ (g : InProgress). HasNoRow (module_under g) c.args.bytes.now (body_state g)) c.self.view_is
    (subst (λ h. HasNoRow h c.args.bytes.now (state c.self.inside.visits.validator)) c.deref.ensures
    (c.in-Err.ensures.refused (c.verdict_on-verdict.ensures.memory memory) (λ none. is_open (sym (ap (λ (g : InProgress). g.present.frames) c.self.view_is) ∙ none))))

pub returns-in-Err-clause-failed : goal.returns-in-Err-clause-failed
returns-in-Err-clause-failed c = λ is covered.
    let f = c.self.inside in
    let w = c.visit_open.new.self in
    let new : InProgress = function_state f.module f.first_frame (state w.validator) w.accepted.operators c.fails_at-self-inside.result in
    subst (λ (g : InProgress). Fails g new) c.self.view_is
    (fails f.module f.first_frame (state f.visits.validator) (state w.validator) f.visits.accepted.operators w.accepted.operators f.failed c.fails_at-self-inside.result (ap (λ (a : _). a.operators) c.in-Err.ensures.list) c.visit_open.ensures.kept (c.fails_at-self-inside.ensures.failed is covered))

pub returns-in-Err-clause-uncovered : goal.returns-in-Err-clause-uncovered
returns-in-Err-clause-uncovered c = λ at uncovered.
    let vector = c.verdict_on-verdict.ensures.vector at uncovered in
    record {
      begins = c.in-Err.ensures.uncovered vector;
      is_on = subst (λ (g : InProgress). has (features_in (module_under g)) simd ≡ true) c.self.view_is
          (subst (λ h. has (features_in h) simd ≡ true) c.deref-in-Err.ensures (c.verdict_on-verdict.ensures.proposal at uncovered));
      none_failed = sym (ap (λ (g : InProgress). g.failed) c.self.view_is) ∙ c.if-self.false;
      is_open = λ none. c.in-Err.ensures.is_open vector (ap (λ (g : InProgress). g.present.frames) c.self.view_is ∙ none);
    }

pub returns-in-Err-clause-unchanged : goal.returns-in-Err-clause-unchanged
returns-in-Err-clause-unchanged c = λ at uncovered.
    let f = c.self.inside in
    let w = c.visit_open.new.self in
    let x = c.in-Err.ensures.unread (vector_unread c.in-Err.error (c.verdict_on-verdict.ensures.vector at uncovered)) in
    unchanged f.module f.first_frame (state f.visits.validator) (state w.validator) f.visits.accepted.operators w.accepted.operators f.failed c.fails_at-self-inside.result (ap (λ (a : _). a.operators) c.in-Err.ensures.list) x.same_state (c.fails_at-self-inside.ensures.not_failed at uncovered ∙ sym c.if-self.false) ∙ c.self.view_is

pub returns-in-Err-clause-back : goal.returns-in-Err-clause-back
returns-in-Err-clause-back c = λ is.
    let f = c.self.inside in
    let w = c.visit_open.new.self in
    unchanged f.module f.first_frame (state f.visits.validator) (state w.validator) f.visits.accepted.operators w.accepted.operators f.failed c.fails_at-self-inside.result (ap (λ (a : _). a.operators) c.in-Err.ensures.list) (c.in-Err.ensures.back is).same_state (c.fails_at-self-inside.ensures.no_trace is ∙ sym c.if-self.false) ∙ c.self.view_is

pub returns-in-Err-clause-had_failed : goal.returns-in-Err-clause-had_failed
returns-in-Err-clause-had_failed c = λ was. absurd (not_both (sym was ∙ (sym (ap (λ (g : InProgress). g.failed) c.self.view_is) ∙ c.if-self.false)))
