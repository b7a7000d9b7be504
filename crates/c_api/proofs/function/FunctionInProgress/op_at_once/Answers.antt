-- The operator joins the list.
use Rattle.std.proofs.Common.{◌≡◌, ◌∙◌, true, false, refl, sym, ap, subst}
use Rattle.std.specs.Prelude.{is_none, ◌||◌}
use Rattle.validate_operators.proofs.Listed.{visit_valid, visit_kept}
use Rattle.validate_operators.specs.Validator.{state, stacks_of}
use Rattle.validate_stacks.specs.Attempts.{is_quiet}
use Rattle.validate_stacks.specs.State.{IsValidBody}
use Rattle.wasmparser_validate.specs.Functions.{function_state}
use Rattle.c_api.specs.Functions.{InProgress, Takes}
use Rattle.c_api.specs.Modules.{context_in}
use Rattle.c_api.specs.VisitsMade.{IsVisited}
use Rattle.c_api.proofs.Answered.{not_both}
use Rattle.c_api.proofs.Taken.{sound, takes, some_taken}
use Rattle.c_api.proofs.Untaken.{unchanged}
use Rattle.c_api.proofs.function.FunctionInProgress.op_at_once.Goals as goal

pub invariant_of-self : goal.invariant_of-self
invariant_of-self c =
    let f = c.self.inside in
    let w = c.visit_at_once.new.self in
    let x = subst (λ h. IsVisited h c.args.bytes.now c.args.offset c.in-Some.taken f.visits w) c.deref.ensures c.in-Some.ensures.accepted in
    let kept = visit_kept _ _ _ _ _ _ x.meets in
    record {
      sound = sound f.module f.first_frame f.visits w c.args.bytes.now c.args.offset c.in-Some.taken f.failed f.failed x kept c.if-self.false c.self.invariant.sound (c.self.invariant.sound.run c.if-self.false) (visit_valid _ _ _ _ _ _ x.meets);
      none_before = λ (e : true ≡ false). absurd (not_both e);
      some_before = λ _. some_taken f.module f.first_frame f.visits w c.args.bytes.now c.args.offset c.in-Some.taken f.failed f.failed x kept c.if-self.false;
    }

pub returns-in-Some-clause-accepted : goal.returns-in-Some-clause-accepted
returns-in-Some-clause-accepted c =
    let f = c.self.inside in
    let w = c.visit_at_once.new.self in
    let x = subst (λ h. IsVisited h c.args.bytes.now c.args.offset c.in-Some.taken f.visits w) c.deref.ensures c.in-Some.ensures.accepted in
    let new : InProgress = function_state f.module f.first_frame (state w.validator) w.accepted.operators f.failed in
    subst (λ (g : InProgress). Takes c.args.bytes.now c.args.offset c.in-Some.taken g new) c.self.view_is
    (takes f.module f.first_frame f.visits w c.args.bytes.now c.args.offset c.in-Some.taken f.failed f.failed x (visit_kept _ _ _ _ _ _ x.meets) c.if-self.false c.if-self.false)

pub visit_at_once-requires : goal.visit_at_once-requires
visit_at_once-requires c =
    let f = c.self.inside in
    let s = c.self.invariant.sound in
    record {
      open_frame = λ none. not_both (sym c.if-not-has_open_frame.false ∙ c.has_open_frame.ensures.1 (sym (ap (λ (g : InProgress). g.present.frames) c.self.view_is) ∙ none));
      valid = subst (λ h. IsValidBody (context_in h) (state f.visits.validator)) (sym c.deref.ensures) s.valid;
      attempt = ap (λ o. is_none o || is_quiet (stacks_of f.visits.validator).phase) s.idle;
    }

pub returns-in-None-clause-accepted : goal.returns-in-None-clause-accepted
returns-in-None-clause-accepted c = tt

pub returns-in-None-clause-unchanged : goal.returns-in-None-clause-unchanged
returns-in-None-clause-unchanged c = λ _.
    let f = c.self.inside in
    let w = c.visit_at_once.new.self in
    let x = c.in-None.ensures.unchanged refl in
    unchanged f.module f.first_frame (state f.visits.validator) (state w.validator) f.visits.accepted.operators w.accepted.operators f.failed f.failed (ap (λ (a : _). a.operators) x.same_list) x.same_state refl ∙ c.self.view_is
