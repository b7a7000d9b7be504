-- It is where it started.
use Rattle.std.proofs.Common.{◌∙◌, sym, ap, subst}
use Rattle.validate_operators.specs.Validator.{state}
use Rattle.validate_stacks.specs.State.{IsStarting}
use Rattle.c_api.specs.Functions.{InProgress}
use Rattle.c_api.specs.Modules.{context_in, module_of}
use Rattle.c_api.proofs.Untaken.{starting, sound_defined, same_present}
use Rattle.c_api.proofs.function.FunctionInProgress.define_locals.Goals as goal

pub returns-then-self-2-clause-refused : goal.returns-then-self-2-clause-refused
returns-then-self-2-clause-refused c = λ memory none_failed none.
    absurd (c.self.invariant.some_before c.if-self-2.true (ap (λ (f : InProgress). f.accepted) c.self.view_is ∙ none))

pub define_locals-requires : goal.define_locals-requires
define_locals-requires c =
    let f = c.self.inside in
    subst (λ md. IsStarting md (state f.visits.validator)) (sym (c.resources-resources.ensures ∙ ap context_in c.deref.ensures))
    (starting (context_in (module_of f.module)) f.first_frame (state f.visits.validator) (state f.visits.validator) f.visits.accepted.operators f.visits.accepted.operators f.failed f.failed c.self.invariant.sound (c.self.invariant.none_before c.if-self-2.false) c.if-self.false)

pub invariant_of-self : goal.invariant_of-self
invariant_of-self c =
    let f = c.self.inside in
    let v = state f.visits.validator in
    let w = state c.define_locals.new.self in
    let starts = subst (λ md. IsStarting md w) (c.resources-resources.ensures ∙ ap context_in c.deref.ensures) c.define_locals.ensures.starting in
    record {
      sound = sound_defined (context_in (module_of f.module)) f.first_frame v w f.visits.accepted.operators f.visits.accepted.operators f.failed f.failed c.self.invariant.sound (c.self.invariant.none_before c.if-self-2.false) c.if-self.false starts
          (same_present _ c.args.count c.args.ty v w c.define_locals.result c.define_locals.ensures.defined c.define_locals.ensures.err);
      none_before = c.self.invariant.none_before;
      some_before = c.self.invariant.some_before;
    }
