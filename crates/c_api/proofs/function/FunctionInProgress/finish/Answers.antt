-- The rows of all accepted operators hold, so their list is type safe.
use Rattle.std.proofs.Common.{◌∙◌, ap, subst}
use Rattle.validate_operators.proofs.Accepted.{accepted_whole}
use Rattle.validate_operators.proofs.Listed.{safe_accepted}
use Rattle.validate_operators.specs.Runs.{IsAcceptedBody}
use Rattle.validate_operators.specs.Validator.{state}
use Rattle.wasmparser_validate.specs.Functions.{state_from}
use Rattle.validate_resources.specs.Context.{IsLawful}
use Rattle.c_api.specs.Functions.{InProgress, module_under}
use Rattle.c_api.specs.Modules.{context_in, module_of}
use Rattle.c_api.proofs.function.FunctionInProgress.finish.Goals as goal

pub returns-clause-rows : goal.returns-clause-rows
returns-clause-rows c =
    let f = c.self.inside in
    let v = state f.visits.validator in
    let none = ap (λ (g : InProgress). g.present.frames) c.self.view_is ∙ c.has_open_frame.ensures.0 c.if-has_open_frame.false in
    subst (λ (g : InProgress). IsAcceptedBody (context_in (module_under g)) g.starting g.accepted) c.self.view_is
    (accepted_whole (context_in (module_of f.module)) (state_from f.first_frame v) f.visits.accepted.operators v.present (c.self.invariant.sound.run c.if-self.false) none)

pub returns-clause-safe : goal.returns-clause-safe
returns-clause-safe c =
    let f = c.args.self.now in
    let lawful = subst IsLawful (c.resources.ensures ∙ (ap context_in c.deref.ensures ∙ ap (λ (g : InProgress). context_in (module_under g)) c.self.view_is)) (c.laws.ensures c.resources.result.now) in
    λ ty s. safe_accepted (context_in (module_under f)) f.starting f.accepted ty lawful s (returns-clause-rows c)
