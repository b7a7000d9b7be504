use Rattle.std.proofs.Common.{◌++◌, replicate, true, length, refl, ◌∙◌, ap}
use Rattle.validate_stacks.specs.Attempts.{body_of}
use Rattle.validate_stacks.specs.Steps.{body_with_params}
use Rattle.validate_stacks.specs.StacksInside.{flat_of}
use Rattle.validate_stacks.proofs.Marks.{all_declared, params_state}
use Rattle.validate_stacks.proofs.stacks.Stacks.define_params.Goals as goal

pub returns-clause-defined : goal.returns-clause-defined
returns-clause-defined c =
    let s = flat_of c.self.inside in
    let params = c.args.params.now in
    let inits = c.define_params-2.new.self in
    let types =
    all_declared c.in_ok-define_params.field-0 s.locals c.define_params.new.self params
    c.in_ok-define_params.ensures.defined c.in_ok-define_params.ensures.within
    (c.if-not-may_define.ensures.0 refl) in
    let marks =
    rw c.unwrap.ensures at c.define_params-2.ensures.declared
    ∙ ap (λ set_at_entry. set_at_entry ++ replicate (length params) true)
    c.in_ok-reserve.ensures.set_at_entry in
    let order = c.define_params-2.ensures.order ∙ c.in_ok-reserve.ensures.order in
    params_state s inits.order inits.set_at_entry c.define_params.new.self params order marks types
    ∙ ap (body_with_params params) (ap body_of c.self.view_is)
