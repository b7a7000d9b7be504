-- The share is of the module in the handle.
use Rattle.std.proofs.Common.{◌∙◌, sym}
use Rattle.c_api.specs.Calls.{HasNoBody}
use Rattle.c_api.specs.Modules.{module_of}
use Rattle.c_api.proofs.Begun.{on_same}
use Rattle.c_api.proofs.body_calls.begin_body.Goals as goal

pub returns-in_default-begin_shared-clause-missing : goal.returns-in_default-begin_shared-clause-missing
returns-in_default-begin_shared-clause-missing c = λ z.
    on_same c.args.module.now.held (module_of c.in-Some.shared) (λ h. HasNoBody h c.args.index) c.in-Some.ensures.some.0 (c.begin_shared.ensures.no_body.0 (sym c.status_of-in_default-begin_shared.ensures ∙ z))

pub returns-clause-begun : goal.returns-clause-begun
returns-clause-begun c = λ z.
    on_same c.args.module.now.held (module_of c.in-Some.shared) _ c.in-Some.ensures.some.0 c.in-Some-begin_shared.ensures.begun.1
