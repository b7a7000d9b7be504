-- The share is of the module in the handle, and the function that was begun is in the other.
use Rattle.std.proofs.Common.{◌∙◌, sym}
use Rattle.c_api.specs.Modules.{module_of}
use Rattle.c_api.proofs.Begun.{on_same, kept_begun}
use Rattle.c_api.proofs.function_calls.begin.Goals as goal

pub returns-clause-begun : goal.returns-clause-begun
returns-clause-begun c = λ z.
    on_same c.args.module.now.held (module_of c.in-Some.shared) _ c.in-Some.ensures.some.0
    (kept_begun c.begin-begun.result _ _ c.begin-begun.ensures.begun (c.keep_begun.ensures.begun (sym c.status_of-2.ensures ∙ z)))
