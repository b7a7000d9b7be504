-- What is left of the handlers fits exactly where all of them do.
use Rattle.std.proofs.Common.{◌≡◌, drop}
use Rattle.validation_rules.specs.Static.{heads}
use Rattle.validate_stacks.specs.State.{body_context}
use Rattle.validate_rows_gc.specs.Handlers.{are_fitting_handlers}
use Rattle.validate_rows_gc.proofs.handlers.check_handlers.Given as goal

abbrev pub invariant-loop-handle : goal.invariant-loop-handle
invariant-loop-handle g l =
    let cx = body_context (g.R.WasmModuleResources.context l.context.resources.now) l.context.stacks.now.body in
    let hs = heads l.context.stacks.now.body.present.frames in
    are_fitting_handlers cx hs l.resumed (drop l.handle-index l.handlers) ≡ are_fitting_handlers cx hs l.resumed l.handlers
