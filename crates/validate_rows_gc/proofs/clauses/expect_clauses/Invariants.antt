-- What is left of the clauses fits exactly where all of them do.
use Rattle.std.proofs.Common.{◌≡◌, drop}
use Rattle.validation_rules.specs.Static.{heads}
use Rattle.validate_stacks.specs.State.{body_context}
use Rattle.validate_rows_gc.specs.Clauses.{are_fitting_catches}
use Rattle.validate_rows_gc.proofs.clauses.expect_clauses.Given as goal

abbrev pub invariant-loop-catch : goal.invariant-loop-catch
invariant-loop-catch g l =
    let cx = body_context (g.R.WasmModuleResources.context l.context.resources.now) l.context.stacks.now.body in
    let hs = heads l.context.stacks.now.body.present.frames in
    are_fitting_catches cx hs (drop l.catch-index l.catches) ≡ are_fitting_catches cx hs l.catches
