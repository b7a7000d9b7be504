use Rattle.std.proofs.Common.{[], ◌∷◌, Ok, sym, ◌∙◌}
use Rattle.validate_stacks.specs.Pops.{body_pushed_each}
use Rattle.validate_stacks.proofs.AtOnce.{was_made}
use Rattle.validate_stacks.proofs.Moves.{takes_done}
use Rattle.validate_shapes.proofs.LastSteps.{not_false}
use Rattle.validate_shapes.proofs.Moves.{exchange_moves}
use Rattle.validate_shapes.proofs.Rows.{local_set_is}
use Rattle.validate_rows.proofs.Locals.{taken_set}
use Rattle.validate_rows.proofs.variables.local_set.Goals.{In_ok-ty}
use Rattle.validate_rows.proofs.variables.local_set.Goals as goal

-- the local is set already, so that nothing more is set
pub returns-then-pop_local_at_once : goal.returns-then-pop_local_at_once
returns-then-pop_local_at_once g c =
    let md = g.R.WasmModuleResources.context c.args.context.resources.now in
    let v = c.args.context.stacks.now.body in
    let ty = c.in_ok-ty.ty in
    let set = not_false _ (sym c.is_uninit.ensures ∙ c.if-is_uninit.false) in
    let is = local_set_is md v c.args.local_index ty c.in_ok-ty.ensures.found c.requires.open_frame ∙ taken_set md (ty ∷ []) c.args.local_index [] v set in
    let exact = was_made _ c.pop_local_at_once.result c.if-pop_local_at_once.true c.pop_local_at_once.ensures.exact in
    exchange_moves md _ _ c.args.context.stacks.now _ (ty ∷ []) [] is tt c.requires.valid (Ok tt) (takes_done md _ (ty ∷ []) (body_pushed_each []) c.args.context.stacks.now _ exact)
