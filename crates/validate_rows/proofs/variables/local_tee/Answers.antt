use Rattle.std.proofs.Common.{rules, [], ◌∷◌, Ok, refl, sym, ◌∙◌}
use Rattle.validate_resources.specs.Context.{Valid}
use Rattle.validate_stacks.specs.Pops.{body_pushed_each}
use Rattle.validate_stacks.proofs.Moves.{takes_done}
use Rattle.validate_shapes.proofs.LastSteps.{all_get, not_false}
use Rattle.validate_shapes.proofs.Moves.{unmoved, exchange_moves}
use Rattle.validate_shapes.proofs.Rows.{no_local_tee, local_tee_is}
use Rattle.validate_rows.proofs.Locals.{taken_set}
use Rattle.validate_rows.proofs.variables.local_tee.Given.{Over}
use Rattle.validate_rows.proofs.variables.local_tee.Goals.{In_ok-ty}
use Rattle.validate_rows.proofs.variables.local_tee.Goals as goal

good : (g : Over) (c : In_ok-ty g) → Valid (g.R.WasmModuleResources.context c.args.context.resources.now) c.in_ok-ty.ty
good g c = all_get (Valid (g.R.WasmModuleResources.context c.args.context.resources.now)) c.args.context.stacks.now.body.locals c.args.local_index c.in_ok-ty.ty c.in_ok-ty.ensures.found c.requires.valid.locals_valid

pub returns-in_err-ty : goal.returns-in_err-ty
returns-in_err-ty g c =
    let none = no_local_tee (g.R.WasmModuleResources.context c.args.context.resources.now) c.args.context.stacks.now.body c.args.local_index c.in_err-ty.ensures.missing in
    unmoved _ _ _ _ _ _ (search rules) refl (search (rules, none))

pub has_local_at_once-requires-clause-valid : goal.has_local_at_once-requires-clause-valid
has_local_at_once-requires-clause-valid g c = good g (goal.at.has_local_at_once-requires-clause-valid g c).In_ok-ty

-- the local is set already, so that nothing more is set
pub returns-then-has_local_at_once : goal.returns-then-has_local_at_once
returns-then-has_local_at_once g c =
    let md = g.R.WasmModuleResources.context c.args.context.resources.now in
    let v = c.args.context.stacks.now.body in
    let ty = c.in_ok-ty.ty in
    let set = not_false _ (sym c.is_uninit.ensures ∙ c.if-is_uninit.false) in
    let is = local_tee_is md v c.args.local_index ty c.in_ok-ty.ensures.found c.requires.open_frame ∙ taken_set md (ty ∷ []) c.args.local_index (ty ∷ []) v set in
    let exact = c.has_local_at_once.ensures c.if-has_local_at_once.true in
    exchange_moves md _ _ c.args.context.stacks.now _ (ty ∷ []) (ty ∷ []) is (good g (goal.at.returns-then-has_local_at_once g c).In_ok-ty, tt) c.requires.valid (Ok tt) (takes_done md _ (ty ∷ []) (body_pushed_each (ty ∷ [])) c.args.context.stacks.now _ exact)
