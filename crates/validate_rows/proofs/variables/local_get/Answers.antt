use Rattle.std.proofs.Common.{rules, [], ◌∷◌, Some, refl, ap, ◌∙◌}
use Rattle.validate_resources.specs.Context.{Valid}
use Rattle.validation_rules.specs.Rows.{guard}
use Rattle.validate_stacks.specs.Pops.{body_pushed_each}
use Rattle.validate_shapes.proofs.LastSteps.{all_get}
use Rattle.validate_shapes.proofs.Moves.{unmoved, moves_as}
use Rattle.validate_shapes.proofs.Rows.{no_local_get, local_get_is}
use Rattle.validate_rows.proofs.Locals.{get_is}
use Rattle.validate_rows.proofs.variables.local_get.Goals as goal

pub returns-in_err-ty : goal.returns-in_err-ty
returns-in_err-ty g c =
    let none = no_local_get (g.R.WasmModuleResources.context c.args.context.resources.now) c.args.context.stacks.now.body c.args.local_index c.in_err-ty.ensures.missing in
    unmoved _ _ _ _ _ _ (search rules) refl (search (rules, none))

pub returns-in_err-expect_set : goal.returns-in_err-expect_set
returns-in_err-expect_set g c =
    let md = g.R.WasmModuleResources.context c.args.context.resources.now in
    let v = c.args.context.stacks.now.body in
    let t = c.in_ok-ty.ty in
    let none = local_get_is md v c.args.local_index t c.in_ok-ty.ensures.found c.requires.open_frame ∙ ap (λ b. guard b (Some (body_pushed_each (t ∷ []) v))) c.in_err-expect_set.ensures.unset in
    unmoved _ _ _ _ _ _ (search rules) refl (search (rules, none))

pub local_constant-requires-clause-pushed : goal.local_constant-requires-clause-pushed
local_constant-requires-clause-pushed g c = all_get (Valid (g.R.WasmModuleResources.context c.args.context.resources.now)) c.args.context.stacks.now.body.locals c.args.local_index c.in_ok-ty.ty c.in_ok-ty.ensures.found c.requires.valid.locals_valid

pub returns : goal.returns
returns g c =
    let md = g.R.WasmModuleResources.context c.args.context.resources.now in
    moves_as md _ _ _ _ _ (get_is md c.args.context.stacks.now.body c.args.local_index c.in_ok-ty.ty c.in_ok-ty.ensures.found c.in_ok-expect_set.ensures.set c.requires.open_frame) _ c.local_constant.ensures
