use Rattle.std.proofs.Common.{rules, ◌≡◌, [], ◌∷◌, Some, Ok, refl, sym, ◌∙◌}
use Rattle.std.specs.Option.{option_map}
use Rattle.validate_resources.specs.Context.{Valid}
use Rattle.validation_rules.specs.Operators.{row_operator, local_set_row}
use Rattle.validate_stacks.specs.Moves.{body_set_then}
use Rattle.validate_stacks.specs.Pops.{body_popped_each, body_pushed_each}
use Rattle.validate_stacks.proofs.AtOnce.{was_made, was_not_made}
use Rattle.validate_stacks.proofs.Moves.{takes_done}
use Rattle.validate_shapes.proofs.LastSteps.{all_get, not_false}
use Rattle.validate_shapes.proofs.Moves.{unmoved, takes_moves, exchange_moves}
use Rattle.validate_shapes.proofs.Rows.{no_local_set, local_set_is}
use Rattle.validate_rows.proofs.Locals.{from_same, set_then_valid, set_then_kept, taken_set}
use Rattle.validate_rows.proofs.variables.any_local_set.Given.{Over}
use Rattle.validate_rows.proofs.variables.any_local_set.Goals.{In_ok-ty}
use Rattle.validate_rows.proofs.variables.any_local_set.Goals as goal

good : (g : Over) (c : In_ok-ty g) → Valid (g.R.WasmModuleResources.context c.args.context.resources.now) c.in_ok-ty.ty
good g c = all_get (Valid (g.R.WasmModuleResources.context c.args.context.resources.now)) c.args.context.stacks.now.body.locals c.args.local_index c.in_ok-ty.ty c.in_ok-ty.ensures.found c.requires.valid.locals_valid

pub returns-in_err-ty : goal.returns-in_err-ty
returns-in_err-ty g c =
    let none = no_local_set (g.R.WasmModuleResources.context c.args.context.resources.now) c.args.context.stacks.now.body c.args.local_index c.in_err-ty.ensures.missing in
    unmoved _ _ _ _ _ _ (search rules) refl (search (rules, none))

pub exchange_setting-requires-clause-ty : goal.exchange_setting-requires-clause-ty
exchange_setting-requires-clause-ty g c = good g (goal.at.exchange_setting-requires-clause-ty g c).In_ok-ty

pub returns-then-is_uninit : goal.returns-then-is_uninit
returns-then-is_uninit g c =
    let at = (goal.at.returns-then-is_uninit g c).In_ok-ty in
    let md = g.R.WasmModuleResources.context c.args.context.resources.now in
    let i = c.args.local_index in
    takes_moves md _ _ c.args.context.stacks.now _ (c.in_ok-ty.ty ∷ []) (body_set_then i []) (local_set_is md c.args.context.stacks.now.body i c.in_ok-ty.ty c.in_ok-ty.ensures.found c.requires.open_frame) (set_then_valid md i [] tt) (set_then_kept md i []) c.requires.valid _ c.exchange_setting.ensures

pub exchange_known_at_once-requires-clause-types : goal.exchange_known_at_once-requires-clause-types
exchange_known_at_once-requires-clause-types g c = (good g (goal.at.exchange_known_at_once-requires-clause-types g c).In_ok-ty, tt)

pub returns-then-exchange_known_at_once : goal.returns-then-exchange_known_at_once
returns-then-exchange_known_at_once g c =
    let md = g.R.WasmModuleResources.context c.args.context.resources.now in
    let v = c.args.context.stacks.now.body in
    let ty = c.in_ok-ty.ty in
    let set = not_false _ (sym c.is_uninit.ensures ∙ c.if-is_uninit.false) in
    let is = local_set_is md v c.args.local_index ty c.in_ok-ty.ensures.found c.requires.open_frame ∙ taken_set md (ty ∷ []) c.args.local_index [] v set in
    let exact = was_made _ c.exchange_known_at_once.result c.if-exchange_known_at_once.true c.exchange_known_at_once.ensures.exact in
    exchange_moves md _ _ c.args.context.stacks.now _ (ty ∷ []) [] is tt c.requires.valid (Ok tt) (takes_done md _ (ty ∷ []) (body_pushed_each []) c.args.context.stacks.now _ exact)

pub exchange_types-requires-clause-types : goal.exchange_types-requires-clause-types
exchange_types-requires-clause-types g c = (good g (goal.at.exchange_types-requires-clause-types g c).In_ok-ty, tt)

-- the local is set already, so that nothing more is set
pub returns : goal.returns
returns g c =
    let md = g.R.WasmModuleResources.context c.args.context.resources.now in
    let v = c.args.context.stacks.now.body in
    let ty = c.in_ok-ty.ty in
    let set = not_false _ (sym c.is_uninit.ensures ∙ c.if-is_uninit.false) in
    let is = local_set_is md v c.args.local_index ty c.in_ok-ty.ensures.found c.requires.open_frame ∙ taken_set md (ty ∷ []) c.args.local_index [] v set in
    let same = was_not_made (option_map (body_pushed_each []) (body_popped_each md (ty ∷ []) v) ≡ Some c.exchange_known_at_once.new.self.body) c.exchange_known_at_once.result c.if-exchange_known_at_once.false c.exchange_known_at_once.ensures.exact in
    exchange_moves md _ (λ cx. row_operator (local_set_row cx c.args.local_index)) c.args.context.stacks.now _ (ty ∷ []) [] is tt c.requires.valid _ (from_same md g.A.Refused.tells (ty ∷ []) [] _ _ same _ _ c.exchange_types.ensures)
