use Rattle.std.proofs.Common.{rules, ◌≡◌, [], ◌∷◌, None, refl, reverse, sym, ap, ◌∙◌, arith}
use Rattle.std.specs.Option.{option_map}
use Rattle.validate_resources.specs.Context.{ModuleContext}
use Rattle.validate_types.specs.Refs.{is_exact}
use Rattle.validation_rules.specs.Casts.{cast_type}
use Rattle.validation_rules.specs.Context.{ValType, Context, Ref}
use Rattle.validation_rules.specs.Descriptors.{ref_cast_desc_eq_row}
use Rattle.validation_rules.specs.Operators.{plain_row, row_operator}
use Rattle.validate_stacks.specs.AtOnce.{body_dropped}
use Rattle.validate_stacks.specs.Pops.{body_popped_each, body_pushed_each}
use Rattle.validate_stacks.specs.State.{BodyState, body_context}
use Rattle.validate_stacks.specs.Steps.{found_in_body}
use Rattle.validate_stacks.specs.Visits.{step_body}
use Rattle.validate_stacks.proofs.AtOnce.{dropped_open}
use Rattle.validate_shapes.proofs.Moves.{unmoved, moves_barred, plain_is}
use Rattle.validate_rows_gc.specs.Descriptors.{found_descriptor}
use Rattle.validate_rows_gc.proofs.Below.{dropped_once, unfit_below, moved_below}
use Rattle.validate_rows_gc.proofs.DescriptorSteps.{no_descriptor, not_castable, cast_missing, cast_rest}
use Rattle.validate_rows_gc.proofs.descriptors.ref_cast_desc_eq.Given.{Over}
use Rattle.validate_rows_gc.proofs.descriptors.ref_cast_desc_eq.Goals.{After-is_exact, After-operand_of_cast-operand}
use Rattle.validate_rows_gc.proofs.descriptors.ref_cast_desc_eq.Goals as goal

module _ (g : Over) (c : After-is_exact g) where
  abbrev md : ModuleContext
  md = g.R.WasmModuleResources.context c.args.context.resources.now

  abbrev cx : Context
  cx = body_context md c.args.context.stacks.now.body

  found_as_exact : found_descriptor cx (is_exact c.args.heap_type.now) c.in_ok-descriptor.descriptor (found_in_body c.args.context.stacks.now.body) ≡ found_descriptor cx c.is_exact.result c.in_ok-descriptor.descriptor (found_in_body c.args.context.stacks.now.body)
  found_as_exact = ap (λ b. found_descriptor cx b c.in_ok-descriptor.descriptor (found_in_body c.args.context.stacks.now.body)) (sym c.is_exact.ensures)

-- once the type is known, it is a cast below the descriptor
module _ (g : Over) (c : After-operand_of_cast-operand g) where
  abbrev exactly : After-is_exact g
  exactly = (goal.at.After-operand_of_cast-operand g c).After-is_exact

  abbrev below : BodyState
  below = body_dropped 1 c.args.context.stacks.now.body

  casts_below : step_body (md g exactly) (λ x. row_operator (ref_cast_desc_eq_row x c.args.nullable c.args.heap_type.now)) c.args.context.stacks.now.body ≡ option_map (λ u. body_pushed_each (Ref c.in_ok-ty.ty ∷ []) u) (body_popped_each (md g exactly) (reverse (c.operand_of_cast-operand.result ∷ [])) below)
  casts_below =
      let m = md g exactly in
      let v = c.args.context.stacks.now.body in
      cast_rest m v c.requires.open_frame c.args.nullable c.args.heap_type.now _ c.in_ok-ty.ty below c.in_ok-descriptor.ensures.found c.in_ok-ty.ensures.found (found_as_exact g exactly ∙ c.in_ok-expect_descriptor.ensures.passed) (dropped_once v)
      ∙ (ap (λ (t : ValType). step_body m (λ x. row_operator (plain_row (t ∷ []) (Ref c.in_ok-ty.ty ∷ []))) below) (sym c.operand_of_cast-operand.ensures.exact)
      ∙ plain_is m below (c.operand_of_cast-operand.result ∷ []) (Ref c.in_ok-ty.ty ∷ []) (dropped_open 1 v c.requires.open_frame))

pub returns-in_err-descriptor : goal.returns-in_err-descriptor
returns-in_err-descriptor g c =
    let none = no_descriptor (g.R.WasmModuleResources.context c.args.context.resources.now) c.args.context.stacks.now.body c.requires.open_frame c.args.nullable c.args.heap_type.now c.in_err-descriptor.ensures.refused in
    moves_barred _ _ c.args.context.stacks.now (λ cx hs. ref_cast_desc_eq_row cx c.args.nullable c.args.heap_type.now) _ (search rules) (search (rules, none))

pub returns-in_err-expect_descriptor : goal.returns-in_err-expect_descriptor
returns-in_err-expect_descriptor g c =
    let at = (goal.at.returns-in_err-expect_descriptor g c).After-is_exact in
    let none = cast_missing (md g at) c.args.context.stacks.now.body c.requires.open_frame c.args.nullable c.args.heap_type.now _ c.in_ok-descriptor.ensures.found (found_as_exact g at ∙ c.in_err-expect_descriptor.ensures.refused) in
    unmoved _ _ _ _ _ _ (search rules) refl (search (rules, none))

pub returns-in_err-ty : goal.returns-in_err-ty
returns-in_err-ty g c =
    let at = (goal.at.returns-in_err-ty g c).After-is_exact in
    let none = λ (n : cast_type (cx g at) c.args.nullable c.args.heap_type.now ≡ None). not_castable (md g at) c.args.context.stacks.now.body c.requires.open_frame c.args.nullable c.args.heap_type.now _ c.in_ok-descriptor.ensures.found n in
    unmoved _ _ _ _ _ _ (search rules) refl (search (rules, none, c.in_err-ty.ensures.refused))

pub returns-in_err-expect_operands : goal.returns-in_err-expect_operands
returns-in_err-expect_operands g c =
    let at = goal.at.returns-in_err-expect_operands g c in
    let none = unfit_below (md g at.After-is_exact) g.A.Refused.tells (λ x. row_operator (ref_cast_desc_eq_row x c.args.nullable c.args.heap_type.now)) c.args.context.stacks.now c.args.context.stacks.now 1 (c.operand_of_cast-operand.result ∷ []) (Ref c.in_ok-ty.ty ∷ []) (casts_below g at.After-operand_of_cast-operand) c.requires.open_frame c.in_err-expect_operands.ensures.unfit in
    unmoved _ _ _ _ _ _ (search rules) refl (search (rules, none))

pub returns : goal.returns
returns g c =
    let at = goal.at.returns g c in
    moved_below (md g at.After-is_exact) _ _ c.args.context.stacks.now _ 1 (c.operand_of_cast-operand.result ∷ []) (Ref c.in_ok-ty.ty ∷ []) (casts_below g at.After-operand_of_cast-operand) c.in_ok-expect_operands.ensures.fit (c.in_ok-ty.ensures.valid, tt) c.requires.valid c.min.result
    (omega (arith, c.min.ensures, c.own_operand_count-own.ensures)) c.replace.result c.replace.ensures.told c.replace.ensures.exact
